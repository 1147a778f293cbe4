-- The costs of the quotes, counted in a text's bytes; and characters that cost nothing in any quotes.
use Rattle.std.proofs.Common.{◌≡◌, ℕ, ◌+◌, ◌≤◌, Bool, true, false, cond, ◌&&◌, eqb, leb, List, [], ◌∷◌, ◌++◌, length, drop, sym, refl, ap, ◌∙◌, add-zero, arith}
use lib.Utf8.{encodes}
use Rattle.std.specs.List.{AllByRecursion}
use Rattle.std.proofs.lemmas.List.{at_drop_all}
use Rattle.std.proofs.lemmas.Bool.{ne_eqb}
use Rattle.ecma262.specs.declared.Quote.{Quote}
use Rattle.ecma262.specs.declared.Quote.TheVariants.{Single, Double, Backtick}
use Rattle.ecma262.specs.Lookahead.{opens}
use Rattle.literal.specs.Quotes.{adds, takes, added, taken, chosen}
use Rattle.text.specs.Sequence.{code_points}
use Rattle.ecma262.proofs.Utf8.{Encoded, ascii, wide, encoded, same_front, eqb_narrow}

wide-adds : (q : Quote) (x : ℕ) (cs : List ℕ) → 0x80 ≤ x → adds q x cs ≡ 0
wide-adds Single x cs h = rw (ne_eqb x 0x27 (omega arith)) refl
wide-adds Double x cs h = rw (ne_eqb x 0x22 (omega arith)) refl
wide-adds Backtick x cs h = rw (ne_eqb x 0x60 (omega arith), ne_eqb x 0x24 (omega arith)) refl

wide-takes : (q : Quote) (x : ℕ) → 0x80 ≤ x → takes q x ≡ 0
wide-takes Single x h = refl
wide-takes Double x h = refl
wide-takes Backtick x h = rw (ne_eqb x 0x0A (omega arith)) refl

added-wide : (q : Quote) (s t : List ℕ) → AllByRecursion (λ x. 0x80 ≤ x) s → added q (s ++ t) ≡ added q t
added-wide q [] t a = refl
added-wide q (x ∷ s) t a = omega (arith, wide-adds q x (s ++ t) a.0, added-wide q s t a.1)

taken-wide : (q : Quote) (s t : List ℕ) → AllByRecursion (λ x. 0x80 ≤ x) s → taken q (s ++ t) ≡ taken q t
taken-wide q [] t a = refl
taken-wide q (x ∷ s) t a = omega (arith, wide-takes q x a.0, taken-wide q s t a.1)

same-adds : (q : Quote) (c : ℕ) (s : List ℕ) → adds q c (encodes s) ≡ adds q c s
same-adds q c s = rw (same_front (eqb 0x7B ∷ []) (eqb_narrow 0x7B (omega arith), tt) s) refl

added-here : (q : Quote) {c : ℕ} {e : List ℕ} (s : List ℕ) → Encoded c e → added q (encodes s) ≡ added q s → added q (e ++ encodes s) ≡ added q (c ∷ s)
added-here q {c} s (ascii l) i = omega (arith, same-adds q c s)
added-here q {c} s (wide {b = b} {s = t} h k a) i = omega (arith, wide-adds q b (t ++ encodes s) k, added-wide q t (encodes s) a, wide-adds q c s h)

added-same : (q : Quote) (s : List ℕ) → added q (encodes s) ≡ added q s
added-same q [] = refl
added-same q (c ∷ s) = added-here q s (encoded c) (added-same q s)

taken_here : (q : Quote) {c : ℕ} {e : List ℕ} (s : List ℕ) → Encoded c e → taken q (encodes s) ≡ taken q s → taken q (e ++ encodes s) ≡ taken q (c ∷ s)
taken_here q {c} s (ascii l) i = omega arith
taken_here q {c} s (wide {b = b} {s = t} h k a) i = omega (arith, wide-takes q b k, taken-wide q t (encodes s) a, wide-takes q c h)

taken-same : (q : Quote) (s : List ℕ) → taken q (encodes s) ≡ taken q s
taken-same q [] = refl
taken-same q (c ∷ s) = taken_here q s (encoded c) (taken-same q s)

none-single : (s : List ℕ) → taken Single s ≡ 0
none-single [] = refl
none-single (c ∷ s) = omega (arith, none-single s)

none-double : (s : List ℕ) → taken Double s ≡ 0
none-double [] = refl
none-double (c ∷ s) = omega (arith, none-double s)

abbrev cheap : Bool → ℕ → ℕ → ℕ → ℕ → Quote
cheap allow s d t l = cond (allow && leb t (cond (leb d s) d s + l)) Backtick (cond (leb d s) Double Single)

chosen_by : (allow : Bool) (text : List ℕ) → chosen allow text ≡ cheap allow (added Single text) (added Double text) (added Backtick text) (taken Backtick text)
chosen_by allow text = go (added Single text) (added Double text) (added Backtick text) (taken Backtick text) (taken Single text) (taken Double text) (none-single text) (none-double text)
  where
    by_plain : (b : Bool) (s d t l : ℕ) → cond (allow && leb (t + taken (cond b Double Single) text) (added (cond b Double Single) text + l)) Backtick (cond b Double Single)
        ≡ cond (allow && leb t (cond b (added Double text) (added Single text) + l)) Backtick (cond b Double Single)
    by_plain true s d t l = rw (none-double text, add-zero t) refl
    by_plain false s d t l = rw (none-single text, add-zero t) refl

    go : (s d t l x y : ℕ) → x ≡ 0 → y ≡ 0 → chosen allow text ≡ cheap allow (added Single text) (added Double text) (added Backtick text) (taken Backtick text)
    go s d t l x y p r =
        rw (none-single text, add-zero (added Single text), add-zero (added Double text))
        (by_plain (leb (added Double text) (added Single text)) s d (added Backtick text) (taken Backtick text))

-- the quote that the counts give
pub chosen_is : (allow : Bool) (bytes : List ℕ) (i s d t l : ℕ) (r : Quote) → encodes (code_points bytes) ≡ bytes → length bytes ≤ i →
    s + added Single (drop i bytes) ≡ added Single bytes → d + added Double (drop i bytes) ≡ added Double bytes →
    t + added Backtick (drop i bytes) ≡ added Backtick bytes → l + taken Backtick (drop i bytes) ≡ taken Backtick bytes →
    r ≡ cheap allow s d t l → r ≡ chosen allow (code_points bytes)
chosen_is allow bytes i s d t l r f h es ed et el e =
    let text = code_points bytes in
    let over : (q : Quote) → added q bytes ≡ added q text = λ q. ap (added q) (sym f) ∙ added-same q text in
    let under : taken Backtick bytes ≡ taken Backtick text = ap (taken Backtick) (sym f) ∙ taken-same Backtick text in
    let s1 : s ≡ added Single text = let z = at_drop_all (added Single) bytes i h in omega (arith, over Single) in
    let d1 : d ≡ added Double text = let z = at_drop_all (added Double) bytes i h in omega (arith, over Double) in
    let t1 : t ≡ added Backtick text = let z = at_drop_all (added Backtick) bytes i h in omega (arith, over Backtick) in
    let l1 : l ≡ taken Backtick text = let z = at_drop_all (taken Backtick) bytes i h in omega (arith, under) in
    e ∙ rw (s1, d1, t1, l1) (sym (chosen_by allow text))

-- a character before cs that costs nothing in any quotes
abbrev pub Neutral : ℕ → List ℕ → Type 0
Neutral c cs = (q : Quote) → (adds q c cs ≡ 0) × (takes q c ≡ 0)

pub wide_neutral : (c : ℕ) (cs : List ℕ) → 0x80 ≤ c → Neutral c cs
wide_neutral c cs h q = (wide-adds q c cs h, wide-takes q c h)

pub less_neutral : (cs : List ℕ) → Neutral 0x3C cs
less_neutral cs Single = (refl, refl)
less_neutral cs Double = (refl, refl)
less_neutral cs Backtick = (refl, refl)

pub dollar_neutral : (cs : List ℕ) → opens (eqb 0x7B ∷ []) cs ≡ false → Neutral 0x24 cs
dollar_neutral cs h Single = (refl, refl)
dollar_neutral cs h Double = (refl, refl)
dollar_neutral cs h Backtick = (rw h refl, refl)

pub plain_neutral : (c : ℕ) (cs : List ℕ) → eqb c 0x27 ≡ false → eqb c 0x22 ≡ false → eqb c 0x60 ≡ false → eqb c 0x24 ≡ false → eqb c 0x0A ≡ false → Neutral c cs
plain_neutral c cs s d t o l Single = (rw s refl, refl)
plain_neutral c cs s d t o l Double = (rw d refl, refl)
plain_neutral c cs s d t o l Backtick = (rw (t, o) refl, rw l refl)

-- Such a character leaves the choice of the quote to the text behind it.
pub chosen-free : (allow : Bool) (c : ℕ) (cs : List ℕ) → Neutral c cs → chosen allow (c ∷ cs) ≡ chosen allow cs
chosen-free allow c cs n =
    let over : (q : Quote) → added q (c ∷ cs) ≡ added q cs = λ q. omega (arith, (n q).0) in
    let under : taken Backtick (c ∷ cs) ≡ taken Backtick cs = omega (arith, (n Backtick).1) in
    chosen_by allow (c ∷ cs) ∙ same (over Single) (over Double) (over Backtick) under ∙ sym (chosen_by allow cs)
  where
    same : {s s2 d d2 t t2 l l2 : ℕ} → s ≡ s2 → d ≡ d2 → t ≡ t2 → l ≡ l2 → cheap allow s d t l ≡ cheap allow s2 d2 t2 l2
    same {s} {s2} {d} {d2} {t} {t2} {l} {l2} a b c e =
        ap (λ x. cheap allow x d t l) a ∙ ap (λ x. cheap allow s2 x t l) b ∙ ap (λ x. cheap allow s2 d2 x l) c ∙ ap (λ x. cheap allow s2 d2 t2 x) e
