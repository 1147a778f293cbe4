-- The first breach of template text: where reading stops, and how a walk over the text finds it.
use Rattle.std.proofs.Common.{◌≡◌, ℕ, zero, suc, ◌+◌, ◌-◌, ◌≤◌, true, false, ◌||◌, eqb, ◌≢◌, List, [], ◌∷◌, ◌++◌, length, Some, None, sym, refl, ap, ◌∙◌, subst, ⊎_elim, append_assoc, arith, length-append}
use lib.Utf8.{encode, encodes}
use Rattle.std.specs.Char.{len_utf8}
use Rattle.std.proofs.lemmas.Bool.{cases_Bool, cases_eq, ne_eqb}
use Rattle.std.proofs.lemmas.Str.{length-encode}
use Rattle.std.proofs.lemmas.Bool.Decides.{nat_tests}
use Rattle.ecma262.specs.Units.{Text, utf16}
use Rattle.ecma262.specs.Lookahead.{opens}
use Rattle.ecma262.specs.Laws.{Unbroken, BrokenAt, BrokenBy}
use Rattle.ecma262.specs.Literals.{Character, Characters, TemplateCharacter}
use Rattle.ecma262.specs.Read.{Got, is_line_terminator, behind_backslash, template_character}
use Rattle.ecma262.specs.Read.Got.{nothing, got}
use Rattle.ecma262.specs.Template.{bytes, onward, unread, place_of, breach_from}
use Rattle.ecma262.specs.declared.Quote.{Quote}
use Rattle.ecma262.specs.declared.Quote.TheVariants.{Backtick}
use Rattle.ecma262.proofs.Ends.{End, character-end, shorter, all_end}
use Rattle.ecma262.proofs.Sound.{Sound, sound}
use Rattle.ecma262.proofs.Values.{reads}

-- bytes

pub length-encodes : (s : List ℕ) → length (encodes s) ≡ bytes s
length-encodes [] = refl
length-encodes (c ∷ s) = omega (arith, length-append (encode c) (encodes s), length-encode c, length-encodes s)

pub bytes-append : (s t : List ℕ) → bytes (s ++ t) ≡ bytes s + bytes t
bytes-append [] t = omega arith
bytes-append (c ∷ s) t = omega (arith, bytes-append s t)

-- what follows what was read

before-end : {s r : List ℕ} → End s r → (x : List ℕ) × (s ≡ x ++ r)
before-end (End.one {c = c}) = (c ∷ [], refl)
before-end (End.more {c = c} e) = let p = before-end e in (c ∷ p.0, ap (λ y. c ∷ y) p.1)

pub characters_front : {q : Quote} {s r u : List ℕ} → Characters q s r u → (x : List ℕ) × (s ≡ x ++ r)
characters_front Characters.none = ([], refl)
characters_front (Characters.more c cs) =
    let a = before-end (character-end c) in
    let b = characters_front cs in
    (a.0 ++ b.0, a.1 ∙ ap (λ y. a.0 ++ y) b.1 ∙ sym (append_assoc a.0 b.0 _))

pub rest-text : {q : Quote} {s r u : List ℕ} → Characters q s r u → Text s → Text r
rest-text Characters.none t = t
rest-text (Characters.more c cs) t = rest-text cs (all_end (λ c. c ≤ 0x10FFFF) (character-end c) t)

-- more fuel than code points changes nothing

same-onward : (s : List ℕ) (g : Got) (f h : List ℕ → List ℕ) → Sound (Character Backtick s) g →
    ((r u : List ℕ) → Character Backtick s r u → f r ≡ h r) → onward g s f ≡ onward g s h
same-onward s nothing f h k e = refl
same-onward s (got r u) f h k e = e r u k

enough : (n m : ℕ) (s : List ℕ) → Text s → length s ≤ n → length s ≤ m → unread n s ≡ unread m s
enough zero zero s t h k = refl
enough zero (suc m) [] t h k = refl
enough zero (suc m) (c ∷ s) t h k = absurd (omega arith)
enough (suc n) zero [] t h k = refl
enough (suc n) zero (c ∷ s) t h k = absurd (omega arith)
enough (suc n) (suc m) s t h k =
    same-onward s (template_character s) (unread n) (unread m) (sound Backtick s t)
    (λ r u c. let e = character-end c in
    enough n m r (all_end (λ c. c ≤ 0x10FFFF) e t) (omega (arith, shorter e)) (omega (arith, shorter e)))

-- what is left behind text that was read is left of the whole
through : {s r u : List ℕ} (n : ℕ) → Text s → length s ≤ n → Characters Backtick s r u → unread n s ≡ unread (length r) r
through {s} n t h Characters.none = enough n (length s) s t h (omega arith)
through zero t h (Characters.more c cs) = absurd (omega (arith, shorter (character-end c)))
through (suc n) t h (Characters.more {s = s} {between = x} {u = u} c cs) =
    let e : template_character s ≡ got x u = reads c in
    let f = character-end c in
    rw e (through n (all_end (λ c. c ≤ 0x10FFFF) f t) (omega (arith, shorter f)) cs)

-- what is read of s, up to where nothing can be
abbrev Stopped : List ℕ → List ℕ → Type 0
Stopped s r = (u : List ℕ) × Characters Backtick s r u × (template_character r ≡ nothing)

go_on : (s : List ℕ) (g : Got) (f : List ℕ → List ℕ) → template_character s ≡ g → Sound (Character Backtick s) g →
    ((r u : List ℕ) → Character Backtick s r u → Stopped r (f r)) → Stopped s (onward g s f)
go_on s nothing f e k h = ([], Characters.none, e)
go_on s (got r u) f e k h = let p = h r u k in (u ++ p.0, Characters.more k p.1, p.2)

stopped : (n : ℕ) (s : List ℕ) → Text s → length s ≤ n → Stopped s (unread n s)
stopped zero [] t h = ([], Characters.none, refl)
stopped zero (c ∷ s) t h = absurd (omega arith)
stopped (suc n) s t h =
    go_on s (template_character s) (unread n) refl (sound Backtick s t)
    (λ r u c. let e = character-end c in stopped n r (all_end (λ c. c ≤ 0x10FFFF) e t) (omega (arith, shorter e)))

-- a walk: at a breach, behind a character, at the end

pub breach-here : (at c : ℕ) (s : List ℕ) → template_character (c ∷ s) ≡ nothing → breach_from at (c ∷ s) ≡ Some at
breach-here at c s e = rw e (ap Some (omega arith))

pub breach-behind : (at : ℕ) (s r u : List ℕ) → Text s → template_character s ≡ got r u → breach_from at s ≡ breach_from (at + (bytes s - bytes r)) r
breach-behind at s r u t e =
    let k : Character Backtick s r u = subst (Sound (Character Backtick s)) e (sound Backtick s t) in
    let p = before-end (character-end k) in
    let same = through (length s) t (omega arith) (Characters.more k Characters.none) in
    let total : at + bytes s ≡ at + (bytes s - bytes r) + bytes r = omega (arith, ap bytes p.1, bytes-append p.0 r) in
    ap (λ x. place_of (at + bytes s) x) same ∙ ap (λ n. place_of n (unread (length r) r)) total

-- the same by the character: a breach is a backtick, a dollar sign before a brace, or a backslash that nothing can be read behind

pub backtick_here : (at : ℕ) (s : List ℕ) → breach_from at (0x60 ∷ s) ≡ Some at
backtick_here at s = breach-here at 0x60 s refl

pub dollar-here : (at : ℕ) (s : List ℕ) → opens (eqb 0x7B ∷ []) s ≡ true → breach_from at (0x24 ∷ s) ≡ Some at
dollar-here at s e = breach-here at 0x24 s (rw e)

pub dollar-behind : (at : ℕ) (s : List ℕ) → Text s → opens (eqb 0x7B ∷ []) s ≡ false → breach_from at (0x24 ∷ s) ≡ breach_from (at + 1) s
dollar-behind at s t e = breach-behind at (0x24 ∷ s) s (0x24 ∷ []) (omega arith, t) (rw e) ∙ ap (λ n. breach_from n s) (omega arith)

pub backslash-here : (at : ℕ) (s : List ℕ) → behind_backslash s ≡ nothing → breach_from at (0x5C ∷ s) ≡ Some at
backslash-here at s e = breach-here at 0x5C s e

pub backslash-behind : (at : ℕ) (s r u : List ℕ) → Text s → behind_backslash s ≡ got r u → breach_from at (0x5C ∷ s) ≡ breach_from (at + (1 + bytes s - bytes r)) r
backslash-behind at s r u t e = breach-behind at (0x5C ∷ s) r u (omega arith, t) e

-- one line terminator, of which CR may be the first half of CRLF
one_line : (at c : ℕ) (s : List ℕ) → c ≤ 0x10FFFF → Text s → is_line_terminator c ≡ true → c ≢ 0x0D → breach_from at (c ∷ s) ≡ breach_from (at + len_utf8 c) s
one_line at c s h t l n =
    let b : eqb c 0x5C ≡ false = grind (arith, nat_tests) in
    breach-behind at (c ∷ s) s (c ∷ []) (h, t) (rw (b, l, ne_eqb c 0x0D n)) ∙ ap (λ n. breach_from n s) (omega arith)

both_halves : (at : ℕ) (s : List ℕ) → Text s → breach_from at (0x0D ∷ 0x0A ∷ s) ≡ breach_from (at + 1) (0x0A ∷ s)
both_halves at s t =
    let t' : Text (0x0A ∷ s) = (omega arith, t) in
    let n : at + (bytes (0x0D ∷ 0x0A ∷ s) - bytes s) ≡ at + 1 + (bytes (0x0A ∷ s) - bytes s) = omega arith in
    breach-behind at (0x0D ∷ 0x0A ∷ s) s (0x0A ∷ []) (omega arith, t') refl ∙ ap (λ n. breach_from n s) n ∙ sym (breach-behind (at + 1) (0x0A ∷ s) s (0x0A ∷ []) t' refl)

carriage_return_behind : (at : ℕ) (s : List ℕ) → Text s → breach_from at (0x0D ∷ s) ≡ breach_from (at + 1) s
carriage_return_behind at [] t = refl
carriage_return_behind at (c ∷ s) t =
    ⊎_elim
    (λ i. subst (λ x. breach_from at (0x0D ∷ x ∷ s) ≡ breach_from (at + 1) (x ∷ s)) (sym i) (both_halves at s t.1))
    (λ n. breach-behind at (0x0D ∷ c ∷ s) (c ∷ s) (0x0A ∷ []) (omega arith, t) (rw (ne_eqb 0x0A c (λ i. n (sym i)))) ∙ ap (λ n. breach_from n (c ∷ s)) (omega arith))
    (cases_eq c 0x0A)

-- any other character is one step, CR before LF too
pub other_behind : (at c : ℕ) (s : List ℕ) → Text (c ∷ s) → c ≢ 0x60 → c ≢ 0x5C → c ≢ 0x24 → breach_from at (c ∷ s) ≡ breach_from (at + len_utf8 c) s
other_behind at c s t q b d =
    ⊎_elim (λ i. rw i (carriage_return_behind at s t.1))
    (λ n. ⊎_elim (λ l. one_line at c s t.0 t.1 l n) (λ l. plain l) (cases_Bool (is_line_terminator c)))
    (cases_eq c 0x0D)
  where
    plain : is_line_terminator c ≡ false → breach_from at (c ∷ s) ≡ breach_from (at + len_utf8 c) s
    plain l = breach-behind at (c ∷ s) s (utf16 c) t (rw (ne_eqb c 0x5C b, l, ne_eqb c 0x60 q, ne_eqb c 0x24 d)) ∙ ap (λ n. breach_from n s) (omega arith)

-- the laws

none_left : (n : ℕ) (r : List ℕ) → place_of n r ≡ None → r ≡ []
none_left n [] e = refl
none_left n (c ∷ r) e = cc

pub unbroken : Unbroken
unbroken text t = (
  λ e. let p = stopped (length text) text t (omega arith) in
      (p.0, subst (λ r. Characters Backtick text r p.0) (none_left (0 + bytes text) (unread (length text) text) e) p.1),
  λ h. ap (place_of (0 + bytes text)) (through (length text) t (omega arith) h.1),
)

some_left : (n place : ℕ) (r : List ℕ) → place_of n r ≡ Some place → (r ≢ []) × (place ≡ n - bytes r)
some_left n place [] e = cc
some_left n place (c ∷ r) e = (λ i. cc, cc)

-- no character can be read, if the function reads none, and only then
refuted : (s r u : List ℕ) → template_character s ≡ nothing → TemplateCharacter s r u → ⊥
refuted s r u e c = let f : template_character s ≡ got r u = reads (Character.template c) in cc

nothing_there : (s : List ℕ) → Text s → ((r u : List ℕ) → TemplateCharacter s r u → ⊥) → template_character s ≡ nothing
nothing_there s t n = go (template_character s) (sound Backtick s t)
  where
    out : {r u : List ℕ} → Character Backtick s r u → TemplateCharacter s r u
    out (Character.template c) = c

    go : (g : Got) → Sound (Character Backtick s) g → g ≡ nothing
    go nothing k = refl
    go (got r u) k = absurd (n r u (out k))

at_breach : (n : ℕ) (r : List ℕ) → r ≢ [] → template_character r ≡ nothing → place_of n (unread (length r) r) ≡ Some (n - bytes r)
at_breach n [] h e = absurd (h refl)
at_breach n (c ∷ r) h e = rw e

pub broken_at : BrokenAt
broken_at text place t = (
  λ e. let p = stopped (length text) text t (omega arith) in
      let r = unread (length text) text in
      let s = some_left (0 + bytes text) place r e in
      let f = characters_front p.1 in
      record {
        good = f.0;
        rest = r;
        tv = p.0;
        parts = f.1;
        readable = p.1;
        some_rest = s.0;
        no_character = λ x u. refuted r x u p.2;
        in_bytes = omega (arith, s.1, ap bytes f.1, bytes-append f.0 r, length-encodes f.0);
      },
  λ b. ap (place_of (0 + bytes text)) (through (length text) t (omega arith) b.readable)
      ∙ at_breach (0 + bytes text) b.rest b.some_rest (nothing_there b.rest (rest-text b.readable t) b.no_character)
      ∙ ap Some (omega (arith, b.in_bytes, ap bytes b.parts, bytes-append b.good b.rest, length-encodes b.good)),
)

breaks : (s : List ℕ) → s ≢ [] → template_character s ≡ nothing →
    opens (eqb 0x60 ∷ []) s || opens (eqb 0x24 ∷ eqb 0x7B ∷ []) s || opens (eqb 0x5C ∷ []) s ≡ true
breaks [] h e = absurd (h refl)
breaks (c ∷ s) h e = grind (arith, nat_tests)

pub broken_by : BrokenBy
broken_by text place t b = breaks b.rest b.some_rest (nothing_there b.rest (rest-text b.readable t) b.no_character)
