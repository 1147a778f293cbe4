-- The walk over the bytes of template text finds the breach of its code points.
use Rattle.std.proofs.Common.{◌≡◌, ℕ, zero, suc, ◌+◌, ◌-◌, ◌*◌, ◌<◌, ◌≤◌, Bool, true, false, cond, ◌&&◌, eqb, leb, ◌≢◌, ◌⊎◌, List, [], ◌∷◌, ◌++◌, length, get_or, take, drop, replicate, is_some, Some, None, Option, sym, refl, ap, ◌∙◌, subst, inl, inr, ⊎_elim, arith, length-append, length-drop}
use lib.Utf8.{encode, encodes}
use Rattle.std.specs.Char.{len_utf8, is_ascii_hexdigit}
use Rattle.std.specs.List.{AllByRecursion, list_all}
use Rattle.std.proofs.Math.Dec.{leb-suc-suc, leb-suc-zero}
use Rattle.std.proofs.lemmas.List.{drop_at, take_rest}
use Rattle.std.proofs.lemmas.Bool.{both_ways, cases_Bool, cases_eq, cases_lt, eq-eqb, eqb-true, eqb-false, ne_eqb, le-leb, lt-leb, and_right, cond-true, cond-false}
use Rattle.std.proofs.lemmas.Str.{length-encode, len_utf8_bounds}
use Rattle.std.proofs.lemmas.Bool.Decides.{nat_tests}
use Rattle.ecma262.specs.Lookahead.{opens, digit}
use Rattle.ecma262.specs.Read.{hex_value, is_line_terminator, read_code_point, hex_escape, hex4_digits, unicode_escape, character_escape, escape_sequence, after_line_terminator}
use Rattle.ecma262.specs.Read.Got.{nothing, got}
use Rattle.ecma262.specs.Template.{bytes, breach_from, template_breach}
use Rattle.ecma262.specs.Units.{Text, utf16}
use Rattle.ecma262.proofs.Broken.{backtick_here, dollar-here, dollar-behind, backslash-here, backslash-behind, other_behind}
use Rattle.ecma262.proofs.Utf8.{encode_1, Encoded, ascii, wide, encoded, Narrow, same_front, digit_narrow, eqb_narrow, first_test}
use Rattle.text.specs.declared.well_formed.Encoding.TheVariants.{Utf8}
use Rattle.text.specs.Sequence.{breach, code_points}
use Rattle.text.specs.Wtf8.{Points}
use Rattle.text.specs.Template.{begins_with_hex, closes, braced_length, unicode_length, escape_length, character_length}
use Rattle.text.proofs.Formed.{accepted, read}
use Rattle.text.proofs.Escapes.{plain, at_backslash, at_backtick, at_dollar, at_x, at_u, at_zero, at_other}

abbrev pub Wide : List ℕ → Type 0
Wide = AllByRecursion (λ b. 0x80 ≤ b)

-- At a place: what is left of a character above 7F, and whole characters, whose breach is the one in question.
abbrev pub Stands : ℕ → List ℕ → Option ℕ → Type 0
Stands at bytes o =
    (tail : List ℕ) × ((text : List ℕ) × Wide tail × Text text × (bytes ≡ tail ++ encodes text) × (breach_from (at + length tail) text ≡ o))

-- What the length of a character at the front says: none that the breach is here, else that so many bytes on is a place again.
abbrev pub Step : ℕ → List ℕ → Option ℕ → Option ℕ → Type 0
Step at bytes o None = Some at ≡ o
Step at bytes o (Some n) = (0 < n) × (n ≤ length bytes) × Stands (at + n) (drop n bytes) o

module _ (at : ℕ) (bytes : List ℕ) (o : Option ℕ) where
  halts : o ≡ Some at → Step at bytes o None
  halts e = sym e

  goes : (n : ℕ) (tail text : List ℕ) → 0 < n → n ≤ length bytes → Wide tail → Text text → drop n bytes ≡ tail ++ encodes text →
      o ≡ breach_from (at + n + length tail) text → Step at bytes o (Some n)
  goes n tail text p l w t e b = (p, l, (tail, (text, w, t, e, sym b)))

  of_length : (m n : Option ℕ) → m ≡ n → Step at bytes o n → Step at bytes o m
  of_length m n e = subst (Step at bytes o) (sym e)

-- the tests

wide-hex : (c : ℕ) → 0x80 ≤ c → hex_value c ≡ None
wide-hex c h = grind (arith, nat_tests)

hex : ℕ → Bool
hex = is_ascii_hexdigit

hex-some : (d : ℕ) → hex d ≡ is_some (hex_value d)
unfolding hex
hex-some d = grind (arith, nat_tests)

hex_narrow : Narrow hex
hex_narrow c h = hex-some c ∙ ap is_some (wide-hex c h)

-- a test of each of the first n bytes
opens_all : (p : ℕ → Bool) (n : ℕ) (s : List ℕ) → (leb n (length s) && list_all p (take n s)) ≡ opens (replicate n p) s
opens_all p zero s = rw (le-leb 0 (length s) (omega arith)) refl
opens_all p (suc n) [] = rw leb-suc-zero refl
opens_all p (suc n) (c ∷ s) = rw leb-suc-suc (swap (leb n (length s)) (p c) (list_all p (take n s)) ∙ ap (λ b. p c && b) (opens_all p n s))
  where
    swap : (a b c : Bool) → (a && (b && c)) ≡ (b && (a && c))
    swap true b c = refl
    swap false true c = refl
    swap false false c = refl

opens_hex : (n : ℕ) (s : List ℕ) → begins_with_hex n s ≡ opens (replicate n hex) s
unfolding begins_with_hex hex
opens_hex n s = opens_all is_ascii_hexdigit n s

-- a HexDigit with its value, or none
abbrev HexCase : ℕ → Type 0
HexCase d = ((v : ℕ) × (hex_value d ≡ Some v) × (hex d ≡ true) × (d < 0x80)) ⊎ ((hex_value d ≡ None) × (hex d ≡ false))

hex_case : (d : ℕ) → HexCase d
hex_case d = go (hex_value d) refl
  where
    some_none : {X : Type 0} (p : ℕ) → Some p ≡ None → X
    some_none p e = cc

    go : (o : Option ℕ) → hex_value d ≡ o → HexCase d
    go (Some v) e = inl (v, e, hex-some d ∙ ap is_some e, ⊎_elim (λ l. l) (λ h. some_none v (sym e ∙ wide-hex d h)) (cases_lt d 0x80))
    go None e = inr (e, hex-some d ∙ ap is_some e)

eqb_sym : (a b : ℕ) → eqb a b ≡ eqb b a
eqb_sym a b = grind (arith, nat_tests)

-- the first byte is w exactly if the first character is
first_is : (w : ℕ) → 0 < w → w < 0x80 → (s : List ℕ) → eqb (get_or (encodes s) 0 0) w ≡ opens (eqb w ∷ []) s
first_is w p l s =
    eqb_sym (get_or (encodes s) 0 0) w ∙ sym (first_test (eqb w) (ne_eqb w 0 (omega arith)) (encodes s)) ∙ same_front (eqb w ∷ []) (eqb_narrow w l, tt) s

first-digit : (s : List ℕ) → digit (get_or (encodes s) 0 0) ≡ opens (digit ∷ []) s
first-digit s = sym (first_test digit refl (encodes s)) ∙ same_front (digit ∷ []) (digit_narrow, tt) s

-- the bytes of an ASCII character
one : (c : ℕ) (s : List ℕ) → c < 0x80 → encodes (c ∷ s) ≡ c ∷ encodes s
one c s h = rw (encode_1 c h) refl

width_one : (c : ℕ) → c < 0x80 → len_utf8 c ≡ 1
width_one c h = grind (arith, nat_tests)

-- two HexDigits, or none behind x
data Two : List ℕ → Type 0 where
  all : {a b m n : ℕ} {r : List ℕ} → a < 0x80 → b < 0x80 → hex_value a ≡ Some m → hex_value b ≡ Some n → opens (hex ∷ hex ∷ []) (a ∷ b ∷ r) ≡ true → Two (a ∷ b ∷ r)
  not_all : {s : List ℕ} → opens (hex ∷ hex ∷ []) s ≡ false → hex_escape s ≡ nothing → Two s

two : (s : List ℕ) → Two s
two [] = Two.not_all refl refl
two (a ∷ []) = Two.not_all (and_right (hex a) false refl) refl
two (a ∷ b ∷ s) =
    ⊎_elim
    (λ x. ⊎_elim
    (λ y. Two.all x.3 y.3 x.1 y.1 (rw (x.2, y.2) refl))
    (λ y. Two.not_all (rw (x.2, y.1) refl) (rw (x.1, y.0) refl)) (hex_case b))
    (λ x. Two.not_all (rw x.1 refl) (rw x.0 refl)) (hex_case a)

-- four HexDigits, or none behind u
data Four : List ℕ → Type 0 where
  all : {a b c d k l m n : ℕ} {r : List ℕ} → a < 0x80 → b < 0x80 → c < 0x80 → d < 0x80 →
      hex_value a ≡ Some k → hex_value b ≡ Some l → hex_value c ≡ Some m → hex_value d ≡ Some n →
      opens (hex ∷ hex ∷ hex ∷ hex ∷ []) (a ∷ b ∷ c ∷ d ∷ r) ≡ true → Four (a ∷ b ∷ c ∷ d ∷ r)
  not_all : {s : List ℕ} → opens (hex ∷ hex ∷ hex ∷ hex ∷ []) s ≡ false → hex4_digits s ≡ nothing → Four s

four : (s : List ℕ) → Four s
four [] = Four.not_all refl refl
four (a ∷ []) = Four.not_all (and_right (hex a) false refl) refl
four (a ∷ b ∷ []) = Four.not_all (and_right (hex a) (hex b && false) (and_right (hex b) false refl)) refl
four (a ∷ b ∷ c ∷ []) =
    Four.not_all (and_right (hex a) (hex b && (hex c && false)) (and_right (hex b) (hex c && false) (and_right (hex c) false refl))) refl
four (a ∷ b ∷ c ∷ d ∷ s) =
    ⊎_elim
    (λ x. ⊎_elim
    (λ y. ⊎_elim
    (λ z. ⊎_elim
    (λ w. Four.all x.3 y.3 z.3 w.3 x.1 y.1 z.1 w.1 (rw (x.2, y.2, z.2, w.2) refl))
    (λ w. Four.not_all (rw (x.2, y.2, z.2, w.1) refl) (rw (x.1, y.1, z.1, w.0) refl)) (hex_case d))
    (λ z. Four.not_all (rw (x.2, y.2, z.1) refl) (rw (x.1, y.1, z.0) refl)) (hex_case c))
    (λ y. Four.not_all (rw (x.2, y.1) refl) (rw (x.1, y.0) refl)) (hex_case b))
    (λ x. Four.not_all (rw x.1 refl) (rw x.0 refl)) (hex_case a)

-- behind x
x_step : (at : ℕ) (s : List ℕ) → Text s → Two s → Step at (0x5C ∷ 0x78 ∷ encodes s) (breach_from at (0x5C ∷ 0x78 ∷ s)) (cond (opens (hex ∷ hex ∷ []) s) (Some 4) None)
x_step at s t (Two.not_all f e) = rw f (halts at (0x5C ∷ 0x78 ∷ encodes s) _ (backslash-here at (0x78 ∷ s) e))
x_step at (a ∷ b ∷ r) t (Two.all {m = m} {n = n} la lb ea eb e) =
    let w = width_one a la in
    let v = width_one b lb in
    let enc : encodes (a ∷ b ∷ r) ≡ a ∷ b ∷ encodes r = one a (b ∷ r) la ∙ ap (λ x. a ∷ x) (one b r lb) in
    let is : hex_escape (a ∷ b ∷ r) ≡ got r ((m * 16 + n) ∷ []) = rw (ea, eb) refl in
    rw e (subst (λ x. Step at (0x5C ∷ 0x78 ∷ x) (breach_from at (0x5C ∷ 0x78 ∷ a ∷ b ∷ r)) (Some 4)) (sym enc)
    (goes at (0x5C ∷ 0x78 ∷ a ∷ b ∷ encodes r) _ 4 [] r (omega arith) (omega arith) tt t.1.1 refl
    (backslash-behind at (0x78 ∷ a ∷ b ∷ r) r ((m * 16 + n) ∷ []) (omega arith, t) is ∙ ap (λ n. breach_from n r) (omega arith))))

-- behind u
u_step : (at : ℕ) (s : List ℕ) → Text s → opens (eqb 0x7B ∷ []) s ≡ false → Four s →
    Step at (0x5C ∷ 0x75 ∷ encodes s) (breach_from at (0x5C ∷ 0x75 ∷ s)) (cond (opens (hex ∷ hex ∷ hex ∷ hex ∷ []) s) (Some 6) None)
u_step at s t nb (Four.not_all f e) = rw f (halts at (0x5C ∷ 0x75 ∷ encodes s) _ (backslash-here at (0x75 ∷ s) (not_braced s nb ∙ e)))
  where
    not_braced : (s : List ℕ) → opens (eqb 0x7B ∷ []) s ≡ false → unicode_escape s ≡ hex4_digits s
    not_braced [] f = refl
    not_braced (c ∷ s) f = let e : eqb c 0x7B ≡ false = grind (arith, nat_tests) in rw e refl
u_step at (a ∷ b ∷ c ∷ d ∷ r) t nb (Four.all {k = k} {l = l} {m = m} {n = n} la lb lc ld ea eb ec ed e) =
    let wa = width_one a la in
    let wb = width_one b lb in
    let wc = width_one c lc in
    let wd = width_one d ld in
    let enc : encodes (a ∷ b ∷ c ∷ d ∷ r) ≡ a ∷ b ∷ c ∷ d ∷ encodes r =
    one a (b ∷ c ∷ d ∷ r) la ∙ ap (λ x. a ∷ x) (one b (c ∷ d ∷ r) lb) ∙ ap (λ x. a ∷ b ∷ x) (one c (d ∷ r) lc) ∙ ap (λ x. a ∷ b ∷ c ∷ x) (one d r ld) in
    let brace : eqb a 0x7B ≡ false = grind (arith, nat_tests) in
    let is : unicode_escape (a ∷ b ∷ c ∷ d ∷ r) ≡ got r ((((k * 16 + l) * 16 + m) * 16 + n) ∷ []) = rw (brace, ea, eb, ec, ed) refl in
    rw e (subst (λ x. Step at (0x5C ∷ 0x75 ∷ x) (breach_from at (0x5C ∷ 0x75 ∷ a ∷ b ∷ c ∷ d ∷ r)) (Some 6)) (sym enc)
    (goes at (0x5C ∷ 0x75 ∷ a ∷ b ∷ c ∷ d ∷ encodes r) _ 6 [] r (omega arith) (omega arith) tt t.1.1.1.1 refl
    (backslash-behind at (0x75 ∷ a ∷ b ∷ c ∷ d ∷ r) r ((((k * 16 + l) * 16 + m) * 16 + n) ∷ []) (omega arith, t) is ∙ ap (λ n. breach_from n r) (omega arith))))

-- digits of a code point and the brace that closes them: by bytes as by characters

too_high : (x : ℕ) → 0x10FFFF < x → (s : List ℕ) → read_code_point x s ≡ nothing
too_high x h [] = refl
too_high x h (d ∷ s) =
    ⊎_elim (λ i. rw (eq-eqb d 0x7D i, lt-leb x 0x10FFFF h) refl)
    (λ n. rw (ne_eqb d 0x7D n) (⊎_elim (λ y. rw y.1 (too_high (x * 16 + y.0) (omega arith) s)) (λ y. rw y.0 refl) (hex_case d)))
    (cases_eq d 0x7D)

data Closed (n sofar : ℕ) (s : List ℕ) : Type 0 where
  never : closes n sofar (encodes s) ≡ None → read_code_point sofar s ≡ nothing → Closed n sofar s
  there : (front r u : List ℕ) → closes n sofar (encodes s) ≡ Some (n + length front) → Text r → encodes s ≡ front ++ encodes r →
      bytes s ≡ length front + bytes r → read_code_point sofar s ≡ got r u → Closed n sofar s

wide-closes : (n sofar d : ℕ) (e t : List ℕ) → Encoded d e → 0x80 ≤ d → closes n sofar (e ++ t) ≡ None
wide-closes n sofar d e t (ascii l) h = absurd (omega arith)
wide-closes n sofar d e t (wide {b = b} _ k _) h = rw (ne_eqb b 0x7D (omega arith), wide-hex b k) refl

module _ (n sofar d : ℕ) (s : List ℕ) (l : d < 0x80) (open-still : d ≢ 0x7D) where
  one_more : (v : ℕ) → hex_value d ≡ Some v → sofar * 16 + v ≤ 0x10FFFF → Closed (n + 1) (sofar * 16 + v) s → Closed n sofar (d ∷ s)
  one_more v e h (Closed.never a b) =
      Closed.never (ap (closes n sofar) (one d s l) ∙ rw (ne_eqb d 0x7D open-still, e, le-leb (sofar * 16 + v) 0x10FFFF h) a)
      (rw (ne_eqb d 0x7D open-still, e) b)
  one_more v e h (Closed.there front r u a t f g b) =
      Closed.there (d ∷ front) r u
      (ap (closes n sofar) (one d s l) ∙ rw (ne_eqb d 0x7D open-still, e, le-leb (sofar * 16 + v) 0x10FFFF h) (a ∙ ap Some (omega arith)))
      t (one d s l ∙ ap (λ x. d ∷ x) f) (omega (arith, width_one d l)) (rw (ne_eqb d 0x7D open-still, e) b)

  no_more : (v : ℕ) → hex_value d ≡ Some v → 0x10FFFF < sofar * 16 + v → Closed n sofar (d ∷ s)
  no_more v e h =
      Closed.never (ap (closes n sofar) (one d s l) ∙ rw (ne_eqb d 0x7D open-still, e, lt-leb (sofar * 16 + v) 0x10FFFF h) refl)
      (rw (ne_eqb d 0x7D open-still, e) (too_high (sofar * 16 + v) h s))

  no_digit : hex_value d ≡ None → Closed n sofar (d ∷ s)
  no_digit e = Closed.never (ap (closes n sofar) (one d s l) ∙ rw (ne_eqb d 0x7D open-still, e) refl) (rw (ne_eqb d 0x7D open-still, e) refl)

brace : (n sofar d : ℕ) (s : List ℕ) → sofar ≤ 0x10FFFF → d ≡ 0x7D → Text s → Closed n sofar (d ∷ s)
brace n sofar d s h i t =
    let l : d < 0x80 = omega arith in
    Closed.there (d ∷ []) s (utf16 sofar) (ap (closes n sofar) (one d s l) ∙ rw (eq-eqb d 0x7D i) refl) t (one d s l) (omega (arith, width_one d l))
    (rw (eq-eqb d 0x7D i, le-leb sofar 0x10FFFF h) refl)

closed_by : (n sofar : ℕ) → sofar ≤ 0x10FFFF → (s : List ℕ) → Text s → Closed n sofar s
closed_by n sofar h [] t = Closed.never refl refl
closed_by n sofar h (d ∷ s) t =
    ⊎_elim
    (λ l. ⊎_elim (λ i. brace n sofar d s h i t.1)
    (λ o. ⊎_elim
    (λ y. ⊎_elim (λ high. no_more n sofar d s l o y.0 y.1 high)
    (λ low. one_more n sofar d s l o y.0 y.1 low (closed_by (n + 1) (sofar * 16 + y.0) low s t.1))
    (cases_lt 0x10FFFF (sofar * 16 + y.0)))
    (λ y. no_digit n sofar d s l o y.0) (hex_case d)) (cases_eq d 0x7D))
    (λ w. Closed.never (wide-closes n sofar d (encode d) (encodes s) (encoded d) w) (rw (ne_eqb d 0x7D (omega arith), wide-hex d w) refl))
    (cases_lt d 0x80)

-- behind u{, where no brace follows
digits_step : (at : ℕ) (s : List ℕ) → Text s → opens (eqb 0x7D ∷ []) s ≡ false → Closed 3 0 s →
    Step at (0x5C ∷ 0x75 ∷ 0x7B ∷ encodes s) (breach_from at (0x5C ∷ 0x75 ∷ 0x7B ∷ s)) (closes 3 0 (encodes s))
digits_step at s t f (Closed.never a b) = rw a (halts at (0x5C ∷ 0x75 ∷ 0x7B ∷ encodes s) _ (backslash-here at (0x75 ∷ 0x7B ∷ s) (rw f b)))
digits_step at s t f (Closed.there front r u a tr e g b) =
    let all : 0x5C ∷ 0x75 ∷ 0x7B ∷ encodes s ≡ (0x5C ∷ 0x75 ∷ 0x7B ∷ front) ++ encodes r = ap (λ x. 0x5C ∷ 0x75 ∷ 0x7B ∷ x) e in
    let le : 3 + length front ≤ length (0x5C ∷ 0x75 ∷ 0x7B ∷ encodes s) = omega (arith, ap length e ∙ length-append front (encodes r)) in
    rw a (goes at (0x5C ∷ 0x75 ∷ 0x7B ∷ encodes s) _ (3 + length front) [] r (omega arith) le tt tr
    (ap (drop (3 + length front)) all ∙ drop_at (0x5C ∷ 0x75 ∷ 0x7B ∷ front) (encodes r) (3 + length front) (omega arith))
    (backslash-behind at (0x75 ∷ 0x7B ∷ s) r u (omega arith, (omega arith, t)) (rw f b) ∙ ap (λ n. breach_from n r) (omega arith)))

braced_step : (at : ℕ) (s : List ℕ) → Text s →
    Step at (0x5C ∷ 0x75 ∷ 0x7B ∷ encodes s) (breach_from at (0x5C ∷ 0x75 ∷ 0x7B ∷ s)) (braced_length (0x5C ∷ 0x75 ∷ 0x7B ∷ encodes s))
braced_step at s t =
    ⊎_elim
    (λ (e : opens (eqb 0x7D ∷ []) s ≡ true). of_length at z o (braced_length z) None (rw (first, e) refl) (halts at z o (backslash-here at (0x75 ∷ 0x7B ∷ s) (rw e refl))))
    (λ (f : opens (eqb 0x7D ∷ []) s ≡ false). of_length at z o (braced_length z) (closes 3 0 (encodes s)) (rw (first, f) refl) (digits_step at s t f (closed_by 3 0 (omega arith) s t)))
    (cases_Bool (opens (eqb 0x7D ∷ []) s))
  where
    z : List ℕ
    z = 0x5C ∷ 0x75 ∷ 0x7B ∷ encodes s

    o : Option ℕ
    o = breach_from at (0x5C ∷ 0x75 ∷ 0x7B ∷ s)

    first : eqb (get_or (encodes s) 0 0) 0x7D ≡ opens (eqb 0x7D ∷ []) s
    first = first_is 0x7D (omega arith) (omega arith) s

unicode_step : (at : ℕ) (s : List ℕ) → Text s → Step at (0x5C ∷ 0x75 ∷ encodes s) (breach_from at (0x5C ∷ 0x75 ∷ s)) (unicode_length (0x5C ∷ 0x75 ∷ encodes s))
unicode_step at s t =
    ⊎_elim (braced s t)
    (λ (f : opens (eqb 0x7B ∷ []) s ≡ false). of_length at (0x5C ∷ 0x75 ∷ encodes s) (breach_from at (0x5C ∷ 0x75 ∷ s)) (unicode_length (0x5C ∷ 0x75 ∷ encodes s)) (cond (opens (hex ∷ hex ∷ hex ∷ hex ∷ []) s) (Some 6) None)
    (rw (first, f, opens_hex 4 (encodes s), same_front (hex ∷ hex ∷ hex ∷ hex ∷ []) (hex_narrow, (hex_narrow, (hex_narrow, (hex_narrow, tt)))) s) refl)
    (u_step at s t f (four s)))
    (cases_Bool (opens (eqb 0x7B ∷ []) s))
  where
    first : eqb (get_or (encodes s) 0 0) 0x7B ≡ opens (eqb 0x7B ∷ []) s
    first = first_is 0x7B (omega arith) (omega arith) s

    braced : (s : List ℕ) → Text s → opens (eqb 0x7B ∷ []) s ≡ true →
        Step at (0x5C ∷ 0x75 ∷ encodes s) (breach_from at (0x5C ∷ 0x75 ∷ s)) (unicode_length (0x5C ∷ 0x75 ∷ encodes s))
    braced [] t e = absurd (both_ways false refl e)
    braced (c ∷ s) t e =
        let i : c ≡ 0x7B = grind (arith, nat_tests) in
        subst (λ c. Step at (0x5C ∷ 0x75 ∷ encodes (c ∷ s)) (breach_from at (0x5C ∷ 0x75 ∷ c ∷ s)) (unicode_length (0x5C ∷ 0x75 ∷ encodes (c ∷ s)))) (sym i)
        (subst (λ x. Step at (0x5C ∷ 0x75 ∷ x) (breach_from at (0x5C ∷ 0x75 ∷ 0x7B ∷ s)) (unicode_length (0x5C ∷ 0x75 ∷ x))) (sym (one 0x7B s (omega arith)))
        (braced_step at s t.1))

-- behind 0
zero_step : (at : ℕ) (s : List ℕ) → Text s → Step at (0x5C ∷ 0x30 ∷ encodes s) (breach_from at (0x5C ∷ 0x30 ∷ s)) (escape_length (0x5C ∷ 0x30 ∷ encodes s))
zero_step at s t =
    ⊎_elim
    (λ (e : opens (digit ∷ []) s ≡ true). of_length at z o (escape_length z) None (at_zero (encodes s) ∙ rw (first-digit s, e) refl) (halts at z o (backslash-here at (0x30 ∷ s) (rw e refl))))
    (λ (f : opens (digit ∷ []) s ≡ false). of_length at z o (escape_length z) (Some 2) (at_zero (encodes s) ∙ rw (first-digit s, f) refl)
    (goes at z o 2 [] s (omega arith) (omega arith) tt t refl
    (backslash-behind at (0x30 ∷ s) s (0x00 ∷ []) (omega arith, t) (rw f refl) ∙ ap (λ n. breach_from n s) (omega arith))))
    (cases_Bool (opens (digit ∷ []) s))
  where
    z : List ℕ
    z = 0x5C ∷ 0x30 ∷ encodes s

    o : Option ℕ
    o = breach_from at (0x5C ∷ 0x30 ∷ s)

-- behind a backslash: a digit from 1 on

digit-here : (at d : ℕ) (s : List ℕ) → digit d ≡ true → d ≢ 0x30 → breach_from at (0x5C ∷ d ∷ s) ≡ Some at
digit-here at d s e n =
    let line : is_line_terminator d ≡ false = grind (arith, nat_tests) in
    let x : eqb d 0x78 ≡ false = grind (arith, nat_tests) in
    let u : eqb d 0x75 ≡ false = grind (arith, nat_tests) in
    backslash-here at (d ∷ s) (rw (line, x, u, ne_eqb d 0x30 n, e) refl)

-- a character that stands for itself or for another, or ends a line

carriage_return : (at : ℕ) (s : List ℕ) → Text s → breach_from at (0x5C ∷ 0x0D ∷ s) ≡ breach_from (at + 2) s
carriage_return at [] t = refl
carriage_return at (c ∷ s) t =
    ⊎_elim
    (λ i. backslash-behind at (0x0D ∷ c ∷ s) s [] (omega arith, t) (rw (eq-eqb 0x0A c (sym i)) refl)
    ∙ ap (λ n. breach_from n s) {x = at + (1 + bytes (0x0D ∷ c ∷ s) - bytes s)} {y = at + 2 + len_utf8 c} (omega arith)
    ∙ sym (other_behind (at + 2) c s t (omega arith) (omega arith) (omega arith)))
    (λ n. backslash-behind at (0x0D ∷ c ∷ s) (c ∷ s) [] (omega arith, t) (rw (ne_eqb 0x0A c (λ i. n (sym i))) refl) ∙ ap (λ n. breach_from n (c ∷ s)) (omega arith))
    (cases_eq c 0x0A)

other_escape : (at d : ℕ) (s : List ℕ) → Text (d ∷ s) → d ≢ 0x78 → d ≢ 0x75 → digit d ≡ false → breach_from at (0x5C ∷ d ∷ s) ≡ breach_from (at + 1 + len_utf8 d) s
other_escape at d s t x u f =
    ⊎_elim (λ i. rw i (carriage_return at s t.1 ∙ ap (λ n. breach_from n s) (omega arith)))
    (λ n. ⊎_elim
    (λ l. backslash-behind at (d ∷ s) s [] t
    (cond-true (is_line_terminator d) (got (after_line_terminator d s) []) (escape_sequence (d ∷ s)) l ∙ ap (λ b. got (cond (b && opens (eqb 0x0A ∷ []) s) (drop 1 s) s) []) (ne_eqb d 0x0D n)) ∙ place)
    (λ l. backslash-behind at (d ∷ s) s (character_escape d) t
    (cond-false (is_line_terminator d) (got (after_line_terminator d s) []) (escape_sequence (d ∷ s)) l ∙ rw (ne_eqb d 0x78 x, ne_eqb d 0x75 u, zero, f) refl) ∙ place)
    (cases_Bool (is_line_terminator d)))
    (cases_eq d 0x0D)
  where
    place : breach_from (at + (1 + bytes (d ∷ s) - bytes s)) s ≡ breach_from (at + 1 + len_utf8 d) s
    place = ap (λ n. breach_from n s) (omega arith)

    zero : eqb d 0x30 ≡ false
    zero = grind (arith, nat_tests)

-- behind a backslash

-- of a character d of the bytes e, and then s
abbrev Behind : ℕ → ℕ → List ℕ → List ℕ → Type 0
Behind at d s e = Step at (0x5C ∷ (e ++ encodes s)) (breach_from at (0x5C ∷ d ∷ s)) (escape_length (0x5C ∷ (e ++ encodes s)))

module _ (at d : ℕ) (s : List ℕ) (t : Text (d ∷ s)) where
  -- b is the first byte of d, and tail the others
  two_on : (b : ℕ) (tail : List ℕ) → Wide tail → len_utf8 d ≡ 1 + length tail → d ≢ 0x78 → d ≢ 0x75 → digit d ≡ false → b ≢ 0x78 → b ≢ 0x75 → digit b ≡ false → Behind at d s (b ∷ tail)
  two_on b tail w l x u f x2 u2 f2 =
      of_length at z o (escape_length z) (Some 2) (at_other (tail ++ encodes s) b x2 u2 zero ∙ rw f2 refl)
      (goes at z o 2 tail s (omega arith) (omega arith) w t.1 refl (other_escape at d s t x u f ∙ ap (λ n. breach_from n s) (omega arith)))
    where
      z : List ℕ
      z = 0x5C ∷ b ∷ (tail ++ encodes s)

      o : Option ℕ
      o = breach_from at (0x5C ∷ d ∷ s)

      zero : b ≢ 0x30
      zero = grind (arith, nat_tests)

  none_on : digit d ≡ true → d ≢ 0x30 → Behind at d s (d ∷ [])
  none_on e n =
      of_length at z o (escape_length z) None (at_other (encodes s) d x u n ∙ rw e refl) (halts at z o (digit-here at d s e n))
    where
      z : List ℕ
      z = 0x5C ∷ d ∷ encodes s

      o : Option ℕ
      o = breach_from at (0x5C ∷ d ∷ s)

      x : d ≢ 0x78
      x = grind (arith, nat_tests)

      u : d ≢ 0x75
      u = grind (arith, nat_tests)

  x_on : d ≡ 0x78 → Behind at d s (d ∷ [])
  x_on i =
      subst (λ c. Behind at c s (c ∷ [])) (sym i)
      (of_length at (0x5C ∷ 0x78 ∷ encodes s) (breach_from at (0x5C ∷ 0x78 ∷ s)) _ (cond (opens (hex ∷ hex ∷ []) s) (Some 4) None)
      (at_x (encodes s) ∙ rw (opens_hex 2 (encodes s), same_front (hex ∷ hex ∷ []) (hex_narrow, (hex_narrow, tt)) s) refl) (x_step at s t.1 (two s)))

  u_on : d ≡ 0x75 → Behind at d s (d ∷ [])
  u_on i =
      subst (λ c. Behind at c s (c ∷ [])) (sym i)
      (of_length at (0x5C ∷ 0x75 ∷ encodes s) (breach_from at (0x5C ∷ 0x75 ∷ s)) _ (unicode_length (0x5C ∷ 0x75 ∷ encodes s)) (at_u (encodes s)) (unicode_step at s t.1))

  zero_on : d ≡ 0x30 → Behind at d s (d ∷ [])
  zero_on i = subst (λ c. Behind at c s (c ∷ [])) (sym i) (zero_step at s t.1)

  behind : (e : List ℕ) → Encoded d e → length e ≡ len_utf8 d → Behind at d s e
  behind e (wide {b = b} {s = tail} h k w) l =
      two_on b tail w (omega arith) (omega arith) (omega arith) (digit_narrow d h) (omega arith) (omega arith) (digit_narrow b k)
  behind e (ascii h) l =
      ⊎_elim x_on
      (λ x. ⊎_elim u_on
      (λ u. ⊎_elim zero_on
      (λ z. ⊎_elim (λ f. none_on f z) (λ f. two_on d [] tt (omega arith) x u f x u f) (cases_Bool (digit d)))
      (cases_eq d 0x30)) (cases_eq d 0x75)) (cases_eq d 0x78)

-- the character at the front

abbrev Front : ℕ → ℕ → List ℕ → List ℕ → Type 0
Front at c s e = Step at (e ++ encodes s) (breach_from at (c ∷ s)) (character_length (e ++ encodes s))

backslash_front : (at : ℕ) (s : List ℕ) → Text s → Front at 0x5C s (0x5C ∷ [])
backslash_front at [] t = halts at (0x5C ∷ []) (breach_from at (0x5C ∷ [])) (backslash-here at [] refl)
backslash_front at (d ∷ s) t =
    of_length at z (breach_from at (0x5C ∷ d ∷ s)) (character_length z) (escape_length z) (at_backslash (encodes (d ∷ s))) (behind at d s t (encode d) (encoded d) (length-encode d))
  where
    z : List ℕ
    z = 0x5C ∷ encodes (d ∷ s)

dollar_front : (at : ℕ) (s : List ℕ) → Text s → Front at 0x24 s (0x24 ∷ [])
dollar_front at s t =
    ⊎_elim
    (λ (e : opens (eqb 0x7B ∷ []) s ≡ true). of_length at z o (character_length z) None (at_dollar (encodes s) ∙ rw (first, e) refl) (halts at z o (dollar-here at s e)))
    (λ (f : opens (eqb 0x7B ∷ []) s ≡ false). of_length at z o (character_length z) (Some 1) (at_dollar (encodes s) ∙ rw (first, f) refl)
    (goes at z o 1 [] s (omega arith) (omega arith) tt t refl (dollar-behind at s t f ∙ ap (λ n. breach_from n s) (omega arith))))
    (cases_Bool (opens (eqb 0x7B ∷ []) s))
  where
    z : List ℕ
    z = 0x24 ∷ encodes s

    o : Option ℕ
    o = breach_from at (0x24 ∷ s)

    first : eqb (get_or (encodes s) 0 0) 0x7B ≡ opens (eqb 0x7B ∷ []) s
    first = first_is 0x7B (omega arith) (omega arith) s

backtick_front : (at : ℕ) (s : List ℕ) → Front at 0x60 s (0x60 ∷ [])
backtick_front at s = of_length at (0x60 ∷ encodes s) (breach_from at (0x60 ∷ s)) _ None (at_backtick (encodes s)) (halts at (0x60 ∷ encodes s) _ (backtick_here at s))

module _ (at c : ℕ) (s : List ℕ) (t : Text (c ∷ s)) where
  other_front : (b : ℕ) (tail : List ℕ) → Wide tail → len_utf8 c ≡ 1 + length tail → b ≢ 0x5C → b ≢ 0x60 → b ≢ 0x24 → c ≢ 0x5C → c ≢ 0x60 → c ≢ 0x24 → Front at c s (b ∷ tail)
  other_front b tail w l p q r p2 q2 r2 =
      of_length at z (breach_from at (c ∷ s)) (character_length z) (Some 1) (sym (plain z (omega arith) p q r))
      (goes at z (breach_from at (c ∷ s)) 1 tail s (omega arith) (omega arith) w t.1 refl (other_behind at c s t q2 p2 r2 ∙ ap (λ n. breach_from n s) (omega arith)))
    where
      z : List ℕ
      z = b ∷ (tail ++ encodes s)

  front : (e : List ℕ) → Encoded c e → length e ≡ len_utf8 c → Front at c s e
  front e (wide {b = b} {s = tail} h k w) l = other_front b tail w (omega arith) (omega arith) (omega arith) (omega arith) (omega arith) (omega arith) (omega arith)
  front e (ascii h) l =
      ⊎_elim (λ i. subst (λ c. Front at c s (c ∷ [])) (sym i) (backslash_front at s t.1))
      (λ p. ⊎_elim (λ i. subst (λ c. Front at c s (c ∷ [])) (sym i) (backtick_front at s))
      (λ q. ⊎_elim (λ i. subst (λ c. Front at c s (c ∷ [])) (sym i) (dollar_front at s t.1))
      (λ r. other_front c [] tt (omega arith) p q r p q r)
      (cases_eq c 0x24)) (cases_eq c 0x60)) (cases_eq c 0x5C)

-- a turn of the walk

turn : (at : ℕ) (bytes : List ℕ) (o : Option ℕ) → 0 < length bytes → Stands at bytes o → Step at bytes o (character_length bytes)
turn at bytes o h ([], ([], w, t, e, b)) = absurd (omega (arith, ap length e))
turn at bytes o h ([], (c ∷ s, w, t, e, b)) =
    subst (λ x. Step at x o (character_length x)) (sym e)
    (subst (λ p. Step at (encode c ++ encodes s) p (character_length (encode c ++ encodes s))) (ap (λ n. breach_from n (c ∷ s)) (omega arith) ∙ b)
    (front at c s t (encode c) (encoded c) (length-encode c)))
turn at bytes o h (x ∷ tail, (text, w, t, e, b)) =
    subst (λ y. Step at y o (character_length y)) (sym e)
    (of_length at z o (character_length z) (Some 1) (sym (plain z (omega arith) (omega (arith, w.0)) (omega (arith, w.0)) (omega (arith, w.0))))
    (goes at z o 1 tail text (omega arith) (omega arith) w.1 t refl (sym b ∙ ap (λ n. breach_from n text) (omega arith))))
  where
    z : List ℕ
    z = x ∷ (tail ++ encodes text)

-- the walk at the bytes that are left, where r is the length of the character at their front
pub turned : (bytes rest : List ℕ) (o r : Option ℕ) → false ≡ eqb (length rest) 0 → r ≡ character_length rest → Stands (length bytes - length rest) rest o →
    Step (length bytes - length rest) rest o r
turned bytes rest o r h e st =
    let n = eqb-false (length rest) 0 (sym h) in
    of_length (length bytes - length rest) rest o r (character_length rest) e (turn (length bytes - length rest) rest o (omega arith) st)

-- the bytes that are left behind it
pub onward : (bytes rest : List ℕ) (o : Option ℕ) (n : ℕ) → length rest ≤ length bytes → Step (length bytes - length rest) rest o (Some n) →
    (length (take (length rest - n) (drop n rest)) < length rest) × (length (take (length rest - n) (drop n rest)) ≤ length bytes)
    × Stands (length bytes - length (take (length rest - n) (drop n rest))) (take (length rest - n) (drop n rest)) o
onward bytes rest o n l s =
    rw take_rest (omega (arith, length-drop n rest, s.0, s.1), omega (arith, length-drop n rest, s.1), subst (λ p. Stands p (drop n rest) o) (omega (arith, length-drop n rest, s.1)) s.2)

pub ended : (at : ℕ) (rest : List ℕ) (o : Option ℕ) → true ≡ eqb (length rest) 0 → Stands at rest o → None ≡ o
ended at bytes o h st = go bytes (eqb-true (length bytes) 0 (sym h)) st
  where
    go : (rest : List ℕ) → length rest ≡ 0 → Stands at rest o → None ≡ o
    go bytes z ([], ([], w, t, e, b)) = b
    go bytes z ([], (c ∷ s, w, t, e, b)) =
        absurd (omega (arith, ap length e ∙ length-append (encode c) (encodes s), length-encode c, len_utf8_bounds c))
    go bytes z (x ∷ tail, (text, w, t, e, b)) = absurd (omega (arith, ap length e))

text-points : (before : ℕ) (cs : List ℕ) → Points Utf8 before cs → Text cs
text-points before [] p = tt
text-points before (c ∷ cs) p = (p.0, text-points c cs p.2)

pub begins : (bytes : List ℕ) → breach Utf8 bytes ≡ None → Stands 0 bytes (template_breach (code_points bytes))
begins bytes h =
    let w = (accepted Utf8 bytes).0 h in
    let p : code_points bytes ≡ w.0 = ap code_points (sym w.2) ∙ read Utf8 w.0 w.1 in
    ([], (w.0, tt, text-points 0 w.0 w.1, sym w.2, ap template_breach (sym p)))
