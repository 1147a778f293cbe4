-- A pattern that is printed keeps its tokens.
use Rattle.std.proofs.Common.{◌≡◌, ℕ, zero, suc, ◌+◌, ◌*◌, ◌/◌, ◌%◌, ◌<◌, ◌≤◌, Bool, true, false, cond, not, ◌&&◌, eqb, leb, ◌≢◌, List, [], ◌∷◌, ◌++◌, Some, None, Option, sym, refl, ap, ◌∙◌, ⊎_elim, append_assoc, arith}
use Rattle.std.specs.List.{AllByRecursion}
use Rattle.std.proofs.lemmas.Bool.{cond_both, cond-true, and_parts, and_right, cases_eq, cases_lt, ne_eqb, eqb-true, lt-leb, le-leb, leb-true, false≢true}
use Rattle.std.proofs.lemmas.Bool.Decides.{nat_tests}
use Rattle.ecma262.specs.Lookahead.{opens}
use Rattle.ecma262.specs.Units.{Text, utf16}
use Rattle.ecma262.specs.Read.{hex_value}
use Rattle.literal.specs.Escapes.{hex_digit, behind}
use Rattle.literal.specs.declared.HexCase.TheVariants.{Upper}
use Rattle.literal.specs.declared.EscapeSequence.TheVariants.{Unicode}
use Rattle.literal.specs.declared.NonAsciiEscape.TheVariants.{RegExp}
use Rattle.literal.specs.Raw.{odd_behind, is_separator, unit_escapes, wide_printed, ascii_only}
use Rattle.literal.specs.RawLaws.{RegexKept}
use Rattle.literal.specs.Regex.{units_of, character_units, with_digit, hex_number, unicode_unit, escaped_unit, digit_count, regex_units}
use Rattle.literal.specs.Regex.RegexUnit.{unit, plain}
use Rattle.literal.proofs.Digits.{steps}

-- the escapes of units are read as the units

hex_at : (n : ℕ) → hex_value (hex_digit Upper (n % 0x10)) ≡ Some (n % 0x10)
hex_at n = grind (arith, nat_tests)

unit_back : (u : ℕ) (t : List ℕ) → u < 0x10000 → regex_units 0 (0x5C ∷ (behind u (Unicode Upper) ++ t)) ≡ unit u ∷ regex_units 0 t
unit_back u t h =
    rw (hex_at (u / 0x1000), hex_at (u / 0x100), hex_at (u / 0x10), hex_at u)
    (ap (λ n. unit n ∷ regex_units 0 t) (omega (arith, steps u)))

units_back : (us t : List ℕ) → AllByRecursion (λ u. u < 0x10000) us → regex_units 0 (unit_escapes us ++ t) ≡ units_of us ++ regex_units 0 t
units_back [] t h = refl
units_back (u ∷ us) t h =
    ap (λ s. regex_units 0 (0x5C ∷ s)) (append_assoc (behind u (Unicode Upper)) (unit_escapes us) t)
    ∙ unit_back u (unit_escapes us ++ t) h.0 ∙ ap (λ s. unit u ∷ s) (units_back us t h.1)

small_units : (c : ℕ) → c ≤ 0x10FFFF → AllByRecursion (λ u. u < 0x10000) (utf16 c)
small_units c h = grind (arith, nat_tests)

-- what is printed of a character above 7F is read as its units
wide_back : (odd : Bool) (c : ℕ) (t : List ℕ) → c ≤ 0x10FFFF → regex_units 0 (wide_printed RegExp odd c ++ t) ≡ units_of (utf16 c) ++ regex_units 0 t
wide_back odd c t h = rw (and_right (is_separator c && odd) false refl) (units_back (utf16 c) t (small_units c h))

-- digits are read in the pattern as in what is printed of it

no_hex : (c : ℕ) → 0x80 ≤ c → hex_value c ≡ None
no_hex c h = grind (arith, nat_tests)

same_with : (o : Option ℕ) (f g : ℕ → Option ℕ) → ((v : ℕ) → f v ≡ g v) → with_digit o f ≡ with_digit o g
same_with None f g h = refl
same_with (Some v) f g h = h v

-- a backslash is no digit
wide-none : (count sofar : ℕ) (odd : Bool) (c : ℕ) (t : List ℕ) → hex_number (suc count) sofar (wide_printed RegExp odd c ++ t) ≡ None
wide-none count sofar odd c t = grind (arith, nat_tests)

gone_none : (count sofar : ℕ) (cs : List ℕ) → opens (leb 0x80 ∷ []) cs ≡ true → hex_number (suc count) sofar (ascii_only RegExp true cs) ≡ None
gone_none count sofar [] e = absurd (false≢true e)
gone_none count sofar (d ∷ ds) e = grind (arith, nat_tests)

number_kept : (count sofar : ℕ) (odd : Bool) (s : List ℕ) → hex_number count sofar (ascii_only RegExp odd s) ≡ hex_number count sofar s
number_kept zero sofar odd s = refl
number_kept (suc count) sofar odd [] = refl
number_kept (suc count) sofar odd (c ∷ cs) =
    let o = odd_behind odd c in
    let t = ascii_only RegExp o cs in
    let P : List ℕ → Type 0 = λ x. hex_number (suc count) sofar (x ++ t) ≡ hex_number (suc count) sofar (c ∷ cs) in
    cond_both (o && opens (leb 0x80 ∷ []) cs && true) [] _ P
    (λ e. let i : (o ≡ true) × (opens (leb 0x80 ∷ []) cs ≡ true) = and_parts o (opens (leb 0x80 ∷ []) cs) (and_parts (o && opens (leb 0x80 ∷ []) cs) true e).0 in
    let k : c ≡ 0x5C = eqb-true c 0x5C (and_parts (not odd) (eqb c 0x5C) i.0).1 in
    ap (λ b. hex_number (suc count) sofar (ascii_only RegExp b cs)) i.0 ∙ gone_none count sofar cs i.1
    ∙ sym (ap (λ x. hex_number (suc count) sofar (x ∷ cs)) k))
    (λ _. cond_both (leb 0x80 c) (wide_printed RegExp odd c) (c ∷ []) P
    (λ e. wide-none count sofar odd c t ∙ sym (ap (λ x. with_digit x (λ v. hex_number count (sofar * 16 + v) cs)) (no_hex c (leb-true 0x80 c e))))
    (λ _. same_with (hex_value c) _ _ (λ v. number_kept count (sofar * 16 + v) o cs)))

unit_kept : (d : ℕ) (ds : List ℕ) → unicode_unit d (ascii_only RegExp false ds) ≡ unicode_unit d ds
unit_kept d ds = ap (λ x. cond (eqb d 0x75) x None) (number_kept 4 0 false ds)

-- the first characters of a text are printed as they stand
abbrev Copied : ℕ → List ℕ → Type 0
Copied zero s = Unit {0}
Copied (suc k) [] = Unit {0}
Copied (suc k) (x ∷ s) = (x < 0x80) × (x ≢ 0x5C) × Copied k s

copied_digit : (x : ℕ) (o : Option ℕ) (f : ℕ → Option ℕ) (w : ℕ) → hex_value x ≡ o → with_digit o f ≡ Some w → (x < 0x80) × (x ≢ 0x5C) × ((v : ℕ) × (f v ≡ Some w))
copied_digit x None f w e h = cc
copied_digit x (Some v) f w e h = (small, other, (v, h))
  where
    none : hex_value x ≡ None → ⊥
    none n = cc

    small : x < 0x80
    small = grind (arith, nat_tests)

    other : x ≢ 0x5C
    other i = none (ap hex_value i)

copied : (k sofar : ℕ) (s : List ℕ) (w : ℕ) → hex_number k sofar s ≡ Some w → Copied k s
copied zero sofar s w h = tt
copied (suc k) sofar [] w h = tt
copied (suc k) sofar (x ∷ s) w h =
    let (l, n, (v, i)) = copied_digit x (hex_value x) (λ v. hex_number k (sofar * 16 + v) s) w refl h in
    (l, n, copied k (sofar * 16 + v) s w i)

digits_copied : (d : ℕ) (ds : List ℕ) → Copied (digit_count (unicode_unit d ds)) ds
digits_copied d ds = go (unicode_unit d ds) refl
  where
    inside : (b : Bool) (o : Option ℕ) (w : ℕ) → cond b o None ≡ Some w → o ≡ Some w
    inside true o w e = e
    inside false o w e = cc

    go : (o : Option ℕ) → unicode_unit d ds ≡ o → Copied (digit_count o) ds
    go None e = tt
    go (Some w) e = copied 4 0 ds w (inside (eqb d 0x75) (hex_number 4 0 ds) w e)

-- tokens

-- a character that no backslash stands before
itself_kept : (c : ℕ) (cs : List ℕ) → c ≤ 0x10FFFF → c ≢ 0x5C → regex_units 0 (ascii_only RegExp false cs) ≡ regex_units 0 cs →
    regex_units 0 (ascii_only RegExp false (c ∷ cs)) ≡ regex_units 0 (c ∷ cs)
itself_kept c cs h n k =
    rw (ne_eqb c 0x5C n)
    (cond_both (leb 0x80 c) (wide_printed RegExp false c) (c ∷ []) (λ x. regex_units 0 (x ++ ascii_only RegExp false cs) ≡ character_units c ++ regex_units 0 cs)
    (λ e. wide_back false c (ascii_only RegExp false cs) h ∙ (λ i. sym (cond-true (leb 0x80 c) (units_of (utf16 c)) (plain c ∷ []) e) i ++ k i))
    (λ _. rw (ne_eqb c 0x5C n) (ap (λ s. character_units c ++ s) k)))

-- a backslash and what it stands before
behind_kept : (d : ℕ) (ds : List ℕ) → d ≤ 0x10FFFF →
    regex_units (digit_count (unicode_unit d ds)) (ascii_only RegExp false ds) ≡ regex_units (digit_count (unicode_unit d ds)) ds →
    regex_units 0 (ascii_only RegExp false (0x5C ∷ d ∷ ds)) ≡ regex_units 0 (0x5C ∷ d ∷ ds)
behind_kept d ds h k =
    ⊎_elim
    (λ l. rw (lt-leb 0x80 d l, unit_kept d ds, lt-leb 0x80 d l) (ap (λ s. escaped_unit d (unicode_unit d ds) ∷ s) k))
    (λ g. let n : unicode_unit d ds ≡ None = rw (ne_eqb d 0x75 (omega arith)) in
    let k' : regex_units 0 (ascii_only RegExp false ds) ≡ regex_units 0 ds = rw n at k in
    rw (le-leb 0x80 d g, n) (wide_back true d (ascii_only RegExp false ds) h ∙ ap (λ s. units_of (utf16 d) ++ s) k'))
    (cases_lt d 0x80)

tokens_kept : (skip : ℕ) (text : List ℕ) → Text text → Copied skip text → regex_units skip (ascii_only RegExp false text) ≡ regex_units skip text
tokens_kept skip [] t h = refl
tokens_kept (suc skip) (c ∷ cs) t h =
    let l : leb 0x80 c ≡ false = lt-leb 0x80 c h.0 in
    rw (ne_eqb c 0x5C h.1, l) (tokens_kept skip cs t.1 h.2)
tokens_kept zero (c ∷ []) t h = ⊎_elim (λ e. rw e) (λ n. itself_kept c [] t.0 n refl) (cases_eq c 0x5C)
tokens_kept zero (c ∷ d ∷ ds) t h =
    ⊎_elim (λ e. rw e (behind_kept d ds t.1.0 (tokens_kept (digit_count (unicode_unit d ds)) ds t.1.1 (digits_copied d ds))))
    (λ n. itself_kept c (d ∷ ds) t.0 n (tokens_kept zero (d ∷ ds) t.1 tt)) (cases_eq c 0x5C)

pub regex_kept : RegexKept
regex_kept false text t = refl
regex_kept true text t = tokens_kept 0 text t tt
