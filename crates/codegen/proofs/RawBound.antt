-- Raw text becomes at most three times as long; and the bytes that a turn prints are counted.
use Rattle.std.proofs.Common.{◌≡◌, ℕ, ◌+◌, ◌*◌, ◌<◌, ◌≤◌, Bool, true, false, cond, ◌&&◌, eqb, ltb, leb, List, [], ◌∷◌, ◌++◌, length, refl, ap, ◌∙◌, ⊎_elim, arith, length-append}
use lib.Utf8.{encode, encodes}
use Rattle.std.specs.Char.{len_utf8}
use Rattle.std.proofs.lemmas.List.{append-nil, length-take-le}
use Rattle.std.proofs.lemmas.Str.{length-encode, len_utf8_bounds, encodes-append}
use Rattle.std.proofs.lemmas.Bool.{cond_both, and_parts, leb-true, le-leb, lt-ltb, cases_lt}
use Rattle.std.proofs.lemmas.Bool.Decides.{nat_tests}
use Rattle.ecma262.specs.Lookahead.{opens}
use Rattle.ecma262.specs.Units.{utf16}
use Rattle.literal.specs.declared.NonAsciiEscape.{NonAsciiEscape}
use Rattle.literal.specs.declared.NonAsciiEscape.TheVariants.{Identifier, RegExp, TemplateRaw, Directive}
use Rattle.literal.specs.Escapes.{behind, script, five_digits}
use Rattle.literal.specs.Raw.{odd_behind, is_separator, continues_lines, wide, unit_escapes, wide_escape, wide_printed}
use Rattle.text.specs.Sequence.{code_points}
use Rattle.codegen.specs.declared.raw_style.RawStyle.{RawStyle}
use Rattle.codegen.specs.declared.raw_state.RawState.{RawState}
use Rattle.codegen.specs.declared.raw_turn.RawTurn.{RawTurn}
use Rattle.codegen.specs.declared.raw_turn.RawTurn.TheVariants.{Keep, Drop, Escaped, LineEnd, Tag}
use Rattle.codegen.specs.RawTurns.{raw_takes, raw_puts, raw_size, raw_body}
use Rattle.codegen.specs.RawCursor.{raw_ahead, RawTaken}
use Rattle.codegen.specs.Turns.{Fit}
use Rattle.codegen.proofs.Steps.{encodes-plain}
use Rattle.codegen.proofs.RawArms.{two_units}
use Rattle.codegen.proofs.RawSteps.{goes_in, turn_in, walk_in, wide-plain}

-- the length of an escape, by how far up the character is

low_one : (c : ℕ) → c < 0x10000 → length (0x5C ∷ behind c (wide c)) ≡ 6
low_one c h = rw (le-leb c 0xFFFF (omega arith)) refl

low_units : (c : ℕ) → c < 0x10000 → length (unit_escapes (utf16 c)) ≡ 6
low_units c h = rw (lt-ltb c 0x10000 h) refl

low_length : (mode : NonAsciiEscape) (c : ℕ) → c < 0x10000 → length (wide_escape mode c) ≡ 6
low_length Identifier c h = low_one c h
low_length RegExp c h = low_units c h
low_length TemplateRaw c h = low_one c h
low_length Directive c h = low_one c h

high_units : (c : ℕ) → 0x10000 ≤ c → length (wide_escape RegExp c) ≡ 12
high_units c h = ap (λ us. length (unit_escapes us)) (two_units c h)

high_one : (c : ℕ) → 0x10000 ≤ c → length (0x5C ∷ behind c (wide c)) ≡ cond (ltb c 0x100000) 9 10
high_one c h = rw (lt_leb_of c h) (go (ltb c 0x100000))
  where
    lt_leb_of : (c : ℕ) → 0x10000 ≤ c → leb c 0xFFFF ≡ false
    lt_leb_of c h = grind (arith, nat_tests)

    go : (b : Bool) → length (0x5C ∷ 0x75 ∷ 0x7B ∷ (cond b [] (0x31 ∷ []) ++ five_digits c)) ≡ cond b 9 10
    go true = refl
    go false = refl

wide_bound : (mode : NonAsciiEscape) (c : ℕ) → 0x80 ≤ c → length (wide_escape mode c) ≤ 3 * len_utf8 c
wide_bound mode c h =
    ⊎_elim (λ l. let w : 2 ≤ len_utf8 c = grind (arith, nat_tests) in omega (arith, low_length mode c l)) (λ k. let w : len_utf8 c ≡ 4 = grind (arith, nat_tests) in by_mode mode k w) (cases_lt c 0x10000)
  where
    ten : (b : Bool) → cond b 9 10 ≤ 10
    ten true = omega arith
    ten false = omega arith

    by_mode : (mode : NonAsciiEscape) → 0x10000 ≤ c → len_utf8 c ≡ 4 → length (wide_escape mode c) ≤ 3 * len_utf8 c
    by_mode Identifier k w = omega (arith, high_one c k, ten (ltb c 0x100000))
    by_mode RegExp k w = omega (arith, high_units c k)
    by_mode TemplateRaw k w = omega (arith, high_one c k, ten (ltb c 0x100000))
    by_mode Directive k w = omega (arith, high_one c k, ten (ltb c 0x100000))

plain-length : (t : List ℕ) → encodes t ≡ t → (n : ℕ) → length t ≤ n → length (encodes t) ≤ n
plain-length t e n h = let l = ap length e in omega arith

turn_bound : (style : RawStyle) (odd : Bool) (before c : ℕ) (cs : List ℕ) → length (encodes (turn_in style odd before c cs)) ≤ 3 * len_utf8 c
turn_bound style odd before c cs =
    let w = len_utf8_bounds c in
    cond_both (odd_behind odd c && goes_in style cs) [] _ P (λ _. omega arith) (λ _.
    cond_both (leb 0x80 c && style.ascii_only) (wide_printed style.mode odd c) _ P
    (λ t. cond_both (is_separator c && odd && continues_lines style.mode) (0x5C ∷ 0x0A ∷ []) (wide_escape style.mode c) P
    (λ _. plain-length (0x5C ∷ 0x0A ∷ []) (encodes-plain (0x5C ∷ 0x0A ∷ []) (omega arith)) (3 * len_utf8 c) (omega arith))
    (λ _. plain-length (wide_escape style.mode c) (encodes-plain (wide_escape style.mode c) (wide-plain style.mode c)) (3 * len_utf8 c) (wide_bound style.mode c (leb-true 0x80 c (and_parts (leb 0x80 c) style.ascii_only t).0))))
    (λ _. cond_both (eqb c 0x2F && eqb before 0x3C && opens script cs && style.tags) (0x5C ∷ 0x2F ∷ []) (c ∷ []) P
    (λ _. plain-length (0x5C ∷ 0x2F ∷ []) (encodes-plain (0x5C ∷ 0x2F ∷ []) (omega arith)) (3 * len_utf8 c) (omega arith))
    (λ _. omega (arith, ap length (append-nil (encode c)), length-encode c))))
  where
    P : List ℕ → Type 0
    P t = length (encodes t) ≤ 3 * len_utf8 c

walk_bound : (style : RawStyle) (odd : Bool) (before : ℕ) (cs : List ℕ) → length (encodes (walk_in style odd before cs)) ≤ 3 * length (encodes cs)
walk_bound style odd before [] = omega arith
walk_bound style odd before (c ∷ cs) =
    let t = turn_in style odd before c cs in
    let e = ap length (encodes-append t (walk_in style (odd_behind odd c) c cs)) ∙ length-append (encodes t) (encodes (walk_in style (odd_behind odd c) c cs)) in
    let d = length-append (encode c) (encodes cs) in
    let w = length-encode c in
    let f = turn_bound style odd before c cs in
    let r = walk_bound style (odd_behind odd c) c cs in
    omega arith

pub raw_bound : (style : RawStyle) (odd : Bool) (s : List ℕ) → Fit false s → length (raw_body style odd s) ≤ 3 * length s
unfolding raw_body
raw_bound style odd s f = let e = ap length f.0 in let b = walk_bound style odd 0 (code_points s) in omega arith

-- a turn prints as many bytes as it says

puts_size : (mode : NonAsciiEscape) (s : List ℕ) (r : RawTurn) → raw_takes r ≤ length s → length (raw_puts mode s r) ≡ raw_size mode r
puts_size mode s (Keep n) h = length-take-le n s h
puts_size mode s Drop h = refl
puts_size mode s (Escaped c n) h = refl
puts_size mode s (LineEnd n) h = refl
puts_size mode s Tag h = refl

pub counted : {from to : RawState} {r : RawTurn} → RawTaken from to r → length (raw_ahead from) ≡ raw_size to.style.mode r + length (raw_ahead to)
counted {from} {to} {r} t = ap length t.shown ∙ length-append (raw_puts to.style.mode from.rest.now r) (raw_ahead to) ∙ ap (λ n. n + length (raw_ahead to)) (puts_size to.style.mode from.rest.now r t.within)
