-- The escapes by hexadecimal digits are read as the character.
use Rattle.std.proofs.lemmas.Bool.Decides.{nat_tests}
use Rattle.std.proofs.Common.{◌≡◌, ℕ, ◌+◌, ◌*◌, ◌/◌, ◌%◌, ◌<◌, ◌≤◌, ltb, List, [], ◌∷◌, ◌++◌, refl, subst, arith}
use Rattle.std.proofs.lemmas.Bool.{cond_both, ltb-true, ltb-false}
use Rattle.ecma262.specs.Units.{utf16}
use Rattle.ecma262.specs.Literals.{HexDigit, HexDigits, EscapeSequence}
use Rattle.ecma262.specs.Literals.HexDigit.{decimal}
use Rattle.ecma262.specs.Literals.HexDigits.{last, more}
use Rattle.ecma262.specs.Literals.EscapeSequence.{hex, unicode, code_point}
use Rattle.literal.specs.Escapes.{hex_digit, five_digits, behind}
use Rattle.literal.specs.declared.HexCase.{HexCase}
use Rattle.literal.specs.declared.HexCase.TheVariants.{Lower, Upper}
use Rattle.literal.specs.declared.EscapeSequence.TheVariants.{Hex, Unicode, CodePoint}

-- a character of one unit, as it was computed from digits
pub one_unit : (c n : ℕ) → c < 0x10000 → n ≡ c → n ∷ [] ≡ utf16 c
one_unit c n h e = grind (arith, nat_tests)

pub valued : {s rest u v : List ℕ} → u ≡ v → EscapeSequence s rest u → EscapeSequence s rest v
valued {s} {rest} e h = subst (λ u. EscapeSequence s rest u) e h

pub digit : (letters : HexCase) (n : ℕ) → n < 16 → HexDigit (hex_digit letters n) n
digit Upper n h = grind (arith, nat_tests)
digit Lower n h = grind (arith, nat_tests)

-- a division by 16 more
pub steps : (c : ℕ) →
    (c / 0x10 / 0x10 ≡ c / 0x100) × (c / 0x100 / 0x10 ≡ c / 0x1000) × (c / 0x1000 / 0x10 ≡ c / 0x10000) × (c / 0x10000 / 0x10 ≡ c / 0x100000)
steps c = omega arith

pub by_two : (c : ℕ) (rest : List ℕ) → c < 0x100 → EscapeSequence (behind c Hex ++ rest) rest (utf16 c)
by_two c rest h =
    valued (one_unit c (c / 0x10 % 0x10 * 16 + c % 0x10) (omega arith) (omega arith))
    (hex (digit Upper (c / 0x10 % 0x10) (omega arith)) (digit Upper (c % 0x10) (omega arith)))

pub by_four : (letters : HexCase) (c : ℕ) (rest : List ℕ) → c < 0x10000 → EscapeSequence (behind c (Unicode letters) ++ rest) rest (utf16 c)
by_four letters c rest h =
    valued (one_unit c (((c / 0x1000 % 0x10 * 16 + c / 0x100 % 0x10) * 16 + c / 0x10 % 0x10) * 16 + c % 0x10) h (omega (arith, steps c)))
    (unicode (digit letters (c / 0x1000 % 0x10) (omega arith)) (digit letters (c / 0x100 % 0x10) (omega arith))
    (digit letters (c / 0x10 % 0x10) (omega arith)) (digit letters (c % 0x10) (omega arith)))

pub by_braces : (c : ℕ) (rest : List ℕ) → 0x10000 ≤ c → c ≤ 0x10FFFF → EscapeSequence (behind c CodePoint ++ rest) rest (utf16 c)
by_braces c rest l h =
    cond_both (ltb c 0x100000) [] (0x31 ∷ []) (λ ds. EscapeSequence (0x75 ∷ 0x7B ∷ ((ds ++ five_digits c) ++ rest)) rest (utf16 c))
    (λ t. let b = ltb-true c 0x100000 t in code_point (read 0 (omega arith)) h)
    (λ f. let b = ltb-false c 0x100000 f in code_point (more {v = 1} (decimal (omega arith) refl) (read 1 (omega arith))) h)
  where
    read : (n : ℕ) → n ≡ c / 0x100000 → HexDigits n (five_digits c ++ rest) (0x7D ∷ rest) c
    read n e =
        subst (λ m. HexDigits n (five_digits c ++ rest) (0x7D ∷ rest) m) (omega (arith, steps c))
        (more (digit Upper (c / 0x10000 % 0x10) (omega arith)) (more (digit Upper (c / 0x1000 % 0x10) (omega arith)) (more (digit Upper (c / 0x100 % 0x10) (omega arith))
        (more (digit Upper (c / 0x10 % 0x10) (omega arith)) (last (digit Upper (c % 0x10) (omega arith)))))))
