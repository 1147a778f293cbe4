-- The pattern of a regular expression as a list of tokens, in which it does not matter how a code unit above 7F is written: as part of a
-- character, behind a backslash that only quotes it, or as \u and four digits (ECMA-262, 22.2.1, RegExpUnicodeEscapeSequence and
-- IdentityEscape). All else of the pattern is ASCII and stays token by token as it stands; what it matches is not looked at.
use Rattle.std.specs.Prelude.{ℕ, zero, suc, ◌+◌, ◌*◌, cond, List, [], ◌∷◌, ◌++◌, Some, None, Option, ◌==◌, nat_le}
use Rattle.ecma262.specs.Read.{hex_value}
use Rattle.ecma262.specs.Units.{utf16}

-- a UTF-16 code unit that stands for itself; an ASCII character as it stands; a backslash and an ASCII character
pub data RegexUnit : Type 0 where
  unit : ℕ → RegexUnit
  plain : ℕ → RegexUnit
  escaped : ℕ → RegexUnit

abbrev pub units_of : List ℕ → List RegexUnit
units_of [] = []
units_of (u ∷ us) = unit u ∷ units_of us

-- a character that no backslash stands before
abbrev pub character_units : ℕ → List RegexUnit
character_units c = cond (nat_le 0x80 c) (units_of (utf16 c)) (plain c ∷ [])

-- what is read with the value of a digit, if it is one
abbrev pub with_digit : Option ℕ → (ℕ → Option ℕ) → Option ℕ
with_digit None f = None
with_digit (Some v) f = f v

-- the number that so many hexadecimal digits at the front of s have, behind digits of the value sofar
abbrev pub hex_number : ℕ → ℕ → List ℕ → Option ℕ
hex_number zero sofar s = Some sofar
hex_number (suc count) sofar [] = None
hex_number (suc count) sofar (d ∷ s) = with_digit (hex_value d) (λ v. hex_number count (sofar * 16 + v) s)

-- the unit of u and four digits
abbrev pub unicode_unit : ℕ → List ℕ → Option ℕ
unicode_unit c cs = cond (c == 0x75) (hex_number 4 0 cs) None

-- a backslash and the ASCII character c, or the unit that was read of it and four digits
abbrev pub escaped_unit : ℕ → Option ℕ → RegexUnit
escaped_unit c None = escaped c
escaped_unit c (Some u) = unit u

abbrev pub digit_count : Option ℕ → ℕ
digit_count None = 0
digit_count (Some u) = 4

-- the tokens of a backslash in front of cs
abbrev pub escape_units : List ℕ → List RegexUnit
escape_units [] = plain 0x5C ∷ []
escape_units (c ∷ cs) = cond (nat_le 0x80 c) (units_of (utf16 c)) (escaped_unit c (unicode_unit c cs) ∷ [])

-- how many characters of cs belong to them
abbrev pub escape_length : List ℕ → ℕ
escape_length [] = 0
escape_length (c ∷ cs) = suc (digit_count (unicode_unit c cs))

-- the tokens of a pattern behind as many characters as skip says, which were read before
abbrev pub regex_units : ℕ → List ℕ → List RegexUnit
regex_units skip [] = []
regex_units (suc skip) (c ∷ cs) = regex_units skip cs
regex_units zero (c ∷ cs) = cond (c == 0x5C) (escape_units cs ++ regex_units (escape_length cs) cs) (character_units c ++ regex_units zero cs)
