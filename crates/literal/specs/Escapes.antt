-- What is printed of a text between quotes: a list of rules, of which the first that applies to a character is followed.
-- Texts are lists of code points.
use Rattle.std.specs.Prelude.{ℕ, ◌+◌, ◌/◌, ◌%◌, Bool, true, false, cond, not, ◌&&◌, List, [], ◌∷◌, ◌++◌, Some, None, Option, ◌==◌, nat_eq, nat_le, nat_lt}
use Rattle.ecma262.specs.Units.{mark}
use Rattle.ecma262.specs.Lookahead.{opens, digit}
use Rattle.ecma262.specs.declared.Quote.{Quote}
use Rattle.ecma262.specs.declared.Quote.TheVariants.{Single, Double, Backtick}
use Rattle.literal.specs.declared.HexCase.{HexCase}
use Rattle.literal.specs.declared.HexCase.TheVariants.{Lower, Upper}
use Rattle.literal.specs.declared.EscapeSequence.{EscapeSequence}
use Rattle.literal.specs.declared.EscapeSequence.TheVariants.{Null, Character, Hex, Unicode, CodePoint}

abbrev pub is_backtick : Quote → Bool
is_backtick Single = false
is_backtick Double = false
is_backtick Backtick = true

-- c is w, where a capital letter of ASCII is taken as the small one
abbrev pub same_letter : ℕ → ℕ → Bool
same_letter w c = cond (nat_le 0x41 c && nat_le c 0x5A) (c + 0x20) c == w

-- the word script in any case of its letters
abbrev pub script : List (ℕ → Bool)
script = same_letter 0x73 ∷ same_letter 0x63 ∷ same_letter 0x72 ∷ same_letter 0x69 ∷ same_letter 0x70 ∷ same_letter 0x74 ∷ []

-- </script, by which HTML ends a script wherever it stands
abbrev pub tag : List (ℕ → Bool)
tag = nat_eq 0x3C ∷ nat_eq 0x2F ∷ script

-- the letter of a hexadecimal digit n from 10 on
abbrev pub hex_letter : HexCase → ℕ → ℕ
hex_letter Lower n = 0x57 + n
hex_letter Upper n = 0x37 + n

abbrev pub hex_digit : HexCase → ℕ → ℕ
hex_digit letters n = cond (nat_lt n 10) (0x30 + n) (hex_letter letters n)

-- the last five hexadecimal digits of c, and the brace that closes a code point
abbrev pub five_digits : ℕ → List ℕ
five_digits c =
    hex_digit Upper (c / 0x10000 % 0x10) ∷ hex_digit Upper (c / 0x1000 % 0x10) ∷ hex_digit Upper (c / 0x100 % 0x10)
    ∷ hex_digit Upper (c / 0x10 % 0x10) ∷ hex_digit Upper (c % 0x10) ∷ 0x7D ∷ []

-- what stands behind the backslash in an escape of c; a code point has five digits, or six from 100000 on
abbrev pub behind : ℕ → EscapeSequence → List ℕ
behind c Null = 0x30 ∷ []
behind c (Character e) = e ∷ []
behind c Hex = 0x78 ∷ hex_digit Upper (c / 0x10 % 0x10) ∷ hex_digit Upper (c % 0x10) ∷ []
behind c (Unicode letters) =
    0x75 ∷ hex_digit letters (c / 0x1000 % 0x10) ∷ hex_digit letters (c / 0x100 % 0x10) ∷ hex_digit letters (c / 0x10 % 0x10)
    ∷ hex_digit letters (c % 0x10) ∷ []
behind c CodePoint =
    0x75 ∷ 0x7B ∷ cond (nat_lt c 0x100000) [] (0x31 ∷ []) ++ five_digits c

-- whether the rule applies, and the escape that it asks for
infix 6 ◌⇒◌
pub data Rule : Type 0 where
  ◌⇒◌ : Bool → EscapeSequence → Rule

-- the rules of a character c in front of the text cs that depend on the quotes
abbrev pub quote_rules : Quote → ℕ → List ℕ → List Rule
quote_rules q c cs =
    (not (is_backtick q) && nat_eq c 0x0A ⇒ Character 0x6E)
    ∷ (nat_eq c (mark q) ⇒ Character (mark q))
    ∷ (is_backtick q && c == 0x24 && opens (nat_eq 0x7B ∷ []) cs ⇒ Character 0x24)
    ∷ []

-- the other rules, in which before is the character in front of c, and ascii asks for ASCII alone
unfoldable pub other_rules : Bool → ℕ → ℕ → List ℕ → List Rule
other_rules ascii before c cs =
    (c == 0x00 && opens (digit ∷ []) cs ⇒ Hex)
    ∷ (c == 0x00 && not (opens (digit ∷ []) cs) ⇒ Null)
    ∷ (nat_eq c 0x07 ⇒ Hex)
    ∷ (nat_eq c 0x08 ⇒ Character 0x62)
    ∷ (nat_eq c 0x0B ⇒ Character 0x76)
    ∷ (nat_eq c 0x0C ⇒ Character 0x66)
    ∷ (nat_eq c 0x0D ⇒ Character 0x72)
    ∷ (nat_eq c 0x1B ⇒ Hex)
    ∷ (nat_eq c 0x5C ⇒ Character 0x5C)
    ∷ (c == 0x2F && before == 0x3C && opens script cs ⇒ Character 0x2F)
    ∷ (nat_le 0xD800 c && nat_le c 0xDFFF ⇒ Unicode Lower)
    ∷ (nat_le 0x80 c && nat_le c 0xFFFF && ascii ⇒ Unicode Upper)
    ∷ (nat_le 0x10000 c && ascii ⇒ CodePoint)
    ∷ (nat_eq c 0xA0 ⇒ Hex)
    ∷ (nat_eq c 0x2028 ⇒ Unicode Upper)
    ∷ (nat_eq c 0x2029 ⇒ Unicode Upper)
    ∷ []

abbrev pub rules : Quote → Bool → ℕ → ℕ → List ℕ → List Rule
rules q ascii before c cs = quote_rules q c cs ++ other_rules ascii before c cs

-- what is printed of c by the first rule that applies; c itself if none does
abbrev pub first : ℕ → List Rule → List ℕ
first c [] = c ∷ []
first c ((applies ⇒ e) ∷ rs) = cond applies (0x5C ∷ behind c e) (first c rs)

-- the escape that the first rule that applies asks for
abbrev pub pick : List Rule → Option EscapeSequence
pick [] = None
pick ((applies ⇒ e) ∷ rs) = cond applies (Some e) (pick rs)

-- what is printed of a text that follows the character before
abbrev pub printed : Quote → Bool → ℕ → List ℕ → List ℕ
printed q ascii before [] = []
printed q ascii before (c ∷ cs) = first c (rules q ascii before c cs) ++ printed q ascii c cs

-- what is printed of a whole text between the quotes
abbrev pub escaped : Quote → Bool → List ℕ → List ℕ
escaped q ascii text = printed q ascii 0 text

-- the same with the quotes: the literal of a text
abbrev pub literal : Quote → Bool → List ℕ → List ℕ
literal q ascii text = mark q ∷ (escaped q ascii text ++ (mark q ∷ []))
