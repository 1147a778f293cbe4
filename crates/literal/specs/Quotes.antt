-- The choice of the quotes that make a literal shortest.
use Rattle.std.specs.Prelude.{ℕ, ◌+◌, Bool, true, cond, ◌&&◌, ◌||◌, List, [], ◌∷◌, ◌==◌, nat_eq, nat_le}
use Rattle.ecma262.specs.Units.{mark}
use Rattle.ecma262.specs.Lookahead.{opens}
use Rattle.ecma262.specs.declared.Quote.{Quote}
use Rattle.ecma262.specs.declared.Quote.TheVariants.{Single, Double, Backtick}
use Rattle.literal.specs.Escapes.{is_backtick}

-- what a character c in front of cs adds to the cost of q: a backslash before q itself, and between backticks before ${
abbrev pub adds : Quote → ℕ → List ℕ → ℕ
adds q c cs = cond (c == mark q || is_backtick q && c == 0x24 && opens (nat_eq 0x7B ∷ []) cs) 1 0

-- what it takes off: a line feed between backticks stands for itself, and elsewhere is \n
abbrev pub takes : Quote → ℕ → ℕ
takes q c = cond (is_backtick q && c == 0x0A) 1 0

-- the same of a whole text
abbrev pub added : Quote → List ℕ → ℕ
added q [] = 0
added q (c ∷ cs) = adds q c cs + added q cs

abbrev pub taken : Quote → List ℕ → ℕ
taken q [] = 0
taken q (c ∷ cs) = takes q c + taken q cs

-- p costs at most what q costs: added p - taken p ≤ added q - taken q
abbrev pub no_dearer : Quote → Quote → List ℕ → Bool
no_dearer p q text = nat_le (added p text + taken q text) (added q text + taken p text)

-- a backtick is used only where a template may stand in place of a string
abbrev pub permitted : Bool → Quote → Bool
permitted backtick Single = true
permitted backtick Double = true
permitted backtick Backtick = backtick

-- the cheaper of the quotes of strings, at a tie the double quote
abbrev pub string_quote : List ℕ → Quote
string_quote text = cond (no_dearer Double Single text) Double Single

-- the cheapest permitted quote, at a tie the backtick, and then the double quote
abbrev pub chosen : Bool → List ℕ → Quote
chosen backtick text = cond (backtick && no_dearer Backtick (string_quote text) text) Backtick (string_quote text)
