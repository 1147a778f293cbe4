-- Source text, the quotes, and the UTF-16 code units of code points (ECMA-262, 11.1.1 UTF16EncodeCodePoint).
use Rattle.std.specs.Prelude.{ℕ, ◌+◌, ◌-◌, ◌/◌, ◌%◌, ◌≤◌, cond, List, [], ◌∷◌, ◌++◌, nat_lt}
use Rattle.std.specs.List.{AllByRecursion}
use Rattle.ecma262.specs.declared.Quote.{Quote}
use Rattle.ecma262.specs.declared.Quote.TheVariants.{Single, Double, Backtick}

-- code points, lone surrogates among them
abbrev pub Text : List ℕ → Type 0
Text = AllByRecursion (λ c. c ≤ 0x10FFFF)

-- the code point of a quote
abbrev pub mark : Quote → ℕ
mark Single = 0x27
mark Double = 0x22
mark Backtick = 0x60

-- the units of a code point; a surrogate is its own unit
abbrev pub utf16 : ℕ → List ℕ
utf16 c =
    cond (nat_lt c 0x10000) (c ∷ [])
    ((0xD800 + (c - 0x10000) / 0x400) ∷ (0xDC00 + (c - 0x10000) % 0x400) ∷ [])

-- the units of a text: the string value that it stands for
abbrev pub units : List ℕ → List ℕ
units [] = []
units (c ∷ cs) = utf16 c ++ units cs
