-- The theorems on the literal that is printed of a text, whose code points are at most 10FFFF, lone surrogates among them.
use Rattle.std.specs.Prelude.{◌≡◌, ℕ, ◌<◌, ◌≤◌, Bool, true, false, List, ◌++◌, length, drop}
use Rattle.std.proofs.Math.Utf8.{encodes, scalars}
use Rattle.std.specs.List.{AllByRecursion}
use Rattle.ecma262.specs.Units.{Text, units}
use Rattle.ecma262.specs.Lookahead.{opens}
use Rattle.ecma262.specs.Literals.{Literal}
use Rattle.ecma262.specs.Read.{whole}
use Rattle.ecma262.specs.Read.Got.{got}
use Rattle.ecma262.specs.declared.Quote.{Quote}
use Rattle.literal.specs.Escapes.{tag, literal}
use Rattle.literal.specs.Quotes.{permitted, chosen}

-- A literal is, by ECMA-262, a literal with the text's value, whatever follows it.
abbrev pub Denoted : Type 0
Denoted = (q : Quote) (ascii : Bool) (text rest : List ℕ) → Text text → Literal q (literal q ascii text ++ rest) rest (units text)

-- The function that reads literals gives back what was printed.
abbrev pub Returned : Type 0
Returned = (q : Quote) (ascii : Bool) (text rest : List ℕ) → Text text → whole q (literal q ascii text ++ rest) ≡ got rest (units text)

-- A literal holds Unicode scalar values alone, so that its bytes are UTF-8, even if the text has lone surrogates.
abbrev pub Scalars : Type 0
Scalars = (q : Quote) (ascii : Bool) (text : List ℕ) → Text text → scalars (literal q ascii text) ≡ true

-- A literal holds no </script, in any case of its letters, at any place.
abbrev pub Tagless : Type 0
Tagless = (q : Quote) (ascii : Bool) (text : List ℕ) (place : ℕ) → opens tag (drop place (literal q ascii text)) ≡ false

-- Nor do its bytes.
abbrev pub InBytes : Type 0
InBytes = (q : Quote) (ascii : Bool) (text : List ℕ) (place : ℕ) → opens tag (drop place (encodes (literal q ascii text))) ≡ false

-- Where ASCII is asked for, every byte of a literal is ASCII.
abbrev pub Plain : Type 0
Plain = (q : Quote) (text : List ℕ) → AllByRecursion (λ b. b < 128) (encodes (literal q true text))

-- No permitted quote gives a literal of fewer bytes than the chosen one.
abbrev pub Shortest : Type 0
Shortest =
    (q : Quote) (ascii backtick : Bool) (text : List ℕ) → permitted backtick q ≡ true →
    length (encodes (literal (chosen backtick text) ascii text)) ≤ length (encodes (literal q ascii text))

-- what holds of the literal of a text in quotes q, for the contract of a printer
pub record Stands (q : Quote) (ascii : Bool) (text : List ℕ) : Type 0 where
  pub denotes : (rest : List ℕ) → Literal q (literal q ascii text ++ rest) rest (units text)
  pub tagless : (place : ℕ) → opens tag (drop place (encodes (literal q ascii text))) ≡ false
  pub plain : ascii ≡ true → AllByRecursion (λ b. b < 128) (encodes (literal q ascii text))

-- All of this holds of the literal of every text.
abbrev pub Standing : Type 0
Standing = (q : Quote) (ascii : Bool) (text : List ℕ) → Text text → Stands q ascii text
