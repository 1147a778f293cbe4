-- The theorems on raw text that is printed.
use Rattle.std.specs.Prelude.{◌≡◌, ℕ, ◌<◌, Bool, true, false, List, [], ◌++◌, drop}
use Rattle.std.proofs.Math.Utf8.{encodes}
use Rattle.std.specs.List.{AllByRecursion}
use Rattle.ecma262.specs.Units.{Text}
use Rattle.ecma262.specs.Lookahead.{opens}
use Rattle.ecma262.specs.Literals.{NotAhead, Characters}
use Rattle.ecma262.specs.Names.{GoesOn, IdentifierName, NameText}
use Rattle.ecma262.specs.declared.Quote.{Quote}
use Rattle.ecma262.specs.declared.Quote.TheVariants.{Backtick}
use Rattle.literal.specs.Escapes.{tag}
use Rattle.literal.specs.Raw.{piece, tagged_piece, directive, regex_pattern, name}
use Rattle.literal.specs.RawWalk.{raw_walk}
use Rattle.literal.specs.Regex.{regex_units}
use Rattle.literal.specs.declared.NonAsciiEscape.TheVariants.{Identifier, RegExp, TemplateRaw, Directive}

-- The steps of a piece, one after the other, print what one walk prints.
abbrev pub PieceInOneWalk : Type 0
PieceInOneWalk = (minify ascii : Bool) (text : List ℕ) → piece minify ascii text ≡ raw_walk minify ascii TemplateRaw true false 0 text

-- So does the step of a tagged piece.
abbrev pub TaggedInOneWalk : Type 0
TaggedInOneWalk = (text : List ℕ) → tagged_piece text ≡ raw_walk false false TemplateRaw true false 0 text

-- So does that of a directive, of a regular expression and of a name.
abbrev pub OthersInOneWalk : Type 0
OthersInOneWalk =
    (ascii : Bool) (text : List ℕ) →
    (directive ascii text ≡ raw_walk false ascii Directive false false 0 text)
    × (regex_pattern ascii text ≡ raw_walk false ascii RegExp false false 0 text)
    × (name ascii text ≡ raw_walk false ascii Identifier false false 0 text)

-- Template text, printed as a piece, is template text again, with the same TV.
abbrev pub PieceKept : Type 0
PieceKept = (minify ascii : Bool) (text u : List ℕ) → Characters Backtick text [] u → Characters Backtick (piece minify ascii text) [] u

-- A tagged piece has the TV of what was given, and none if that has none.
abbrev pub TaggedKept : Type 0
TaggedKept =
    (text u : List ℕ) →
    (Characters Backtick text [] u → Characters Backtick (tagged_piece text) [] u)
    × (Characters Backtick (tagged_piece text) [] u → Characters Backtick text [] u)

-- What stands between quotes q, printed as a directive, may stand there again, with the same value.
abbrev pub DirectiveKept : Type 0
DirectiveKept = (q : Quote) (ascii : Bool) (text u : List ℕ) → Characters q text [] u → Characters q (directive ascii text) [] u

-- A pattern, printed again, has the same tokens: the same units above 7F, and the same ASCII between them. This says nothing of
-- flags, classes or groups, nor whether the pattern is one.
abbrev pub RegexKept : Type 0
RegexKept = (ascii : Bool) (text : List ℕ) → Text text → regex_units 0 (regex_pattern ascii text) ≡ regex_units 0 text

-- A printed name is, in front of what does not go on with it, an IdentifierName of the name's code points.
abbrev pub NameRead : Type 0
NameRead = (ascii : Bool) (text rest : List ℕ) → NameText text → NotAhead GoesOn rest → IdentifierName (name ascii text ++ rest) rest text

-- No piece holds </script, in any case of its letters, at any place, be it of code points or of bytes.
abbrev pub PieceTagless : Type 0
PieceTagless =
    (minify ascii : Bool) (text : List ℕ) (place : ℕ) →
    (opens tag (drop place (piece minify ascii text)) ≡ false) × (opens tag (drop place (encodes (piece minify ascii text))) ≡ false)

-- Nor does a tagged piece.
abbrev pub TaggedTagless : Type 0
TaggedTagless =
    (text : List ℕ) (place : ℕ) →
    (opens tag (drop place (tagged_piece text)) ≡ false) × (opens tag (drop place (encodes (tagged_piece text))) ≡ false)

-- Where ASCII is asked for, every byte that is printed is ASCII.
abbrev pub RawAscii : Type 0
RawAscii =
    (minify : Bool) (text : List ℕ) →
    AllByRecursion (λ b. b < 128) (encodes (piece minify true text))
    × AllByRecursion (λ b. b < 128) (encodes (directive true text))
    × AllByRecursion (λ b. b < 128) (encodes (regex_pattern true text))
    × AllByRecursion (λ b. b < 128) (encodes (name true text))
