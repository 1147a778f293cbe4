-- What holds of raw text that is printed. Raw text is given by its bytes.
use Rattle.std.specs.Prelude.{◌≡◌, ℕ, ◌<◌, Bool, true, false, List, [], ◌++◌, drop}
use Rattle.std.specs.List.{AllByRecursion}
use Rattle.ecma262.specs.declared.Quote.{Quote}
use Rattle.ecma262.specs.declared.Quote.TheVariants.{Backtick}
use Rattle.ecma262.specs.Literals.{NotAhead, Characters}
use Rattle.ecma262.specs.Lookahead.{opens}
use Rattle.ecma262.specs.Names.{GoesOn, IdentifierName}
use Rattle.literal.specs.Escapes.{tag}
use Rattle.literal.specs.Raw.{piece, tagged_piece, directive, regex_pattern, name}
use Rattle.literal.specs.Regex.{regex_units}
use Rattle.text.specs.Sequence.{code_points}

-- no </script, in any ASCII case, at any place
abbrev pub Tagless : List ℕ → Type 0
Tagless printed = (place : ℕ) → opens tag (drop place printed) ≡ false

-- where ASCII is asked for, each byte is below 128
abbrev pub Ascii : Bool → List ℕ → Type 0
Ascii ascii printed = ascii ≡ true → AllByRecursion (λ b. b < 128) printed

-- A printed piece is template text again, of the TV of what was given, and of no other.
pub record PieceValueKept (minify ascii : Bool) (bytes : List ℕ) : Type 0 where
  pub tv : List ℕ
  pub given : Characters Backtick (code_points bytes) [] tv
  pub printed : Characters Backtick (piece minify ascii (code_points bytes)) [] tv
  pub alone : (other : List ℕ) → Characters Backtick (piece minify ascii (code_points bytes)) [] other → other ≡ tv

-- A printed tagged piece has the TV of what was given, and none if that has none.
abbrev pub TaggedValueKept : List ℕ → Type 0
TaggedValueKept bytes =
    (tv : List ℕ) →
    (Characters Backtick (code_points bytes) [] tv → Characters Backtick (tagged_piece (code_points bytes)) [] tv)
    × (Characters Backtick (tagged_piece (code_points bytes)) [] tv → Characters Backtick (code_points bytes) [] tv)

-- What may stand between quotes q may stand there again, with the same value.
abbrev pub DirectiveValueKept : Bool → List ℕ → Type 0
DirectiveValueKept ascii bytes = (q : Quote) (sv : List ℕ) → Characters q (code_points bytes) [] sv → Characters q (directive ascii (code_points bytes)) [] sv

-- A pattern keeps its tokens: the code units above 7F, however they are written, and all ASCII between them.
abbrev pub PatternKept : Bool → List ℕ → Type 0
PatternKept ascii bytes = regex_units 0 (regex_pattern ascii (code_points bytes)) ≡ regex_units 0 (code_points bytes)

-- A printed name is, before what does not go on with it, an IdentifierName of the name's code points.
abbrev pub NameReadBack : Bool → List ℕ → Type 0
NameReadBack ascii bytes = (rest : List ℕ) → NotAhead GoesOn rest → IdentifierName (name ascii (code_points bytes) ++ rest) rest (code_points bytes)
