-- The bytes that are printed of raw text, which is given in bytes.
use Rattle.std.specs.Prelude.{ℕ, Bool, List}
use Rattle.std.proofs.Math.Utf8.{encodes}
use Rattle.literal.specs.Raw.{piece, tagged_piece, directive, regex_pattern, name}
use Rattle.text.specs.Sequence.{code_points}

-- a piece of an untagged template, under minify or not, and in ASCII or not
unfoldable pub piece_bytes : Bool → Bool → List ℕ → List ℕ
piece_bytes minify ascii bytes = encodes (piece minify ascii (code_points bytes))

-- a piece of a tagged template
unfoldable pub tagged_bytes : List ℕ → List ℕ
tagged_bytes bytes = encodes (tagged_piece (code_points bytes))

-- a directive's text
unfoldable pub directive_bytes : Bool → List ℕ → List ℕ
directive_bytes ascii bytes = encodes (directive ascii (code_points bytes))

-- a regular expression's pattern
unfoldable pub regex_bytes : Bool → List ℕ → List ℕ
regex_bytes ascii bytes = encodes (regex_pattern ascii (code_points bytes))

unfoldable pub name_bytes : Bool → List ℕ → List ℕ
name_bytes ascii bytes = encodes (name ascii (code_points bytes))
