-- What holds of the literal that is printed of a text. A text is given by its bytes.
use Rattle.std.specs.Prelude.{◌≡◌, ℕ, ◌<◌, ◌≤◌, Bool, true, false, List, ◌++◌, length, drop}
use Rattle.std.specs.List.{AllByRecursion}
use Rattle.ecma262.specs.declared.Quote.{Quote}
use Rattle.ecma262.specs.Literals.{Literal}
use Rattle.ecma262.specs.Lookahead.{opens}
use Rattle.ecma262.specs.Units.{units}
use Rattle.literal.specs.Escapes.{tag}
use Rattle.literal.specs.Quotes.{permitted}
use Rattle.text.specs.declared.well_formed.Encoding.TheVariants.{Utf8}
use Rattle.text.specs.Sequence.{code_points}
use Rattle.text.specs.Wtf8.{WellFormed}
use Rattle.options.specs.declared.CodegenOptions.{CodegenOptions}
use Rattle.codegen.specs.Strings.{source_text, quoted, literal_bytes}

-- the UTF-16 code units of a text
abbrev pub text_units : List ℕ → List ℕ
text_units bytes = units (code_points bytes)

-- By ECMA-262 the literal is read as the text's units, whatever follows it.
abbrev pub ReadBack : Quote → Bool → List ℕ → Type 0
ReadBack q ascii bytes = (rest : List ℕ) → Literal q (source_text q ascii bytes ++ rest) rest (text_units bytes)

-- The bytes that are printed are UTF-8, and read as the literal's source text.
abbrev pub InUtf8 : Quote → Bool → List ℕ → Type 0
InUtf8 q ascii bytes = WellFormed Utf8 (quoted q ascii bytes) × (code_points (quoted q ascii bytes) ≡ source_text q ascii bytes)

-- It is read in no other way.
abbrev pub ReadOnce : Quote → Bool → List ℕ → Type 0
ReadOnce q ascii bytes =
    (rest end value : List ℕ) → Literal q (source_text q ascii bytes ++ rest) end value → (end ≡ rest) × (value ≡ text_units bytes)

-- Its bytes hold no </script, in any ASCII case, at any place.
abbrev pub NoScriptEnd : Quote → Bool → List ℕ → Type 0
NoScriptEnd q ascii bytes = (place : ℕ) → opens tag (drop place (quoted q ascii bytes)) ≡ false

-- Where ASCII is asked for, each byte is below 128.
abbrev pub AsciiIfAsked : Quote → Bool → List ℕ → Type 0
AsciiIfAsked q ascii bytes = ascii ≡ true → AllByRecursion (λ b. b < 128) (quoted q ascii bytes)

-- Under minify every permitted quote gives a literal of at least as many bytes.
abbrev pub ShortestUnderMinify : CodegenOptions → Bool → List ℕ → Type 0
ShortestUnderMinify o allow bytes =
    o.minify ≡ true → (q : Quote) → permitted allow q ≡ true → length (literal_bytes o allow bytes) ≤ length (quoted q o.ascii_only bytes)
