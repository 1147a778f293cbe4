-- The literal of a text: its quotes by the options, and its bytes.
use Rattle.std.specs.Prelude.{ℕ, Bool, cond, List, [], ◌∷◌, Some, None, Option}
use Rattle.std.proofs.Math.Utf8.{encodes}
use Rattle.ecma262.specs.declared.Quote.{Quote}
use Rattle.ecma262.specs.declared.Quote.TheVariants.{Single, Double}
use Rattle.ecma262.specs.Units.{mark}
use Rattle.literal.specs.Escapes.{literal}
use Rattle.literal.specs.Quotes.{chosen}
use Rattle.text.specs.Sequence.{code_points}
use Rattle.options.specs.declared.CodegenOptions.{CodegenOptions}
use Rattle.codegen.specs.declared.print.StringStyle.{StringStyle}

-- the quote that the options give, unless it is to be chosen by the text
abbrev pub quote_asked : CodegenOptions → Option Quote
quote_asked o = cond o.minify None (Some (cond o.single_quote Single Double))

-- the quote for the code points of a text: under minify the cheapest, else as the options ask
abbrev pub quote_for : CodegenOptions → Bool → List ℕ → Quote
quote_for o allow text = cond o.minify (chosen allow text) (cond o.single_quote Single Double)

-- the quote that is settled, or will be: the one that suits the rest of the text
abbrev pub settled : Option Quote → Bool → List ℕ → Quote
settled (Some q) allow rest = q
settled None allow rest = chosen allow (code_points rest)

-- the opening quote, where it is still to be printed
abbrev pub opening : Option Quote → Quote → List ℕ
opening (Some p) q = []
opening None q = mark q ∷ []

-- the opening quote, where it was known from the start
abbrev pub opened : Option Quote → List ℕ
opened (Some q) = mark q ∷ []
opened None = []

-- the code points of a literal in quotes q, of a text that is given in bytes
abbrev pub source_text : Quote → Bool → List ℕ → List ℕ
source_text q ascii bytes = literal q ascii (code_points bytes)

-- and its bytes
unfoldable pub quoted : Quote → Bool → List ℕ → List ℕ
quoted q ascii bytes = encodes (source_text q ascii bytes)

-- the bytes of the literal of a text in a style
abbrev pub literal_in : StringStyle → List ℕ → List ℕ
literal_in style bytes = quoted (settled style.quote style.allow_backtick bytes) style.ascii_only bytes

-- the quote for a text in bytes
abbrev pub quote_of_text : CodegenOptions → Bool → List ℕ → Quote
quote_of_text o allow bytes = quote_for o allow (code_points bytes)

-- the bytes of the literal of a text under the options
abbrev pub literal_bytes : CodegenOptions → Bool → List ℕ → List ℕ
literal_bytes o allow bytes = quoted (quote_of_text o allow bytes) o.ascii_only bytes
