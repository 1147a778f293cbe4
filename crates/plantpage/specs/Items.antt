-- The items of a page: what a call of each kind prints of its text, and then a comma and a line feed.
use Rattle.std.specs.Prelude.{ℕ, true, false, List, [], ◌∷◌, ◌++◌}
use Rattle.ecma262.specs.declared.Quote.TheVariants.{Backtick}
use Rattle.options.specs.declared.CodegenOptions.{CodegenOptions}
use Rattle.codegen.specs.Strings.{quoted, literal_bytes}
use Rattle.job.specs.declared.calls.CallKind.{CallKind}
use Rattle.job.specs.declared.calls.CallKind.TheVariants.{Quoted, QuotedOrBacktick, Template}

-- the literal of a text that is given in bytes
abbrev pub literal_of : CodegenOptions → CallKind → List ℕ → List ℕ
literal_of o Quoted bytes = literal_bytes o false bytes
literal_of o QuotedOrBacktick bytes = literal_bytes o true bytes
literal_of o Template bytes = quoted Backtick o.ascii_only bytes

abbrev pub comma_and_line_feed : List ℕ
comma_and_line_feed = 0x2C ∷ 0x0A ∷ []

abbrev pub item_of : CodegenOptions → CallKind → List ℕ → List ℕ
item_of o kind bytes = literal_of o kind bytes ++ comma_and_line_feed
