-- The kinds of raw text: what the check of each answers, the steps in which it is printed, and the bytes that are printed of it.
use Rattle.std.specs.Prelude.{ℕ, Bool, true, false, List}
use Rattle.refusal.specs.Returned.{Returned}
use Rattle.options.specs.declared.CodegenOptions.{CodegenOptions}
use Rattle.literal.specs.declared.NonAsciiEscape.{NonAsciiEscape}
use Rattle.literal.specs.declared.NonAsciiEscape.TheVariants.{Identifier, RegExp, TemplateRaw, Directive as DirectiveMode}
use Rattle.text.specs.Answers.{raw_answer, name_answer, template_answer}
use Rattle.codegen.specs.declared.raw_kind.RawKind.{RawKind}
use Rattle.codegen.specs.declared.raw_kind.RawKind.TheVariants.{Piece, TaggedPiece, Directive, Pattern, Name}
use Rattle.codegen.specs.declared.raw_style.RawStyle.{RawStyle}
use Rattle.codegen.specs.RawTexts.{piece_bytes, tagged_bytes, directive_bytes, regex_bytes, name_bytes}

-- what the check of such bytes answers
abbrev pub check_of : RawKind → List ℕ → Returned
check_of Piece bytes = template_answer bytes
check_of TaggedPiece bytes = raw_answer bytes
check_of Directive bytes = raw_answer bytes
check_of Pattern bytes = raw_answer bytes
check_of Name bytes = name_answer bytes

abbrev pub steps : Bool → Bool → NonAsciiEscape → Bool → RawStyle
steps dollars ascii mode tags = record { dollars = dollars; ascii_only = ascii; mode = mode; tags = tags }

-- the steps in which it is printed under the options
abbrev pub style_of : RawKind → CodegenOptions → RawStyle
style_of Piece o = steps o.minify o.ascii_only TemplateRaw true
style_of TaggedPiece o = steps false false TemplateRaw true
style_of Directive o = steps false o.ascii_only DirectiveMode false
style_of Pattern o = steps false o.ascii_only RegExp false
style_of Name o = steps false o.ascii_only Identifier false

-- the bytes that are printed of it under the options
abbrev pub printed_of : RawKind → CodegenOptions → List ℕ → List ℕ
printed_of Piece o bytes = piece_bytes o.minify o.ascii_only bytes
printed_of TaggedPiece o bytes = tagged_bytes bytes
printed_of Directive o bytes = directive_bytes o.ascii_only bytes
printed_of Pattern o bytes = regex_bytes o.ascii_only bytes
printed_of Name o bytes = name_bytes o.ascii_only bytes
