-- Raw text as it is printed: template pieces, directives, regular expressions and names, in steps. Texts are lists of code points.
-- A walk carries whether an odd run of backslashes stands before (odd), so that the last of them is not escaped itself.
use Rattle.std.specs.Prelude.{ℕ, Bool, true, false, cond, not, ◌&&◌, ◌||◌, List, [], ◌∷◌, ◌++◌, ◌==◌, nat_eq, nat_le}
use Rattle.ecma262.specs.Lookahead.{opens}
use Rattle.ecma262.specs.Units.{utf16}
use Rattle.literal.specs.Escapes.{behind, script}
use Rattle.literal.specs.declared.HexCase.TheVariants.{Upper}
use Rattle.literal.specs.declared.EscapeSequence.{EscapeSequence}
use Rattle.literal.specs.declared.EscapeSequence.TheVariants.{Unicode, CodePoint}
use Rattle.literal.specs.declared.NonAsciiEscape.{NonAsciiEscape}
use Rattle.literal.specs.declared.NonAsciiEscape.TheVariants.{Identifier, RegExp, TemplateRaw, Directive}

-- whether an odd run of backslashes stands behind c
abbrev pub odd_behind : Bool → ℕ → Bool
odd_behind odd c = not odd && c == 0x5C

-- The first step: a backslash before $ goes if an even number of backslashes stands before it and no { follows the $.

-- a $ follows, and behind it no {
abbrev pub bare_dollar : List ℕ → Bool
bare_dollar cs = opens (nat_eq 0x24 ∷ []) cs && not (opens (nat_eq 0x24 ∷ nat_eq 0x7B ∷ []) cs)

abbrev pub free_dollars : Bool → List ℕ → List ℕ
free_dollars odd [] = []
free_dollars odd (c ∷ cs) = cond (odd_behind odd c && bare_dollar cs) [] (c ∷ []) ++ free_dollars (odd_behind odd c) cs

-- The second step: each character above 7F becomes an escape; the last backslash of an odd run before it goes; a line end behind an odd
-- run becomes a backslash and LF instead.

-- an odd run before the character loses its last backslash
abbrev pub loses_backslash : NonAsciiEscape → Bool
loses_backslash Identifier = false
loses_backslash RegExp = true
loses_backslash TemplateRaw = true
loses_backslash Directive = true

-- a line end behind an odd run stays a line end
abbrev pub continues_lines : NonAsciiEscape → Bool
continues_lines Identifier = false
continues_lines RegExp = false
continues_lines TemplateRaw = true
continues_lines Directive = true

-- U+2028 or U+2029
abbrev pub is_separator : ℕ → Bool
is_separator c = c == 0x2028 || c == 0x2029

-- the escape of a character above 7F, as in literals
abbrev pub wide : ℕ → EscapeSequence
wide c = cond (nat_le c 0xFFFF) (Unicode Upper) CodePoint

-- code units, each as \u and four digits
abbrev pub unit_escapes : List ℕ → List ℕ
unit_escapes [] = []
unit_escapes (u ∷ us) = 0x5C ∷ (behind u (Unicode Upper) ++ unit_escapes us)

-- what is printed of a character above 7F
abbrev pub wide_escape : NonAsciiEscape → ℕ → List ℕ
wide_escape Identifier c = 0x5C ∷ behind c (wide c)
wide_escape RegExp c = unit_escapes (utf16 c)
wide_escape TemplateRaw c = 0x5C ∷ behind c (wide c)
wide_escape Directive c = 0x5C ∷ behind c (wide c)

-- the same behind an odd run of backslashes, or not
abbrev pub wide_printed : NonAsciiEscape → Bool → ℕ → List ℕ
wide_printed mode odd c = cond (is_separator c && odd && continues_lines mode) (0x5C ∷ 0x0A ∷ []) (wide_escape mode c)

abbrev pub ascii_only : NonAsciiEscape → Bool → List ℕ → List ℕ
ascii_only mode odd [] = []
ascii_only mode odd (c ∷ cs) =
    cond (odd_behind odd c && opens (nat_le 0x80 ∷ []) cs && loses_backslash mode) [] (cond (nat_le 0x80 c) (wide_printed mode odd c) (c ∷ []))
    ++ ascii_only mode (odd_behind odd c) cs

-- The third step: </script in any case of its letters becomes <\/script; before is the character in front.

abbrev pub break_tags : ℕ → List ℕ → List ℕ
break_tags before [] = []
break_tags before (c ∷ cs) = cond (c == 0x2F && before == 0x3C && opens script cs) (0x5C ∷ 0x2F ∷ []) (c ∷ []) ++ break_tags c cs

-- What is printed of raw text.

-- a step that is taken if it is asked for
abbrev pub under : Bool → (List ℕ → List ℕ) → List ℕ → List ℕ
under true step text = step text
under false step text = text

-- a piece of an untagged template
abbrev pub piece : Bool → Bool → List ℕ → List ℕ
piece minify ascii text = break_tags 0 (under ascii (ascii_only TemplateRaw false) (under minify (free_dollars false) text))

abbrev pub tagged_piece : List ℕ → List ℕ
tagged_piece text = break_tags 0 text

abbrev pub directive : Bool → List ℕ → List ℕ
directive ascii text = under ascii (ascii_only Directive false) text

abbrev pub regex_pattern : Bool → List ℕ → List ℕ
regex_pattern ascii text = under ascii (ascii_only RegExp false) text

abbrev pub name : Bool → List ℕ → List ℕ
name ascii text = under ascii (ascii_only Identifier false) text
