-- Worked examples of template text and its breaches, as code points.
use Rattle.std.specs.Prelude.{◌≡◌, [], ◌∷◌, Some, None}
use Rattle.ecma262.specs.Template.{template_breach}

-- in order: nothing; $, CR and LF, an escape, a LineContinuation; a backtick behind a character of two bytes; a substitution; a backslash at
-- the end; an octal escape; a code point above 10FFFF
abbrev pub Samples : Type 0
Samples =
    (template_breach [] ≡ None)
    × (template_breach (0x24 ∷ 0x0D ∷ 0x0A ∷ 0x5C ∷ 0x24 ∷ 0x7B ∷ 0x5C ∷ 0x2028 ∷ []) ≡ None)
    × (template_breach (0xE9 ∷ 0x60 ∷ []) ≡ Some 2)
    × (template_breach (0x61 ∷ 0x24 ∷ 0x7B ∷ []) ≡ Some 1)
    × (template_breach (0x5C ∷ 0x5C ∷ 0x5C ∷ []) ≡ Some 2)
    × (template_breach (0x5C ∷ 0x30 ∷ 0x37 ∷ []) ≡ Some 0)
    × (template_breach (0x5C ∷ 0x75 ∷ 0x7B ∷ 0x31 ∷ 0x31 ∷ 0x30 ∷ 0x30 ∷ 0x30 ∷ 0x30 ∷ 0x7D ∷ []) ≡ Some 0)
