-- Raw text printed in one walk, with all the steps of specs/Raw that its flags ask for.
use Rattle.std.specs.Prelude.{ℕ, Bool, cond, ◌&&◌, ◌||◌, List, [], ◌∷◌, ◌++◌, ◌==◌, nat_le}
use Rattle.ecma262.specs.Lookahead.{opens}
use Rattle.literal.specs.Escapes.{script}
use Rattle.literal.specs.Raw.{odd_behind, bare_dollar, loses_backslash, wide_printed}
use Rattle.literal.specs.declared.NonAsciiEscape.{NonAsciiEscape}

-- a backslash goes, if it is the last of an odd run: under dollars before $ without {, under ascii before a character above 7F
abbrev pub backslash_goes : Bool → Bool → NonAsciiEscape → List ℕ → Bool
backslash_goes dollars ascii mode cs = bare_dollar cs && dollars || opens (nat_le 0x80 ∷ []) cs && loses_backslash mode && ascii

-- what is printed of the character c between the character before and the text cs; odd says whether an odd run of backslashes ends at
-- before
abbrev pub raw_turn : Bool → Bool → NonAsciiEscape → Bool → Bool → ℕ → ℕ → List ℕ → List ℕ
raw_turn dollars ascii mode tags odd before c cs =
    cond (odd_behind odd c && backslash_goes dollars ascii mode cs) []
    (cond (nat_le 0x80 c && ascii) (wide_printed mode odd c)
    (cond (c == 0x2F && before == 0x3C && opens script cs && tags) (0x5C ∷ 0x2F ∷ []) (c ∷ [])))

-- the first step under dollars, the second under ascii, the third under tags
abbrev pub raw_walk : Bool → Bool → NonAsciiEscape → Bool → Bool → ℕ → List ℕ → List ℕ
raw_walk dollars ascii mode tags odd before [] = []
raw_walk dollars ascii mode tags odd before (c ∷ cs) =
    raw_turn dollars ascii mode tags odd before c cs ++ raw_walk dollars ascii mode tags (odd_behind odd c) c cs
