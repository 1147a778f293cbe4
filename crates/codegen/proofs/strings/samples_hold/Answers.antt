use Rattle.std.proofs.Common.{refl}
use lib.Utf8.{encode}
use Rattle.literal.specs.Escapes.{other_rules}
use Rattle.text.specs.Sequence.{sequence}
use Rattle.codegen.specs.Strings.{quoted}
use Rattle.codegen.specs.RawTexts.{piece_bytes, regex_bytes}
use Rattle.codegen.proofs.strings.samples_hold.Goals as goal

pub returns : goal.returns
unfolding encode other_rules sequence quoted piece_bytes regex_bytes
returns c =
    record {
      all_samples_hold = record {
        empty = refl;
        empty_small = refl;
        nul_digit = refl;
        nul_letter = refl;
        flagged = refl;
        unflagged = refl;
        surrogate = refl;
        pair = refl;
        face = refl;
        script = refl;
        brace = refl;
        line_brace = refl;
        dollar_piece = refl;
        dollar = refl;
        backslash_piece = refl;
        backslash = refl;
        substitution_piece = refl;
        substitution = refl;
        separator_piece = refl;
        separator = refl;
        accent_pattern = refl;
        accent = refl;
        face_pattern = refl;
        face_in_units = refl;
      };
    }
