use Rattle.text.proofs.Formed as formed
use Rattle.text.proofs.well_formed.decoding_is_the_encodings.Goals as goal

pub returns : goal.returns
returns c = record {
  sequences_are_encodings = formed.sequences;
  flag_is_set_by_surrogates = formed.marks;
  code_points_are_read = formed.read;
}
