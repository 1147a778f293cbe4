use Rattle.literal.proofs.RawOutput.{piece-tagless, tagged_tagless}
use Rattle.literal.proofs.pieces_hold_no_script_end.Goals as goal

pub returns : goal.returns
returns c = record { no_tag_in_a_piece = piece-tagless; no_tag_in_a_tagged_piece = tagged_tagless }
