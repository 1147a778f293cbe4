use Rattle.literal.proofs.RawKept.{piece_kept, tagged_kept}
use Rattle.literal.proofs.pieces_keep_their_value.Goals as goal

pub returns : goal.returns
returns c = record { template_text_keeps_its_value = piece_kept; tagged_template_text_keeps_its_value = tagged_kept }
