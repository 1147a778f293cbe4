use Rattle.literal.proofs.OneWalk.{piece_in_one_walk, tagged_in_one_walk, others_in_one_walk}
use Rattle.literal.proofs.raw_text_is_printed_in_one_walk.Goals as goal

pub returns : goal.returns
returns c = record { steps_of_a_piece_are_one_walk = piece_in_one_walk; step_of_a_tagged_piece_is_one_walk = tagged_in_one_walk; step_of_other_raw_text_is_one_walk = others_in_one_walk }
