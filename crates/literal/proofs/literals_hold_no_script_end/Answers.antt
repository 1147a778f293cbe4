use Rattle.literal.proofs.Output.{no_tag}
use Rattle.literal.proofs.Encoded.{in_bytes}
use Rattle.literal.proofs.literals_hold_no_script_end.Goals as goal

pub returns : goal.returns
returns c = record { no_tag_in_code_points = no_tag; no_tag_in_bytes = in_bytes }
