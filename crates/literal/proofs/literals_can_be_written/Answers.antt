use Rattle.literal.proofs.Output.{all_scalar}
use Rattle.literal.proofs.Encoded.{plain-bytes}
use Rattle.literal.proofs.literals_can_be_written.Goals as goal

pub returns : goal.returns
returns c = record { scalar_values_alone = all_scalar; ascii_where_asked_for = plain-bytes }
