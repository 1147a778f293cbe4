use Rattle.literal.proofs.RawOutput.{raw_ascii}
use Rattle.literal.proofs.raw_text_can_be_written_in_ascii.Goals as goal

pub returns : goal.returns
returns c = record { ascii_where_asked_for = raw_ascii }
