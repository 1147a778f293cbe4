use Rattle.buffer.proofs.Tallies.{plain-counts}
use Rattle.buffer.proofs.line_watch.LineWatch.new.Goals as goal

pub returns-clause-tally_is_plain_counts : goal.returns-clause-tally_is_plain_counts
returns-clause-tally_is_plain_counts g c = plain-counts
