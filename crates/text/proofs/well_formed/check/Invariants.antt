use Rattle.std.proofs.Common.{length}
use Rattle.text.proofs.Turn.{Kept}
use Rattle.text.proofs.well_formed.check.Given as goal

abbrev pub invariant-loop-rest : goal.invariant-loop-rest
invariant-loop-rest l = Kept l.encoding l.bytes l.before l.lone l.rest

abbrev pub decreases-loop-rest : goal.decreases-loop-rest
decreases-loop-rest l = length l.rest
