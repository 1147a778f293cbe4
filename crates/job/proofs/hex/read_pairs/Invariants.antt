use Rattle.std.proofs.Common.{◌≡◌, length, vec_items}
use Rattle.job.specs.Hex.{pairs}
use Rattle.job.proofs.Glued.{glued}
use Rattle.job.proofs.hex.read_pairs.Given as goal

abbrev pub invariant-loop-rest : goal.invariant-loop-rest
invariant-loop-rest l = pairs l.text ≡ glued (vec_items l.bytes) (pairs l.rest)

abbrev pub decreases-loop-rest : goal.decreases-loop-rest
decreases-loop-rest l = length l.rest
