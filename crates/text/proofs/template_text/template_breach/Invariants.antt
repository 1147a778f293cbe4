use Rattle.std.proofs.Common.{◌-◌, ◌≤◌, length}
use Rattle.ecma262.specs.Template.{template_breach}
use Rattle.text.specs.Sequence.{code_points}
use Rattle.text.proofs.Passed.{Stands}
use Rattle.text.proofs.template_text.template_breach.Given as goal

abbrev pub invariant-loop-rest : goal.invariant-loop-rest
invariant-loop-rest l =
    (length l.rest ≤ length l.bytes) × Stands (length l.bytes - length l.rest) l.rest (template_breach (code_points l.bytes))

abbrev pub decreases-loop-rest : goal.decreases-loop-rest
decreases-loop-rest l = length l.rest
