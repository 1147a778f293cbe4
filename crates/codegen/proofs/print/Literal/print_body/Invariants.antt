use Rattle.std.proofs.Common.{◌-◌, length}
use Rattle.codegen.specs.Cursor.{Advanced}
use Rattle.codegen.proofs.print.Literal.print_body.Given as goal

abbrev pub invariant-loop-state : goal.invariant-loop-state
invariant-loop-state g l = Advanced g.B.CodeBuffer l.initial.state l.state l.initial.code l.code

abbrev pub decreases-loop-state : goal.decreases-loop-state
decreases-loop-state g l = length l.self.bytes.now - l.state.at
