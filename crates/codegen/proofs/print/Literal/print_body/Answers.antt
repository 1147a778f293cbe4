use Rattle.codegen.proofs.Advance.{joined, flushed}
use Rattle.codegen.proofs.print.Literal.print_body.Goals as goal

pub loop-state-preserved : goal.loop-state-preserved
loop-state-preserved g c = joined g.B.CodeBuffer c.loop-state.invariant c.advance.ensures.advanced

pub returns-clause-appends : goal.returns-clause-appends
returns-clause-appends g c =
    let inv = c.loop-state.invariant in
    flushed g.B.CodeBuffer inv (rw inv.same_literal c.loop-state-test.false) c.flush.ensures.appends
