use Rattle.codegen.proofs.Advance.{joined}
use Rattle.codegen.proofs.state.PrintStringState.advance.Goals as goal

pub returns-clause-advanced : goal.returns-clause-advanced
returns-clause-advanced g c = joined g.B.CodeBuffer c.settle_where_decisive.ensures.advanced c.take_turn.ensures.advanced
