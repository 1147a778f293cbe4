use Rattle.std.proofs.Common.{◌+◌, ap}
use Rattle.buffer.proofs.Printing.{appends_join}
use Rattle.codegen.proofs.Advance.{escaped_on}
use Rattle.codegen.proofs.state.PrintStringState.flush_and_escape.Goals as goal

pub returns-clause-moves : goal.returns-clause-moves
returns-clause-moves g c =
    let e = c.flush.ensures.settles in
    let at = ap (λ x. x + c.args.n) e.at in
    record { literal = e.literal; chunk_start = at; at = at; quote = e.quote }

pub returns-clause-appends : goal.returns-clause-appends
returns-clause-appends g c = appends_join g.B.CodeBuffer c.flush.ensures.appends c.print_escape.ensures

pub returns-clause-advanced : goal.returns-clause-advanced
returns-clause-advanced g c = escaped_on g.B.CodeBuffer c.args.self.now c.requires.turn (returns-clause-moves g c) (returns-clause-appends g c)
