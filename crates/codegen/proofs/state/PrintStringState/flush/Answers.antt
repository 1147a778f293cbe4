use Rattle.std.proofs.Common.{subst}
use Rattle.buffer.specs.Printing.{Appends}
use Rattle.buffer.proofs.Printing.{appends_join}
use Rattle.codegen.proofs.Cursor.{same_chunk}
use Rattle.codegen.proofs.state.PrintStringState.flush.Goals as goal

pub returns-clause-appends : goal.returns-clause-appends
returns-clause-appends g c =
    let e = c.calculate_quote.ensures in
    appends_join g.B.CodeBuffer e.appends (subst (Appends g.B.CodeBuffer _ _) (same_chunk e.settles c.args.self.now.at c.calculate_quote.new.self.at e.settles.at) c.print_with_room.ensures)
