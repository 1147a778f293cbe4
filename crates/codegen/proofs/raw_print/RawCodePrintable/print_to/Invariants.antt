use Rattle.std.proofs.Common.{length}
use Rattle.codegen.specs.RawKinds.{printed_of}
use Rattle.codegen.proofs.RawAdvance.{Printed}
use Rattle.codegen.proofs.raw_print.RawCodePrintable.print_to.Given as goal

abbrev pub invariant-loop-turn : goal.invariant-loop-turn
invariant-loop-turn g l = Printed g.B.CodeBuffer (printed_of l.self.kind l.self.options l.self.bytes.now) l.chunk l.kept l.state l.fn.out l.out

abbrev pub decreases-loop-turn : goal.decreases-loop-turn
decreases-loop-turn g l = length l.state.rest.now
