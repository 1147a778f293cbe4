use Rattle.std.proofs.Common.{◌≡◌, ◌+◌, length}
use Rattle.codegen.specs.RawKinds.{printed_of}
use Rattle.codegen.specs.RawCursor.{raw_ahead}
use Rattle.codegen.proofs.raw_print.RawCodePrintable.size.Given as goal

abbrev pub invariant-loop-turn : goal.invariant-loop-turn
invariant-loop-turn l = l.size + length (raw_ahead l.state) ≡ length (printed_of l.self.kind l.self.options l.self.bytes.now)

abbrev pub decreases-loop-turn : goal.decreases-loop-turn
decreases-loop-turn l = length l.state.rest.now
