use Rattle.std.proofs.Common.{ap, subst, arith}
use Rattle.codegen.specs.RawTurns.{raw_takes}
use Rattle.codegen.specs.RawCursor.{RawTaken}
use Rattle.codegen.proofs.RawAdvance.{begun, ahead_fits, chunk_room, kept_on, turn_room, printed_on, flushed}
use Rattle.codegen.proofs.RawKept.{kind_fits}
use Rattle.codegen.proofs.raw_print.RawCodePrintable.print_to.Goals as goal

pub loop-turn-init : goal.loop-turn-init
loop-turn-init g c =
    let raw = c.args.self.now in
    begun g.B.CodeBuffer _ c.state-state.result raw.bytes.now c.state-state.ensures.all_of_it_is_ahead (kind_fits raw.kind raw.bytes.now raw.checked).1 c.state-state.ensures.prints_its_code c.args.out.now

pub overflow_add-kept : goal.overflow_add-kept
overflow_add-kept g c = let w = c.in-Some.ensures.within in let k = ap raw_takes c.in-Keep.is in let f = ahead_fits g.B.CodeBuffer _ c.loop-turn.invariant in record { fits = omega (arith, c.loop-turn.invariant.small) }

pub loop-turn-preserved-in-Keep : goal.loop-turn-preserved-in-Keep
loop-turn-preserved-in-Keep g c = kept_on g.B.CodeBuffer _ c.loop-turn.invariant c.in-Keep.n (subst (RawTaken c.loop-turn.state c.next_turn.new.self) c.in-Keep.is c.in-Some.ensures)

pub print_with_room-requires : goal.print_with_room-requires
print_with_room-requires g c = record { room = chunk_room g.B.CodeBuffer _ c.loop-turn.invariant c.requires.room }

pub print_to-requires : goal.print_to-requires
print_to-requires g c = record { room = turn_room g.B.CodeBuffer _ c.loop-turn.invariant c.in-Some.turn c.in-Some.ensures c.in_default-turn.not-Keep c.requires.room c.print_with_room.ensures }

pub loop-turn-preserved : goal.loop-turn-preserved
loop-turn-preserved g c = printed_on g.B.CodeBuffer _ c.loop-turn.invariant c.in-Some.turn c.in-Some.ensures c.in_default-turn.not-Keep c.print_with_room.ensures c.print_to.ensures

pub print_with_room-requires-2 : goal.print_with_room-requires-2
print_with_room-requires-2 g c = record { room = chunk_room g.B.CodeBuffer _ c.loop-turn.invariant c.requires.room }

pub returns : goal.returns
returns g c = record { appends = flushed g.B.CodeBuffer _ c.loop-turn.invariant c.in_default.ensures c.print_with_room-2.ensures }
