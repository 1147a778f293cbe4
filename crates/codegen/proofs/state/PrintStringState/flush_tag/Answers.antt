use Rattle.std.proofs.Common.{◌+◌, ap, subst, arith}
use Rattle.buffer.specs.Printing.{Appends}
use Rattle.buffer.proofs.Printing.{appends_join}
use Rattle.codegen.specs.declared.turn.Turn.TheVariants.{Tag}
use Rattle.codegen.proofs.Cursor.{same_chunk}
use Rattle.codegen.proofs.Advance.{on_within, next_fit, tag_on}
use Rattle.codegen.proofs.state.PrintStringState.flush_tag.Goals as goal

pub invariant_of-self : goal.invariant_of-self
invariant_of-self g c =
    let e = c.calculate_quote.ensures.settles in
    record {
      order = omega arith;
      within = rw (e.literal, e.at) (on_within c.args.self.now Tag c.requires.turn);
      fit = rw (e.literal, e.at) (next_fit c.args.self.now Tag c.requires.turn);
    }

pub returns-clause-moves : goal.returns-clause-moves
returns-clause-moves g c =
    let e = c.calculate_quote.ensures.settles in
    let at = ap (λ x. x + 2) e.at in
    record { literal = e.literal; chunk_start = at; at = at; quote = e.quote }

pub returns-clause-appends : goal.returns-clause-appends
returns-clause-appends g c =
    let m = g.B.CodeBuffer in
    let e = c.calculate_quote.ensures in
    let s = c.args.self.now in
    let chunk = subst (Appends m c.calculate_quote.new.code c.print_with_room.new.code) (same_chunk e.settles (s.at + 1) (c.calculate_quote.new.self.at + 1) (ap (λ x. x + 1) e.settles.at)) c.print_with_room.ensures in
    appends_join m (appends_join m e.appends chunk) c.print_with_room-2.ensures

pub returns-clause-advanced : goal.returns-clause-advanced
returns-clause-advanced g c = tag_on g.B.CodeBuffer c.args.self.now c.requires.turn (returns-clause-moves g c) (returns-clause-appends g c)
