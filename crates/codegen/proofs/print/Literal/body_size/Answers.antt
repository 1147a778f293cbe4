use Rattle.std.proofs.Common.{length, refl, arith}
use Rattle.std.proofs.lemmas.List.{at_drop_all}
use Rattle.codegen.specs.Turns.{body}
use Rattle.codegen.proofs.Bound.{body_bound}
use Rattle.codegen.proofs.Moves.{moved}
use Rattle.codegen.proofs.print.Literal.body_size.Goals as goal

pub overflow_add-size : goal.overflow_add-size
overflow_add-size c =
    let l = c.args.self.now in
    let m = moved l.bytes.now c.loop-at.at c.loop-at-test.true (c.next_turn-turn.ensures.right c.args.q (λ _. refl)) in
    let b = body_bound c.args.q l.escaping.ascii_only l.escaping.lone l.bytes.now l.fit in
    record { fits = omega (arith, m.size, l.small, c.loop-at.invariant.size) }

pub returns : goal.returns
unfolding body
returns c =
    let l = c.args.self.now in
    let e = at_drop_all (λ s. length (body c.args.q l.escaping.ascii_only s)) l.bytes.now c.loop-at.at c.loop-at-test.false in
    let b = body_bound c.args.q l.escaping.ascii_only l.escaping.lone l.bytes.now l.fit in
    record { is = omega (arith, c.loop-at.invariant.size); small = omega (arith, l.small, c.loop-at.invariant.size) }
