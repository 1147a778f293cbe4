use Rattle.std.proofs.Common.{refl, arith}
use Rattle.codegen.specs.declared.turn.Turn.TheVariants.{Plain}
use Rattle.codegen.proofs.Advance.{turned, on_within, next_fit, plain_on}
use Rattle.codegen.proofs.state.PrintStringState.take_turn.Goals as goal

pub overflow_add-self : goal.overflow_add-self
overflow_add-self g c =
    let s = c.args.self.now in
    let w = on_within s (Plain c.in-Plain.n) (turned s (rw c.unwrap_or-q.ensures at c.in-Plain.ensures) c.requires.known) in
    record { fits = omega (arith, s.literal.now.small) }

pub invariant_of-self : goal.invariant_of-self
invariant_of-self g c =
    let s = c.args.self.now in
    let t = turned s (rw c.unwrap_or-q.ensures at c.in-Plain.ensures) c.requires.known in
    record {
      order = let o = s.order in omega arith;
      within = on_within s (Plain c.in-Plain.n) t;
      fit = next_fit s (Plain c.in-Plain.n) t;
    }

pub flush_and_escape-requires-clause-turn : goal.flush_and_escape-requires-clause-turn
flush_and_escape-requires-clause-turn g c = turned c.args.self.now (rw c.unwrap_or-q.ensures at c.in-Escaped.ensures) c.requires.known

pub flush_tag-requires-clause-turn : goal.flush_tag-requires-clause-turn
flush_tag-requires-clause-turn g c = turned c.args.self.now (rw c.unwrap_or-q.ensures at c.in-Tag.ensures) c.requires.known

pub returns-in-Plain-clause-advanced : goal.returns-in-Plain-clause-advanced
returns-in-Plain-clause-advanced g c =
    plain_on g.B.CodeBuffer c.args.self.now _ c.in-Plain.n (rw c.unwrap_or-q.ensures at c.in-Plain.ensures) c.requires.known refl refl refl refl c.args.code.now
