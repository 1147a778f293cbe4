use Rattle.std.proofs.Common.{get_or, Some, sym, ap, ◌∙◌, arith}
use Rattle.text.proofs.Decoded.{four, at_0, at_1, at_2, at_3, at_4}
use Rattle.text.specs.Sequence.{sequence}
use Rattle.std.proofs.lemmas.List.{at_drop_all}
use Rattle.text.proofs.Codec.{sequence-none}
use Rattle.text.proofs.sequence.decode.Goals as goal

pub returns-in_default : goal.returns-in_default
returns-in_default c = record { is_the_sequence_there = at_0 c.args.bytes.now c.args.at (omega arith) (sym c.in_default.ensures.is_that_of_the_lead_byte) }

pub returns-then-n-eq1 : goal.returns-then-n-eq1
returns-then-n-eq1 c = record { is_the_sequence_there = at_1 c.args.bytes.now c.args.at (omega arith) (sym c.in-Some.ensures.is_that_of_the_lead_byte ∙ ap Some c.if-n-eq1.true) }

pub returns-then-n-eq2 : goal.returns-then-n-eq2
returns-then-n-eq2 c = record {
  is_the_sequence_there =
      at_2 c.args.bytes.now c.args.at (omega arith) c.byte_at-b.result c.goes_on.result c.hold.result
      (sym c.in-Some.ensures.is_that_of_the_lead_byte ∙ ap Some c.if-n-eq2.true) c.byte_at-b.ensures.is_the_byte_or_zero_past_the_end c.goes_on.ensures c.hold.ensures;
}

pub returns-then-n-eq3 : goal.returns-then-n-eq3
returns-then-n-eq3 c = record {
  is_the_sequence_there =
      at_3 c.args.bytes.now c.args.at (omega arith) c.byte_at-b.result c.byte_at-c.result c.goes_on-then-n-eq3.result c.goes_on-then-n-eq3-2.result c.hold-then-n-eq3.result
      (sym c.in-Some.ensures.is_that_of_the_lead_byte ∙ ap Some c.if-n-eq3.true) c.byte_at-b.ensures.is_the_byte_or_zero_past_the_end c.byte_at-c.ensures.is_the_byte_or_zero_past_the_end c.goes_on-then-n-eq3.ensures c.goes_on-then-n-eq3-2.ensures c.hold-then-n-eq3.ensures;
}

pub returns : goal.returns
returns c = record {
  is_the_sequence_there =
      at_4 c.args.bytes.now c.args.at (omega arith) c.byte_at-b.result c.byte_at-c.result c.byte_at-d.result c.goes_on-2.result c.goes_on-3.result c.goes_on-4.result c.hold-2.result
      (four (get_or c.args.bytes.now c.args.at 0) c.in-Some.n c.in-Some.ensures.is_that_of_the_lead_byte c.if-n-eq1.false c.if-n-eq2.false c.if-n-eq3.false)
      c.byte_at-b.ensures.is_the_byte_or_zero_past_the_end c.byte_at-c.ensures.is_the_byte_or_zero_past_the_end c.byte_at-d.ensures.is_the_byte_or_zero_past_the_end c.goes_on-2.ensures c.goes_on-3.ensures c.goes_on-4.ensures c.hold-2.ensures;
}

pub returns-then-at-bytes : goal.returns-then-at-bytes
returns-then-at-bytes c = record { is_the_sequence_there = sym (at_drop_all sequence c.args.bytes.now c.args.at (omega arith) ∙ sequence-none) }
