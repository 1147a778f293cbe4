use Rattle.std.proofs.Common.{arith}
use Rattle.std.proofs.Math.Nat.{sub_self}
use Rattle.text.proofs.Passed.{turned, onward, ended, begins}
use Rattle.text.proofs.template_text.template_breach.Goals as goal

pub loop-rest-init : goal.loop-rest-init
loop-rest-init c = (omega arith, rw sub_self (begins c.args.bytes.now c.requires.well_formed))

pub slice_bounds-rest-count : goal.slice_bounds-rest-count
slice_bounds-rest-count c = (turned c.args.bytes.now c.loop-rest.rest.now _ _ c.loop-rest-test.ensures c.in-Some.ensures.is_that_of_the_first_character c.loop-rest.invariant.1).1

pub slice_bounds-rest-start : goal.slice_bounds-rest-start
slice_bounds-rest-start c = (turned c.args.bytes.now c.loop-rest.rest.now _ _ c.loop-rest-test.ensures c.in-Some.ensures.is_that_of_the_first_character c.loop-rest.invariant.1).1

pub loop-rest-smaller : goal.loop-rest-smaller
loop-rest-smaller c =
    (onward c.args.bytes.now c.loop-rest.rest.now _ c.in-Some.n c.loop-rest.invariant.0 (turned c.args.bytes.now c.loop-rest.rest.now _ _ c.loop-rest-test.ensures c.in-Some.ensures.is_that_of_the_first_character c.loop-rest.invariant.1)).0

pub loop-rest-preserved : goal.loop-rest-preserved
loop-rest-preserved c =
    let s = onward c.args.bytes.now c.loop-rest.rest.now _ c.in-Some.n c.loop-rest.invariant.0 (turned c.args.bytes.now c.loop-rest.rest.now _ _ c.loop-rest-test.ensures c.in-Some.ensures.is_that_of_the_first_character c.loop-rest.invariant.1) in
    (s.1, s.2)

pub returns-in-None : goal.returns-in-None
returns-in-None c = record {
  is_the_standards = turned c.args.bytes.now c.loop-rest.rest.now _ _ c.loop-rest-test.ensures c.in-None.ensures.is_that_of_the_first_character c.loop-rest.invariant.1;
}

pub returns : goal.returns
returns c = record { is_the_standards = ended _ c.loop-rest.rest.now _ c.loop-rest-test.ensures c.loop-rest.invariant.1 }
