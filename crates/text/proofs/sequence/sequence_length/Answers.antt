use Rattle.std.proofs.Common.{◌∙◌, arith}
use Rattle.std.proofs.lemmas.Bool.Decides.{nat_tests}
use Rattle.text.proofs.Lead.{lead_is}
use Rattle.text.proofs.sequence.sequence_length.Goals as goal

pub returns-in-0 : goal.returns-in-0
returns-in-0 c = let e = c.leading_ones.ensures ∙ lead_is c.args.b (omega arith) in grind (arith, nat_tests)

pub returns-in-2 : goal.returns-in-2
returns-in-2 c = let e = c.leading_ones.ensures ∙ lead_is c.args.b (omega arith) in grind (arith, nat_tests)

pub returns-in-3 : goal.returns-in-3
returns-in-3 c = let e = c.leading_ones.ensures ∙ lead_is c.args.b (omega arith) in grind (arith, nat_tests)

pub returns-in-4 : goal.returns-in-4
returns-in-4 c = let e = c.leading_ones.ensures ∙ lead_is c.args.b (omega arith) in grind (arith, nat_tests)

pub returns-in_default : goal.returns-in_default
returns-in_default c = let e = c.leading_ones.ensures ∙ lead_is c.args.b (omega arith) in grind (arith, nat_tests)
