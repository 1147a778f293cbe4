use Rattle.codegen.proofs.Tallies.{chosen_is}
use Rattle.codegen.proofs.costs.choose_quote.Goals as goal

pub returns : goal.returns
returns c =
    let inv = c.loop-i.invariant.1 in
    chosen_is c.args.allow_backtick c.args.bytes.now c.loop-i.i c.loop-i.costs.single c.loop-i.costs.double c.loop-i.costs.backtick c.loop-i.costs.lines
    c.cheapest.result c.requires.characters c.loop-i-test.false inv.0 inv.1 inv.2 inv.3 c.cheapest.ensures
