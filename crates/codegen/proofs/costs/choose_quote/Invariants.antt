use Rattle.std.proofs.Common.{◌≡◌, ◌+◌, ◌≤◌, drop}
use Rattle.literal.specs.Quotes.{added, taken}
use Rattle.ecma262.specs.declared.Quote.TheVariants.{Single, Double, Backtick}
use Rattle.codegen.proofs.costs.choose_quote.Given as goal

abbrev pub invariant-loop-i : goal.invariant-loop-i
invariant-loop-i l =
    ((l.costs.single ≤ l.i) × (l.costs.double ≤ l.i) × (l.costs.backtick ≤ l.i) × (l.costs.lines ≤ l.i))
    × ((l.costs.single + added Single (drop l.i l.bytes) ≡ added Single l.bytes)
    × (l.costs.double + added Double (drop l.i l.bytes) ≡ added Double l.bytes)
    × (l.costs.backtick + added Backtick (drop l.i l.bytes) ≡ added Backtick l.bytes)
    × (l.costs.lines + taken Backtick (drop l.i l.bytes) ≡ taken Backtick l.bytes))
