use Rattle.std.proofs.Common.{◌∙◌, sym, rules, tests}
use Rattle.std.proofs.lemmas.Iterator.Search.{any_from_yields_List}
use Rattle.job.proofs.Pairs.{begins, marked-neighbours, YieldsList-from_windows}
use Rattle.job.proofs.surrogates.holds_surrogate.Goals as goal

pub returns : goal.returns
returns c =
    record { some_pair_begins_one = any_from_yields_List begins _ _ _ c.any.ensures.ran (YieldsList-from_windows c.args.bytes.now c.windows.ensures.rest c.windows.ensures.size) (λ x b q k. search (rules, tests)) ∙ sym (marked-neighbours c.args.bytes.now) }
