use Rattle.std.proofs.Common.{◌≡◌}
use Rattle.job.specs.WordsLeft.{words_left}
use Rattle.job.specs.Settings.{options_of, chosen_from}
use Rattle.job.proofs.settings.options_of.Given as goal

abbrev pub invariant-loop-name : goal.invariant-loop-name
invariant-loop-name l = options_of l.text ≡ chosen_from l.options (words_left l.name-iterator)
