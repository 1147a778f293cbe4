use Rattle.std.proofs.Common.{◌==◌}
use Rattle.job.proofs.words.call_word.Given as goal

abbrev pub ghost-split_before : goal.ghost-split_before
ghost-split_before a = λ b. b == 58
