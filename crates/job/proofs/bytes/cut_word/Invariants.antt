use Rattle.job.specs.Lines.{blank}
use Rattle.job.proofs.bytes.cut_word.Given as goal

abbrev pub ghost-split_before : goal.ghost-split_before
ghost-split_before a = blank
