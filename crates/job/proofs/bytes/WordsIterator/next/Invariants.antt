use Rattle.std.proofs.Common.{not}
use Rattle.job.specs.Lines.{blank}
use Rattle.job.proofs.bytes.WordsIterator.next.Given as goal

abbrev pub ghost-split_before : goal.ghost-split_before
ghost-split_before a = λ b. not (blank b)
