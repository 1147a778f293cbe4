-- The words that are still to come.
use Rattle.std.specs.Prelude.{ℕ, List}
use Rattle.job.specs.declared.bytes.Words.{Words}
use Rattle.job.specs.Lines.{words}

abbrev pub words_left : Words → List (List ℕ)
words_left w = words w.left.now
