use Rattle.std.proofs.Common.{◌≡◌, ◌+◌, length, drop}
use Rattle.job.specs.Jobs.{drafted, job_from, job_of}
use Rattle.job.proofs.Turns.{pieces}
use Rattle.job.proofs.reading.read_job.Given as goal

abbrev pub invariant-loop-before : goal.invariant-loop-before
invariant-loop-before l = job_of l.text ≡ job_from (length l.yielded + 1) (drafted l.draft) (drop (length l.yielded) (pieces l.text))
