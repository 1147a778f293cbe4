use Rattle.std.proofs.Common.{rules}
use Rattle.std.proofs.lemmas.Iterator.{YieldsList-from_slice}
use Rattle.std.proofs.lemmas.Iterator.Consumers.{YieldsList-from_copied}
use Rattle.job.proofs.Numbers.{by_digits}
use Rattle.job.proofs.settings.number_of.Goals as goal

pub returns : goal.returns
returns c =
    record { digit_by_digit = by_digits _ (λ f n b r q k. search rules) c.args.digits.now _ 0 c.try_fold.result _ c.try_fold.ensures.ran (YieldsList-from_copied (YieldsList-from_slice c.args.digits.now cc)) }
