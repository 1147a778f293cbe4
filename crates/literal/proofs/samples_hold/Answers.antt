use Rattle.std.proofs.Common.{refl}
use Rattle.literal.specs.Escapes.{other_rules}
use Rattle.literal.proofs.samples_hold.Goals as goal

pub returns : goal.returns
unfolding other_rules
returns c = record { samples_are_printed_so = (refl, refl, refl, refl, refl, refl, refl, refl, refl, refl, refl, refl, refl, refl, refl, refl, refl, refl, refl, refl, refl, refl, refl, refl, refl, refl, refl, refl) }
