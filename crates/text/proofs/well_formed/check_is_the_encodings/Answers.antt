use Rattle.text.proofs.Formed as formed
use Rattle.text.proofs.well_formed.check_is_the_encodings.Goals as goal

pub returns : goal.returns
returns c = record {
  accepts_exactly_the_well_formed = formed.accepted;
  place_is_the_first_breach = formed.placed;
  nothing_longer_is_well_formed = formed.longest;
}
