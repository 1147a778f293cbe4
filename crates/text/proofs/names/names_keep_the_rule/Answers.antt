use Rattle.text.proofs.Ruled.{named, name_placed}
use Rattle.text.proofs.names.names_keep_the_rule.Goals as goal

pub returns : goal.returns
returns c = record { accepts_exactly_the_names = named; place_is_the_first_breach = name_placed }
