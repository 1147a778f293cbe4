use Rattle.ecma262.proofs.literals_have_one_value.Goals as goal
use Rattle.ecma262.proofs.Values.{unique}

pub returns : goal.returns
returns c = record { value_and_end_are_unique = unique }
