use Rattle.ecma262.proofs.Names.{unique_name}
use Rattle.ecma262.proofs.names_have_one_reading.Goals as goal

pub returns : goal.returns
returns c = record { code_points_and_end_are_unique = unique_name }
