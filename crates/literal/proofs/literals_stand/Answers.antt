use Rattle.literal.proofs.Encoded.{stands}
use Rattle.literal.proofs.literals_stand.Goals as goal

pub returns : goal.returns
returns c = record { every_literal_stands = stands }
