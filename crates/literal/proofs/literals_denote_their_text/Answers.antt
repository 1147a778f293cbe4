use Rattle.literal.proofs.Reading.{read_back, returned}
use Rattle.literal.proofs.literals_denote_their_text.Goals as goal

pub returns : goal.returns
returns c = record { value_is_the_text = read_back; reading_gives_back_the_text = returned }
