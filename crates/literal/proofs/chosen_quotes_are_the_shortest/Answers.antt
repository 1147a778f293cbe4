use Rattle.literal.proofs.Sizes.{shortest_chosen}
use Rattle.literal.proofs.chosen_quotes_are_the_shortest.Goals as goal

pub returns : goal.returns
returns c = record { no_permitted_quote_is_shorter = shortest_chosen }
