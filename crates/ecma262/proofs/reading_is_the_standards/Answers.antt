use Rattle.ecma262.proofs.reading_is_the_standards.Goals as goal
use Rattle.ecma262.proofs.Sound.{readable}
use Rattle.ecma262.proofs.Whole.{whole-readable}

pub returns : goal.returns
returns c = record { characters_are_read_by_the_grammar = readable; literals_are_read_by_the_grammar = whole-readable }
