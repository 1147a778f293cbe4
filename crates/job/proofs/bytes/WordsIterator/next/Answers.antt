use Rattle.std.proofs.Common.{length, ap, rules}
use Rattle.job.proofs.Cuts.{next_word, no_word}
use Rattle.job.proofs.bytes.WordsIterator.next.Goals as goal

pub returns-then-is_empty-clause-steps : goal.returns-then-is_empty-clause-steps
returns-then-is_empty-clause-steps c =
    no_word c.args.self.now.left.now _ _ _ c.split_before.ensures.from_the_first c.cut_word.ensures.up_to_the_first_blank c.cut_word.ensures.behind_it c.if-is_empty.ensures

pub returns-else-is_empty-clause-steps : goal.returns-else-is_empty-clause-steps
returns-else-is_empty-clause-steps c =
    next_word c.args.self.now.left.now _ _ _ c.split_before.ensures.from_the_first c.cut_word.ensures.up_to_the_first_blank c.cut_word.ensures.behind_it c.if-is_empty.ensures

pub returns-else-is_empty-clause-goes : goal.returns-else-is_empty-clause-goes
returns-else-is_empty-clause-goes c =
    let e = ap length (next_word c.args.self.now.left.now _ _ _ c.split_before.ensures.from_the_first c.cut_word.ensures.up_to_the_first_blank c.cut_word.ensures.behind_it c.if-is_empty.ensures) in
    search rules
