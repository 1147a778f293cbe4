-- What carrying out one call answers, and what the page holds then.
use Rattle.std.specs.Prelude.{ℕ, ◌+◌, Bool, cond, List, ◌++◌, length, ◌==◌, nat_le}
use Rattle.refusal.specs.Returned.{Returned, answer}
use Rattle.text.specs.Answers.{text_answer}

-- the answer where the text exists: 0 and the item's length, or 7 and the need
abbrev pub item_answer : List ℕ → ℕ → List ℕ → Returned
item_answer held limit item = cond (nat_le (length held + length item) limit) (answer 0 (length item)) (answer 7 (length held + length item))

-- The answer to a call: its text's refusal, else the item's answer.
abbrev pub call_answer : List ℕ → Bool → List ℕ → ℕ → List ℕ → Returned
call_answer bytes lone held limit item = cond ((text_answer bytes lone).number == 0) (item_answer held limit item) (text_answer bytes lone)

-- What is held then: the item is appended where the answer is 0, else nothing is.
abbrev pub held_after : List ℕ → Bool → List ℕ → ℕ → List ℕ → List ℕ
held_after bytes lone held limit item = cond ((call_answer bytes lone held limit item).number == 0) (held ++ item) held
