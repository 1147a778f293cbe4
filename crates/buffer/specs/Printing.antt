-- What a function that prints to any code buffer leaves of it: one record for the whole clause.
use Rattle.std.specs.Prelude.{◌≡◌, ℕ, List, ◌++◌, length, drop, Result}
use Rattle.buffer.specs.declared.code_buffer.BufferFault.{BufferFault}
use Rattle.buffer.specs.declared.code_buffer.CodeBuffer.{Ghosts}
use Rattle.buffer.specs.Meaning.{print_answer, printed, accepted}

-- the text was printed as one: appended whole, or refused whole
pub record Prints {S : Type 0} (m : Ghosts S) (entry exit : S) (text : List ℕ) (answer : Result Unit BufferFault) : Type 0 where
  pub answers : answer ≡ print_answer (m.bytes entry) (m.limit_of entry) text
  pub appends : m.bytes exit ≡ printed (m.bytes entry) (m.limit_of entry) text
  pub limit_stays : m.limit_of exit ≡ m.limit_of entry
  pub beyond_untouched : drop (length (m.bytes exit)) (m.memory exit) ≡ drop (length (m.bytes exit)) (m.memory entry)
  pub home_stays : m.home exit ≡ m.home entry
  pub noted : m.noted entry exit (accepted (m.bytes entry) (m.limit_of entry) text)

-- the text was appended, where it is known that there is room
pub record Appends {S : Type 0} (m : Ghosts S) (entry exit : S) (text : List ℕ) : Type 0 where
  pub appends : m.bytes exit ≡ m.bytes entry ++ text
  pub limit_stays : m.limit_of exit ≡ m.limit_of entry
  pub beyond_untouched : drop (length (m.bytes exit)) (m.memory exit) ≡ drop (length (m.bytes exit)) (m.memory entry)
  pub home_stays : m.home exit ≡ m.home entry
  pub noted : m.noted entry exit text
