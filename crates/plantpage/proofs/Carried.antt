-- What is answered and held after a call that was carried out.
use Rattle.std.proofs.Common.{◌≡◌, ℕ, ◌+◌, Bool, true, leb, List, length, Ok, Result}
use Rattle.std.proofs.lemmas.Bool.{le-leb}
use Rattle.refusal.specs.Returned.{answer, done}
use Rattle.buffer.specs.declared.code_buffer.BufferFault.{BufferFault}
use Rattle.buffer.specs.declared.code_buffer.CodeBuffer.{Ghosts}
use Rattle.buffer.specs.Printing.{Prints, Appends}
use Rattle.buffer.proofs.Printing.{room_when_ok, prints_with_room, appended_length}
use Rattle.text.specs.Answers.{text_answer}
use Rattle.plantpage.specs.Answers.{call_answer, held_after}

-- the item was printed
module _ {B : Type 0} {m : Ghosts B} {a b : B} {item : List ℕ} {r : Result Unit BufferFault} (p : Prints m a b item r) (ok : r ≡ Ok tt) where
  appended : Appends m a b item
  appended = prints_with_room m p (room_when_ok m p ok)

  pub longer : length (m.bytes b) ≡ length (m.bytes a) + length item
  longer = appended_length m appended

  module _ (bytes : List ℕ) (lone : Bool) (good : done ≡ text_answer bytes lone) where
    pub answered : call_answer bytes lone (m.bytes a) (m.limit_of a) item ≡ answer 0 (length item)
    answered =
        let fits : leb (length (m.bytes a) + length item) (m.limit_of a) ≡ true = le-leb _ _ (room_when_ok m p ok) in
        rw (← good, fits)

    pub holds : m.bytes b ≡ held_after bytes lone (m.bytes a) (m.limit_of a) item
    holds = rw answered appended.appends
