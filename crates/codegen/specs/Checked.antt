-- What printing bytes that are checked first answers, and what it appends.
use Rattle.std.specs.Prelude.{◌≡◌, ℕ, cond, List, [], Result, ◌==◌}
use Rattle.refusal.specs.Returned.{Returned, returned}
use Rattle.refusal.specs.declared.Refusal.{Refusal}
use Rattle.text.specs.Answers.{tells as text_tells}
use Rattle.buffer.specs.declared.code_buffer.CodeBuffer.{Ghosts}
use Rattle.buffer.specs.Faults.{tells as buffer_tells}
use Rattle.buffer.specs.Meaning.{print_answer, accepted}
use Rattle.buffer.specs.Printing.{Appends}
use Rattle.codegen.specs.declared.fault.PrintFault.{PrintFault}
use Rattle.codegen.specs.declared.fault.PrintFault.TheVariants.{Text, Buffer}

-- what a fault tells: what its layer told
abbrev pub tells : PrintFault → Refusal
tells (Text fault) = text_tells fault
tells (Buffer fault) = buffer_tells fault

-- what the check answered, if it refused; else x
abbrev pub unless_refused : {X : Type 0} → Returned → X → X → X
unless_refused check x y = cond (check.number == 0) x y

-- The text was printed as one, unless the check refused it.
pub record PrintsChecked {S : Type 0} (m : Ghosts S) (entry exit : S) (check : Returned) (text : List ℕ) (r : Result Unit PrintFault) : Type 0 where
  pub answers : returned tells r ≡ unless_refused check (returned buffer_tells (print_answer (m.bytes entry) (m.limit_of entry) text)) check
  pub appends : Appends m entry exit (unless_refused check (accepted (m.bytes entry) (m.limit_of entry) text) [])
