-- From what a slice buffer was left as to the caller's bytes, and to the answer.
use Rattle.std.proofs.Common.{◌≡◌, ℕ, ◌<◌, ◌≤◌, Bool, true, false, cond, List, [], ◌++◌, length, take, drop, Ok, Err, Result, sym, refl, ap, ◌∙◌, subst, zero-add, arith}
use Rattle.std.specs.Result.{result_and}
use Rattle.std.proofs.lemmas.List.{take-append-drop}
use Rattle.std.proofs.lemmas.Bool.Decides.{nat_tests}
use Rattle.refusal.specs.Returned.{Returned, answer, returned, returned_length}
use Rattle.buffer.specs.declared.code_buffer.CodeBuffer.{Ghosts}
use Rattle.buffer.specs.declared.code_buffer.BufferFault.TheVariants.{Full}
use Rattle.buffer.specs.Faults.{tells as buffer_tells}
use Rattle.buffer.specs.Kinds.{slice_limit}
use Rattle.buffer.specs.Meaning.{print_answer}
use Rattle.text.specs.declared.fault.TextFault.TheVariants.{TooLong, Malformed, Misflagged, NotName, NotTemplate}
use Rattle.codegen.specs.declared.fault.PrintFault.{PrintFault}
use Rattle.codegen.specs.declared.fault.PrintFault.TheVariants.{Text, Buffer}
use Rattle.codegen.specs.Checked.{tells, unless_refused, PrintsChecked}
use Rattle.capi.specs.Answers.{fits, answer_for, out_after}

-- a fault tells a number that is not 0
not_zero : (fault : PrintFault) → (returned {X = Unit} tells (Err fault)).number ≡ 0 → ⊥
not_zero (Text TooLong) e = omega arith
not_zero (Text (Malformed place)) e = omega arith
not_zero (Text Misflagged) e = omega arith
not_zero (Text (NotName place)) e = omega arith
not_zero (Text (NotTemplate place)) e = omega arith
not_zero (Buffer (Full need)) e = omega arith

by_room : (f : Bool) (n : ℕ) → returned {X = Unit {0}} buffer_tells (cond f (Ok tt) (Err (Full n))) ≡ cond f (answer 0 0) (answer 7 n)
by_room true n = refl
by_room false n = refl

-- what is appended to an empty buffer over out
abbrev appended : Returned → List ℕ → List ℕ → List ℕ
appended check out text = unless_refused check (cond (fits out text) text []) []

module _ (check : Returned) (out text : List ℕ) where
  over : appended check out text ++ drop (length (appended check out text)) out ≡ out_after check out text
  over = grind (arith, nat_tests)

  -- the answer with the printed length
  told_so : (r : Result Unit PrintFault) (printed : ℕ) → printed ≡ length (appended check out text) →
      returned tells r ≡ unless_refused check (cond (fits out text) (answer 0 0) (answer 7 (length text))) check →
      returned_length tells (result_and r (Ok printed)) ≡ answer_for check out text
  told_so (Ok u) printed p e = grind (arith, nat_tests)
  told_so (Err fault) printed p e = grind (arith, nat_tests, not_zero fault)

  small-value : check.value ≤ 16384 → (check.number ≡ 0 → length text ≤ 65538) → (answer_for check out text).value < 4294967296
  small-value c t = grind (arith, nat_tests)

-- a buffer that was empty over out, was printed to, and holds the first of its cells
module _ {S : Type 0} {m : Ghosts S} {a b : S} {check : Returned} {text : List ℕ} {r : Result Unit PrintFault} (p : PrintsChecked m a b check text r)
    (out : List ℕ) (empty : m.bytes a ≡ []) (limit : m.limit_of a ≡ slice_limit out) where
  holds : m.bytes b ≡ appended check out text
  holds = p.appends.appends ∙ rw (empty, limit, zero-add)

  pub cells_are : m.memory a ≡ out → {printed : ℕ} {left : List ℕ} → printed ≡ length (m.bytes b) → left ≡ m.memory b → take printed left ≡ m.bytes b → left ≡ out_after check out text
  cells_are came {printed} {left} n stay front =
      sym (take-append-drop printed left) ∙ (rw (front, n, stay, p.appends.beyond_untouched, came, holds) (over check out text))

  room_told : returned buffer_tells (print_answer (m.bytes a) (m.limit_of a) text) ≡ cond (fits out text) (answer 0 0) (answer 7 (length text))
  room_told = rw (empty, limit, zero-add) (by_room (fits out text) (length text))

  pub answered : {printed : ℕ} {s : Result ℕ PrintFault} → printed ≡ length (m.bytes b) → s ≡ result_and r (Ok printed) → returned_length tells s ≡ answer_for check out text
  answered {printed} n e =
      ap (returned_length tells) e
      ∙ told_so check out text r printed (n ∙ ap length holds) (p.answers ∙ ap (λ t. unless_refused check t check) room_told)

  -- the value of the answer fits into its half
  pub value_fits : {printed : ℕ} {s : Result ℕ PrintFault} → printed ≡ length (m.bytes b) → s ≡ result_and r (Ok printed) →
      check.value ≤ 16384 → (check.number ≡ 0 → length text ≤ 65538) → (returned_length tells s).value < 4294967296
  value_fits n e c t = subst (λ x. x.value < 4294967296) (sym (answered n e)) (small-value check out text c t)
