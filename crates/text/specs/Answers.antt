-- What making a text value returns: numbers 1 to 5, tested in this order.
use Rattle.std.specs.Prelude.{ℕ, Bool, true, false, cond, not, List, length, Some, None, Ok, Err, Option, Result, nat_lt}
use Rattle.std.specs.Result.{result_map_both}
use Rattle.refusal.specs.Returned.{Returned, answer, done, refusal}
use Rattle.refusal.specs.Returned.{returned as returned_by}
use Rattle.refusal.specs.declared.Refusal.{Refusal}
use Rattle.refusal.specs.declared.Layer.TheVariants.{Text}
use Rattle.refusal.specs.declared.Value.TheVariants.{Place}
use Rattle.ecma262.specs.Template.{template_breach}
use Rattle.text.specs.declared.well_formed.Encoding.{Encoding}
use Rattle.text.specs.declared.well_formed.Encoding.TheVariants.{Wtf8, Utf8}
use Rattle.text.specs.declared.fault.TextFault.{TextFault}
use Rattle.text.specs.declared.fault.TextFault.TheVariants.{TooLong, Malformed, Misflagged, NotName, NotTemplate}
use Rattle.text.specs.Sequence.{breach, marked, code_points}
use Rattle.text.specs.Names.{name_breach}

-- what a fault of this layer tells
abbrev pub tells : TextFault → Refusal
tells TooLong = refusal 1 Text None
tells (Malformed place) = refusal 2 Text (Some (Place place))
tells Misflagged = refusal 3 Text None
tells (NotName place) = refusal 4 Text (Some (Place place))
tells (NotTemplate place) = refusal 5 Text (Some (Place place))

abbrev pub returned : {X : Type 0} → Result X TextFault → Returned
returned r = returned_by tells r

-- the number with the place, where there is one, else the next answer
abbrev pub unless : ℕ → Option ℕ → Returned → Returned
unless number (Some place) next = answer number place
unless number None next = next

abbrev pub is_same_flag : Bool → Bool → Bool
is_same_flag true b = b
is_same_flag false b = not b

-- what the check of bytes answers: whether there is a surrogate, or the place of the first breach
abbrev pub checked : Option ℕ → Bool → Result Bool ℕ
checked (Some place) lone = Err place
checked None lone = Ok lone

-- what the test of the limit and of the encoding answers: whether there is a surrogate, or the first fault
abbrev pub encoded : Encoding → ℕ → List ℕ → Result Bool TextFault
encoded encoding limit bytes = cond (nat_lt limit (length bytes)) (Err TooLong) (result_map_both (λ lone. lone) Malformed (checked (breach encoding bytes) (marked 0 bytes)))

-- within the limit and well formed, else the next answer
abbrev pub within : Encoding → ℕ → List ℕ → Returned → Returned
within encoding limit bytes next = cond (nat_lt limit (length bytes)) (answer 1 0) (unless 2 (breach encoding bytes) next)

-- within the limit, well formed, and flagged precisely when there is a surrogate
abbrev pub text_answer : List ℕ → Bool → Returned
text_answer bytes lone = within Wtf8 16384 bytes (cond (is_same_flag lone (marked 0 bytes)) done (answer 3 0))

-- within the limit, and well-formed UTF-8
abbrev pub raw_answer : List ℕ → Returned
raw_answer bytes = within Utf8 16384 bytes done

-- within the limit, well-formed UTF-8, and a name
abbrev pub name_answer : List ℕ → Returned
name_answer bytes = within Utf8 128 bytes (unless 4 (name_breach (code_points bytes)) done)

-- within the limit, well-formed UTF-8, and template text
abbrev pub template_answer : List ℕ → Returned
template_answer bytes = within Utf8 16384 bytes (unless 5 (template_breach (code_points bytes)) done)
