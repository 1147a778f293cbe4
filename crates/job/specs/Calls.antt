-- The calls of a job: how each is read from its line's argument.
use Rattle.std.specs.Prelude.{◌≡◌, ℕ, Bool, true, false, List, Some, None, Ok, Err, vec_items, Option, Result, Vec}
use Rattle.std.specs.declared.alloc.Global.{Global}
use Rattle.job.specs.declared.calls.Entry.{Entry}
use Rattle.job.specs.declared.calls.Call.{Call}
use Rattle.job.specs.declared.calls.CallKind.{CallKind}
use Rattle.job.specs.declared.faults.Expected.TheVariants.{HexPairs}
use Rattle.job.specs.declared.faults.Expected.{Expected}
use Rattle.job.specs.declared.faults.Unread.{Unread}
use Rattle.job.specs.declared.faults.Unread.TheVariants.{Fault, Memory}
use Rattle.job.specs.declared.words.Flag.TheVariants.{Exact, Lone, Plain}
use Rattle.job.specs.declared.words.Form.{Form}
use Rattle.job.specs.declared.words.Form.TheVariants.{AsItStands, Hex}
use Rattle.job.specs.Hex.{pairs}
use Rattle.text.specs.Sequence.{marked}

-- a call with its line and its text
pub record CallAt : Type 0 where
  pub line : ℕ
  pub kind : CallKind
  pub bytes : List ℕ
  pub lone : Bool

abbrev pub call_at : Entry → CallAt
call_at e = record { line = e.line; kind = e.call.kind; bytes = vec_items e.call.bytes; lone = e.call.lone }

-- the bytes that a call's argument writes
abbrev pub text_of : Form → List ℕ → Option (List ℕ)
text_of AsItStands argument = Some argument
text_of (Hex flag) argument = pairs argument

-- the flag of a text: what is exact, unless it is forced
abbrev pub flag_of : Form → List ℕ → Bool
flag_of AsItStands bytes = marked 0 bytes
flag_of (Hex Exact) bytes = marked 0 bytes
flag_of (Hex Lone) bytes = true
flag_of (Hex Plain) bytes = false

-- what reading a call's text answers
abbrev pub TextRead : Form → List ℕ → Result (Vec ℕ Global) (Unread Expected) → Type 0
TextRead form argument (Ok bytes) = text_of form argument ≡ Some (vec_items bytes)
TextRead form argument (Err (Fault e)) = (e ≡ HexPairs) × (text_of form argument ≡ None)
TextRead form argument (Err Memory) = Unit {0}

-- what reading a call answers
abbrev pub CallRead : CallKind → Form → List ℕ → Result Call (Unread Expected) → Type 0
CallRead kind form argument (Ok call) = (call.kind ≡ kind) × (text_of form argument ≡ Some (vec_items call.bytes)) × (call.lone ≡ flag_of form (vec_items call.bytes))
CallRead kind form argument (Err (Fault e)) = (e ≡ HexPairs) × (text_of form argument ≡ None)
CallRead kind form argument (Err Memory) = Unit {0}
