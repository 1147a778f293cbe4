-- A whole job: what each line adds to the lines before it, and what the first line is refused for that is none of a job's.
use Rattle.std.specs.Prelude.{◌≡◌, ℕ, ◌+◌, Bool, true, false, cond, ◌||◌, List, [], ◌∷◌, ◌++◌, map, length, is_some, Some, None, Ok, Err, vec_items, Option, Result, ◌==◌}
use Rattle.std.specs.Option.{unwrap_or}
use Rattle.job.specs.declared.calls.Job.{Job}
use Rattle.options.specs.declared.CodegenOptions.{CodegenOptions}
use Rattle.job.specs.declared.calls.CallKind.{CallKind}
use Rattle.job.specs.declared.faults.Expected.{Expected}
use Rattle.job.specs.declared.faults.Expected.TheVariants.{Keyword, OptionsOnce, OptionsFirst, LimitOnce, LimitFirst, HexPairs}
use Rattle.job.specs.declared.faults.JobFault.{JobFault}
use Rattle.job.specs.declared.faults.Unread.{Unread}
use Rattle.job.specs.declared.faults.Unread.TheVariants.{Fault, Memory}
use Rattle.job.specs.declared.reading.Draft.{Draft}
use Rattle.job.specs.declared.words.Form.{Form}
use Rattle.job.specs.declared.words.Keyword.{Keyword as AnyKeyword}
use Rattle.job.specs.declared.words.Keyword.TheVariants.{Options, Limit, Set}
use Rattle.job.specs.Lines.{ignored, word, behind, lines}
use Rattle.job.specs.Words.{keyword_of}
use Rattle.job.specs.Calls.{CallAt, call_at, text_of, flag_of}
use Rattle.job.specs.Settings.{options, options_of, limit_of}

-- what the lines so far come to
pub record Sketch : Type 0 where
  pub options : Option CodegenOptions
  pub limit : Option ℕ
  pub calls : List CallAt

abbrev pub sketch : Option CodegenOptions → Option ℕ → List CallAt → Sketch
sketch o n calls = record { options = o; limit = n; calls = calls }

abbrev pub drafted : Draft → Sketch
drafted d = sketch d.options d.limit (map call_at (vec_items d.calls))

-- a job whose options are all settled
abbrev pub whole : Job → Sketch
whole j = sketch (Some j.options) j.limit (map call_at (vec_items j.calls))

abbrev pub settled : Sketch → Sketch
settled d = sketch (Some (unwrap_or d.options (options false false false))) d.limit d.calls

-- whether a setting may stand here: before the first call, and once
abbrev pub may_set : Sketch → Bool → Expected → Expected → Result Unit Expected
may_set d already first once = cond (length d.calls == 0) (cond already (Err once) (Ok tt)) (Err first)

abbrev pub with_options : Sketch → Result CodegenOptions Expected → Result Sketch Expected
with_options d (Ok o) = Ok (sketch (Some o) d.limit d.calls)
with_options d (Err e) = Err e

abbrev pub with_limit : Sketch → Result ℕ Expected → Result Sketch Expected
with_limit d (Ok n) = Ok (sketch d.options (Some n) d.calls)
with_limit d (Err e) = Err e

abbrev pub with_call : Sketch → ℕ → CallKind → Form → Option (List ℕ) → Result Sketch Expected
with_call d n kind form None = Err HexPairs
with_call d n kind form (Some bytes) = Ok (sketch d.options d.limit (d.calls ++ record { line = n; kind = kind; bytes = bytes; lone = flag_of form bytes } ∷ []))

abbrev pub options_line : Sketch → List ℕ → Result Sketch Expected
options_line d argument = elim (may_set d (is_some d.options) OptionsFirst OptionsOnce) [ Err e ↦ Err e | Ok u ↦ with_options d (options_of argument) ]

abbrev pub limit_line : Sketch → List ℕ → Result Sketch Expected
limit_line d argument = elim (may_set d (is_some d.limit) LimitFirst LimitOnce) [ Err e ↦ Err e | Ok u ↦ with_limit d (limit_of argument) ]

abbrev pub call_line : Sketch → ℕ → CallKind → Form → List ℕ → Result Sketch Expected
call_line d n kind form argument = with_call d n kind form (text_of form argument)

abbrev pub keyed : Sketch → ℕ → Option AnyKeyword → List ℕ → Result Sketch Expected
keyed d n None argument = Err Keyword
keyed d n (Some Options) argument = options_line d argument
keyed d n (Some Limit) argument = limit_line d argument
keyed d n (Some (Set kind form)) argument = call_line d n kind form argument

-- what the line of number `n` makes of the lines before it
abbrev pub line_on : Sketch → ℕ → List ℕ → Result Sketch Expected
line_on d n line = cond (ignored line) (Ok d) (keyed d n (keyword_of (word line)) (behind line))

abbrev pub fault : ℕ → Expected → JobFault
fault n e = record { line = n; expected = e }

abbrev pub faulted : Unread Expected → ℕ → Unread JobFault
faulted (Fault e) n = Fault (fault n e)
faulted Memory n = Memory

-- the lines from number `n` on, behind those that came to `d`
abbrev pub job_from : ℕ → Sketch → List (List ℕ) → Result Sketch JobFault
job_from n d [] = Ok (settled d)
job_from n d (line ∷ rest) = elim (line_on d n line) [ Err e ↦ Err (fault n e) | Ok more ↦ job_from (n + 1) more rest ]

-- the job that a text is
abbrev pub job_of : List ℕ → Result Sketch JobFault
job_of text = job_from 1 (sketch None None []) (lines text)

abbrev pub sets_text : Option AnyKeyword → Bool
sets_text None = false
sets_text (Some Options) = false
sets_text (Some Limit) = false
sets_text (Some (Set kind form)) = true

-- whether a line is a call's
abbrev pub is_call : List ℕ → Bool
is_call line = cond (ignored line) false (sets_text (keyword_of (word line)))

abbrev pub call_among : List (List ℕ) → Bool
call_among [] = false
call_among (line ∷ rest) = is_call line || call_among rest

-- what taking a line answers and leaves, where `x` is what the line makes; memory is wanted for a call alone
abbrev pub LineTaken : Bool → Result Sketch Expected → Result Unit (Unread Expected) → Sketch → Type 0
LineTaken call x (Ok u) after = x ≡ Ok after
LineTaken call x (Err (Fault e)) after = x ≡ Err e
LineTaken call x (Err Memory) after = true ≡ call

-- what reading a job answers; memory is wanted only where some line is a call's
abbrev pub JobRead : List ℕ → Result Job (Unread JobFault) → Type 0
JobRead text (Ok job) = job_of text ≡ Ok (whole job)
JobRead text (Err (Fault f)) = job_of text ≡ Err f
JobRead text (Err Memory) = true ≡ call_among (lines text)
