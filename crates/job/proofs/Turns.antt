-- What one more line makes of a job, where the lines are the pieces between line feeds.
use Rattle.std.proofs.Common.{◌≡◌, ◌⊎◌, inl, inr, ℕ, zero, suc, ◌+◌, ◌<◌, Bool, true, false, ◌||◌, ◌==◌, cond, List, [], ◌∷◌, ◌++◌, length, get_or, drop, None, Ok, Err, Result, sym, refl, ap, ◌∙◌, arith}
use Rattle.std.specs.List.{slice_split, onto_first}
use Rattle.std.proofs.lemmas.List.{at_drop_more, at_drop_all}
use Rattle.job.specs.declared.faults.Expected.{Expected}
use Rattle.job.specs.declared.faults.JobFault.{JobFault}
use Rattle.job.specs.declared.faults.Unread.{Unread}
use Rattle.job.specs.declared.faults.Unread.TheVariants.{Fault, Memory}
use Rattle.job.specs.Lines.{lines}
use Rattle.job.specs.Jobs.{Sketch, sketch, line_on, fault, faulted, settled, job_from, job_of, LineTaken, JobRead, is_call, call_among}

abbrev pub pieces : List ℕ → List (List ℕ)
pieces text = slice_split (λ b. b == 10) text

-- the pieces are the lines, but for one more with nothing in it behind a last line feed
abbrev Ended : List (List ℕ) → List (List ℕ) → Type 0
Ended ps ls = (ps ≡ ls) ⊎ (ps ≡ ls ++ [] ∷ [])

ended-cons : (x : List ℕ) (ps ls : List (List ℕ)) → Ended ps ls → Ended (x ∷ ps) (x ∷ ls)
ended-cons x ps ls (inl e) = inl (ap (λ t. x ∷ t) e)
ended-cons x ps ls (inr e) = inr (ap (λ t. x ∷ t) e)

ended-onto : (b : ℕ) (ps ls : List (List ℕ)) → Ended ps ls → Ended (onto_first b ps) (onto_first b ls)
ended-onto b ps ls (inl e) = inl (ap (onto_first b) e)
ended-onto b ps [] (inr e) = inl (ap (onto_first b) e)
ended-onto b ps (l ∷ ls) (inr e) = inr (ap (onto_first b) e)

ended-piece : (t : Bool) (b : ℕ) (ps ls : List (List ℕ)) → Ended ps ls → Ended (cond t ([] ∷ ps) (onto_first b ps)) (cond t ([] ∷ ls) (onto_first b ls))
ended-piece true b ps ls e = ended-cons [] ps ls e
ended-piece false b ps ls e = ended-onto b ps ls e

pieces-lines : (text : List ℕ) → Ended (pieces text) (lines text)
pieces-lines [] = inr refl
pieces-lines (b ∷ text) = ended-piece (b == 10) b (pieces text) (lines text) (pieces-lines text)

-- what the lines behind one of number `n` make of what it makes
abbrev then_lines : ℕ → List (List ℕ) → Result Sketch Expected → Result Sketch JobFault
then_lines n rest x = elim x as (λ _. Result Sketch JobFault) [ Err e ↦ Err (fault n e) | Ok more ↦ job_from (n + 1) more rest ]

then-same : (n : ℕ) (ls ks : List (List ℕ)) (x : Result Sketch Expected) → ((more : Sketch) → job_from (n + 1) more ls ≡ job_from (n + 1) more ks) → then_lines n ls x ≡ then_lines n ks x
then-same n ls ks (Err e) h = refl
then-same n ls ks (Ok more) h = h more

-- a last line with nothing in it adds nothing
job-empty_last : (n : ℕ) (d : Sketch) (ls : List (List ℕ)) → job_from n d (ls ++ [] ∷ []) ≡ job_from n d ls
job-empty_last n d [] = refl
job-empty_last n d (l ∷ ls) = then-same n (ls ++ [] ∷ []) ls (line_on d n l) (λ more. job-empty_last (n + 1) more ls)

call-empty_last : (ls : List (List ℕ)) → call_among (ls ++ [] ∷ []) ≡ call_among ls
call-empty_last [] = refl
call-empty_last (l ∷ ls) = ap (λ b. is_call l || b) (call-empty_last ls)

pub job_of-pieces : (text : List ℕ) → job_of text ≡ job_from 1 (sketch None None []) (pieces text)
job_of-pieces text = elim (pieces-lines text) as (λ _. job_of text ≡ job_from 1 (sketch None None []) (pieces text)) [
  | inl e ↦ ap (job_from 1 (sketch None None [])) (sym e)
  | inr e ↦ sym (ap (job_from 1 (sketch None None [])) e ∙ job-empty_last 1 (sketch None None []) (lines text))
]

call_among-pieces : (text : List ℕ) → call_among (pieces text) ≡ call_among (lines text)
call_among-pieces text = elim (pieces-lines text) as (λ _. call_among (pieces text) ≡ call_among (lines text)) [
  | inl e ↦ ap call_among e
  | inr e ↦ ap call_among e ∙ call-empty_last (lines text)
]

or_true : (b : Bool) → true ≡ (b || true)
or_true false = refl
or_true true = refl

call_at : (ls : List (List ℕ)) (i : ℕ) (d : List ℕ) → i < length ls → true ≡ is_call (get_or ls i d) → true ≡ call_among ls
call_at [] i d h e = absurd (omega arith)
call_at (l ∷ ls) zero d h e = ap (λ b. b || call_among ls) e
call_at (l ∷ ls) (suc i) d h e = or_true (is_call l) ∙ ap (λ b. is_call l || b) (call_at ls i d (omega arith) e)

-- the piece behind the first `i`, which has the number `n`
module _ (text : List ℕ) (i n : ℕ) (line : List ℕ) (d : Sketch) (turn : (i < length (pieces text)) × (line ≡ get_or (pieces text) i line)) (so_far : job_of text ≡ job_from n d (drop i (pieces text))) where
  by_turn : job_of text ≡ then_lines n (drop (i + 1) (pieces text)) (line_on d n line)
  by_turn = so_far ∙ at_drop_more (job_from n d) (pieces text) i line turn.0 ∙ ap (λ l. job_from n d (l ∷ drop (i + 1) (pieces text))) (sym turn.1)

  pub line_taken : (more : Sketch) → line_on d n line ≡ Ok more → job_of text ≡ job_from (n + 1) more (drop (i + 1) (pieces text))
  line_taken more e = by_turn ∙ ap (then_lines n (drop (i + 1) (pieces text))) e

  -- the job is refused as its line is
  pub job_refused : (after : Sketch) (error : Unread Expected) → LineTaken (is_call line) (line_on d n line) (Err error) after → JobRead text (Err (faulted error n))
  job_refused after (Fault x) e = by_turn ∙ ap (then_lines n (drop (i + 1) (pieces text))) e
  job_refused after Memory e = call_at (pieces text) i line turn.0 (e ∙ ap is_call turn.1) ∙ call_among-pieces text

-- behind all pieces
pub all_taken : (text : List ℕ) (i n : ℕ) (d : Sketch) → i ≡ length (pieces text) → job_of text ≡ job_from n d (drop i (pieces text)) → job_of text ≡ Ok (settled d)
all_taken text i n d e so_far = so_far ∙ at_drop_all (job_from n d) (pieces text) i (omega arith)
