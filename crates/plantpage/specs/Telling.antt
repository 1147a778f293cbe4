-- How the answer to a call is told.
use Rattle.std.specs.Prelude.{ℕ, List, ◌++◌, Ok, Err, codes, decimal, Result}
use Rattle.refusal.specs.Telling.{refusal_told}
use Rattle.codegen.specs.declared.fault.PrintFault.{PrintFault}
use Rattle.codegen.specs.Checked.{tells}
use Rattle.job.specs.Words.{spelled}
use Rattle.plantpage.specs.declared.telling.Told.{Told}

-- 0 and how many bytes were printed, or the refusal
abbrev pub answer_told : Result ℕ PrintFault → List ℕ
answer_told (Ok printed) = codes "0, " ++ (decimal printed ++ codes " bytes")
answer_told (Err fault) = refusal_told (tells fault)

-- the line, the call and what came of it
abbrev pub line_told : Told → List ℕ
line_told t = codes "line " ++ (decimal t.line ++ (codes ": " ++ (spelled t.kind ++ (codes ": " ++ answer_told t.answer))))
