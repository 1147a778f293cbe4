-- What a C function answers, and what the caller's bytes hold then.
use Rattle.std.specs.Prelude.{ℕ, ◌+◌, ◌*◌, Bool, cond, not, List, ◌++◌, length, drop, ◌==◌, nat_le}
use Rattle.refusal.specs.Returned.{Returned, answer}
use Rattle.buffer.specs.Kinds.{slice_limit}
use Rattle.options.specs.declared.CodegenOptions.{CodegenOptions}
use Rattle.codegen.specs.Checked.{unless_refused}
use Rattle.codegen.specs.declared.raw_kind.RawKind.{RawKind}
use Rattle.codegen.specs.declared.raw_kind.RawKind.TheVariants.{Piece, TaggedPiece}

-- a flag is set unless it is 0
abbrev pub is_set : ℕ → Bool
is_set flag = not (flag == 0)

abbrev pub options_of : ℕ → ℕ → ℕ → CodegenOptions
options_of single minify ascii = record { single_quote = is_set single; minify = is_set minify; ascii_only = is_set ascii }

abbrev pub piece_kind : ℕ → RawKind
piece_kind tagged = cond (is_set tagged) TaggedPiece Piece

-- the text fits into the caller's bytes, of which 65,536 are used at most
abbrev pub fits : List ℕ → List ℕ → Bool
fits out text = nat_le (length text) (slice_limit out)

-- what the check refused, else 7 with the need, else 0 with the printed length
abbrev pub answer_for : Returned → List ℕ → List ℕ → Returned
answer_for check out text = unless_refused check (cond (fits out text) (answer 0 (length text)) (answer 7 (length text))) check

-- the text at the front, and what stood beyond it; or all as before
abbrev pub out_after : Returned → List ℕ → List ℕ → List ℕ
out_after check out text = unless_refused check (cond (fits out text) (text ++ drop (length text) out) out) out

-- both in one number of 64 bits
abbrev pub packed : Returned → ℕ
packed r = r.number * 4294967296 + r.value
