-- What stands behind a cursor that goes on, and room behind what was appended.
use Rattle.std.proofs.Common.{◌≡◌, ℕ, refl}
use Rattle.codegen.specs.declared.state.PrintStringState.{PrintStringState}
use Rattle.codegen.specs.Cursor.{chunk, GoesOn}

-- the chunk of a cursor that was settled meanwhile
pub same_chunk : {s t : PrintStringState} {at : ℕ} → GoesOn s.chunk_start at s t → (end last : ℕ) → last ≡ end → chunk t last ≡ chunk s end
same_chunk {s} {t} g end last e = rw (g.literal, g.chunk_start, e) refl
