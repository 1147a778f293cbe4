-- Room for a text in a code buffer.
use Rattle.std.specs.Prelude.{ℕ, ◌+◌, ◌≤◌, List, length}
use Rattle.buffer.specs.declared.code_buffer.CodeBuffer.{Ghosts}

abbrev pub HasRoom : {S : Type 0} → Ghosts S → S → List ℕ → Type 0
HasRoom m code text = length (m.bytes code) + length text ≤ m.limit_of code
