-- What every code buffer keeps, and what is kept of the bytes that its layers note.
use Rattle.std.specs.Prelude.{ℕ, ◌≤◌, List, [], ◌++◌, length}

-- it never holds more than its limit, and no limit passes 65,536
pub record Lawful {S : Type 0} (bytes : S → List ℕ) (limit : S → ℕ) : Type 0 where
  pub within : (b : S) → length (bytes b) ≤ limit b
  pub bounded : (b : S) → limit b ≤ 65536

-- what is noted between two states goes on over texts one after the other, and a state notes nothing of itself
pub record Noting {S : Type 0} (noted : S → S → List ℕ → Type 0) : Type 0 where
  pub nothing : (b : S) → noted b b []
  pub joined : (a b c : S) (s t : List ℕ) → noted a b s → noted b c t → noted a c (s ++ t)
