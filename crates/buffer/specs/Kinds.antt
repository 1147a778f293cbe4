-- What each kind of code buffer holds and may hold, in terms of its fields.
use Rattle.std.specs.Prelude.{ℕ, min, max, List, length, take}

-- over cells: the first of them, so many as are used
abbrev pub held_bytes : ℕ → List ℕ → List ℕ
held_bytes used cells = take used cells

-- over a caller's cells: all of them, and 65,536 at most
abbrev pub slice_limit : List ℕ → ℕ
slice_limit cells = min (length cells) 65536

abbrev pub owned_limit : ℕ
owned_limit = 4096

-- under a quota: the larger of what is held and the smaller of the quota and the limit below
abbrev pub quota_limit : ℕ → ℕ → ℕ → ℕ
quota_limit held quota limit = max held (min quota limit)
