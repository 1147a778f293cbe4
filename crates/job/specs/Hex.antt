-- Bytes written in hex: the value of a digit, of a pair, and of a text of pairs with blanks between them.
use Rattle.std.specs.Prelude.{◌≡◌, ℕ, ◌+◌, ◌-◌, ◌*◌, Bool, cond, ◌&&◌, List, [], ◌∷◌, Some, None, Ok, Err, vec_items, Option, Result, Vec, nat_le}
use Rattle.std.specs.declared.alloc.Global.{Global}
use Rattle.job.specs.declared.faults.Expected.TheVariants.{HexPairs}
use Rattle.job.specs.declared.faults.Expected.{Expected}
use Rattle.job.specs.declared.faults.Unread.{Unread}
use Rattle.job.specs.declared.faults.Unread.TheVariants.{Fault, Memory}
use Rattle.job.specs.Lines.{blank}

abbrev pub between : ℕ → ℕ → ℕ → Bool
between low high b = nat_le low b && nat_le b high

-- 0 to 9, a to f, A to F
abbrev pub digit : ℕ → Option ℕ
digit b =
    cond (between 48 57 b) (Some (b - 48))
    (cond (between 97 102 b) (Some (b - 87))
    (cond (between 65 70 b) (Some (b - 55)) None))

abbrev pub joined : Option ℕ → Option ℕ → Option ℕ
joined (Some high) (Some low) = Some (high * 16 + low)
joined (Some high) None = None
joined None low = None

-- the byte that two digits write, the high one first
abbrev pub pair : ℕ → ℕ → Option ℕ
pair high low = joined (digit high) (digit low)

abbrev pub put : Option ℕ → Option (List ℕ) → Option (List ℕ)
put (Some b) (Some bs) = Some (b ∷ bs)
put (Some b) None = None
put None bs = None

-- the bytes that a text of pairs writes; none where it is no such text
abbrev pub pairs : List ℕ → Option (List ℕ)
pairs [] = Some []
pairs (high ∷ []) = cond (blank high) (Some []) None
pairs (high ∷ low ∷ rest) = cond (blank high) (pairs (low ∷ rest)) (put (pair high low) (pairs rest))

-- what reading pairs answers: their bytes, or that they are none, or that memory is wanting
abbrev pub PairsRead : List ℕ → Result (Vec ℕ Global) (Unread Expected) → Type 0
PairsRead text (Ok bytes) = pairs text ≡ Some (vec_items bytes)
PairsRead text (Err (Fault e)) = (e ≡ HexPairs) × (pairs text ≡ None)
PairsRead text (Err Memory) = Unit {0}
