-- A text that is shorter than a word does not begin with it.
use Rattle.std.proofs.Common.{◌≡◌, ℕ, ◌<◌, Bool, false, List, [], ◌∷◌, length, refl, arith}
use Rattle.std.proofs.lemmas.Bool.{and_right}
use Rattle.ecma262.specs.Lookahead.{opens}

pub short : (ps : List (ℕ → Bool)) (s : List ℕ) → length s < length ps → opens ps s ≡ false
short [] s h = absurd (omega arith)
short (p ∷ ps) [] h = refl
short (p ∷ ps) (c ∷ s) h = and_right (p c) _ (short ps s (omega arith))
