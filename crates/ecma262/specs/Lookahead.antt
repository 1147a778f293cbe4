-- What a text begins with, as a test that computes.
use Rattle.std.specs.Prelude.{ℕ, Bool, true, false, ◌&&◌, List, [], ◌∷◌, nat_le}

-- the text begins with characters that pass the tests, one after the other
abbrev pub opens : List (ℕ → Bool) → List ℕ → Bool
opens [] s = true
opens (p ∷ ps) [] = false
opens (p ∷ ps) (c ∷ s) = p c && opens ps s

-- a DecimalDigit, 0 to 9
abbrev pub digit : ℕ → Bool
digit c = nat_le 0x30 c && nat_le c 0x39
