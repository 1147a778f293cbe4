-- A lookahead of ECMA-262, and the test of it.
use Rattle.std.proofs.lemmas.Grind.{common_steps}
use Rattle.std.proofs.Common.{arith, ◌≡◌, ℕ, Bool, true, false, List, [], ◌∷◌, refl}
use Rattle.ecma262.specs.Literals.{NotAhead}
use Rattle.ecma262.specs.Lookahead.{opens}

pub not_ahead : (p : ℕ → Bool) (P : ℕ → Type 0) → ((c : ℕ) → (P c → ⊥) → p c ≡ false) → (s : List ℕ) → NotAhead P s → opens (p ∷ []) s ≡ false
not_ahead p P fails [] n = refl
not_ahead p P fails (c ∷ s) n = rw (fails c n)

pub lookahead : (p : ℕ → Bool) (P : ℕ → Type 0) → ((c : ℕ) → P c → p c ≡ true) → (s : List ℕ) → opens (p ∷ []) s ≡ false → NotAhead P s
lookahead p P passes [] e = tt
lookahead p P passes (c ∷ s) e = grind (arith, common_steps)
