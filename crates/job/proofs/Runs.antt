-- The place of the first element that passes a test.
use Rattle.std.proofs.Common.{◌≡◌, ℕ, ◌<◌, true, false, Bool, List, length, Option, one-add, add-one, sym, refl}
use Rattle.std.specs.Option.{unwrap_or, MatchOption}
use Rattle.std.specs.List.{position_or_len, AllWithin, HoldsAt}
use Rattle.std.proofs.lemmas.Iterator.{index_from_first}

pub place_of_first : (p : ℕ → Bool) (xs : List ℕ) (r : Option ℕ) → MatchOption r (AllWithin (λ x. false ≡ p x) xs 0 (length xs)) (λ i. (i < length xs) × HoldsAt (λ x. true ≡ p x) xs i × AllWithin (λ x. false ≡ p x) xs 0 i) → position_or_len p xs ≡ unwrap_or r (length xs)
place_of_first p = index_from_first (position_or_len p) (λ x. true ≡ p x) (λ x. false ≡ p x) refl (λ x xs e. rw (sym e)) (λ x xs e. rw (sym e, one-add, add-one))
