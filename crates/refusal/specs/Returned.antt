-- An answer as its number and amount: 0 where the call was carried out, else what the refusal tells.
use Rattle.std.specs.Prelude.{ℕ, Some, None, Ok, Err, Option, Result}
use Rattle.refusal.specs.declared.Refusal.{Refusal}
use Rattle.refusal.specs.declared.Layer.{Layer}
use Rattle.refusal.specs.declared.Value.{Value}
use Rattle.refusal.specs.declared.Value.TheVariants.{Place, Need, Count}

-- the number, and the place, need, count or length that goes with it, else 0
pub record Returned : Type 0 where
  pub number : ℕ
  pub value : ℕ

abbrev pub answer : ℕ → ℕ → Returned
answer number value = record { number = number; value = value }

abbrev pub done : Returned
done = answer 0 0

-- the number of a value, else 0
abbrev pub amount_of : Option Value → ℕ
amount_of (Some (Place n)) = n
amount_of (Some (Need n)) = n
amount_of (Some (Count n)) = n
amount_of None = 0

abbrev pub told : Refusal → Returned
told r = answer r.number (amount_of r.value)

abbrev pub refusal : ℕ → Layer → Option Value → Refusal
refusal number layer value = record { number = number; layer = layer; value = value }

-- the answer of a call whose faults tell what `tells` says
abbrev pub returned : {X F : Type 0} → (F → Refusal) → Result X F → Returned
returned tells (Ok x) = done
returned tells (Err f) = told (tells f)

-- the same of a call that answers how many bytes it printed
abbrev pub returned_length : {F : Type 0} → (F → Refusal) → Result ℕ F → Returned
returned_length tells (Ok printed) = answer 0 printed
returned_length tells (Err f) = told (tells f)
