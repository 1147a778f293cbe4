-- What is printed of a refusal.
use Rattle.std.specs.Prelude.{ℕ, List, [], ◌++◌, Some, None, codes, decimal, Option}
use Rattle.refusal.specs.declared.Refusal.{Refusal}
use Rattle.refusal.specs.declared.Layer.{Layer}
use Rattle.refusal.specs.declared.Layer.TheVariants.{Text, Buffer, Page, Reader}
use Rattle.refusal.specs.declared.Value.{Value}
use Rattle.refusal.specs.declared.Value.TheVariants.{Place, Need, Count}

abbrev pub layer_name : Layer → List ℕ
layer_name Text = codes "text"
layer_name Buffer = codes "buffer"
layer_name Page = codes "page"
layer_name Reader = codes "reader"

-- what the value is, and its number
abbrev pub value_told : Value → List ℕ
value_told (Place n) = codes "place " ++ decimal n
value_told (Need n) = codes "need " ++ decimal n
value_told (Count n) = codes "count " ++ decimal n

-- a comma and the value, where there is one
abbrev pub value_after : Option Value → List ℕ
value_after (Some value) = codes ", " ++ value_told value
value_after None = []

-- the number and the layer, and the value where there is one
abbrev pub refusal_told : Refusal → List ℕ
refusal_told x = decimal x.number ++ (codes " " ++ (layer_name x.layer ++ value_after x.value))
