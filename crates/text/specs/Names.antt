-- The rule of names: at least one character, no ASCII digit first, and only ASCII letters and digits, $, _ and characters above 7F.
use Rattle.std.specs.Prelude.{◌≡◌, ℕ, ◌+◌, Bool, true, false, cond, ◌&&◌, ◌||◌, List, [], ◌∷◌, ◌++◌, length, Some, None, Option, ◌==◌, nat_le}
use Rattle.std.proofs.Math.Utf8.{encodes}
use Rattle.std.specs.Char.{len_utf8}

abbrev pub is_digit : ℕ → Bool
is_digit c = nat_le 0x30 c && nat_le c 0x39

abbrev pub is_letter : ℕ → Bool
is_letter c = nat_le 0x41 c && nat_le c 0x5A || nat_le 0x61 c && nat_le c 0x7A

-- a character that may stand first in a name
abbrev pub starts_name : ℕ → Bool
starts_name c = is_letter c || c == 0x24 || c == 0x5F || nat_le 0x80 c

-- a character that may stand anywhere else in a name
abbrev pub continues_name : ℕ → Bool
continues_name c = starts_name c || is_digit c

-- the place in bytes of the first character that does not go on with a name; the list begins at the place at
abbrev pub stops_at : ℕ → List ℕ → Option ℕ
stops_at at [] = None
stops_at at (c ∷ cs) = cond (continues_name c) (stops_at (at + len_utf8 c) cs) (Some at)

-- the place in bytes of the first character that breaks the rule of names; 0 where there is no character
abbrev pub name_breach : List ℕ → Option ℕ
name_breach [] = Some 0
name_breach (c ∷ cs) = cond (starts_name c) (stops_at (len_utf8 c) cs) (Some 0)

-- The rule as a relation.

abbrev pub Continues : List ℕ → Type 0
Continues [] = Unit {0}
Continues (c ∷ cs) = (continues_name c ≡ true) × Continues cs

-- characters that a name may begin with: none, or one that may stand first and others that may stand behind it
abbrev pub KeepsRule : List ℕ → Type 0
KeepsRule [] = Unit {0}
KeepsRule (c ∷ cs) = (starts_name c ≡ true) × Continues cs

-- a name: such characters, and at least one
abbrev pub IsName : List ℕ → Type 0
IsName [] = ⊥
IsName (c ∷ cs) = KeepsRule (c ∷ cs)

-- what stands behind good breaks the rule: its first character does, or there is no character at all
abbrev pub BreaksRule : List ℕ → List ℕ → Type 0
BreaksRule [] [] = Unit {0}
BreaksRule [] (c ∷ cs) = starts_name c ≡ false
BreaksRule (b ∷ good) [] = ⊥
BreaksRule (b ∷ good) (c ∷ cs) = continues_name c ≡ false

-- the first breach of the rule, with its place in bytes
pub record NameBreach (text : List ℕ) (place : ℕ) : Type 0 where
  pub good : List ℕ
  pub rest : List ℕ
  pub keeps : KeepsRule good
  pub parts : text ≡ good ++ rest
  pub here : length (encodes good) ≡ place
  pub breaks : BreaksRule good rest
