-- Well-formed bytes (the WTF-8 specification, and UTF-8). Bytes are well formed if they are the generalized UTF-8 of code points 0 to 10FFFF,
-- which is the arithmetic of UTF-8, `encodes`, at surrogates too. WTF-8 allows surrogates, but no lead surrogate directly before a trail
-- surrogate; UTF-8 allows none.
use Rattle.std.specs.Prelude.{◌≡◌, ℕ, ◌<◌, ◌≤◌, List, [], ◌∷◌, ◌++◌, length}
use Rattle.std.proofs.Math.Utf8.{encode, encodes}
use Rattle.text.specs.declared.well_formed.Encoding.{Encoding}
use Rattle.text.specs.declared.well_formed.Encoding.TheVariants.{Wtf8, Utf8}

abbrev pub Lead : ℕ → Type 0
Lead c = (0xD800 ≤ c) × (c ≤ 0xDBFF)

abbrev pub Trail : ℕ → Type 0
Trail c = (0xDC00 ≤ c) × (c ≤ 0xDFFF)

abbrev pub Surrogate : ℕ → Type 0
Surrogate c = (0xD800 ≤ c) × (c ≤ 0xDFFF)

-- the code point c may not stand behind the code point before (0 where none does)
abbrev pub Barred : Encoding → ℕ → ℕ → Type 0
Barred Wtf8 before c = Lead before × Trail c
Barred Utf8 before c = Surrogate c

-- code points that may stand behind the code point before
abbrev pub Points : Encoding → ℕ → List ℕ → Type 0
Points encoding before [] = Unit {0}
Points encoding before (c ∷ cs) = (c ≤ 0x10FFFF) × (Barred encoding before c → ⊥) × Points encoding c cs

abbrev pub WellFormed : Encoding → List ℕ → Type 0
WellFormed encoding bytes = (cs : List ℕ) × Points encoding 0 cs × (encodes cs ≡ bytes)

-- the last of cs, or before
abbrev pub last : ℕ → List ℕ → ℕ
last before [] = before
last before (c ∷ cs) = last c cs

-- bytes behind the code point before that do not go on with a sequence, unless with one of a code point that is barred there
abbrev pub Broken : Encoding → ℕ → List ℕ → Type 0
Broken encoding before bytes =
    (0 < length bytes) × ((c : ℕ) (more : List ℕ) → c ≤ 0x10FFFF → bytes ≡ encode c ++ more → Barred encoding before c)

-- the first breach in bytes: what stands in front of the place is well formed, and what stands there is broken
pub record Breach (encoding : Encoding) (bytes : List ℕ) (place : ℕ) : Type 0 where
  pub good : List ℕ
  pub rest : List ℕ
  pub points : Points encoding 0 good
  pub parts : bytes ≡ encodes good ++ rest
  pub here : length (encodes good) ≡ place
  pub broken : Broken encoding (last 0 good) rest
