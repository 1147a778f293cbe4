-- IdentifierName by ECMA-262 (12.7 Names and Keywords), as relations: `X s rest v` says that s begins with an X of the code points v, and
-- that rest follows it. Which code points above 7F are ID_Start or ID_Continue is left to Unicode: here all but the surrogates are both.
use Rattle.std.specs.Prelude.{◌≡◌, ℕ, ◌≤◌, ◌⊎◌, List, [], ◌∷◌}
use Rattle.std.specs.List.{AllByRecursion}
use Rattle.ecma262.specs.Units.{utf16}
use Rattle.ecma262.specs.Literals.{NotAhead, DecimalDigit, EscapeSequence}

-- A to Z, a to z
abbrev pub AsciiLetter : ℕ → Type 0
AsciiLetter c = ((0x41 ≤ c) × (c ≤ 0x5A)) ⊎ ((0x61 ≤ c) × (c ≤ 0x7A))

-- above 7F, and no surrogate
abbrev pub NonAscii : ℕ → Type 0
NonAscii c = (0x80 ≤ c) × (c ≤ 0x10FFFF) × ((0xD800 ≤ c) × (c ≤ 0xDFFF) → ⊥)

-- IdentifierStart: what may stand first
abbrev pub NameStart : ℕ → Type 0
NameStart c = AsciiLetter c ⊎ ((c ≡ 0x24) ⊎ ((c ≡ 0x5F) ⊎ NonAscii c))

-- IdentifierPart: what may stand elsewhere
abbrev pub NamePart : ℕ → Type 0
NamePart c = DecimalDigit c ⊎ NameStart c

-- a code point that the place allows, as it stands or as \ UnicodeEscapeSequence: \u and four digits, or digits in braces
pub data NameCharacter (Allowed : ℕ → Type 0) : List ℕ → List ℕ → ℕ → Type 0 where
  raw : {c : ℕ} {rest : List ℕ} → Allowed c → NameCharacter Allowed (c ∷ rest) rest c
  escape : {c : ℕ} {s rest : List ℕ} → EscapeSequence (0x75 ∷ s) rest (utf16 c) → Allowed c → NameCharacter Allowed (0x5C ∷ 0x75 ∷ s) rest c

-- what goes on with a name
abbrev pub GoesOn : ℕ → Type 0
GoesOn c = NamePart c ⊎ (c ≡ 0x5C)

-- the characters behind the first, as many as there are
pub data NameParts : List ℕ → List ℕ → List ℕ → Type 0 where
  end : {rest : List ℕ} → NotAhead GoesOn rest → NameParts rest rest []
  more : {c : ℕ} {s between rest cs : List ℕ} → NameCharacter NamePart s between c → NameParts between rest cs → NameParts s rest (c ∷ cs)

pub data IdentifierName : List ℕ → List ℕ → List ℕ → Type 0 where
  name : {c : ℕ} {s between rest cs : List ℕ} → NameCharacter NameStart s between c → NameParts between rest cs → IdentifierName s rest (c ∷ cs)

-- the code points of a name
abbrev pub NameText : List ℕ → Type 0
NameText [] = ⊥
NameText (c ∷ cs) = NameStart c × AllByRecursion NamePart cs
