-- The theorems on well-formed bytes, for WTF-8 and for UTF-8.
use Rattle.std.specs.Prelude.{◌≡◌, ℕ, ◌<◌, ◌≤◌, List, ◌++◌, length, take, Some, None}
use Rattle.std.proofs.Math.Utf8.{encode, encodes}
use Rattle.std.specs.Char.{len_utf8}
use Rattle.text.specs.declared.well_formed.Encoding.{Encoding}
use Rattle.text.specs.Wtf8.{Points, WellFormed, Breach}
use Rattle.text.specs.Names.{name_breach, IsName, NameBreach}
use Rattle.text.specs.Sequence.{sequence, breach, marked, surrogates, code_points}

-- Bytes have no breach exactly if they are well formed.
abbrev pub Accepted : Type 0
Accepted =
    (encoding : Encoding) (bytes : List ℕ) →
    (breach encoding bytes ≡ None → WellFormed encoding bytes) × (WellFormed encoding bytes → breach encoding bytes ≡ None)

-- The place is that of the first breach, and of nothing else.
abbrev pub Placed : Type 0
Placed =
    (encoding : Encoding) (bytes : List ℕ) (place : ℕ) →
    (breach encoding bytes ≡ Some place → Breach encoding bytes place) × (Breach encoding bytes place → breach encoding bytes ≡ Some place)

-- What is well formed at the front of the bytes does not reach past the breach.
abbrev pub Longest : Type 0
Longest =
    (encoding : Encoding) (bytes : List ℕ) (place n : ℕ) → Breach encoding bytes place → n ≤ length bytes →
    WellFormed encoding (take n bytes) → n ≤ place

-- A sequence is the encoding of its code point, and the encoding of a code point is such a sequence.
abbrev pub Sequences : Type 0
Sequences =
    (bytes : List ℕ) →
    (0 < (sequence bytes).1 → ((sequence bytes).0 ≤ 0x10FFFF) × ((rest : List ℕ) × (bytes ≡ encode (sequence bytes).0 ++ rest)))
    × ((c : ℕ) (rest : List ℕ) → c ≤ 0x10FFFF → bytes ≡ encode c ++ rest → sequence bytes ≡ (c, len_utf8 c))

-- In well-formed bytes some ED before A0 to BF is there exactly if there is a surrogate.
abbrev pub Marked : Type 0
Marked = (encoding : Encoding) (cs : List ℕ) → Points encoding 0 cs → marked 0 (encodes cs) ≡ surrogates cs

-- Bytes are read as the code points that they encode.
abbrev pub Read : Type 0
Read = (encoding : Encoding) (cs : List ℕ) → Points encoding 0 cs → code_points (encodes cs) ≡ cs

-- Code points have no breach of the rule of names exactly if they are a name; and the place is that of the first breach, and of nothing else.
abbrev pub Named : Type 0
Named = (text : List ℕ) → (name_breach text ≡ None → IsName text) × (IsName text → name_breach text ≡ None)

abbrev pub NamePlaced : Type 0
NamePlaced = (text : List ℕ) (place : ℕ) → (name_breach text ≡ Some place → NameBreach text place) × (NameBreach text place → name_breach text ≡ Some place)
