-- A turn of the printer: what it takes of the text, and what it prints.
use Rattle.std.specs.Prelude.{◌≡◌, ℕ, ◌+◌, ◌<◌, ◌≤◌, Bool, true, false, List, [], ◌∷◌, ◌++◌, length, take, drop, slice_index}
use Rattle.std.proofs.Math.Utf8.{encodes}
use Rattle.std.specs.List.{AllByRecursion}
use Rattle.ecma262.specs.declared.Quote.{Quote}
use Rattle.literal.specs.Escapes.{behind, printed}
use Rattle.literal.specs.Quotes.{chosen}
use Rattle.text.specs.Sequence.{is_surrogate, code_points}
use Rattle.codegen.specs.declared.turn.Turn.{Turn}
use Rattle.codegen.specs.declared.turn.Turn.TheVariants.{Plain, Escaped, Tag}
use Rattle.codegen.specs.Classes.{class_in, decides}

-- a code point of a text with this flag
abbrev pub Fine : Bool → ℕ → Type 0
Fine lone c = (c ≤ 0x10FFFF) × (is_surrogate c ≡ true → lone ≡ true)

-- bytes that are characters of such a text
abbrev pub Fit : Bool → List ℕ → Type 0
Fit lone s = (encodes (code_points s) ≡ s) × AllByRecursion (Fine lone) (code_points s)

abbrev pub takes : Turn → ℕ
takes (Plain n) = n
takes (Escaped e c n) = n
takes Tag = 2

-- how many bytes are printed
abbrev pub printed_size : Turn → ℕ
printed_size (Plain n) = n
printed_size (Escaped e c n) = length (0x5C ∷ behind c e)
printed_size Tag = 3

abbrev pub puts : List ℕ → Turn → List ℕ
puts s (Plain n) = take n s
puts s (Escaped e c n) = 0x5C ∷ behind c e
puts s Tag = take 1 s ++ (0x5C ∷ 0x2F ∷ [])

abbrev pub is_plain : Turn → Bool
is_plain (Plain n) = true
is_plain (Escaped e c n) = false
is_plain Tag = false

-- the bytes that are printed of s
unfoldable pub body : Quote → Bool → List ℕ → List ℕ
body q ascii s = encodes (printed q ascii 0 (code_points s))

-- a right turn at the front of s, in quotes q
pub record Turned (q : Quote) (ascii lone : Bool) (s : List ℕ) (r : Turn) : Type 0 where
  pub more : 0 < takes r
  pub within : takes r ≤ length s
  pub fit : Fit lone (drop (takes r) s)
  pub shown : body q ascii s ≡ puts s r ++ body q ascii (drop (takes r) s)

-- the quote decides what is printed at a place
abbrev pub decides_at : Bool → Bool → List ℕ → ℕ → Bool
decides_at ascii lone bytes at = decides (class_in ascii lone (slice_index bytes at)) (slice_index bytes (at + 1))

-- A turn that is right in quotes q, and in any others unless the quote decides; and then a plain one leaves the choice of the quote as it is.
pub record Decided (q : Quote) (ascii lone : Bool) (bytes : List ℕ) (at : ℕ) (r : Turn) : Type 0 where
  pub right : (p : Quote) → (decides_at ascii lone bytes at ≡ true → p ≡ q) → Turned p ascii lone (drop at bytes) r
  pub free : decides_at ascii lone bytes at ≡ false → is_plain r ≡ true → (allow : Bool) →
      chosen allow (code_points (drop at bytes)) ≡ chosen allow (code_points (drop (at + takes r) bytes))
