-- The bytes of a code point in UTF-8, and what a test of ASCII characters sees of a text in its bytes.
use Rattle.std.proofs.Common.{◌≡◌, ℕ, ◌+◌, ◌/◌, ◌%◌, ◌<◌, ◌≤◌, Bool, false, ◌&&◌, eqb, List, [], ◌∷◌, ◌++◌, get_or, sym, refl, ap, ⊎_elim, arith}
use lib.Utf8.{encode, encodes}
use Rattle.std.specs.List.{AllByRecursion}
use Rattle.std.proofs.Math.Bool.{and-true}
use Rattle.std.proofs.lemmas.Bool.{cases_lt, lt-ltb, le-ltb}
use Rattle.std.proofs.lemmas.Bool.Decides.{nat_tests}
use Rattle.ecma262.specs.Lookahead.{opens, digit}

-- the bytes of a code point, by how many they are
module _ (c : ℕ) where
  pub encode_1 : c < 0x80 → encode c ≡ c ∷ []
  unfolding encode
  encode_1 h = rw (lt-ltb c 128 h)

  pub encode_2 : 0x80 ≤ c → c < 0x800 → encode c ≡ (192 + c / 64) ∷ (128 + c % 64) ∷ []
  unfolding encode
  encode_2 h k = rw (le-ltb c 128 h, lt-ltb c 2048 k)

  pub encode_3 : 0x800 ≤ c → c < 0x10000 → encode c ≡ (224 + c / 4096) ∷ (128 + c / 64 % 64) ∷ (128 + c % 64) ∷ []
  unfolding encode
  encode_3 h k = grind (arith, nat_tests)

  pub encode_4 : 0x10000 ≤ c → encode c ≡ (240 + c / 262144) ∷ (128 + c / 4096 % 64) ∷ (128 + c / 64 % 64) ∷ (128 + c % 64) ∷ []
  unfolding encode
  encode_4 h = grind (arith, nat_tests)

-- a character and its bytes: itself, or bytes above 7F
pub data Encoded (c : ℕ) : List ℕ → Type 0 where
  ascii : c < 0x80 → Encoded c (c ∷ [])
  wide : {b : ℕ} {s : List ℕ} → 0x80 ≤ c → 0x80 ≤ b → AllByRecursion (λ x. 0x80 ≤ x) s → Encoded c (b ∷ s)

pub encoded : (c : ℕ) → Encoded c (encode c)
encoded c =
    ⊎_elim (λ p. rw (encode_1 c p) (ascii p))
    (λ p1. ⊎_elim (λ p. rw (encode_2 c p1 p) (wide {b = 192 + c / 64} {s = (128 + c % 64) ∷ []} p1 (omega arith) (omega arith)))
    (λ p2. ⊎_elim (λ p. rw (encode_3 c p2 p) (wide {b = 224 + c / 4096} {s = (128 + c / 64 % 64) ∷ (128 + c % 64) ∷ []} p1 (omega arith) (omega arith)))
    (λ p3. rw (encode_4 c p3) (wide {b = 240 + c / 262144} {s = (128 + c / 4096 % 64) ∷ (128 + c / 64 % 64) ∷ (128 + c % 64) ∷ []} p1 (omega arith) (omega arith)))
    (cases_lt c 0x10000)) (cases_lt c 0x800)) (cases_lt c 0x80)

-- a test that passes ASCII alone
abbrev pub Narrow : (ℕ → Bool) → Type 0
Narrow p = (x : ℕ) → 0x80 ≤ x → p x ≡ false

same_here : (p : ℕ → Bool) (ps : List (ℕ → Bool)) → Narrow p → {c : ℕ} {e : List ℕ} (s t : List ℕ) → Encoded c e → opens ps t ≡ opens ps s →
    opens (p ∷ ps) (e ++ t) ≡ opens (p ∷ ps) (c ∷ s)
same_here p ps n {c} s t (ascii l) i = ap (λ b. p c && b) i
same_here p ps n {c} s t (wide {b = b} h k _) i = rw (n b k, n c h)

pub same_front : (ps : List (ℕ → Bool)) → AllByRecursion Narrow ps → (s : List ℕ) → opens ps (encodes s) ≡ opens ps s
same_front [] n s = refl
same_front (p ∷ ps) n [] = refl
same_front (p ∷ ps) n (c ∷ s) = same_here p ps n.0 s (encodes s) (encoded c) (same_front ps n.1 s)

pub digit_narrow : Narrow digit
digit_narrow x h = grind (arith, nat_tests)

pub eqb_narrow : (w : ℕ) → w < 0x80 → Narrow (eqb w)
eqb_narrow w l x h = grind (arith, nat_tests)

-- one test at the front is the test of the first byte, if it does not pass 0
pub first_test : (p : ℕ → Bool) → p 0 ≡ false → (s : List ℕ) → opens (p ∷ []) s ≡ p (get_or s 0 0)
first_test p z [] = sym z
first_test p z (c ∷ s) = and-true (p c)
