-- A sequence is the encoding of its code point, and each encoding is such a sequence.
use Rattle.std.proofs.Common.{◌≡◌, ℕ, ◌+◌, ◌*◌, ◌/◌, ◌%◌, ◌<◌, ◌≤◌, Bool, true, false, ◌&&◌, ltb, leb, List, [], ◌∷◌, ◌++◌, length, get_or, drop, Some, None, refl, ap, ◌∙◌, ⊎_elim, add-zero, add_assoc, arith}
use lib.Utf8.{encode}
use Rattle.std.specs.Char.{len_utf8}
use Rattle.std.proofs.lemmas.List.{get_or-drop, at_drop_more}
use Rattle.std.proofs.lemmas.Bool.{cases_lt, both_ways, cond_both, cond-true, and_from, and_parts, ltb-true, ltb-false, leb-true, le-leb}
use Rattle.std.proofs.lemmas.Bool.Decides.{nat_tests}
use Rattle.ecma262.proofs.Utf8.{encode_1, encode_2, encode_3, encode_4}
use Rattle.text.specs.Sequence.{seq_len, goes, held, code, sequence}

pub sequence-none : sequence [] ≡ (0, 0)
unfolding sequence
sequence-none = refl

-- the sequence at a place inside the bytes, by the bytes there
pub at_drop : (bytes : List ℕ) (at : ℕ) → at < length bytes →
    sequence (drop at bytes) ≡ code (get_or bytes at 0) (get_or bytes (at + 1) 0) (get_or bytes (at + 2) 0) (get_or bytes (at + 3) 0)
unfolding sequence
at_drop bytes at h =
    let e = at_drop_more sequence bytes at 0 h in
    e ∙ rw (get_or-drop (at + 1) bytes 0 0, get_or-drop (at + 1) bytes 1 0, get_or-drop (at + 1) bytes 2 0, add-zero (at + 1), add_assoc at 1 1, add_assoc at 1 2)

module _ (a b c d : ℕ) where
  pub code_0 : seq_len a ≡ None → code a b c d ≡ (0, 0)
  code_0 h = grind (arith, nat_tests)

  pub code_1 : seq_len a ≡ Some 1 → code a b c d ≡ (a, 1)
  code_1 h = grind (arith, nat_tests)

  pub code_2 : seq_len a ≡ Some 2 → code a b c d ≡ held (goes b) 0x80 (a % 0x20 * 0x40 + b % 0x40) 2
  code_2 h = grind (arith, nat_tests)

  pub code_3 : seq_len a ≡ Some 3 → code a b c d ≡ held (goes b && goes c) 0x800 (a % 0x10 * 0x1000 + b % 0x40 * 0x40 + c % 0x40) 3
  code_3 h = grind (arith, nat_tests)

  pub code_4 : seq_len a ≡ Some 4 → code a b c d ≡ held (goes b && goes c && goes d) 0x10000 (a % 8 * 0x40000 + b % 0x40 * 0x1000 + c % 0x40 * 0x40 + d % 0x40) 4
  code_4 h = grind (arith, nat_tests)

-- what a sequence that was found says of the bytes
abbrev pub Sound : List ℕ → ℕ × ℕ → Type 0
Sound bytes r = 0 < r.1 → (r.0 ≤ 0x10FFFF) × (r.1 ≡ len_utf8 r.0) × ((rest : List ℕ) × (bytes ≡ encode r.0 ++ rest))

none_sound : (bytes : List ℕ) → Sound bytes (0, 0)
none_sound bytes h = absurd (omega arith)

held_sound : (bytes : List ℕ) (all : Bool) (low c n : ℕ) →
    (all ≡ true → low ≤ c → c ≤ 0x10FFFF → (n ≡ len_utf8 c) × ((rest : List ℕ) × (bytes ≡ encode c ++ rest))) → Sound bytes (held all low c n)
held_sound bytes all low c n f =
    cond_both (all && leb low c && leb c 0x10FFFF) (c, n) (0, 0) (Sound bytes)
    (λ t _. let p = and_parts (all && leb low c) (leb c 0x10FFFF) t in
    let q = and_parts all (leb low c) p.0 in
    let g = f q.0 (leb-true low c q.1) (leb-true c 0x10FFFF p.1) in
    (leb-true c 0x10FFFF p.1, g.0, g.1))
    (λ _. none_sound bytes)

goes_range : (b : ℕ) → goes b ≡ true → (0x80 ≤ b) × (b ≤ 0xBF)
goes_range b h = grind (arith, nat_tests)

two_sound : (a : ℕ) (bs : List ℕ) → 0xC0 ≤ a → a < 0xE0 → Sound (a ∷ bs) (held (goes (get_or bs 0 0)) 0x80 (a % 0x20 * 0x40 + get_or bs 0 0 % 0x40) 2)
two_sound a [] h k = none_sound (a ∷ [])
two_sound a (b ∷ rest) h k =
    held_sound (a ∷ b ∷ rest) (goes b) 0x80 (a % 0x20 * 0x40 + b % 0x40) 2
    (λ t low _.
    let g = goes_range b t in
    let x : ℕ = a % 0x20 * 0x40 + b % 0x40 in
    let e = encode_2 x low (omega arith) in
    let p : a ≡ 192 + x / 64 = omega arith in
    let q : b ≡ 128 + x % 64 = omega arith in
    (grind (arith, nat_tests), (rest, rw e (cc))))

three_sound : (a : ℕ) (bs : List ℕ) → 0xE0 ≤ a → a < 0xF0 →
    Sound (a ∷ bs) (held (goes (get_or bs 0 0) && goes (get_or bs 1 0)) 0x800 (a % 0x10 * 0x1000 + get_or bs 0 0 % 0x40 * 0x40 + get_or bs 1 0 % 0x40) 3)
three_sound a [] h k = none_sound (a ∷ [])
three_sound a (b ∷ []) h k =
    held_sound (a ∷ b ∷ []) (goes b && false) 0x800 (a % 0x10 * 0x1000 + b % 0x40 * 0x40 + 0) 3
    (λ t. absurd (both_ways false refl (and_parts (goes b) false t).1))
three_sound a (b ∷ c ∷ rest) h k =
    held_sound (a ∷ b ∷ c ∷ rest) (goes b && goes c) 0x800 (a % 0x10 * 0x1000 + b % 0x40 * 0x40 + c % 0x40) 3
    (λ t low _.
    let t2 = and_parts (goes b) (goes c) t in
    let g = goes_range b t2.0 in
    let g2 = goes_range c t2.1 in
    let x : ℕ = a % 0x10 * 0x1000 + b % 0x40 * 0x40 + c % 0x40 in
    let e = encode_3 x low (omega arith) in
    let p : a ≡ 224 + x / 4096 = omega arith in
    let q : b ≡ 128 + x / 64 % 64 = omega arith in
    let r : c ≡ 128 + x % 64 = omega arith in
    (grind (arith, nat_tests), (rest, rw e (cc))))

four_sound : (a : ℕ) (bs : List ℕ) → 0xF0 ≤ a → a < 0xF8 →
    Sound (a ∷ bs) (held (goes (get_or bs 0 0) && goes (get_or bs 1 0) && goes (get_or bs 2 0)) 0x10000
    (a % 8 * 0x40000 + get_or bs 0 0 % 0x40 * 0x1000 + get_or bs 1 0 % 0x40 * 0x40 + get_or bs 2 0 % 0x40) 4)
four_sound a [] h k = none_sound (a ∷ [])
four_sound a (b ∷ []) h k =
    held_sound (a ∷ b ∷ []) (goes b && false && false) 0x10000 (a % 8 * 0x40000 + b % 0x40 * 0x1000 + 0 + 0) 4
    (λ t. absurd (both_ways false refl (and_parts (goes b && false) false t).1))
four_sound a (b ∷ c ∷ []) h k =
    held_sound (a ∷ b ∷ c ∷ []) (goes b && goes c && false) 0x10000 (a % 8 * 0x40000 + b % 0x40 * 0x1000 + c % 0x40 * 0x40 + 0) 4
    (λ t. absurd (both_ways false refl (and_parts (goes b && goes c) false t).1))
four_sound a (b ∷ c ∷ d ∷ rest) h k =
    held_sound (a ∷ b ∷ c ∷ d ∷ rest) (goes b && goes c && goes d) 0x10000 (a % 8 * 0x40000 + b % 0x40 * 0x1000 + c % 0x40 * 0x40 + d % 0x40) 4
    (λ t low high.
    let t3 = and_parts (goes b && goes c) (goes d) t in
    let t2 = and_parts (goes b) (goes c) t3.0 in
    let g = goes_range b t2.0 in
    let g2 = goes_range c t2.1 in
    let g3 = goes_range d t3.1 in
    let x : ℕ = a % 8 * 0x40000 + b % 0x40 * 0x1000 + c % 0x40 * 0x40 + d % 0x40 in
    let e = encode_4 x low in
    let p : a ≡ 240 + x / 262144 = omega arith in
    let q : b ≡ 128 + x / 4096 % 64 = omega arith in
    let r : c ≡ 128 + x / 64 % 64 = omega arith in
    let s : d ≡ 128 + x % 64 = omega arith in
    (grind (arith, nat_tests), (rest, rw e (cc))))

pub sequence_sound : (bytes : List ℕ) → Sound bytes (sequence bytes)
unfolding sequence
sequence_sound [] = none_sound []
sequence_sound (a ∷ bs) =
    cond_both (ltb a 0x80) _ _ P
    (λ t _. let l = ltb-true a 0x80 t in (omega arith, grind (arith, nat_tests), (bs, rw (encode_1 a l) refl)))
    (λ f1. cond_both (ltb a 0xC0) _ _ P (λ _. none_sound (a ∷ bs))
    (λ f2. cond_both (ltb a 0xE0) _ _ P (λ t. two_sound a bs (ltb-false a 0xC0 f2) (ltb-true a 0xE0 t))
    (λ f3. cond_both (ltb a 0xF0) _ _ P (λ t. three_sound a bs (ltb-false a 0xE0 f3) (ltb-true a 0xF0 t))
    (λ f4. cond_both (ltb a 0xF8) _ _ P (λ t. four_sound a bs (ltb-false a 0xF0 f4) (ltb-true a 0xF8 t))
    (λ _. none_sound (a ∷ bs))))))
  where
    P : ℕ × ℕ → Type 0
    P = Sound (a ∷ bs)

-- a held sequence whose tests pass
pub held_true : (all : Bool) (low c d n : ℕ) → all ≡ true → c ≡ d → low ≤ d → d ≤ 0x10FFFF → held all low c n ≡ (d, n)
held_true all low c d n g e l h =
    rw e (cond-true (all && leb low d && leb d 0x10FFFF) (d, n) (0, 0) (and_from _ _ (and_from _ _ g (le-leb low d l)) (le-leb d 0x10FFFF h)))

goes_true : (b : ℕ) → 0x80 ≤ b → b ≤ 0xBF → goes b ≡ true
goes_true b h k = grind (arith, nat_tests)

pub sequence-encode : (c : ℕ) (rest : List ℕ) → c ≤ 0x10FFFF → sequence (encode c ++ rest) ≡ (c, len_utf8 c)
unfolding sequence
sequence-encode c rest h =
    ⊎_elim (λ p. rw (encode_1 c p) (code_1 c (get_or rest 0 0) (get_or rest 1 0) (get_or rest 2 0) (grind (arith, nat_tests)) ∙ ap (λ n. (c, n)) (grind (arith, nat_tests))))
    (λ p1. ⊎_elim (λ p. rw (encode_2 c p1 p)
    (code_2 (192 + c / 64) (128 + c % 64) (get_or rest 0 0) (get_or rest 1 0) (grind (arith, nat_tests))
    ∙ held_true _ 0x80 _ c 2 (goes_true (128 + c % 64) (omega arith) (omega arith)) (omega arith) p1 h
    ∙ ap (λ n. (c, n)) (grind (arith, nat_tests))))
    (λ p2. ⊎_elim (λ p. rw (encode_3 c p2 p)
    (code_3 (224 + c / 4096) (128 + c / 64 % 64) (128 + c % 64) (get_or rest 0 0) (grind (arith, nat_tests))
    ∙ held_true _ 0x800 _ c 3 (and_from _ _ (goes_true (128 + c / 64 % 64) (omega arith) (omega arith)) (goes_true (128 + c % 64) (omega arith) (omega arith))) (omega arith) p2 h
    ∙ ap (λ n. (c, n)) (grind (arith, nat_tests))))
    (λ p3. rw (encode_4 c p3)
    (code_4 (240 + c / 262144) (128 + c / 4096 % 64) (128 + c / 64 % 64) (128 + c % 64) (grind (arith, nat_tests))
    ∙ held_true _ 0x10000 _ c 4 (and_from _ _ (and_from _ _ (goes_true (128 + c / 4096 % 64) (omega arith) (omega arith)) (goes_true (128 + c / 64 % 64) (omega arith) (omega arith)))
    (goes_true (128 + c % 64) (omega arith) (omega arith))) (omega arith) p3 h
    ∙ ap (λ n. (c, n)) (grind (arith, nat_tests))))
    (cases_lt c 0x10000)) (cases_lt c 0x800)) (cases_lt c 0x80)
