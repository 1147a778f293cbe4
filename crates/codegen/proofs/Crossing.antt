-- Code points and their bytes: what tests that pass ASCII alone see, and the first byte.
use Rattle.std.proofs.Common.{◌≡◌, ℕ, ◌+◌, ◌/◌, ◌<◌, ◌≤◌, Bool, true, cond, eqb, ltb, List, [], ◌∷◌, ◌++◌, length, get_or, take, map, Some, refl, ap, ◌∙◌, ⊎_elim, Decides, arith}
use lib.Utf8.{encode}
use Rattle.std.specs.Char.{len_utf8, to_ascii_lowercase}
use Rattle.std.proofs.lemmas.Bool.{cases_lt, and_parts, and_from}
use Rattle.std.proofs.lemmas.Bool.Decides.{nat_tests}
use Rattle.ecma262.specs.Lookahead.{opens}
use Rattle.literal.specs.Escapes.{same_letter, tag}
use Rattle.text.specs.Sequence.{is_surrogate, seq_len}
use Rattle.ecma262.proofs.Utf8.{encode_1, encode_2, encode_3, encode_4}

-- the first byte of c
abbrev pub lead_byte : ℕ → ℕ
lead_byte c = cond (ltb c 0x80) c (cond (ltb c 0x800) (192 + c / 64) (cond (ltb c 0x10000) (224 + c / 4096) (240 + c / 262144)))

pub lead_byte_lem : (c : ℕ) (t : List ℕ) → get_or (encode c ++ t) 0 0 ≡ lead_byte c
lead_byte_lem c t =
    ⊎_elim (λ p. rw (encode_1 c p) (grind (arith, nat_tests)))
    (λ p1. ⊎_elim (λ p. rw (encode_2 c p1 p) (grind (arith, nat_tests)))
    (λ p2. ⊎_elim (λ p. rw (encode_3 c p2 p) (grind (arith, nat_tests))) (λ p3. rw (encode_4 c p3) (grind (arith, nat_tests)))
    (cases_lt c 0x10000)) (cases_lt c 0x800)) (cases_lt c 0x80)

-- what the first byte tells of c
module _ (c b : ℕ) (e : b ≡ lead_byte c) where
  pub low : b < 0x80 → c ≡ b
  low h = grind (arith, nat_tests)

  pub high : 0x80 ≤ b → (0x80 ≤ c) × (0xC0 ≤ b)
  high h = grind (arith, nat_tests)

  pub wide_len : c ≤ 0x10FFFF → seq_len b ≡ Some (len_utf8 c)
  wide_len h = grind (arith, nat_tests)

  pub nbsp : c ≡ 0xA0 → b ≡ 0xC2
  nbsp h = e ∙ ap lead_byte h

  pub line_sep : c ≡ 0x2028 → b ≡ 0xE2
  line_sep h = e ∙ ap lead_byte h

  pub para_sep : c ≡ 0x2029 → b ≡ 0xE2
  para_sep h = e ∙ ap lead_byte h

  pub surrogate : is_surrogate c ≡ true → b ≡ 0xED
  surrogate h = grind (arith, nat_tests)

-- The tests pass the bytes that become these by lower case.
abbrev Cased : List (ℕ → Bool) → List ℕ → Type 0
Cased [] [] = Unit {0}
Cased (p ∷ ps) (w ∷ ws) = ((c : ℕ) → Decides (p c) (to_ascii_lowercase c ≡ w)) × Cased ps ws
Cased _ _ = ⊥

opens_cased : (ps : List (ℕ → Bool)) (ws s : List ℕ) → Cased ps ws → length ws ≤ length s → Decides (opens ps s) (map to_ascii_lowercase (take (length ws) s) ≡ ws)
opens_cased [] [] s t h = (λ _. refl, λ _. refl)
opens_cased [] (w ∷ ws) s t h = absurd t
opens_cased (p ∷ ps) [] s t h = absurd t
opens_cased (p ∷ ps) (w ∷ ws) [] t h = absurd (omega arith)
opens_cased (p ∷ ps) (w ∷ ws) (c ∷ s) t h =
    let r = opens_cased ps ws s t.1 (omega arith) in (
      λ e. let b = and_parts (p c) (opens ps s) e in let x = (t.0 c).0 b.0 in let y = r.0 b.1 in cc,
      λ e. let x : to_ascii_lowercase c ≡ w = cc in let y : map to_ascii_lowercase (take (length ws) s) ≡ ws = cc in
          and_from (p c) (opens ps s) ((t.0 c).1 x) (r.1 y),
    )

sign : (w c : ℕ) → w < 0x41 → Decides (eqb w c) (to_ascii_lowercase c ≡ w)
sign w c h = (λ e. grind (arith, nat_tests), λ e. grind (arith, nat_tests))

letter : (w c : ℕ) → Decides (same_letter w c) (to_ascii_lowercase c ≡ w)
letter w c = (λ e. grind (arith, nat_tests), λ e. grind (arith, nat_tests))

-- </script, by bytes of any case
pub tag_cased : (s : List ℕ) → 8 ≤ length s → Decides (opens tag s) (map to_ascii_lowercase (take 8 s) ≡ 0x3C ∷ 0x2F ∷ 0x73 ∷ 0x63 ∷ 0x72 ∷ 0x69 ∷ 0x70 ∷ 0x74 ∷ [])
tag_cased s h =
    opens_cased tag (0x3C ∷ 0x2F ∷ 0x73 ∷ 0x63 ∷ 0x72 ∷ 0x69 ∷ 0x70 ∷ 0x74 ∷ []) s
    (λ c. sign 0x3C c (omega arith), (λ c. sign 0x2F c (omega arith), (letter 0x73, (letter 0x63, (letter 0x72, (letter 0x69, (letter 0x70, (letter 0x74, tt)))))))) h
