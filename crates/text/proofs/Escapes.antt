-- How long a template character is, by its first bytes.
use Rattle.std.proofs.Common.{◌≡◌, ℕ, cond, eqb, leb, ◌≢◌, List, ◌∷◌, length, get_or, Some, None, sym, refl, ◌∙◌, arith}
use Rattle.std.proofs.lemmas.Bool.{ne_eqb, lt-leb, cond-false}
use Rattle.ecma262.specs.Lookahead.{digit}
use Rattle.text.specs.Template.{begins_with_hex, unicode_length, escape_length, character_length}

-- no backslash, no backtick and no dollar sign
pub plain : (bytes : List ℕ) → (length bytes ≡ 0 → ⊥) → get_or bytes 0 0 ≢ 0x5C → get_or bytes 0 0 ≢ 0x60 → get_or bytes 0 0 ≢ 0x24 → Some 1 ≡ character_length bytes
plain bytes l s q d = sym (rw (ne_eqb (length bytes) 0 l, ne_eqb (get_or bytes 0 0) 0x5C s, ne_eqb (get_or bytes 0 0) 0x60 q, ne_eqb (get_or bytes 0 0) 0x24 d) refl)

module _ (s : List ℕ) where
  pub at_backslash : character_length (0x5C ∷ s) ≡ escape_length (0x5C ∷ s)
  at_backslash = cond-false (eqb (length (0x5C ∷ s)) 0) None (escape_length (0x5C ∷ s)) (ne_eqb (length (0x5C ∷ s)) 0 (omega arith))

  pub at_backtick : character_length (0x60 ∷ s) ≡ None
  at_backtick = cond-false (eqb (length (0x60 ∷ s)) 0) None None (ne_eqb (length (0x60 ∷ s)) 0 (omega arith))

  pub at_dollar : character_length (0x24 ∷ s) ≡ cond (eqb (get_or s 0 0) 0x7B) None (Some 1)
  at_dollar = cond-false (eqb (length (0x24 ∷ s)) 0) None (cond (eqb (get_or s 0 0) 0x7B) None (Some 1)) (ne_eqb (length (0x24 ∷ s)) 0 (omega arith))

  pub at_x : escape_length (0x5C ∷ 0x78 ∷ s) ≡ cond (begins_with_hex 2 s) (Some 4) None
  at_x = cond-false (leb (length (0x5C ∷ 0x78 ∷ s)) 1) None (cond (begins_with_hex 2 s) (Some 4) None) (lt-leb (length (0x5C ∷ 0x78 ∷ s)) 1 (omega arith))

  pub at_u : escape_length (0x5C ∷ 0x75 ∷ s) ≡ unicode_length (0x5C ∷ 0x75 ∷ s)
  at_u = cond-false (leb (length (0x5C ∷ 0x75 ∷ s)) 1) None (unicode_length (0x5C ∷ 0x75 ∷ s)) (lt-leb (length (0x5C ∷ 0x75 ∷ s)) 1 (omega arith))

  pub at_zero : escape_length (0x5C ∷ 0x30 ∷ s) ≡ cond (digit (get_or s 0 0)) None (Some 2)
  at_zero = cond-false (leb (length (0x5C ∷ 0x30 ∷ s)) 1) None (cond (digit (get_or s 0 0)) None (Some 2)) (lt-leb (length (0x5C ∷ 0x30 ∷ s)) 1 (omega arith))

  pub at_other : (b : ℕ) → b ≢ 0x78 → b ≢ 0x75 → b ≢ 0x30 → escape_length (0x5C ∷ b ∷ s) ≡ cond (digit b) None (Some 2)
  at_other b x u z =
      cond-false (leb (length (0x5C ∷ b ∷ s)) 1) None _ (lt-leb (length (0x5C ∷ b ∷ s)) 1 (omega arith))
      ∙ rw (ne_eqb b 0x78 x, ne_eqb b 0x75 u, ne_eqb b 0x30 z)
