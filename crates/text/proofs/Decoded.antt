-- What the decoder reads, byte by byte, is the sequence at the place.
use Rattle.std.proofs.Common.{◌≡◌, ℕ, ◌+◌, ◌*◌, ◌%◌, ◌<◌, Bool, ◌&&◌, List, length, get_or, drop, Some, None, sym, ◌∙◌, arith}
use Rattle.std.proofs.lemmas.Bool.Decides.{nat_tests}
use Rattle.text.specs.Sequence.{seq_len, goes, held, sequence}
use Rattle.text.proofs.Codec.{at_drop, code_0, code_1, code_2, code_3, code_4}

pub four : (a n : ℕ) → Some n ≡ seq_len a → (n ≡ 1 → ⊥) → (n ≡ 2 → ⊥) → (n ≡ 3 → ⊥) → seq_len a ≡ Some 4
four a n e p q r = grind (arith, nat_tests)

module _ (bytes : List ℕ) (at : ℕ) (inside : at < length bytes) where
  pub at_0 : seq_len (get_or bytes at 0) ≡ None → (0, 0) ≡ sequence (drop at bytes)
  at_0 h = sym (at_drop bytes at inside ∙ code_0 (get_or bytes at 0) (get_or bytes (at + 1) 0) (get_or bytes (at + 2) 0) (get_or bytes (at + 3) 0) h)

  pub at_1 : seq_len (get_or bytes at 0) ≡ Some 1 → (get_or bytes at 0, 1) ≡ sequence (drop at bytes)
  at_1 h = sym (at_drop bytes at inside ∙ code_1 (get_or bytes at 0) (get_or bytes (at + 1) 0) (get_or bytes (at + 2) 0) (get_or bytes (at + 3) 0) h)

  pub at_2 : (b : ℕ) (g : Bool) (r : ℕ × ℕ) → seq_len (get_or bytes at 0) ≡ Some 2 → b ≡ get_or bytes (at + 1) 0 → g ≡ goes b →
      r ≡ held g 0x80 (get_or bytes at 0 % 0x20 * 0x40 + b % 0x40) 2 → r ≡ sequence (drop at bytes)
  at_2 b g r h e f i = i ∙ rw (f, e) (sym (at_drop bytes at inside ∙ code_2 (get_or bytes at 0) (get_or bytes (at + 1) 0) (get_or bytes (at + 2) 0) (get_or bytes (at + 3) 0) h))

  pub at_3 : (b c : ℕ) (g g2 : Bool) (r : ℕ × ℕ) → seq_len (get_or bytes at 0) ≡ Some 3 → b ≡ get_or bytes (at + 1) 0 → c ≡ get_or bytes (at + 2) 0 → g ≡ goes b → g2 ≡ goes c →
      r ≡ held (g && g2) 0x800 (get_or bytes at 0 % 0x10 * 0x1000 + b % 0x40 * 0x40 + c % 0x40) 3 → r ≡ sequence (drop at bytes)
  at_3 b c g g2 r h e e2 f f2 i = i ∙ rw (f, f2, e, e2) (sym (at_drop bytes at inside ∙ code_3 (get_or bytes at 0) (get_or bytes (at + 1) 0) (get_or bytes (at + 2) 0) (get_or bytes (at + 3) 0) h))

  pub at_4 : (b c d : ℕ) (g g2 g3 : Bool) (r : ℕ × ℕ) → seq_len (get_or bytes at 0) ≡ Some 4 → b ≡ get_or bytes (at + 1) 0 → c ≡ get_or bytes (at + 2) 0 → d ≡ get_or bytes (at + 3) 0 →
      g ≡ goes b → g2 ≡ goes c → g3 ≡ goes d →
      r ≡ held (g && g2 && g3) 0x10000 (get_or bytes at 0 % 8 * 0x40000 + b % 0x40 * 0x1000 + c % 0x40 * 0x40 + d % 0x40) 4 → r ≡ sequence (drop at bytes)
  at_4 b c d g g2 g3 r h e e2 e3 f f2 f3 i = i ∙ rw (f, f2, f3, e, e2, e3) (sym (at_drop bytes at inside ∙ code_4 (get_or bytes at 0) (get_or bytes (at + 1) 0) (get_or bytes (at + 2) 0) (get_or bytes (at + 3) 0) h))
