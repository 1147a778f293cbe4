-- One turn of the check.
use Rattle.std.proofs.Common.{◌≡◌, ℕ, ◌+◌, ◌-◌, ◌<◌, ◌≤◌, Bool, true, false, ◌||◌, List, ◌++◌, length, get_or, take, drop, sym, refl, ap, ◌∙◌, subst, arith, length-append}
use lib.Utf8.{encode}
use Rattle.std.specs.Char.{len_utf8, is_ascii}
use Rattle.std.proofs.Math.Bool.{or_assoc, or-false}
use Rattle.std.proofs.lemmas.List.{drop_at, take_rest}
use Rattle.std.proofs.lemmas.Str.{length-encode}
use Rattle.std.proofs.lemmas.Bool.{ltb-true, lt-ltb}
use Rattle.std.proofs.lemmas.Bool.Decides.{nat_tests}
use Rattle.text.specs.declared.well_formed.Encoding.{Encoding}
use Rattle.text.specs.Sequence.{is_surrogate, bars, sequence, walk, breach, marked}
use Rattle.text.proofs.Codec.{Sound, sequence_sound}
use Rattle.text.proofs.Decoded.{at_1}
use Rattle.text.proofs.Walked.{walk_step, low_free}
use Rattle.text.proofs.Formed.{marked_step}

low_surrogate : (b : ℕ) → b < 0x80 → is_surrogate b ≡ false
low_surrogate b l = grind (arith, nat_tests)

module _ (form : Encoding) (bytes : List ℕ) where
  -- what the check keeps: rest is left behind the code point before, and lone tells of what it has passed
  abbrev pub Kept : ℕ → Bool → List ℕ → Type 0
  Kept before lone rest =
      (length rest ≤ length bytes) × (walk form 0 before (length bytes - length rest) rest ≡ breach form bytes)
      × ((lone || marked 0 rest) ≡ marked 0 bytes)

  module _ (rest : List ℕ) (before : ℕ) (lone : Bool) (k : Kept before lone rest) where
    -- a sequence on
    pub keeps : (r : ℕ × ℕ) (s : Bool) → r ≡ sequence rest → (r.1 ≡ 0 → ⊥) → false ≡ bars form before r.0 → s ≡ is_surrogate r.0 →
        (r.1 ≤ length rest) × Kept r.0 (lone || s) (take (length rest - r.1) (drop r.1 rest))
    keeps r s e z f i =
        let c : ℕ = r.0 in
        let t : (r.0 ≤ 0x10FFFF) × (r.1 ≡ len_utf8 r.0) × ((tail : List ℕ) × (rest ≡ encode r.0 ++ tail)) =
        (subst (Sound rest) (sym e) (sequence_sound rest)) (omega arith) in
        let tail : List ℕ = t.2.0 in
        let p : rest ≡ encode c ++ tail = t.2.1 in
        let l = ap length p ∙ length-append (encode c) tail in
        let d : take (length rest - r.1) (drop r.1 rest) ≡ tail =
        take_rest rest r.1 ∙ ap (drop r.1) p ∙ drop_at (encode c) tail r.1 (omega (arith, t.1, length-encode c)) in
        let w : walk form 0 before (length bytes - length rest) rest ≡ walk form 0 c (length bytes - length rest + len_utf8 c) tail =
        ap (walk form 0 before (length bytes - length rest)) p ∙ walk_step form before (length bytes - length rest) c tail t.0 (sym f) in (
          omega (arith, t.1, length-encode c),
          subst (Kept c (lone || s)) (sym d) (
            omega (arith, k.0, length-encode c),
            ap (λ n. walk form 0 c n tail) {x = length bytes - length tail} {y = length bytes - length rest + len_utf8 c} (omega (arith, k.0, length-encode c)) ∙ sym w ∙ k.1,
            ap (λ b. (lone || b) || marked 0 tail) i ∙ or_assoc lone (is_surrogate c) (marked 0 tail)
                ∙ ap (λ b. lone || b) (sym (ap (marked 0) p ∙ marked_step c tail)) ∙ k.2,
          ),
        )

    -- one ASCII byte on
    pub ascii_keeps : 0 < length rest → true ≡ is_ascii (get_or rest 0 0) → Kept (get_or rest 0 0) lone (take (length rest - 1) (drop 1 rest))
    ascii_keeps h a =
        let b = get_or rest 0 0 in
        let l : b < 0x80 = ltb-true b 0x80 (sym a) in
        let e : (b, 1) ≡ sequence rest = at_1 rest 0 h (rw (lt-ltb b 0x80 l) refl) in
        let g = keeps (b, 1) false e (omega arith) (sym (low_free form before b l)) (sym (low_surrogate b l)) in
        subst (λ t. Kept b t (take (length rest - 1) (drop 1 rest))) (or-false lone) g.1
