-- Which piece of a text a turn over its numbered pieces has.
use Rattle.std.proofs.Common.{◌≡◌, ℕ, ◌<◌, Bool, false, ◌==◌, List, length, get_or, Option, Some, None, Bor, sym, ap, ◌∙◌, arith, zero-add}
use Rattle.std.specs.Fn.{Mut, CalledAt}
use Rattle.std.specs.Iterator.{Yields}
use Rattle.std.specs.Iterator.Adapters.{enumerate_source, enumerate_count, enumerate_steps}
use Rattle.std.specs.Slice.Iter.{split_rest, split_done, split_callee, split_steps}
use Rattle.std.specs.declared.iter.Enumerate.{Enumerate}
use Rattle.std.specs.declared.slice.Split.{Split}
use Rattle.std.proofs.lemmas.Iterator.Consumers.{YieldsList-at, YieldsList-from_enumerate, YieldsList-turn, YieldsList-end}
use Rattle.std.proofs.lemmas.Iterator.Splits.{YieldsList-from_slice_split}
use Rattle.std.proofs.lemmas.List.FromFn.{length-enumerate_from, get_or-enumerate_from}
use Rattle.job.proofs.Turns.{pieces}

module _ {F : Type 0} {g : Mut F (Bor ℕ × Unit {0}) Bool} (s t : Enumerate (Split ℕ F)) (yielded : List (ℕ × Bor (List ℕ))) (y : Yields (enumerate_steps (split_steps g)) s yielded t) (text : List ℕ) (p : Split ℕ F) {f : F} (source : enumerate_source s ≡ p) (count : enumerate_count s ≡ 0) (rest : split_rest p ≡ text) (done : split_done p ≡ false) (closure : split_callee p ≡ f) (tests : (x : ℕ) (b : Bool) (q : F) → CalledAt g f x b q → (q ≡ f) × (b ≡ (x == 10))) (r : Option (ℕ × Bor (List ℕ))) (u : Enumerate (Split ℕ F)) where
  pub turn : (before : ℕ) (line : Bor (List ℕ)) → r ≡ Some (before, line) → enumerate_steps (split_steps g) t r u → (length yielded ≡ before) × ((before < length (pieces text)) × (line.now ≡ get_or (pieces text) before line.now))
  turn before line is step =
      let numbered = YieldsList-from_enumerate (YieldsList-at source (YieldsList-from_slice_split g (λ b. b == 10) text rest done closure tests)) count in
      let k = YieldsList-turn numbered yielded t y r u (before, line) is step in
      let h : length yielded < length (pieces text) = omega (arith, k.0, length-enumerate_from 0 (pieces text)) in
      let e = k.1 ∙ get_or-enumerate_from 0 (pieces text) (length yielded) (before, line.now) h in
      let at : length yielded ≡ before = sym (ap (λ x. x.0) e ∙ zero-add (length yielded)) in
      (at, (omega arith, ap (λ x. x.1) e ∙ ap (λ i. get_or (pieces text) i line.now) at))

  pub end : r ≡ None → enumerate_steps (split_steps g) t r u → length yielded ≡ length (pieces text)
  end is step =
      let numbered = YieldsList-from_enumerate (YieldsList-at source (YieldsList-from_slice_split g (λ b. b == 10) text rest done closure tests)) count in
      (YieldsList-end numbered yielded t y r u is step).1 ∙ length-enumerate_from 0 (pieces text)
