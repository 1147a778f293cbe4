-- The number that digits make, by a fold that breaks off.
use Rattle.std.proofs.Common.{◌≡◌, ℕ, List, [], ◌∷◌, ◌++◌, length, drop, Some, None, Option, sym, refl, ap, ◌∙◌, ◌+◌, arith}
use Rattle.std.specs.Fn.{Mut, Called}
use Rattle.std.specs.Iterator.{Yields, TryFoldTurn, TryFoldsItems}
use Rattle.std.specs.List.{FoldsTo}
use Rattle.std.specs.ControlFlow.{continue_value}
use Rattle.std.specs.declared.ops.ControlFlow.{ControlFlow}
use Rattle.std.proofs.lemmas.Iterator.{YieldsList}
use Rattle.std.proofs.lemmas.Iterator.Consumers.{YieldsList-so_far, YieldsList-turn, YieldsList-end}
use Rattle.std.proofs.lemmas.List.{at_drop_more, at_drop_all, map-id, take-append-drop}
use Rattle.job.specs.Settings.{with_digit, number_from}

-- one more digit
abbrev then_digits : List ℕ → Option ℕ → Option ℕ
then_digits rest o = elim o as (λ _. Option ℕ) [ None ↦ None | Some m ↦ number_from m rest ]

abbrev pub branches : {E : Type 0} → Option ℕ → ControlFlow E ℕ → Type 0
branches o c = o ≡ continue_value c

module _ {F : Type 0} (g : Mut F (ℕ × (ℕ × Unit {0})) (Option ℕ)) (adds : (f : F) (n b : ℕ) (r : Option ℕ) (q : F) → Called g f (n, (b, tt)) r q → r ≡ with_digit n b) where
  folded : (E : Type 0) (f q : F) (n m : ℕ) (ds rest : List ℕ) → FoldsTo {P = F × ℕ} (TryFoldTurn g (branches {E = E})) (f, n) ds (q, m) → number_from n (ds ++ rest) ≡ number_from m rest
  folded E f q n m [] rest e = ap (λ p. number_from p.1 rest) e
  folded E f q n m (d ∷ ds) rest (j, (v, call, on), more) =
      ap (then_digits (ds ++ rest)) (sym (adds f n d v j.0 call) ∙ on) ∙ folded E j.0 q j.1 m ds rest more

  -- what the digits so far made, then the others
  so_far : (E : Type 0) {S : Type 0} {steps : S → Option ℕ → S → Type 0} {s : S} (all : List ℕ) (f q : F) (n m : ℕ) (xs : List ℕ) (t : S) → YieldsList steps (λ x. x) s all → Yields steps s xs t → FoldsTo {P = F × ℕ} (TryFoldTurn g (branches {E = E})) (f, n) xs (q, m) → number_from n all ≡ number_from m (drop (length xs) all)
  so_far E all f q n m xs t e y turns =
      let front = ap (λ ds. ds ++ drop (length xs) all) (sym (map-id xs) ∙ YieldsList-so_far e xs t y) ∙ take-append-drop (length xs) all in
      ap (number_from n) (sym front) ∙ folded E f q n m xs (drop (length xs) all) turns

  pub by_digits : {E S : Type 0} {steps : S → Option ℕ → S → Type 0} {s : S} (all : List ℕ) (f : F) (n : ℕ) (r : Option ℕ) (u : S) → TryFoldsItems steps g (branches {E = E}) (λ _ r. r ≡ None) s f n r u → YieldsList steps (λ x. x) s all → r ≡ number_from n all
  by_digits {E} all f n r u (xs, None, q, m, (t, y, step), turns, on) e =
      let end = YieldsList-end e xs t y None u refl step in
      on ∙ sym (so_far E all f q n m xs t e y turns ∙ at_drop_all (number_from m) all (length xs) (omega (arith, end.1)))
  by_digits {E} all f n r u (xs, Some d, q, m, (t, y, step), turns, (v, h, out, call, off, back)) e =
      let turn = YieldsList-turn e xs t y (Some d) u d refl step in
      let broken = ap (λ b. then_digits (drop (length xs + 1) all) (with_digit m b)) (sym turn.1) ∙ ap (then_digits (drop (length xs + 1) all)) (sym (adds q m d v h call) ∙ off) in
      back ∙ sym (so_far E all f q n m xs t e y turns ∙ at_drop_more (number_from m) all (length xs) d turn.0 ∙ broken)
