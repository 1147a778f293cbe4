-- The neighbours in a text, and whether a text holds a surrogate.
use Rattle.std.proofs.Common.{◌≡◌, ℕ, ◌<◌, ◌≤◌, Bool, ◌&&◌, ◌||◌, ◌==◌, nat_le, List, [], ◌∷◌, length, get_or, take, drop, Bor, sym, refl, ap, ◌∙◌, arith}
use Rattle.std.specs.List.{list_any}
use Rattle.std.specs.Slice.Iter.{windows_rest, windows_size, windows_steps}
use Rattle.std.specs.declared.slice.Windows.{Windows}
use Rattle.std.proofs.lemmas.Iterator.{YieldsList}
use Rattle.std.proofs.lemmas.Iterator.Splits.{YieldsList-from_shown_while}
use Rattle.text.specs.Sequence.{marked}

abbrev pub begins : ℕ × ℕ → Bool
begins p = p.0 == 0xED && nat_le 0xA0 p.1 && nat_le p.1 0xBF

abbrev pub neighbours : List ℕ → List (ℕ × ℕ)
neighbours [] = []
neighbours (a ∷ []) = []
neighbours (a ∷ b ∷ s) = (a, b) ∷ neighbours (b ∷ s)

marked-behind : (a : ℕ) (s : List ℕ) → marked a s ≡ list_any begins (neighbours (a ∷ s))
marked-behind a [] = refl
marked-behind a (b ∷ s) = ap (λ t. begins (a, b) || t) (marked-behind b s)

-- no byte stands before the first
pub marked-neighbours : (s : List ℕ) → marked 0 s ≡ list_any begins (neighbours s)
marked-neighbours [] = refl
marked-neighbours (b ∷ s) = marked-behind b s

abbrev pub pair_of : Bor (List ℕ) → ℕ × ℕ
pair_of w = (get_or w.now 0 0, get_or w.now 1 0)

ended : (s : List ℕ) → length s < 2 → length (neighbours s) ≡ 0
ended [] h = refl
ended (a ∷ []) h = refl
ended (a ∷ b ∷ s) h = absurd (omega arith)

next : (s w : List ℕ) → 2 ≤ length s → w ≡ take 2 s → neighbours s ≡ (get_or w 0 0, get_or w 1 0) ∷ neighbours (drop 1 s)
next [] w h e = absurd (omega arith)
next (a ∷ []) w h e = absurd (omega arith)
next (a ∷ b ∷ s) w h e = ap (λ v. (get_or v 0 0, get_or v 1 0) ∷ neighbours (b ∷ s)) (sym e)

-- the windows of two are the neighbours
pub YieldsList-from_windows : {s : Windows ℕ} (xs : List ℕ) → windows_rest s ≡ xs → windows_size s ≡ 2 → YieldsList windows_steps pair_of s (neighbours xs)
YieldsList-from_windows {s} xs rest size =
    rw (← rest) (YieldsList-from_shown_while windows_steps pair_of (λ t. neighbours (windows_rest t)) (λ t. windows_size t ≡ 2)
    (λ t u two h. ended (windows_rest t) (omega (arith, h.1.0)))
    (λ t x u two h. (h.0 ∙ two, next (windows_rest t) x.now (omega (arith, h.1.0)) (h.1.1 ∙ ap (λ n. take n (windows_rest t)) two) ∙ ap (λ r. pair_of x ∷ neighbours r) (sym h.1.2))) s size)
