-- Bytes read from pairs so far, before those that are still to be read.
use Rattle.std.proofs.Common.{◌≡◌, ℕ, ◌-◌, ◌≤◌, false, cond, List, [], ◌∷◌, ◌++◌, length, get_or, take, drop, Some, None, Ok, Option, sym, refl, ap, ◌∙◌, append_assoc, arith}
use Rattle.std.specs.Option.{ok_or}
use Rattle.std.proofs.lemmas.List.{take_rest}
use Rattle.job.specs.Lines.{blank}
use Rattle.job.specs.Hex.{pair, pairs, put}

abbrev pub glued : List ℕ → Option (List ℕ) → Option (List ℕ)
glued bs None = None
glued bs (Some more) = Some (bs ++ more)

put-glued : (bs : List ℕ) (b : ℕ) (more : Option (List ℕ)) → glued bs (put (Some b) more) ≡ glued (bs ++ b ∷ []) more
put-glued bs b None = refl
put-glued bs b (Some more) = ap Some (sym (append_assoc bs (b ∷ []) more))

-- two digits give a byte
pub pair_taken : (bs rest : List ℕ) (b : ℕ) → 2 ≤ length rest → false ≡ blank (get_or rest 0 0) → Some b ≡ pair (get_or rest 0 0) (get_or rest 1 0) → glued bs (pairs rest) ≡ glued (bs ++ b ∷ []) (pairs (take (length rest - 2) (drop 2 rest)))
pair_taken bs [] b h ink e = absurd (omega arith)
pair_taken bs (high ∷ []) b h ink e = absurd (omega arith)
pair_taken bs (high ∷ low ∷ rest) b h ink e =
    ap (λ t. glued bs (cond t (pairs (low ∷ rest)) (put (pair high low) (pairs rest)))) (sym ink)
    ∙ ap (λ o. glued bs (put o (pairs rest))) (sym e)
    ∙ put-glued bs b (pairs rest)
    ∙ ap (λ t. glued (bs ++ b ∷ []) (pairs t)) (sym (take_rest (high ∷ low ∷ rest) 2))

pub some_from_ok_or : {A E : Type 0} (o : Option A) (e : E) (x : A) → Ok x ≡ ok_or o e → Some x ≡ o
some_from_ok_or None e x h = cc
some_from_ok_or (Some y) e x h = cc
