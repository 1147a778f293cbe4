-- The rule of names by computation is the relation.
use Rattle.std.proofs.Common.{◌≡◌, ℕ, ◌+◌, false, List, [], ◌∷◌, ◌++◌, length, Some, None, sym, refl, ap, ◌∙◌, ⊎_elim, arith, length-append}
use lib.Utf8.{encode, encodes}
use Rattle.std.specs.Char.{len_utf8}
use Rattle.std.proofs.lemmas.Str.{length-encode}
use Rattle.std.proofs.lemmas.Bool.{cases_Bool, cond-true, cond-false}
use Rattle.text.specs.Laws.{Named, NamePlaced}
use Rattle.text.specs.Names.{starts_name, continues_name, stops_at, name_breach, Continues, KeepsRule, BreaksRule, NameBreach}

some_none : {X : Type 0} (p : ℕ) → Some p ≡ None → X
some_none p e = cc

none_some : {X : Type 0} (p : ℕ) → None ≡ Some p → X
none_some p e = some_none p (sym e)

same_place : (p q : ℕ) → Some p ≡ Some q → p ≡ q
same_place p q e = cc

-- the characters behind the first

continues : (at : ℕ) (cs : List ℕ) → stops_at at cs ≡ None → Continues cs
continues at [] e = tt
continues at (c ∷ cs) e =
    ⊎_elim (λ t. (t, continues (at + len_utf8 c) cs (sym (cond-true (continues_name c) (stops_at (at + len_utf8 c) cs) (Some at) t) ∙ e)))
    (λ f. some_none at (sym (cond-false (continues_name c) (stops_at (at + len_utf8 c) cs) (Some at) f) ∙ e)) (cases_Bool (continues_name c))

no_stop : (at : ℕ) (cs : List ℕ) → Continues cs → stops_at at cs ≡ None
no_stop at [] k = refl
no_stop at (c ∷ cs) k = cond-true (continues_name c) (stops_at (at + len_utf8 c) cs) (Some at) k.0 ∙ no_stop (at + len_utf8 c) cs k.1

-- where the characters stop: those before it, and the rest
abbrev Stop : ℕ → List ℕ → ℕ → Type 0
Stop at cs place = (good : List ℕ) × ((c : ℕ) × ((rest : List ℕ) × Continues good × (cs ≡ good ++ (c ∷ rest)) × (at + length (encodes good) ≡ place) × (continues_name c ≡ false)))

stopped : (at : ℕ) (cs : List ℕ) (place : ℕ) → stops_at at cs ≡ Some place → Stop at cs place
stopped at [] place e = none_some place e
stopped at (c ∷ cs) place e =
    ⊎_elim
    (λ t. let (good, (d, (rest, k, p, h, b))) = stopped (at + len_utf8 c) cs place (sym (cond-true (continues_name c) (stops_at (at + len_utf8 c) cs) (Some at) t) ∙ e) in
    (c ∷ good, (d, (rest, (t, k), ap (λ s. c ∷ s) p, omega (arith, length-append (encode c) (encodes good), length-encode c), b))))
    (λ f. let s = same_place at place (sym (cond-false (continues_name c) (stops_at (at + len_utf8 c) cs) (Some at) f) ∙ e) in
    ([], (c, (cs, tt, refl, omega arith, f)))) (cases_Bool (continues_name c))

stops : (at : ℕ) (good : List ℕ) (c : ℕ) (rest : List ℕ) → Continues good → continues_name c ≡ false → stops_at at (good ++ (c ∷ rest)) ≡ Some (at + length (encodes good))
stops at [] c rest k b = cond-false (continues_name c) (stops_at (at + len_utf8 c) rest) (Some at) b ∙ ap Some (omega arith)
stops at (g ∷ good) c rest k b =
    cond-true (continues_name g) (stops_at (at + len_utf8 g) (good ++ (c ∷ rest))) (Some at) k.0 ∙ stops (at + len_utf8 g) good c rest k.1 b
    ∙ ap Some (omega (arith, length-append (encode g) (encodes good), length-encode g))

-- the whole

pub named : Named
named [] = (λ e. some_none 0 e, λ n. absurd n)
named (c ∷ cs) = (
  λ e. ⊎_elim (λ t. (t, continues (len_utf8 c) cs (sym (cond-true (starts_name c) (stops_at (len_utf8 c) cs) (Some 0) t) ∙ e)))
      (λ f. some_none 0 (sym (cond-false (starts_name c) (stops_at (len_utf8 c) cs) (Some 0) f) ∙ e)) (cases_Bool (starts_name c)),
  λ n. cond-true (starts_name c) (stops_at (len_utf8 c) cs) (Some 0) n.0 ∙ no_stop (len_utf8 c) cs n.1,
)

found : (text : List ℕ) (place : ℕ) → name_breach text ≡ Some place → NameBreach text place
found [] place e = record { good = []; rest = []; keeps = tt; parts = refl; here = same_place 0 place e; breaks = tt }
found (c ∷ cs) place e =
    ⊎_elim
    (λ t. let (good, (d, (rest, k, p, h, b))) = stopped (len_utf8 c) cs place (sym (cond-true (starts_name c) (stops_at (len_utf8 c) cs) (Some 0) t) ∙ e) in
    record { good = c ∷ good; rest = d ∷ rest; keeps = (t, k); parts = ap (λ s. c ∷ s) p; here = omega (arith, length-append (encode c) (encodes good), length-encode c); breaks = b })
    (λ f. record { good = []; rest = c ∷ cs; keeps = tt; parts = refl; here = same_place 0 place (sym (cond-false (starts_name c) (stops_at (len_utf8 c) cs) (Some 0) f) ∙ e); breaks = f })
    (cases_Bool (starts_name c))

placed : (good rest : List ℕ) → KeepsRule good → BreaksRule good rest → name_breach (good ++ rest) ≡ Some (length (encodes good))
placed [] [] k b = refl
placed [] (c ∷ cs) k b = cond-false (starts_name c) (stops_at (len_utf8 c) cs) (Some 0) b
placed (g ∷ good) [] k b = absurd b
placed (g ∷ good) (c ∷ cs) k b =
    cond-true (starts_name g) (stops_at (len_utf8 g) (good ++ (c ∷ cs))) (Some 0) k.0 ∙ stops (len_utf8 g) good c cs k.1 b
    ∙ ap Some (omega (arith, length-append (encode g) (encodes good), length-encode g))

pub name_placed : NamePlaced
name_placed text place = (
  found text place,
  λ b. ap name_breach b.parts ∙ placed b.good b.rest b.keeps b.breaks ∙ ap Some b.here,
)
