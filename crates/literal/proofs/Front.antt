-- What a printed text begins with, the text begins with, unless it is a backslash or a quote.
use Rattle.std.proofs.Common.{◌≡◌, ℕ, Bool, true, false, not, ◌&&◌, ◌||◌, List, [], ◌∷◌, ◌++◌, ⊎_elim, append_assoc, arith}
use Rattle.std.proofs.lemmas.Bool.{and_left, and_right, and_cases}
use Rattle.ecma262.specs.declared.Quote.{Quote}
use Rattle.ecma262.specs.declared.Quote.TheVariants.{Single, Double, Backtick}
use Rattle.ecma262.specs.Units.{mark}
use Rattle.ecma262.specs.Lookahead.{opens}
use Rattle.literal.specs.Escapes.{rules, printed}
use Rattle.literal.proofs.Rules.{by_shape}

pub by_quote : (P : ℕ → Type 0) → P 0x27 → P 0x22 → P 0x60 → (q : Quote) → P (mark q)
by_quote P s d b Single = s
by_quote P s d b Double = d
by_quote P s d b Backtick = b

-- no test passes a backslash or a quote
abbrev pub refuse : List (ℕ → Bool) → Bool
refuse [] = true
refuse (p ∷ ps) = not (p 0x5C || p 0x27 || p 0x22 || p 0x60) && refuse ps

refused : (p : ℕ → Bool) (ps : List (ℕ → Bool)) → refuse (p ∷ ps) ≡ true →
    (p 0x5C ≡ false) × (p 0x27 ≡ false) × (p 0x22 ≡ false) × (p 0x60 ≡ false) × (refuse ps ≡ true)
refused p ps h = grind arith

module _ (q : Quote) (ascii : Bool) (rest : List ℕ) where
  pub front : (ps : List (ℕ → Bool)) → refuse ps ≡ true → (before : ℕ) (cs : List ℕ) →
      opens ps cs ≡ false → opens ps (printed q ascii before cs ++ (mark q ∷ rest)) ≡ false
  front [] r before cs e = e
  front (p ∷ ps) r before [] e =
      let f = refused p ps r in
      and_left (p (mark q)) _ (by_quote (λ m. p m ≡ false) f.1 f.2 f.3 q)
  front (p ∷ ps) r before (c ∷ cs) e =
      let f = refused p ps r in
      rw append_assoc
      (by_shape (λ s. opens (p ∷ ps) (s ++ (printed q ascii c cs ++ (mark q ∷ rest))) ≡ false) c (rules q ascii before c cs)
      (λ _. and_left (p 0x5C) _ f.0)
      (⊎_elim (λ n. and_left (p c) _ n) (λ n. and_right (p c) _ (front ps f.4 c cs n)) (and_cases (p c) (opens ps cs) e)))
