-- The steps of raw text, one after the other, print what one walk prints: none makes or breaks what another looks for.
use Rattle.std.proofs.Common.{◌≡◌, ℕ, Bool, true, false, cond, not, ◌&&◌, ◌||◌, eqb, leb, List, [], ◌∷◌, ◌++◌, sym, refl, ap, ◌∙◌, arith}
use Rattle.std.specs.List.{AllByRecursion}
use Rattle.std.proofs.lemmas.Bool.{cond_both, and_left, and_parts, false≢true, ne_eqb, eqb-true, leb-true}
use Rattle.std.proofs.lemmas.Bool.Decides.{nat_tests}
use Rattle.ecma262.specs.Lookahead.{opens}
use Rattle.ecma262.proofs.Utf8.{Narrow}
use Rattle.literal.specs.Escapes.{script}
use Rattle.literal.specs.Raw.{odd_behind, bare_dollar, loses_backslash, wide_printed, free_dollars, ascii_only, break_tags}
use Rattle.literal.specs.RawLaws.{PieceInOneWalk, TaggedInOneWalk, OthersInOneWalk}
use Rattle.literal.specs.RawWalk.{backslash_goes, raw_walk}
use Rattle.literal.specs.declared.NonAsciiEscape.{NonAsciiEscape}
use Rattle.literal.specs.declared.NonAsciiEscape.TheVariants.{Identifier, RegExp, TemplateRaw, Directive}
use Rattle.literal.proofs.RawTurns.{Calm, wide_shape, wide-first, gone_first}

-- One step alone is the walk with one flag. The walk without tags does not look at the character before.

module _ (mode : NonAsciiEscape) where
  no_step : (odd : Bool) (before : ℕ) (t : List ℕ) → raw_walk false false mode false odd before t ≡ t
  no_step odd before [] = refl
  no_step odd before (c ∷ cs) =
      ap (λ x. x ++ raw_walk false false mode false (odd_behind odd c) c cs)
      (turn (odd_behind odd c) (bare_dollar cs) (opens (leb 0x80 ∷ []) cs) (loses_backslash mode) (leb 0x80 c) (eqb c 0x2F && eqb before 0x3C && opens script cs) (wide_printed mode odd c))
      ∙ ap (λ x. c ∷ x) (no_step (odd_behind odd c) c cs)
    where
      turn : (o b w l h s : Bool) (x : List ℕ) → cond (o && (b && false || w && l && false)) [] (cond (h && false) x (cond (s && false) (0x5C ∷ 0x2F ∷ []) (c ∷ []))) ≡ c ∷ []
      turn o b w l h s x = grind (arith, nat_tests)

  first_step : (odd : Bool) (before : ℕ) (t : List ℕ) → raw_walk true false mode false odd before t ≡ free_dollars odd t
  first_step odd before [] = refl
  first_step odd before (c ∷ cs) =
      (λ i. turn (odd_behind odd c) (bare_dollar cs) (opens (leb 0x80 ∷ []) cs) (loses_backslash mode) (leb 0x80 c) (eqb c 0x2F && eqb before 0x3C && opens script cs) (wide_printed mode odd c) i
      ++ first_step (odd_behind odd c) c cs i)
    where
      turn : (o b w l h s : Bool) (x : List ℕ) →
          cond (o && (b && true || w && l && false)) [] (cond (h && false) x (cond (s && false) (0x5C ∷ 0x2F ∷ []) (c ∷ []))) ≡ cond (o && b) [] (c ∷ [])
      turn o b w l h s x = grind (arith, nat_tests)

  second_step : (odd : Bool) (before : ℕ) (t : List ℕ) → raw_walk false true mode false odd before t ≡ ascii_only mode odd t
  second_step odd before [] = refl
  second_step odd before (c ∷ cs) =
      (λ i. turn (odd_behind odd c) (bare_dollar cs) (opens (leb 0x80 ∷ []) cs) (loses_backslash mode) (leb 0x80 c) (eqb c 0x2F && eqb before 0x3C && opens script cs) (wide_printed mode odd c) i
      ++ second_step (odd_behind odd c) c cs i)
    where
      turn : (o b w l h s : Bool) (x : List ℕ) →
          cond (o && (b && false || w && l && true)) [] (cond (h && true) x (cond (s && false) (0x5C ∷ 0x2F ∷ []) (c ∷ []))) ≡ cond (o && w && l) [] (cond h x (c ∷ []))
      turn o b w l h s x = grind (arith, nat_tests)

  -- The first two steps.

  -- at a dollar sign it does not matter whether a backslash stands before
  at_dollar : (cs : List ℕ) → bare_dollar cs ≡ true → ascii_only mode true (free_dollars true cs) ≡ ascii_only mode false (free_dollars true cs)
  at_dollar [] e = absurd (false≢true e)
  at_dollar (d ∷ ds) e = let i : d ≡ 0x24 = grind (arith, nat_tests) in rw i

  two_steps : (odd : Bool) (before : ℕ) (t : List ℕ) → raw_walk true true mode false odd before t ≡ ascii_only mode odd (free_dollars odd t)
  two_steps odd before [] = refl
  two_steps odd before (c ∷ cs) =
      go odd (odd_behind odd c) (bare_dollar cs) refl refl (two_steps (odd_behind odd c) c cs)
    where
      s : Bool
      s = eqb c 0x2F && eqb before 0x3C && opens script cs

      other : (h : Bool) (x : List ℕ) → cond (h && true) x (cond (s && false) (0x5C ∷ 0x2F ∷ []) (c ∷ [])) ≡ cond h x (c ∷ [])
      other h x = grind (arith, nat_tests)

      turn : (w l h : Bool) (x : List ℕ) →
          cond (w && l && true) [] (cond (h && true) x (cond (s && false) (0x5C ∷ 0x2F ∷ []) (c ∷ []))) ≡ cond (w && l) [] (cond h x (c ∷ []))
      turn w l h x = grind (arith, nat_tests)

      go : (odd o b : Bool) → odd_behind odd c ≡ o → bare_dollar cs ≡ b → raw_walk true true mode false o c cs ≡ ascii_only mode o (free_dollars o cs) →
          cond (o && (b && true || opens (leb 0x80 ∷ []) cs && loses_backslash mode && true)) []
          (cond (leb 0x80 c && true) (wide_printed mode odd c) (cond (s && false) (0x5C ∷ 0x2F ∷ []) (c ∷ []))) ++ raw_walk true true mode false o c cs
          ≡ ascii_only mode odd (cond (o && b) [] (c ∷ []) ++ free_dollars o cs)
      go odd false b i e h = rw i (λ k. other (leb 0x80 c) (wide_printed mode odd c) k ++ h k)
      go true true b i e h = absurd (false≢true i)
      go false true true i e h = h ∙ at_dollar cs e
      go false true false i e h = grind (arith, nat_tests)

-- The third step after the others.

-- the character before matters only if it is <, and only at a slash
same-before : (a b : ℕ) (t : List ℕ) → eqb a 0x3C ≡ eqb b 0x3C → break_tags a t ≡ break_tags b t
same-before a b [] e = refl
same-before a b (c ∷ cs) e = grind (arith, nat_tests)

no_slash : (a b : ℕ) (t : List ℕ) → opens (eqb 0x2F ∷ []) t ≡ false → break_tags a t ≡ break_tags b t
no_slash a b [] e = refl
no_slash a b (c ∷ cs) e = let n : eqb c 0x2F ≡ false = grind (arith, nat_tests) in rw n

-- calm characters stay, and what follows them is as if behind another character that is no <
calm_on : (a b : ℕ) (x t : List ℕ) → eqb a 0x3C ≡ false → eqb b 0x3C ≡ false → AllByRecursion Calm x → break_tags a (x ++ t) ≡ x ++ break_tags b t
calm_on a b [] t m n h = same-before a b t (m ∙ sym n)
calm_on a b (y ∷ x) t m n h =
    rw (ne_eqb y 0x2F h.0.2) (ap (λ z. y ∷ z) (calm_on y b x t (ne_eqb y 0x3C h.0.1) n h.1))

-- a test that passes neither a backslash nor a dollar sign nor what is above 7F
abbrev pub Plain : (ℕ → Bool) → Type 0
Plain p = (p 0x5C ≡ false) × (p 0x24 ≡ false) × Narrow p

script-plain : AllByRecursion Plain script
script-plain = grind (arith, nat_tests)

untagged : (t : Bool) (x y : List ℕ) → cond (t && false) x y ≡ y
untagged true x y = refl
untagged false x y = refl

tagged : (t : Bool) (x y : List ℕ) → cond (t && true) x y ≡ cond t x y
tagged true x y = refl
tagged false x y = refl

module _ (dollars ascii : Bool) (mode : NonAsciiEscape) where
  -- what plain tests see of the text, they see of what the first two steps print
  pub same_ahead : (ps : List (ℕ → Bool)) → AllByRecursion Plain ps → (odd : Bool) (before : ℕ) (cs : List ℕ) →
      opens ps (raw_walk dollars ascii mode false odd before cs) ≡ opens ps cs
  same_ahead [] h odd before cs = refl
  same_ahead (p ∷ ps) h odd before [] = refl
  same_ahead (p ∷ ps) h odd before (c ∷ cs) =
      let o = odd_behind odd c in
      let t = raw_walk dollars ascii mode false o c cs in
      let P : List ℕ → Type 0 = λ x. opens (p ∷ ps) (x ++ t) ≡ (p c && opens ps cs) in
      cond_both (o && backslash_goes dollars ascii mode cs) [] _ P
      (λ e. let (i, g) = and_parts o (backslash_goes dollars ascii mode cs) e in
      let k : c ≡ 0x5C = eqb-true c 0x5C (and_parts (not odd) (eqb c 0x5C) i).1 in
      ap (λ b. opens (p ∷ ps) (raw_walk dollars ascii mode false b c cs)) i
      ∙ gone_first dollars ascii mode false c cs p ps h.0.0 h.0.1 g ∙ sym (and_left (p c) (opens ps cs) (ap p k ∙ h.0.0)))
      (λ _. cond_both (leb 0x80 c && ascii) (wide_printed mode odd c) _ P
      (λ e. wide-first mode odd c t p ps h.0.0 ∙ sym (and_left (p c) (opens ps cs) (h.0.2 c (leb-true 0x80 c (and_parts (leb 0x80 c) ascii e).0))))
      (λ _. ap (λ x. opens (p ∷ ps) (x ++ t)) (untagged (eqb c 0x2F && eqb before 0x3C && opens script cs) (0x5C ∷ 0x2F ∷ []) (c ∷ []))
      ∙ ap (λ b. p c && b) (same_ahead ps h.1 o c cs)))

  third_step : (odd : Bool) (before b : ℕ) (t : List ℕ) → break_tags before (raw_walk dollars ascii mode false odd b t) ≡ raw_walk dollars ascii mode true odd before t
  third_step odd before b [] = refl
  third_step odd before b (c ∷ cs) =
      go (odd_behind odd c && backslash_goes dollars ascii mode cs) (leb 0x80 c && ascii) refl refl (third_step (odd_behind odd c) c c cs)
    where
      behind : List ℕ
      behind = raw_walk dollars ascii mode false (odd_behind odd c) c cs

      behind' : List ℕ
      behind' = raw_walk dollars ascii mode true (odd_behind odd c) c cs

      gone : (odd_behind odd c && backslash_goes dollars ascii mode cs) ≡ true → opens (eqb 0x2F ∷ []) behind ≡ false
      gone e = grind (arith, nat_tests)

      escaped : eqb c 0x3C ≡ false → break_tags c behind ≡ behind' → break_tags before (wide_printed mode odd c ++ behind) ≡ wide_printed mode odd c ++ behind'
      escaped n h =
          let (x, e, calm) = wide_shape mode odd c in
          rw e (ap (λ z. 0x5C ∷ z) (calm_on 0x5C c x behind refl n calm ∙ ap (λ z. x ++ z) h))

      go : (a w : Bool) → (odd_behind odd c && backslash_goes dollars ascii mode cs) ≡ a → (leb 0x80 c && ascii) ≡ w → break_tags c behind ≡ behind' →
          break_tags before (cond a [] (cond w (wide_printed mode odd c) (cond (eqb c 0x2F && eqb b 0x3C && opens script cs && false) (0x5C ∷ 0x2F ∷ []) (c ∷ []))) ++ behind)
          ≡ cond a [] (cond w (wide_printed mode odd c) (cond (eqb c 0x2F && eqb before 0x3C && opens script cs && true) (0x5C ∷ 0x2F ∷ []) (c ∷ []))) ++ behind'
      go true w e f h = no_slash before c behind (gone e) ∙ h
      go false true e f h = escaped (grind (arith, nat_tests)) h
      go false false e f h =
          ap (λ x. break_tags before (x ++ behind)) (untagged (eqb c 0x2F && eqb b 0x3C && opens script cs) (0x5C ∷ 0x2F ∷ []) (c ∷ []))
          ∙ ap (λ x. cond (eqb c 0x2F && eqb before 0x3C && x) (0x5C ∷ 0x2F ∷ []) (c ∷ []) ++ break_tags c behind) (same_ahead script script-plain (odd_behind odd c) c cs)
          ∙ (λ i. sym (tagged (eqb c 0x2F && eqb before 0x3C && opens script cs) (0x5C ∷ 0x2F ∷ []) (c ∷ [])) i ++ h i)

-- the laws

pub piece_in_one_walk : PieceInOneWalk
piece_in_one_walk false false text = ap (break_tags 0) (sym (no_step TemplateRaw false 0 text)) ∙ third_step false false TemplateRaw false 0 0 text
piece_in_one_walk false true text = ap (break_tags 0) (sym (second_step TemplateRaw false 0 text)) ∙ third_step false true TemplateRaw false 0 0 text
piece_in_one_walk true false text = ap (break_tags 0) (sym (first_step TemplateRaw false 0 text)) ∙ third_step true false TemplateRaw false 0 0 text
piece_in_one_walk true true text = ap (break_tags 0) (sym (two_steps TemplateRaw false 0 text)) ∙ third_step true true TemplateRaw false 0 0 text

pub tagged_in_one_walk : TaggedInOneWalk
tagged_in_one_walk text = piece_in_one_walk false false text

pub others_in_one_walk : OthersInOneWalk
others_in_one_walk false text = (sym (no_step Directive false 0 text), sym (no_step RegExp false 0 text), sym (no_step Identifier false 0 text))
others_in_one_walk true text = (sym (second_step Directive false 0 text), sym (second_step RegExp false 0 text), sym (second_step Identifier false 0 text))
