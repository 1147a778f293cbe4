-- The walk over bytes, sequence by sequence.
use Rattle.std.proofs.Common.{◌≡◌, ℕ, zero, suc, ◌+◌, ◌-◌, ◌<◌, ◌≤◌, true, false, ◌&&◌, ◌||◌, eqb, List, [], ◌∷◌, ◌++◌, length, Some, None, Option, sym, refl, ap, ◌∙◌, subst, ⊎_elim, append_assoc, arith, length-append}
use lib.Utf8.{encode, encodes}
use Rattle.std.specs.Char.{len_utf8}
use Rattle.std.proofs.lemmas.Str.{length-encode, len_utf8_bounds}
use Rattle.std.proofs.lemmas.Bool.{both_ways, and_right, cond-true, cond-false, or_from, or_parts, or_cases, ne_eqb, eqb-true, eqb-false, cases_Bool}
use Rattle.std.proofs.lemmas.Bool.Decides.{nat_tests}
use Rattle.text.specs.declared.well_formed.Encoding.{Encoding}
use Rattle.text.specs.declared.well_formed.Encoding.TheVariants.{Wtf8, Utf8}
use Rattle.text.specs.Wtf8.{Barred, Points, last, Broken}
use Rattle.text.specs.Sequence.{is_lead, is_trail, is_surrogate, bars, sequence, walk}
use Rattle.text.proofs.Codec.{sequence_sound, sequence-encode}

by_encoding : (P : Encoding → Type 0) → P Wtf8 → P Utf8 → (e : Encoding) → P e
by_encoding P w u Wtf8 = w
by_encoding P w u Utf8 = u

pair : (before c : ℕ) → (is_lead before && is_trail c) ≡ true → Barred Wtf8 before c
pair before c h = grind (arith, nat_tests)

paired : (before c : ℕ) → Barred Wtf8 before c → (is_lead before && is_trail c) ≡ true
paired before c h = grind (arith, nat_tests)

surrogate : (c : ℕ) → is_surrogate c ≡ true → Barred Utf8 0 c
surrogate c h = grind (arith, nat_tests)

surrogate_so : (c : ℕ) → Barred Utf8 0 c → is_surrogate c ≡ true
surrogate_so c h = grind (arith, nat_tests)

-- No code point below 80 is barred.
pub low_free : (form : Encoding) (before c : ℕ) → c < 0x80 → bars form before c ≡ false
low_free Wtf8 before c h = and_right (is_lead before) (is_trail c) (grind (arith, nat_tests))
low_free Utf8 before c h = grind (arith, nat_tests)

module _ (form : Encoding) where
  walk_skip : (xs bytes : List ℕ) (before at : ℕ) → walk form (length xs) before at (xs ++ bytes) ≡ walk form 0 before (at + length xs) bytes
  walk_skip [] bytes before at = ap (λ n. walk form 0 before n bytes) (omega arith)
  walk_skip (x ∷ xs) bytes before at = walk_skip xs bytes before (at + 1) ∙ ap (λ n. walk form 0 before n bytes) (omega arith)

  pub barred_true : (before c : ℕ) → bars form before c ≡ true → Barred form before c
  barred_true before c = by_encoding (λ e. bars e before c ≡ true → Barred e before c) (λ h. pair before c h) (λ h. surrogate c h) form

  pub barred_so : (before c : ℕ) → Barred form before c → bars form before c ≡ true
  barred_so before c = by_encoding (λ e. Barred e before c → bars e before c ≡ true) (λ h. paired before c h) (λ h. surrogate_so c h) form

  pub free : (before c : ℕ) → bars form before c ≡ false → Barred form before c → ⊥
  free before c f b = both_ways (bars form before c) f (barred_so before c b)

  pub not_barred : (before c : ℕ) → (Barred form before c → ⊥) → bars form before c ≡ false
  not_barred before c h = ⊎_elim (λ t. absurd (h (barred_true before c t))) (λ f. f) (cases_Bool (bars form before c))

  -- one sequence on
  front_step : (before at c : ℕ) (bytes rest : List ℕ) → bytes ≡ encode c ++ rest → sequence bytes ≡ (c, len_utf8 c) → (bars form before c) ≡ false →
      walk form 0 before at bytes ≡ walk form 0 c (at + len_utf8 c) rest
  front_step before at c [] rest e s n = let l = ap length e ∙ length-append (encode c) rest in absurd (omega (arith, length-encode c, len_utf8_bounds c))
  front_step before at c (b ∷ tail) rest e s n =
      let w = len_utf8_bounds c in
      let t : (bars form before (sequence (b ∷ tail)).0) ≡ false = rw s n in
      let z : eqb (sequence (b ∷ tail)).1 0 ≡ false = rw s (ne_eqb (len_utf8 c) 0 (omega arith)) in
      cond-false (eqb (sequence (b ∷ tail)).1 0 || bars form before (sequence (b ∷ tail)).0) _ _ (or_from _ _ z t)
      ∙ rw s (later (encode c) refl)
    where
      later : (xs : List ℕ) → encode c ≡ xs → walk form (len_utf8 c - 1) c (at + 1) tail ≡ walk form 0 c (at + len_utf8 c) rest
      later [] f = let l = sym (length-encode c) ∙ ap length f in absurd (omega (arith, len_utf8_bounds c))
      later (x ∷ xs) f =
          let l : len_utf8 c ≡ suc (length xs) = sym (length-encode c) ∙ ap length f in
          let g : b ∷ tail ≡ x ∷ (xs ++ rest) = e ∙ ap (λ s. s ++ rest) f in
          let h : tail ≡ xs ++ rest = cc in
          let k : len_utf8 c - 1 ≡ length xs = omega arith in
          rw (k, h) (walk_skip xs rest c (at + 1) ∙ ap (λ n. walk form 0 c n rest) (omega arith))

  pub walk_step : (before at c : ℕ) (rest : List ℕ) → c ≤ 0x10FFFF → (bars form before c) ≡ false →
      walk form 0 before at (encode c ++ rest) ≡ walk form 0 c (at + len_utf8 c) rest
  walk_step before at c rest h n = front_step before at c (encode c ++ rest) rest refl (sequence-encode c rest h) n

  -- a breach
  pub walk_stop : (before at : ℕ) (bytes : List ℕ) → 0 < length bytes →
      (eqb (sequence bytes).1 0 || bars form before (sequence bytes).0) ≡ true → walk form 0 before at bytes ≡ Some at
  walk_stop before at [] h t = absurd (omega arith)
  walk_stop before at (b ∷ bytes) h t = cond-true _ _ _ t

  -- what the walk's answer says
  abbrev pub Outcome : ℕ → ℕ → List ℕ → Option ℕ → Type 0
  Outcome before at bytes None = (cs : List ℕ) × Points form before cs × (bytes ≡ encodes cs)
  Outcome before at bytes (Some place) =
      (cs : List ℕ) × ((rest : List ℕ) × Points form before cs × (bytes ≡ encodes cs ++ rest) × (at + length (encodes cs) ≡ place) × Broken form (last before cs) rest)

  one_more : (before at c : ℕ) (bytes rest : List ℕ) (o : Option ℕ) → c ≤ 0x10FFFF → (Barred form before c → ⊥) → bytes ≡ encode c ++ rest →
      Outcome c (at + len_utf8 c) rest o → Outcome before at bytes o
  one_more before at c bytes rest None h n e (cs, ps, f) = (c ∷ cs, (h, n, ps), e ∙ ap (λ s. encode c ++ s) f)
  one_more before at c bytes rest (Some place) h n e (cs, (more, ps, f, g, b)) = (
    c ∷ cs,
    (
      more,
      (h, n, ps),
      e ∙ ap (λ s. encode c ++ s) f ∙ sym (append_assoc (encode c) (encodes cs) more),
      omega (arith, length-append (encode c) (encodes cs), length-encode c),
      b,
    ),
  )

  pub outcome : (fuel before at : ℕ) (bytes : List ℕ) → length bytes ≤ fuel → Outcome before at bytes (walk form 0 before at bytes)
  outcome fuel before at [] h = ([], tt, refl)
  outcome zero before at (b ∷ bytes) h = absurd (omega arith)
  outcome (suc fuel) before at (b ∷ bytes) h =
      ⊎_elim
      (λ stop. subst (Outcome before at (b ∷ bytes)) (sym (walk_stop before at (b ∷ bytes) (omega arith) stop))
      ([], (b ∷ bytes, tt, refl, omega arith, (omega arith, λ c more k e. stopped c more k e stop))))
      (λ go.
      let p = or_parts _ _ go in
      let z : 0 < r.1 = let q = eqb-false r.1 0 p.0 in omega arith in
      let s = sequence_sound (b ∷ bytes) z in
      let rest : List ℕ = s.2.0 in
      let e : b ∷ bytes ≡ encode r.0 ++ rest = s.2.1 in
      let l = ap length e ∙ length-append (encode r.0) rest in
      let n = free before r.0 p.1 in
      subst (Outcome before at (b ∷ bytes)) (sym (ap (walk form 0 before at) e ∙ walk_step before at r.0 rest s.0 p.1))
      (one_more before at r.0 (b ∷ bytes) rest _ s.0 n e
      (outcome fuel r.0 (at + len_utf8 r.0) rest (omega (arith, length-encode r.0, len_utf8_bounds r.0)))))
      (cases_Bool (eqb r.1 0 || bars form before r.0))
    where
      r : ℕ × ℕ
      r = sequence (b ∷ bytes)

      stopped : (c : ℕ) (more : List ℕ) → c ≤ 0x10FFFF → b ∷ bytes ≡ encode c ++ more → (eqb (sequence (b ∷ bytes)).1 0 || bars form before (sequence (b ∷ bytes)).0) ≡ true → Barred form before c
      stopped c more k e t =
          let s : sequence (b ∷ bytes) ≡ (c, len_utf8 c) = ap sequence e ∙ sequence-encode c more k in
          let u : (eqb (len_utf8 c) 0 || bars form before c) ≡ true = rw s at t in
          ⊎_elim (λ z. let y = eqb-true (len_utf8 c) 0 z in absurd (omega (arith, len_utf8_bounds c))) (barred_true before c) (or_cases (eqb (len_utf8 c) 0) (bars form before c) u)
