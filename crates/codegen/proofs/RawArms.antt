-- The arms of a raw turn, at the front of the bytes.
use Rattle.std.proofs.Common.{◌≡◌, ℕ, ◌+◌, ◌-◌, ◌/◌, ◌%◌, ◌<◌, ◌≤◌, Bool, true, false, not, ◌&&◌, ◌||◌, eqb, leb, List, [], ◌∷◌, ◌++◌, length, get_or, sym, refl, ap, ◌∙◌, subst, arith}
use lib.Utf8.{encode, encodes}
use Rattle.std.specs.Char.{len_utf8}
use Rattle.std.specs.List.{AllByRecursion}
use Rattle.std.proofs.lemmas.Str.{encodes-append}
use Rattle.std.proofs.lemmas.Bool.{and_left, and_right, and_parts, ne_eqb, eqb-true, both_ways, le-ltb}
use Rattle.std.proofs.lemmas.Bool.Decides.{nat_tests}
use Rattle.ecma262.specs.Lookahead.{opens}
use Rattle.ecma262.specs.Units.{utf16}
use Rattle.ecma262.proofs.Utf8.{encode_1, same_front, first_test, eqb_narrow}
use Rattle.literal.specs.Escapes.{script, tag}
use Rattle.literal.specs.Raw.{odd_behind, bare_dollar, loses_backslash, continues_lines, is_separator}
use Rattle.text.specs.Sequence.{sequence, code_points}
use Rattle.codegen.specs.declared.raw_style.RawStyle.{RawStyle}
use Rattle.codegen.specs.declared.raw_turn.RawTurn.TheVariants.{Keep, Drop, Escaped, LineEnd, Tag}
use Rattle.codegen.specs.RawTurns.{goes_before, raw_body, RawTurned}
use Rattle.codegen.specs.Turns.{Fine, Fit}
use Rattle.codegen.proofs.Crossing.{lead_byte, lead_byte_lem}
use Rattle.codegen.proofs.Fronts.{is_sequence, is_wide, is_byte, same_tag, byte_behind}
use Rattle.codegen.proofs.Steps.{Front, front, reads, fit-encodes, encodes-plain}
use Rattle.codegen.proofs.RawSteps.{goes_in, turn_in, walk_in, walk_before, wide_kept, line_end, wide-escaped, ascii_kept, backslash_dropped}

pub two_units : (c : ℕ) → 0x10000 ≤ c → utf16 c ≡ (0xD800 + (c - 0x10000) / 0x400) ∷ (0xDC00 + (c - 0x10000) % 0x400) ∷ []
two_units c h = rw (le-ltb c 0x10000 h) refl

-- lookahead in bytes

two_tests : (p q : ℕ → Bool) → p 0 ≡ false → q 0 ≡ false → (s : List ℕ) → opens (p ∷ q ∷ []) s ≡ (p (get_or s 0 0) && q (get_or s 1 0))
two_tests p q z y [] = sym (and_left (p 0) (q 0) z)
two_tests p q z y (a ∷ s) = ap (λ t. p a && t) (first_test q y s)

and_true : (b : Bool) → (b && true) ≡ b
and_true true = refl
and_true false = refl

wide-first : (cs : List ℕ) → opens (leb 0x80 ∷ []) cs ≡ leb 0x80 (get_or (encodes cs) 0 0)
wide-first [] = refl
wide-first (c ∷ cs) = and_true (leb 0x80 c) ∙ same c (get_or (encode c ++ encodes cs) 0 0) (lead_byte_lem c (encodes cs))
  where
    same : (c b : ℕ) → b ≡ lead_byte c → leb 0x80 c ≡ leb 0x80 b
    same c b e = grind (arith, nat_tests)

dollar-first : (cs : List ℕ) → bare_dollar cs ≡ (eqb (get_or (encodes cs) 0 0) 0x24 && not (eqb (get_or (encodes cs) 1 0) 0x7B))
dollar-first cs =
    let one = sym (same_front (eqb 0x24 ∷ []) (eqb_narrow 0x24 (omega arith), tt) cs) ∙ first_test (eqb 0x24) refl (encodes cs) in
    let two = sym (same_front (eqb 0x24 ∷ eqb 0x7B ∷ []) (eqb_narrow 0x24 (omega arith), (eqb_narrow 0x7B (omega arith), tt)) cs) ∙ two_tests (eqb 0x24) (eqb 0x7B) refl refl (encodes cs) in
    ap (λ t. t && not (opens (eqb 0x24 ∷ eqb 0x7B ∷ []) cs)) one ∙ ap (λ t. eqb 0x24 (get_or (encodes cs) 0 0) && not t) two
    ∙ flip (get_or (encodes cs) 0 0) (get_or (encodes cs) 1 0)
  where
    flip : (n m : ℕ) → (eqb 0x24 n && not (eqb 0x24 n && eqb 0x7B m)) ≡ (eqb n 0x24 && not (eqb m 0x7B))
    flip n m = grind (arith, nat_tests)

goes_same : (style : RawStyle) (cs : List ℕ) →
    goes_in style cs ≡ goes_before style (get_or (encodes cs) 0 0) (get_or (encodes cs) 1 0)
goes_same style cs =
    ap (λ t. t && style.dollars || opens (leb 0x80 ∷ []) cs && loses_backslash style.mode && style.ascii_only) (dollar-first cs)
    ∙ ap (λ t. eqb (get_or (encodes cs) 0 0) 0x24 && not (eqb (get_or (encodes cs) 1 0) 0x7B) && style.dollars || t && loses_backslash style.mode && style.ascii_only) (wide-first cs)

pub tag_turn : (style : RawStyle) (odd : Bool) (ds : List ℕ) → AllByRecursion (Fine false) ds → opens script ds ≡ true → style.tags ≡ true →
    RawTurned style odd (0x3C ∷ 0x2F ∷ encodes ds) Tag
unfolding raw_body
tag_turn style odd ds a h t =
    record {
      more = omega arith;
      within = omega arith;
      fit = fit-encodes false ds a;
      shown =
          let r = reads false ds a in
          let walk = walk_in style in
          let first : turn_in style odd 0 0x3C (0x2F ∷ ds) ≡ 0x3C ∷ [] = less odd in
          let second : turn_in style false 0x3C 0x2F ds ≡ 0x5C ∷ 0x2F ∷ [] = rw (h, t) refl in
          ap (λ x. encodes (walk odd 0 (0x3C ∷ 0x2F ∷ x))) r
          ∙ ap (λ o. encodes (turn_in style odd 0 0x3C (0x2F ∷ ds) ++ walk o 0x3C (0x2F ∷ ds))) (none odd 0x3C refl)
          ∙ ap (λ o. encodes (turn_in style odd 0 0x3C (0x2F ∷ ds) ++ (turn_in style false 0x3C 0x2F ds ++ walk o 0x2F ds))) (none false 0x2F refl)
          ∙ ap (λ x. encodes (x ++ (turn_in style false 0x3C 0x2F ds ++ walk false 0x2F ds))) first
          ∙ ap (λ x. encodes (0x3C ∷ (x ++ walk false 0x2F ds))) second
          ∙ encodes-append (0x3C ∷ 0x5C ∷ 0x2F ∷ []) (walk false 0x2F ds)
          ∙ ap (λ x. x ++ encodes (walk false 0x2F ds)) (encodes-plain (0x3C ∷ 0x5C ∷ 0x2F ∷ []) (omega arith))
          ∙ ap (λ x. (0x3C ∷ 0x5C ∷ 0x2F ∷ []) ++ encodes x) (walk_before style false 0x2F ds refl)
          ∙ ap (λ x. (0x3C ∷ 0x5C ∷ 0x2F ∷ []) ++ encodes (walk false 0 x)) (sym r)
          ∙ ap (λ o. (0x3C ∷ 0x5C ∷ 0x2F ∷ []) ++ encodes (walk o 0 (code_points (encodes ds)))) (sym (none odd 0x3C refl));
    }
  where
    none : (o : Bool) (c : ℕ) → eqb c 0x5C ≡ false → odd_behind o c ≡ false
    none o c e = and_right (not o) (eqb c 0x5C) e

    less : (o : Bool) → turn_in style o 0 0x3C (0x2F ∷ ds) ≡ 0x3C ∷ []
    less true = refl
    less false = refl

module _ (style : RawStyle) (odd : Bool) (s : List ℕ) (more : 0 < length s) (fit : Fit false s) where
  abbrev f : Front false s
  f = front false s fit more

  module _ (wide : 0x80 ≤ get_or s 0 0) (r : ℕ × ℕ) (d : r ≡ sequence s) where
    is_seq : r ≡ (f.c, len_utf8 f.c)
    is_seq = d ∙ is_sequence false s f

    above : 0x80 ≤ f.c
    above = is_wide false s f wide

    pub kept_wide : style.ascii_only ≡ false → RawTurned style odd s (Keep r.1)
    kept_wide a = wide_kept style odd s f above r.1 (ap (λ x. x.1) is_seq) a

    pub ended_line : style.ascii_only ≡ true → (is_separator r.0 && odd && continues_lines style.mode) ≡ true → RawTurned style odd s (LineEnd r.1)
    ended_line a e = line_end style odd s f above r.1 (ap (λ x. x.1) is_seq) a (ap (λ x. is_separator x.0 && odd && continues_lines style.mode) (sym is_seq) ∙ e)

    pub escaped-wide : style.ascii_only ≡ true → (is_separator r.0 && odd && continues_lines style.mode) ≡ false → RawTurned style odd s (Escaped r.0 r.1)
    escaped-wide a e =
        wide-escaped style odd s f above r.1 (ap (λ x. x.1) is_seq) r.0 (ap (λ x. x.0) is_seq) a
        (ap (λ x. is_separator x.0 && odd && continues_lines style.mode) (sym is_seq) ∙ e)

  module _ (l : get_or s 0 0 < 0x80) where
    same : f.c ≡ get_or s 0 0
    same = is_byte false s f l

    narrow : f.c < 0x80
    narrow = let e = same in omega arith

    goes_is : (odd_behind odd f.c && goes_in style f.cs) ≡ (odd_behind odd (get_or s 0 0) && goes_before style (get_or s 1 0) (get_or s 2 0))
    goes_is =
        ap (λ x. odd_behind odd x && goes_in style f.cs) same
        ∙ ap (λ x. odd_behind odd (get_or s 0 0) && x)
        (goes_same style f.cs
        ∙ ap (λ n. goes_before style n (get_or (encodes f.cs) 1 0)) (sym (byte_behind false s f narrow 0))
        ∙ ap (λ n. goes_before style (get_or s 1 0) n) (sym (byte_behind false s f narrow 1)))

    keeps : (odd_behind odd (get_or s 0 0) && goes_before style (get_or s 1 0) (get_or s 2 0)) ≡ false → (opens tag s && style.tags) ≡ false → RawTurned style odd s (Keep 1)
    keeps g t = ascii_kept style odd s f narrow (goes_is ∙ g) (ap (λ x. x && style.tags) (sym (same_tag false s f)) ∙ t)

    no_run : (get_or s 0 0 ≡ 0x5C → ⊥) → (odd_behind odd (get_or s 0 0) && goes_before style (get_or s 1 0) (get_or s 2 0)) ≡ false
    no_run n = and_left (odd_behind odd (get_or s 0 0)) _ (and_right (not odd) _ (ne_eqb (get_or s 0 0) 0x5C n))

    no_less : (get_or s 0 0 ≡ 0x3C → ⊥) → (opens tag s && style.tags) ≡ false
    no_less n = and_left (opens tag s) style.tags (same_tag false s f ∙ and_left (eqb 0x3C f.c) _ (ne_eqb 0x3C f.c (λ e. n (sym (e ∙ same)))))

    pub kept_other : (get_or s 0 0 ≡ 0x5C → ⊥) → (get_or s 0 0 ≡ 0x3C → ⊥) → RawTurned style odd s (Keep 1)
    kept_other n m = keeps (no_run n) (no_less m)

  -- at a backslash
  module _ (slash : get_or s 0 0 ≡ 0x5C) where
    run : (odd_behind odd (get_or s 0 0) && goes_before style (get_or s 1 0) (get_or s 2 0)) ≡ (not odd && goes_before style (get_or s 1 0) (get_or s 2 0))
    run = ap (λ b. odd_behind odd b && goes_before style (get_or s 1 0) (get_or s 2 0)) slash ∙ ap (λ b. b && goes_before style (get_or s 1 0) (get_or s 2 0)) (and_true (not odd))

    pub kept_slash : (not odd && goes_before style (get_or s 1 0) (get_or s 2 0)) ≡ false → RawTurned style odd s (Keep 1)
    kept_slash g = keeps (omega arith) (run ∙ g) (no_less (omega arith) (omega arith))

    pub dropped_slash : (not odd && goes_before style (get_or s 1 0) (get_or s 2 0)) ≡ true → RawTurned style odd s Drop
    dropped_slash g = let l : get_or s 0 0 < 0x80 = omega arith in backslash_dropped style odd s f (narrow l) (goes_is l ∙ run ∙ g)

  -- at a <
  pub kept_less : get_or s 0 0 ≡ 0x3C → (opens tag s && style.tags) ≡ false → RawTurned style odd s (Keep 1)
  kept_less e t = let l : get_or s 0 0 < 0x80 = omega arith in keeps l (no_run l (λ k. let z = e in omega arith)) t

  pub tagged : (opens tag s && style.tags) ≡ true → RawTurned style odd s Tag
  tagged t = go f.cs f.others f.here (and_parts (eqb 0x3C f.c) _ (sym (same_tag false s f) ∙ (and_parts (opens tag s) style.tags t).0))
    where
      go : (cs : List ℕ) → AllByRecursion (Fine false) cs → s ≡ encode f.c ++ encodes cs → (eqb 0x3C f.c ≡ true) × (opens (eqb 0x2F ∷ script) cs ≡ true) →
          RawTurned style odd s Tag
      go [] a e p = absurd (both_ways false refl p.1)
      go (d ∷ ds) a e p =
          let r = and_parts (eqb 0x2F d) _ p.1 in
          let c : f.c ≡ 0x3C = sym (eqb-true 0x3C f.c p.0) in
          let k : d ≡ 0x2F = sym (eqb-true 0x2F d r.0) in
          let i : s ≡ 0x3C ∷ 0x2F ∷ encodes ds =
          e ∙ ap (λ x. encode x ++ encodes (d ∷ ds)) c ∙ ap (λ x. encode 0x3C ++ (encode x ++ encodes ds)) k ∙ rw (encode_1 0x3C (omega arith), encode_1 0x2F (omega arith)) refl in
          subst (λ s. RawTurned style odd s Tag) (sym i) (tag_turn style odd ds a.1 r.1 (and_parts (opens tag s) style.tags t).1)
