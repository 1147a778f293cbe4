-- The code points and bytes of raw text that is printed: no </script, and ASCII if that is asked for.
use Rattle.std.proofs.Common.{◌≡◌, ℕ, ◌<◌, Bool, true, false, ◌&&◌, eqb, leb, ◌≢◌, List, [], ◌∷◌, ◌++◌, sym, refl, subst, ⊎_elim, arith}
use lib.Utf8.{encodes}
use Rattle.std.specs.List.{AllByRecursion}
use Rattle.std.proofs.lemmas.Bool.{cond_both, and_left, and_right, and_cases, cases_eq, ne_eqb, true≢false}
use Rattle.std.proofs.ByRecursion.{All-append, All-weaker}
use Rattle.std.proofs.lemmas.Bool.Decides.{nat_tests}
use Rattle.ecma262.specs.Lookahead.{opens}
use Rattle.literal.specs.Escapes.{script, tag}
use Rattle.literal.specs.Raw.{odd_behind, wide_printed, break_tags, under, ascii_only, free_dollars, piece, name}
use Rattle.literal.specs.RawLaws.{PieceTagless, TaggedTagless, RawAscii}
use Rattle.literal.specs.RawWalk.{backslash_goes, raw_walk}
use Rattle.literal.specs.declared.NonAsciiEscape.{NonAsciiEscape}
use Rattle.literal.specs.declared.NonAsciiEscape.TheVariants.{Identifier, RegExp, TemplateRaw, Directive}
use Rattle.literal.proofs.Encoded.{ascii_bytes, absent_bytes}
use Rattle.literal.proofs.OneWalk.{piece_in_one_walk, others_in_one_walk}
use Rattle.literal.proofs.Output.{Absent, absent_more, absent_none}
use Rattle.literal.proofs.RawTurns.{Calm, wide_shape}

-- no tag

-- what tests that pass no backslash see of what the third step prints, they see of the text
ahead_left : (ps : List (ℕ → Bool)) → AllByRecursion (λ p. p 0x5C ≡ false) ps → (before : ℕ) (cs : List ℕ) → opens ps cs ≡ false → opens ps (break_tags before cs) ≡ false
ahead_left [] a before cs e = absurd (true≢false e)
ahead_left (p ∷ ps) a before [] e = refl
ahead_left (p ∷ ps) a before (c ∷ cs) e =
    cond_both (eqb c 0x2F && eqb before 0x3C && opens script cs) (0x5C ∷ 0x2F ∷ []) (c ∷ []) (λ x. opens (p ∷ ps) (x ++ break_tags c cs) ≡ false)
    (λ _. and_left (p 0x5C) _ a.0)
    (λ _. ⊎_elim (λ f. and_left (p c) (opens ps (break_tags c cs)) f) (λ f. and_right (p c) (opens ps (break_tags c cs)) (ahead_left ps a.1 c cs f)) (and_cases (p c) (opens ps cs) e))

after_less : (cs : List ℕ) → opens (eqb 0x2F ∷ script) (break_tags 0x3C cs) ≡ false
after_less [] = refl
after_less (d ∷ ds) = grind (arith, nat_tests)

here : (c : ℕ) (cs : List ℕ) → opens tag (c ∷ break_tags c cs) ≡ false
here c cs =
    ⊎_elim (λ e. and_right (eqb 0x3C c) _ (rw e (after_less cs))) (λ n. and_left (eqb 0x3C c) _ (ne_eqb 0x3C c (λ i. n (sym i)))) (cases_eq c 0x3C)

pub no_tag_left : (before : ℕ) (s : List ℕ) → Absent (break_tags before s)
no_tag_left before [] = absent_none
no_tag_left before (c ∷ cs) =
    cond_both (eqb c 0x2F && eqb before 0x3C && opens script cs) (0x5C ∷ 0x2F ∷ []) (c ∷ []) (λ x. Absent (x ++ break_tags c cs))
    (λ _. absent_more 0x5C (0x2F ∷ break_tags c cs) refl (absent_more 0x2F (break_tags c cs) refl (no_tag_left c cs)))
    (λ _. absent_more c (break_tags c cs) (here c cs) (no_tag_left c cs))

pub tagged_tagless : TaggedTagless
tagged_tagless text place = (no_tag_left 0 text place, absent_bytes (break_tags 0 text) (no_tag_left 0 text) place)

pub piece-tagless : PieceTagless
piece-tagless minify ascii text place = tagged_tagless (under ascii (ascii_only TemplateRaw false) (under minify (free_dollars false) text)) place

-- ASCII alone

walk_ascii : (dollars : Bool) (mode : NonAsciiEscape) (tags odd : Bool) (before : ℕ) (text : List ℕ) → AllByRecursion (λ c. c < 128) (raw_walk dollars true mode tags odd before text)
walk_ascii dollars mode tags odd before [] = tt
walk_ascii dollars mode tags odd before (c ∷ cs) =
    All-append (λ c. c < 128) _ (raw_walk dollars true mode tags (odd_behind odd c) c cs)
    (cond_both (odd_behind odd c && backslash_goes dollars true mode cs) [] _ (AllByRecursion (λ c. c < 128)) (λ _. tt)
    (λ _. cond_both (leb 0x80 c && true) (wide_printed mode odd c) _ (AllByRecursion (λ c. c < 128))
    (λ _. let (x, e, calm) = wide_shape mode odd c in rw e (omega arith, All-weaker Calm (λ c. c < 128) (λ _ k. k.0) x calm))
    (λ n. cond_both (eqb c 0x2F && eqb before 0x3C && opens script cs && tags) (0x5C ∷ 0x2F ∷ []) (c ∷ []) (AllByRecursion (λ c. c < 128))
    (λ _. (omega arith, (omega arith, tt))) (λ _. (grind (arith, nat_tests), tt)))))
    (walk_ascii dollars mode tags (odd_behind odd c) c cs)

bytes_ascii : {s t : List ℕ} → s ≡ t → AllByRecursion (λ c. c < 128) t → AllByRecursion (λ b. b < 128) (encodes s)
bytes_ascii {s} e h = ascii_bytes s (subst (AllByRecursion (λ c. c < 128)) (sym e) h)

pub raw_ascii : RawAscii
raw_ascii minify text = (
  bytes_ascii (piece_in_one_walk minify true text) (walk_ascii minify TemplateRaw true false 0 text),
  bytes_ascii (others_in_one_walk true text).0 (walk_ascii false Directive false false 0 text),
  bytes_ascii (others_in_one_walk true text).1 (walk_ascii false RegExp false false 0 text),
  bytes_ascii (others_in_one_walk true text).2 (walk_ascii false Identifier false false 0 text),
)

-- what holds of the text, and of all ASCII but <, holds of what is printed

module _ (P : ℕ → Type 0) (fine : (c : ℕ) → c < 128 → c ≢ 0x3C → P c) where
  walk-all : (dollars ascii : Bool) (mode : NonAsciiEscape) (tags odd : Bool) (before : ℕ) (text : List ℕ) → AllByRecursion P text →
      AllByRecursion P (raw_walk dollars ascii mode tags odd before text)
  walk-all dollars ascii mode tags odd before [] a = tt
  walk-all dollars ascii mode tags odd before (c ∷ cs) a =
      let slash : P 0x5C = fine 0x5C (omega arith) (omega arith) in
      All-append P _ (raw_walk dollars ascii mode tags (odd_behind odd c) c cs)
      (cond_both (odd_behind odd c && backslash_goes dollars ascii mode cs) [] _ (AllByRecursion P) (λ _. tt)
      (λ _. cond_both (leb 0x80 c && ascii) (wide_printed mode odd c) _ (AllByRecursion P)
      (λ _. let (x, e, calm) = wide_shape mode odd c in rw e (slash, All-weaker Calm P (λ d k. fine d k.0 k.1) x calm))
      (λ n. cond_both (eqb c 0x2F && eqb before 0x3C && opens script cs && tags) (0x5C ∷ 0x2F ∷ []) (c ∷ []) (AllByRecursion P)
      (λ _. (slash, (fine 0x2F (omega arith) (omega arith), tt))) (λ _. (a.0, tt)))))
      (walk-all dollars ascii mode tags (odd_behind odd c) c cs a.1)

  pub piece-all : (minify ascii : Bool) (text : List ℕ) → AllByRecursion P text → AllByRecursion P (piece minify ascii text)
  piece-all minify ascii text a = subst (AllByRecursion P) (sym (piece_in_one_walk minify ascii text)) (walk-all minify ascii TemplateRaw true false 0 text a)

  pub name-all : (ascii : Bool) (text : List ℕ) → AllByRecursion P text → AllByRecursion P (name ascii text)
  name-all ascii text a = subst (AllByRecursion P) (sym (others_in_one_walk ascii text).2) (walk-all false ascii Identifier false false 0 text a)

absent_without : (s : List ℕ) → AllByRecursion (λ c. c ≢ 0x3C) s → Absent s
absent_without [] h = absent_none
absent_without (c ∷ s) h = absent_more c s (and_left (eqb 0x3C c) _ (ne_eqb 0x3C c (λ i. h.0 (sym i)))) (absent_without s h.1)

pub name-tagless : (ascii : Bool) (text : List ℕ) → AllByRecursion (λ c. c ≢ 0x3C) text → Absent (name ascii text)
name-tagless ascii text a = absent_without (name ascii text) (name-all (λ c. c ≢ 0x3C) (λ c l n. n) ascii text a)
