-- A tally grows by one a byte at most, is the plain counts of the text, and goes on over texts one after the other.
use Rattle.std.proofs.Common.{◌≡◌, ℕ, ◌+◌, ◌-◌, ◌≤◌, not, true, false, cond, eqb, List, [], ◌∷◌, ◌++◌, length, reverse, fold, sym, refl, ap, ◌∙◌, subst, add-zero, zero-add, arith, length-take, length-drop}
use Rattle.std.specs.List.{prefix_len, suffix_len}
use Rattle.std.proofs.lemmas.List.{reverse-append, reverse-reverse}
use Rattle.std.proofs.lemmas.List.Sums.{fold-append, fold_push, sum_by-cons, suffix_len-le-length}
use Rattle.std.proofs.lemmas.Bool.Decides.{nat_tests}
use Rattle.buffer.specs.declared.tally.Tally.{Tally}
use Rattle.buffer.specs.Tally.{tally, stepped, nothing_yet, line_feeds_in, TallyIsPlainCounts}

pub line_feeds_grow : (t : Tally) (text : List ℕ) → (tally t text).line_feeds ≤ t.line_feeds + length text
line_feeds_grow t [] = omega arith
line_feeds_grow t (b ∷ bs) = let rest = line_feeds_grow (stepped t b) bs in grind (arith, nat_tests)

pub column_grows : (t : Tally) (text : List ℕ) → (tally t text).column ≤ t.column + length text
column_grows t [] = omega arith
column_grows t (b ∷ bs) = let rest = column_grows (stepped t b) bs in grind (arith, nat_tests)

-- for a loop that has counted the first bytes of a text
pub ruleset growth = (line_feeds_grow, column_grows, length-take)

line_feeds-from : (t : Tally) (text : List ℕ) → (tally t text).line_feeds ≡ t.line_feeds + line_feeds_in text
line_feeds-from t [] = sym (add-zero t.line_feeds)
line_feeds-from t (b ∷ bs) =
    let rest = line_feeds-from (stepped t b) bs in
    let all = sum_by-cons (λ x. cond (eqb x 10) 1 0) b bs in
    grind (arith, nat_tests)

-- from the last byte on
column-backwards : (us : List ℕ) → (tally nothing_yet (reverse us)).column ≡ prefix_len (λ b. not (eqb b 10)) us
column-backwards [] = refl
column-backwards (u ∷ us) =
    ap (λ (r : List ℕ). (tally nothing_yet r).column) (reverse-append (u ∷ []) us)
    ∙ ap (λ (t : Tally). t.column) (fold_push stepped nothing_yet (reverse us) u)
    ∙ (let rest = column-backwards us in grind (arith, nat_tests))

pub plain-counts : TallyIsPlainCounts
plain-counts = record {
  over_joined_texts = λ t first second. sym (fold-append stepped t first second);
  line_feeds_are_all = λ text. line_feeds-from nothing_yet text ∙ zero-add (line_feeds_in text);
  column_is_since_the_last = λ text.
      let backwards = ap (λ (r : List ℕ). (tally nothing_yet r).column) (sym (reverse-reverse text)) ∙ column-backwards (reverse text) in
      omega (arith, backwards, suffix_len-le-length (λ b. not (eqb b 10)) text, length-drop (length text - suffix_len (λ b. not (eqb b 10)) text) text);
}
