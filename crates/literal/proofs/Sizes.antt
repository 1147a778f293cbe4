-- A literal's length is a number that the quote has no part in, and the quote's cost.
use Rattle.std.proofs.lemmas.Bool.Decides.{nat_tests}
use Rattle.std.proofs.Common.{◌≡◌, ℕ, ◌+◌, ◌≤◌, Bool, true, false, cond, ◌&&◌, eqb, List, [], ◌∷◌, ◌++◌, length, refl, arith, length-append}
use lib.Utf8.{encode, encodes}
use Rattle.std.specs.Char.{len_utf8}
use Rattle.std.proofs.lemmas.Str.{length-encode}
use Rattle.std.proofs.lemmas.Bool.{cond_both, leb-true, leb-false, and_parts}
use Rattle.ecma262.specs.Units.{mark}
use Rattle.ecma262.specs.declared.Quote.{Quote}
use Rattle.ecma262.specs.declared.Quote.TheVariants.{Single, Double, Backtick}
use Rattle.literal.specs.Laws.{Shortest}
use Rattle.literal.specs.Escapes.{rules, other_rules, first, printed, literal}
use Rattle.literal.specs.Quotes.{adds, takes, added, taken, no_dearer, permitted, string_quote, chosen}
use Rattle.literal.proofs.Front.{by_quote}

-- the bytes of a text in UTF-8
abbrev pub size : List ℕ → ℕ
size [] = 0
size (c ∷ s) = len_utf8 c + size s

pub length-encodes : (s : List ℕ) → length (encodes s) ≡ size s
length-encodes [] = refl
length-encodes (c ∷ s) = omega (arith, length-append (encode c) (encodes s), length-encode c, length-encodes s)

pub size_append : (s t : List ℕ) → size (s ++ t) ≡ size s + size t
size_append [] t = omega arith
size_append (c ∷ s) t = omega (arith, size_append s t)

-- what c is printed in by the rules that the quote has no part in; a line feed is then two
abbrev part : Bool → ℕ → ℕ → List ℕ → ℕ
part ascii before c cs = size (first c (other_rules ascii before c cs)) + cond (eqb c 0x0A) 1 0

abbrev base : Bool → ℕ → List ℕ → ℕ
base ascii before [] = 0
base ascii before (c ∷ cs) = part ascii before c cs + base ascii c cs

one : (q : Quote) (ascii : Bool) (before c : ℕ) (cs : List ℕ) →
    size (first c (rules q ascii before c cs)) + takes q c ≡ part ascii before c cs + adds q c cs
unfolding other_rules
one Single ascii before c cs = grind (arith, nat_tests)
one Double ascii before c cs = grind (arith, nat_tests)
one Backtick ascii before c cs = grind (arith, nat_tests)

sizes : (q : Quote) (ascii : Bool) (before : ℕ) (text : List ℕ) → size (printed q ascii before text) + taken q text ≡ base ascii before text + added q text
sizes q ascii before [] = refl
sizes q ascii before (c ∷ cs) =
    omega (arith, size_append (first c (rules q ascii before c cs)) (printed q ascii c cs), one q ascii before c cs, sizes q ascii c cs)

module _ (ascii : Bool) (text : List ℕ) where
  whole : (q : Quote) → size (literal q ascii text) + taken q text ≡ base ascii 0 text + 2 + added q text
  whole q =
      let w : len_utf8 (mark q) ≡ 1 = by_quote (λ m. len_utf8 m ≡ 1) refl refl refl q in
      omega (arith, size_append (printed q ascii 0 text) (mark q ∷ []), sizes q ascii 0 text)

  abbrev NoLonger : Quote → Quote → Type 0
  NoLonger p q = size (literal p ascii text) ≤ size (literal q ascii text)

  cheaper : (p q : Quote) → no_dearer p q text ≡ true → NoLonger p q
  cheaper p q t = omega (arith, leb-true _ _ t, whole p, whole q)

  dearer : (p q : Quote) → no_dearer p q text ≡ false → NoLonger q p
  dearer p q f = omega (arith, leb-false _ _ f, whole p, whole q)

  string_quote_best : NoLonger (string_quote text) Single × NoLonger (string_quote text) Double
  string_quote_best =
      cond_both (no_dearer Double Single text) Double Single (λ p. NoLonger p Single × NoLonger p Double)
      (λ t. (cheaper Double Single t, omega arith)) (λ f. (omega arith, dearer Double Single f))

  best : (backtick : Bool) (q : Quote) → permitted backtick q ≡ true → NoLonger (chosen backtick text) q
  best backtick q h =
      cond_both (backtick && no_dearer Backtick (string_quote text) text) Backtick (string_quote text) (λ p. NoLonger p q)
      (λ t. below q (cheaper Backtick (string_quote text) (and_parts backtick _ t).1)) (λ f. left q h f)
    where
      below : (q : Quote) → NoLonger Backtick (string_quote text) → NoLonger Backtick q
      below Single k = omega (arith, string_quote_best)
      below Double k = omega (arith, string_quote_best)
      below Backtick k = omega arith

      left : (q : Quote) → permitted backtick q ≡ true → (backtick && no_dearer Backtick (string_quote text) text) ≡ false → NoLonger (string_quote text) q
      left Single p f = string_quote_best.0
      left Double p f = string_quote_best.1
      left Backtick p f = dearer Backtick (string_quote text) (rw p at f)

pub shortest_chosen : Shortest
shortest_chosen q ascii backtick text h =
    omega (arith, length-encodes (literal (chosen backtick text) ascii text), length-encodes (literal q ascii text), best ascii text backtick q h)
