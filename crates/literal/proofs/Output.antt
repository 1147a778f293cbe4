-- The code points of a literal: ASCII if that is asked for, no surrogate, and no </script.
use Rattle.std.proofs.Common.{◌≡◌, ℕ, zero, suc, ◌%◌, ◌<◌, ◌≤◌, Bool, true, false, eqb, ◌≢◌, List, [], ◌∷◌, ◌++◌, drop, refl, ⊎_elim, append_assoc, arith}
use lib.Utf8.{scalar, scalars}
use Rattle.std.specs.List.{AllByRecursion}
use Rattle.std.proofs.lemmas.Bool.{and_from, and_left, and_right, cases_eq, ne_eqb}
use Rattle.std.proofs.ByRecursion.{All-append, All-weaker}
use Rattle.std.proofs.lemmas.Bool.Decides.{nat_tests}
use Rattle.ecma262.specs.Units.{Text, mark}
use Rattle.ecma262.specs.declared.Quote.{Quote}
use Rattle.ecma262.specs.declared.Quote.TheVariants.{Single, Double, Backtick}
use Rattle.ecma262.specs.Lookahead.{opens}
use Rattle.literal.specs.Quiet.{quiet}
use Rattle.literal.specs.Laws.{Tagless, Scalars}
use Rattle.literal.specs.declared.HexCase.{HexCase}
use Rattle.literal.specs.declared.EscapeSequence.{EscapeSequence}
use Rattle.literal.specs.Escapes.{hex_digit, behind, script, tag, rules, other_rules, first, printed, literal}
use Rattle.literal.specs.declared.EscapeSequence.TheVariants.{Null, Character, Hex, Unicode, CodePoint}
use Rattle.literal.proofs.Rules.{Rows, by_rules, pass, rows_pass}
use Rattle.literal.proofs.Front.{front, by_quote}

-- a character that an escape is made of
abbrev pub Quiet : ℕ → Type 0
Quiet x = (x < 128) × (x ≢ 0x3C)

pub hex-quiet : (letters : HexCase) (n : ℕ) → Quiet (hex_digit letters (n % 0x10))
hex-quiet letters n = grind (arith, nat_tests)

behind-quiet : (c : ℕ) (e : EscapeSequence) → quiet e ≡ true → AllByRecursion Quiet (behind c e)
behind-quiet c Null s = omega arith
behind-quiet c (Character e) s = grind (arith, nat_tests)
behind-quiet c Hex s = omega (arith, hex-quiet)
behind-quiet c (Unicode letters) s = omega (arith, hex-quiet)
behind-quiet c CodePoint s = grind (arith, nat_tests)

quiet-rules : (q : Quote) (ascii : Bool) (before c : ℕ) (cs : List ℕ) → pass quiet (rules q ascii before c cs) ≡ true
unfolding other_rules
quiet-rules Single ascii before c cs = refl
quiet-rules Double ascii before c cs = refl
quiet-rules Backtick ascii before c cs = refl

pub quiet_rows : (q : Quote) (ascii : Bool) (before c : ℕ) (cs : List ℕ) → Rows (λ e. quiet e ≡ true) (rules q ascii before c cs)
quiet_rows q ascii before c cs = rows_pass quiet (rules q ascii before c cs) (quiet-rules q ascii before c cs)

-- ASCII alone

body_ascii : (q : Quote) (before : ℕ) (text : List ℕ) → AllByRecursion (λ c. c < 128) (printed q true before text)
unfolding other_rules
body_ascii q before [] = tt
body_ascii q before (c ∷ cs) =
    All-append (λ c. c < 128) (first c (rules q true before c cs)) (printed q true c cs)
    (by_rules (AllByRecursion (λ c. c < 128)) (λ e. quiet e ≡ true) c (rules q true before c cs) (quiet_rows q true before c cs)
    (λ e h. (omega arith, All-weaker Quiet (λ c. c < 128) (λ _ k. k.0) (behind c e) (behind-quiet c e h)))
    (λ none. (grind (arith, nat_tests), tt)))
    (body_ascii q c cs)

pub all_ascii : (q : Quote) (text : List ℕ) → AllByRecursion (λ c. c < 128) (literal q true text)
all_ascii q text =
    let m : mark q < 128 = by_quote (λ m. m < 128) (omega arith) (omega arith) (omega arith) q in
    (m, All-append (λ c. c < 128) (printed q true 0 text) (mark q ∷ []) (body_ascii q 0 text) (m, tt))

-- No surrogate

abbrev pub Scalar : ℕ → Type 0
Scalar c = (c ≤ 0x10FFFF) × ((0xD800 ≤ c) × (c ≤ 0xDFFF) → ⊥)

is_scalar : (c : ℕ) → Scalar c → scalar c ≡ true
is_scalar c h = grind (arith, nat_tests)

pub are_scalars : (s : List ℕ) → AllByRecursion Scalar s → scalars s ≡ true
are_scalars [] h = refl
are_scalars (c ∷ s) h = and_from (scalar c) (scalars s) (is_scalar c h.0) (are_scalars s h.1)

body_scalar : (q : Quote) (ascii : Bool) (before : ℕ) (text : List ℕ) → Text text → AllByRecursion Scalar (printed q ascii before text)
unfolding other_rules
body_scalar q ascii before [] t = tt
body_scalar q ascii before (c ∷ cs) t =
    All-append Scalar (first c (rules q ascii before c cs)) (printed q ascii c cs)
    (by_rules (AllByRecursion Scalar) (λ e. quiet e ≡ true) c (rules q ascii before c cs) (quiet_rows q ascii before c cs)
    (λ e h. (omega arith, All-weaker Quiet Scalar (λ _ k. omega arith) (behind c e) (behind-quiet c e h)))
    (λ none. ((t.0, grind (arith, nat_tests)), tt)))
    (body_scalar q ascii c cs t.1)

pub all_scalar : Scalars
all_scalar q ascii text t =
    let m : Scalar (mark q) = by_quote Scalar (omega arith) (omega arith) (omega arith) q in
    are_scalars (literal q ascii text) (m, All-append Scalar (printed q ascii 0 text) (mark q ∷ []) (body_scalar q ascii 0 text t) (m, tt))

-- No tag

abbrev pub Absent : List ℕ → Type 0
Absent s = (place : ℕ) → opens tag (drop place s) ≡ false

pub absent_more : (x : ℕ) (s : List ℕ) → opens tag (x ∷ s) ≡ false → Absent s → Absent (x ∷ s)
absent_more x s here later zero = here
absent_more x s here later (suc place) = later place

pub absent_quiet : (s t : List ℕ) → AllByRecursion Quiet s → Absent t → Absent (s ++ t)
absent_quiet [] t h later = later
absent_quiet (x ∷ s) t h later = absent_more x (s ++ t) (and_left (eqb 0x3C x) _ (ne_eqb 0x3C x (omega arith))) (absent_quiet s t h.1 later)

pub absent_none : Absent []
absent_none zero = refl
absent_none (suc place) = refl

module _ (q : Quote) (ascii : Bool) where
  -- the text cs printed, and the closing quote
  abbrev end : ℕ → List ℕ → List ℕ
  end before cs = printed q ascii before cs ++ (mark q ∷ [])

  after_less : (c : ℕ) → c ≡ 0x3C → (cs : List ℕ) → opens (eqb 0x2F ∷ script) (end c cs) ≡ false
  unfolding other_rules
  after_less c less [] = by_quote (λ m. opens (eqb 0x2F ∷ script) (m ∷ []) ≡ false) refl refl refl q
  after_less c less (d ∷ ds) =
      rw append_assoc
      (by_rules (λ s. opens (eqb 0x2F ∷ script) (s ++ end d ds) ≡ false) (λ e. quiet e ≡ true) d (rules q ascii c d ds) (quiet_rows q ascii c d ds)
      (λ _ _. refl)
      (λ none. ⊎_elim
      (λ slash. and_right (eqb 0x2F d) _
      (front q ascii [] script refl d ds (grind (arith, nat_tests))))
      (λ other. and_left (eqb 0x2F d) _ (ne_eqb 0x2F d (omega arith)))
      (cases_eq d 0x2F)))

  head : (c : ℕ) (cs : List ℕ) → opens tag (c ∷ end c cs) ≡ false
  head c cs =
      ⊎_elim (λ less. and_right (eqb 0x3C c) _ (after_less c less cs)) (λ other. and_left (eqb 0x3C c) _ (ne_eqb 0x3C c (omega arith)))
      (cases_eq c 0x3C)

  absent : (before : ℕ) (text : List ℕ) → Absent (end before text)
  absent before [] = absent_quiet (mark q ∷ []) [] (by_quote Quiet (omega arith) (omega arith) (omega arith) q, tt) absent_none
  absent before (c ∷ cs) =
      rw append_assoc
      (by_rules (λ s. Absent (s ++ end c cs)) (λ e. quiet e ≡ true) c (rules q ascii before c cs) (quiet_rows q ascii before c cs)
      (λ e h. absent_quiet (0x5C ∷ behind c e) (end c cs) (omega arith, behind-quiet c e h) (absent c cs))
      (λ _. absent_more c (end c cs) (head c cs) (absent c cs)))

pub no_tag : Tagless
no_tag q ascii text = absent_quiet (mark q ∷ []) _ (by_quote Quiet (omega arith) (omega arith) (omega arith) q, tt) (absent q ascii 0 text)
