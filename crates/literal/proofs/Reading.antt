-- What is printed of a text denotes the text.
use Rattle.std.proofs.Common.{◌≡◌, ℕ, ◌<◌, ◌≤◌, Bool, true, false, eqb, List, [], ◌∷◌, ◌++◌, sym, refl, ap, ⊎_elim, append_assoc, arith}
use Rattle.std.proofs.lemmas.Bool.{and_parts, eqb-true, eqb-false, cases_eq, not-true}
use Rattle.std.proofs.lemmas.Bool.Decides.{nat_tests}
use Rattle.ecma262.specs.Units.{Text, mark, utf16, units}
use Rattle.ecma262.specs.declared.Quote.{Quote}
use Rattle.ecma262.specs.declared.Quote.TheVariants.{Single, Double, Backtick}
use Rattle.ecma262.specs.Lookahead.{opens, digit}
use Rattle.ecma262.specs.Literals.{Character, Characters, EscapeSequence, SingleEscapeCharacter, NonEscapeCharacter, StringCharacter, TemplateCharacter, NotAhead, DecimalDigit}
use Rattle.ecma262.specs.Literals.SingleEscapeCharacter.{single_quote, double_quote, backslash, backspace, form_feed, line_feed, carriage_return, vertical_tab}
use Rattle.ecma262.specs.Literals.EscapeSequence.{single as by-single, non_escape, null}
use Rattle.ecma262.specs.Literals.LineTerminatorSequence.{lf}
use Rattle.ecma262.specs.Literals.Literal.{quoted}
use Rattle.ecma262.specs.Literals.Character.{single, double, template}
use Rattle.ecma262.specs.Literals.Characters.{none, more}
use Rattle.ecma262.proofs.Ahead.{lookahead}
use Rattle.ecma262.proofs.Whole.{reads_whole}
use Rattle.literal.specs.Laws.{Denoted, Returned}
use Rattle.literal.specs.Escapes.{behind, rules, other_rules, first, printed}
use Rattle.literal.specs.declared.HexCase.TheVariants.{Lower, Upper}
use Rattle.literal.proofs.Rules.{◌⊹◌, Rows, NoRule, by_rules}
use Rattle.literal.proofs.Digits.{by_two, by_four, by_braces, one_unit, valued}
use Rattle.literal.proofs.Front.{front, refuse}

behind-backslash : (q : Quote) {s rest u : List ℕ} → EscapeSequence s rest u → Character q (0x5C ∷ s) rest u
behind-backslash Single e = single (StringCharacter.escape e)
behind-backslash Double e = double (StringCharacter.escape e)
behind-backslash Backtick e = template (TemplateCharacter.escape e)

-- the characters that stand for themselves behind a backslash
pub dollar : NonEscapeCharacter 0x24
dollar = grind (arith, nat_tests)

pub slash : NonEscapeCharacter 0x2F
slash = grind (arith, nat_tests)

backtick : NonEscapeCharacter 0x60
backtick = grind (arith, nat_tests)

-- the rows of the rules: the escape of c is read as c
module _ (c : ℕ) (rest : List ℕ) where
  single_row : {e v : ℕ} → SingleEscapeCharacter e v → v < 0x10000 → eqb c v ≡ true → EscapeSequence (e ∷ rest) rest (utf16 c)
  single_row {e} {v} s h t = let i = eqb-true c v t in valued (one_unit c v (omega arith) (omega arith)) (by-single s)

  same_row : (v : ℕ) → NonEscapeCharacter v → eqb c v ≡ true → EscapeSequence (v ∷ rest) rest (utf16 c)
  same_row v n t = valued (ap utf16 (sym (eqb-true c v t))) (non_escape n)

  quote_row : (q : Quote) → eqb c (mark q) ≡ true → EscapeSequence (mark q ∷ rest) rest (utf16 c)
  quote_row Single t = single_row single_quote (omega arith) t
  quote_row Double t = single_row double_quote (omega arith) t
  quote_row Backtick t = same_row 0x60 backtick t

  null_row : NotAhead DecimalDigit rest → eqb c 0 ≡ true → EscapeSequence (0x30 ∷ rest) rest (utf16 c)
  null_row f t = let i = eqb-true c 0 t in valued (one_unit c 0 (omega arith) (omega arith)) (null f)

  escapes : (q : Quote) (ascii : Bool) (before : ℕ) (cs : List ℕ) → c ≤ 0x10FFFF → (opens (digit ∷ []) cs ≡ false → NotAhead DecimalDigit rest) →
      Rows (λ e. EscapeSequence (behind c e ++ rest) rest (utf16 c)) (rules q ascii before c cs)
  unfolding other_rules
  escapes q ascii before cs h follows =
      (λ t. single_row line_feed (omega arith) (and_parts _ _ t).1)
      ⊹ quote_row q
      ⊹ (λ t. same_row 0x24 dollar (and_parts _ _ (and_parts _ _ t).0).1)
      ⊹ (λ t. by_two c rest (grind (arith, nat_tests)))
      ⊹ (λ t. let b = and_parts _ _ t in null_row (follows (not-true _ b.1)) b.0)
      ⊹ (λ t. by_two c rest (omega (arith, eqb-true)))
      ⊹ single_row backspace (omega arith)
      ⊹ single_row vertical_tab (omega arith)
      ⊹ single_row form_feed (omega arith)
      ⊹ single_row carriage_return (omega arith)
      ⊹ (λ t. by_two c rest (omega (arith, eqb-true)))
      ⊹ single_row backslash (omega arith)
      ⊹ (λ t. same_row 0x2F slash (and_parts _ _ (and_parts _ _ t).0).0)
      ⊹ (λ t. by_four Lower c rest (grind (arith, nat_tests)))
      ⊹ (λ t. by_four Upper c rest (grind (arith, nat_tests)))
      ⊹ (λ t. by_braces c rest (grind (arith, nat_tests)) h)
      ⊹ (λ t. by_two c rest (omega (arith, eqb-true)))
      ⊹ (λ t. by_four Upper c rest (omega (arith, eqb-true)))
      ⊹ (λ t. by_four Upper c rest (omega (arith, eqb-true)))
      ⊹ tt

itself : (q : Quote) (ascii : Bool) (before c : ℕ) (cs rest : List ℕ) → c ≤ 0x10FFFF →
    (opens (eqb 0x7B ∷ []) cs ≡ false → NotAhead (λ x. x ≡ 0x7B) rest) → NoRule (rules q ascii before c cs) → Character q (c ∷ rest) rest (utf16 c)
unfolding other_rules
itself Single ascii before c cs rest h follows n =
    single (StringCharacter.source h (omega (arith, eqb-false)) (omega (arith, eqb-false)) (omega (arith, eqb-false)))
itself Double ascii before c cs rest h follows n =
    double (StringCharacter.source h (omega (arith, eqb-false)) (omega (arith, eqb-false)) (omega (arith, eqb-false)))
itself Backtick ascii before c cs rest h follows n =
    ⊎_elim (λ e. rw e (template (TemplateCharacter.dollar (follows (grind (arith, nat_tests))))))
    (λ no-dollar. ⊎_elim (λ e. rw e (template (TemplateCharacter.line_end lf)))
    (λ no_line. template (TemplateCharacter.source h (omega (arith, eqb-false)) (omega (arith, eqb-false)) no-dollar (omega (arith, eqb-false))))
    (cases_eq c 0x0A))
    (cases_eq c 0x24)

module _ (q : Quote) (ascii : Bool) (rest : List ℕ) where
  -- the text cs printed, and what follows it
  abbrev after : ℕ → List ℕ → List ℕ
  after before cs = printed q ascii before cs ++ (mark q ∷ rest)

  -- what is not ahead in the text is not ahead in the literal
  not_ahead : (p : ℕ → Bool) (P : ℕ → Type 0) (before : ℕ) (cs : List ℕ) → ((c : ℕ) → P c → p c ≡ true) →
      refuse (p ∷ []) ≡ true → opens (p ∷ []) cs ≡ false → NotAhead P (after before cs)
  not_ahead p P before cs passes r e = lookahead p P passes (after before cs) (front q ascii rest (p ∷ []) r before cs e)

  character : (before c : ℕ) (cs : List ℕ) → c ≤ 0x10FFFF → Character q (first c (rules q ascii before c cs) ++ after c cs) (after c cs) (utf16 c)
  character before c cs h =
      by_rules (λ s. Character q (s ++ after c cs) (after c cs) (utf16 c)) (λ e. EscapeSequence (behind c e ++ after c cs) (after c cs) (utf16 c))
      c (rules q ascii before c cs)
      (escapes c (after c cs) q ascii before cs h (not_ahead digit DecimalDigit c cs (λ x i. grind (arith, nat_tests)) refl))
      (λ e. behind-backslash q)
      (itself q ascii before c cs (after c cs) h (not_ahead (eqb 0x7B) (λ x. x ≡ 0x7B) c cs (λ x i. grind (arith, nat_tests)) refl))

  pub denotes : (before : ℕ) (text : List ℕ) → Text text → Characters q (printed q ascii before text ++ (mark q ∷ rest)) (mark q ∷ rest) (units text)
  denotes before [] t = none
  denotes before (c ∷ cs) t = rw append_assoc (more (character before c cs t.0) (denotes c cs t.1))

pub read_back : Denoted
read_back q ascii text rest t = quoted (rw append_assoc (denotes q ascii rest 0 text t))

pub returned : Returned
returned q ascii text rest t = reads_whole (read_back q ascii text rest t)
