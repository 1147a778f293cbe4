-- What is read of a text whose tags are broken is read of the text itself.
use Rattle.std.proofs.Common.{◌≡◌, ℕ, ◌&&◌, eqb, List, [], ◌∷◌, ◌++◌, refl, arith}
use Rattle.std.proofs.lemmas.Bool.{cond_both}
use Rattle.std.proofs.lemmas.Bool.Decides.{nat_tests}
use Rattle.ecma262.specs.Lookahead.{opens}
use Rattle.ecma262.specs.Literals.{NotAhead, DecimalDigit, HexDigit, HexDigits, EscapeSequence, LineTerminatorSequence, TemplateCharacter, Character, Characters}
use Rattle.ecma262.specs.Literals.HexDigit.{decimal, small, capital}
use Rattle.ecma262.specs.Literals.LineTerminatorSequence.{lf, cr, ls, ps, crlf}
use Rattle.ecma262.specs.declared.Quote.TheVariants.{Backtick}
use Rattle.literal.specs.Escapes.{script}
use Rattle.literal.specs.Raw.{break_tags}

-- t is the text s, which stands behind the character before, with backslashes put in between < and /
data Broken : ℕ → List ℕ → List ℕ → Type 0 where
  end : {before : ℕ} → Broken before [] []
  same : {before c : ℕ} {s t : List ℕ} → Broken c s t → Broken before (c ∷ s) (c ∷ t)
  slash : {s t : List ℕ} → Broken 0x2F s t → Broken 0x3C (0x2F ∷ s) (0x5C ∷ 0x2F ∷ t)

broken : (before : ℕ) (s : List ℕ) → Broken before s (break_tags before s)
broken before [] = end
broken before (c ∷ cs) =
    cond_both (eqb c 0x2F && eqb before 0x3C && opens script cs) (0x5C ∷ 0x2F ∷ []) (c ∷ []) (λ p. Broken before (c ∷ cs) (p ++ break_tags c cs))
    (λ b. let e : (c ≡ 0x2F) × (before ≡ 0x3C) = grind (arith, nat_tests) in rw (e.0, e.1) (slash (broken 0x2F cs)))
    (λ _. same (broken c cs))

no_backslash : {v : ℕ} → HexDigit 0x5C v → ⊥
no_backslash (decimal l e) = omega arith
no_backslash (small g l e) = omega arith
no_backslash (capital g l e) = omega arith

-- a lookahead for anything but a slash
ahead : {before : ℕ} {s t : List ℕ} (P : ℕ → Type 0) → (P 0x2F → ⊥) → Broken before s t → NotAhead P t → NotAhead P s
ahead P n end h = tt
ahead P n (same b) h = h
ahead P n (slash b) h = n

-- s begins with a K, and rest is what follows it, with broken tags
abbrev Given : (List ℕ → List ℕ → Type 0) → List ℕ → List ℕ → Type 0
Given K s rest = (x : List ℕ) × (before : ℕ) × K s x × Broken before x rest

digits : {n mv before : ℕ} {s t r : List ℕ} → HexDigits n t (0x7D ∷ r) mv → Broken before s t → Given (λ s x. HexDigits n s (0x7D ∷ x) mv) s r
digits (HexDigits.last h) (same (same b)) = (_, _, HexDigits.last h, b)
digits (HexDigits.more h hs) (same b) = let (x, c, k, d) = digits hs b in (x, c, HexDigits.more h k, d)
digits (HexDigits.more h hs) (slash b) = absurd (no_backslash h)

escape : {s t r u : List ℕ} → EscapeSequence t r u → Broken 0x5C s t → Given (λ s x. EscapeSequence s x u) s r
escape (EscapeSequence.single k) (same b) = (_, _, EscapeSequence.single k, b)
escape (EscapeSequence.non_escape k) (same b) = (_, _, EscapeSequence.non_escape k, b)
escape (EscapeSequence.null n) (same b) = (_, _, EscapeSequence.null (ahead DecimalDigit (omega arith) b n), b)
escape (EscapeSequence.hex h k) (same (same (same b))) = (_, _, EscapeSequence.hex h k, b)
escape (EscapeSequence.hex h k) (same (same (slash b))) = absurd (no_backslash k)
escape (EscapeSequence.unicode h k l m) (same (same (same (same (same b))))) = (_, _, EscapeSequence.unicode h k l m, b)
escape (EscapeSequence.unicode h k l m) (same (same (same (same (slash b))))) = absurd (no_backslash m)
escape (EscapeSequence.unicode h k l m) (same (same (same (slash b)))) = absurd (no_backslash l)
escape (EscapeSequence.unicode h k l m) (same (same (slash b))) = absurd (no_backslash k)
escape (EscapeSequence.code_point hs h) (same (same b)) = let (x, c, k, d) = digits hs b in (x, c, EscapeSequence.code_point k h, d)

line : {before v : ℕ} {s t r : List ℕ} → LineTerminatorSequence t r v → Broken before s t → Given (λ s x. LineTerminatorSequence s x v) s r
line lf (same b) = (_, _, lf, b)
line (cr n) (same b) = (_, _, cr (ahead (λ c. c ≡ 0x0A) (omega arith) b n), b)
line ls (same b) = (_, _, ls, b)
line ps (same b) = (_, _, ps, b)
line crlf (same (same b)) = (_, _, crlf, b)

-- the slash of a tag stands for itself in the text
slash_itself : {s : List ℕ} → TemplateCharacter (0x2F ∷ s) s (0x2F ∷ [])
slash_itself = TemplateCharacter.source {c = 0x2F} (omega arith) (omega arith) (omega arith) (omega arith) (omega arith)

template : {before : ℕ} {s t r u : List ℕ} → TemplateCharacter t r u → Broken before s t → Given (λ s x. TemplateCharacter s x u) s r
template (TemplateCharacter.dollar n) (same b) = (_, _, TemplateCharacter.dollar (ahead (λ c. c ≡ 0x7B) (omega arith) b n), b)
template (TemplateCharacter.escape k) (same b) = let (x, c, l, d) = escape k b in (x, c, TemplateCharacter.escape l, d)
template (TemplateCharacter.escape (EscapeSequence.single k)) (slash b) = elim k [ ]
template (TemplateCharacter.escape (EscapeSequence.non_escape k)) (slash b) = (_, _, slash_itself, b)
template (TemplateCharacter.continuation k) (same b) = let (x, c, l, d) = line k b in (x, c, TemplateCharacter.continuation l, d)
template (TemplateCharacter.continuation k) (slash b) = elim k [ ]
template (TemplateCharacter.line_end k) b = let (x, c, l, d) = line k b in (x, c, TemplateCharacter.line_end l, d)
template (TemplateCharacter.source h q n d l) (same b) = (_, _, TemplateCharacter.source h q n d l, b)
template (TemplateCharacter.source h q n d l) (slash b) = absurd (n refl)

all_back : {t u : List ℕ} → Characters Backtick t [] u → {before : ℕ} {s : List ℕ} → Broken before s t → Characters Backtick s [] u
all_back Characters.none end = Characters.none
all_back (Characters.more (Character.template k) ks) b = let (x, c, l, d) = template k b in Characters.more (Character.template l) (all_back ks d)

pub tags_back : (before : ℕ) (s : List ℕ) {u : List ℕ} → Characters Backtick (break_tags before s) [] u → Characters Backtick s [] u
tags_back before s ks = all_back ks (broken before s)
