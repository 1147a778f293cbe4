-- What stands between quotes stays what it is when the closing quote, or a substitution, follows it.
use Rattle.std.proofs.Common.{◌≡◌, ℕ, ◌≢◌, ◌⊎◌, List, [], ◌∷◌, ◌++◌, inl, inr, arith}
use Rattle.ecma262.specs.Laws.{Followed, Closed}
use Rattle.ecma262.specs.Units.{mark}
use Rattle.ecma262.specs.declared.Quote.{Quote}
use Rattle.ecma262.specs.declared.Quote.TheVariants.{Single, Double, Backtick}
use Rattle.ecma262.specs.Literals.{NotAhead, DecimalDigit, HexDigits, EscapeSequence, LineTerminatorSequence, StringCharacter, TemplateCharacter, Character, Characters}

-- what a lookahead of the grammar looks for
abbrev Sought : ℕ → Type 0
Sought c = DecimalDigit c ⊎ ((c ≡ 0x0A) ⊎ (c ≡ 0x7B))

module _ (rest : List ℕ) (fits : NotAhead Sought rest) where
  ahead : (P : ℕ → Type 0) → ((c : ℕ) → P c → Sought c) → (s : List ℕ) → NotAhead P s → NotAhead P (s ++ rest)
  ahead P other (c ∷ s) n = n
  ahead P other [] n = end rest fits
    where
      end : (r : List ℕ) → NotAhead Sought r → NotAhead P r
      end [] f = tt
      end (c ∷ r) f = λ p. f (other c p)

  digits : {n mv : ℕ} {s r : List ℕ} → HexDigits n s r mv → HexDigits n (s ++ rest) (r ++ rest) mv
  digits (HexDigits.last d) = HexDigits.last d
  digits (HexDigits.more d ds) = HexDigits.more d (digits ds)

  escape : {s r u : List ℕ} → EscapeSequence s r u → EscapeSequence (s ++ rest) (r ++ rest) u
  escape (EscapeSequence.single e) = EscapeSequence.single e
  escape (EscapeSequence.non_escape n) = EscapeSequence.non_escape n
  escape (EscapeSequence.null {rest = r} n) = EscapeSequence.null (ahead DecimalDigit (λ c d. inl d) r n)
  escape (EscapeSequence.hex a b) = EscapeSequence.hex a b
  escape (EscapeSequence.unicode a b c d) = EscapeSequence.unicode a b c d
  escape (EscapeSequence.code_point ds h) = EscapeSequence.code_point (digits ds) h

  line : {s r : List ℕ} {v : ℕ} → LineTerminatorSequence s r v → LineTerminatorSequence (s ++ rest) (r ++ rest) v
  line LineTerminatorSequence.lf = LineTerminatorSequence.lf
  line (LineTerminatorSequence.cr {rest = r} n) = LineTerminatorSequence.cr (ahead (λ c. c ≡ 0x0A) (λ c e. inr (inl e)) r n)
  line LineTerminatorSequence.ls = LineTerminatorSequence.ls
  line LineTerminatorSequence.ps = LineTerminatorSequence.ps
  line LineTerminatorSequence.crlf = LineTerminatorSequence.crlf

  character : {s r u : List ℕ} → TemplateCharacter s r u → TemplateCharacter (s ++ rest) (r ++ rest) u
  character (TemplateCharacter.dollar {rest = r} n) = TemplateCharacter.dollar (ahead (λ c. c ≡ 0x7B) (λ c e. inr (inr e)) r n)
  character (TemplateCharacter.escape e) = TemplateCharacter.escape (escape e)
  character (TemplateCharacter.continuation l) = TemplateCharacter.continuation (line l)
  character (TemplateCharacter.line_end l) = TemplateCharacter.line_end (line l)
  character (TemplateCharacter.source h q b d l) = TemplateCharacter.source h q b d l

  in_string : {m : ℕ} {s r u : List ℕ} → StringCharacter m s r u → StringCharacter m (s ++ rest) (r ++ rest) u
  in_string (StringCharacter.source h q b l) = StringCharacter.source h q b l
  in_string StringCharacter.ls = StringCharacter.ls
  in_string StringCharacter.ps = StringCharacter.ps
  in_string (StringCharacter.escape e) = StringCharacter.escape (escape e)
  in_string (StringCharacter.continuation l) = StringCharacter.continuation (line l)

  in_quotes : {q : Quote} {s r u : List ℕ} → Character q s r u → Character q (s ++ rest) (r ++ rest) u
  in_quotes (Character.single c) = Character.single (in_string c)
  in_quotes (Character.double c) = Character.double (in_string c)
  in_quotes (Character.template c) = Character.template (character c)

  all : {q : Quote} {s r u : List ℕ} → Characters q s r u → Characters q (s ++ rest) (r ++ rest) u
  all Characters.none = Characters.none
  all (Characters.more c cs) = Characters.more (in_quotes c) (all cs)

not_sought : (rest : List ℕ) → NotAhead (λ c. (c ≢ 0x60) × (c ≢ 0x24)) rest → NotAhead Sought rest
not_sought [] f = tt
not_sought (c ∷ r) f = λ s. f (omega arith)

pub follows : Followed
follows text rest u fits cs = all rest (not_sought rest fits) cs

quote_not_sought : (q : Quote) → Sought (mark q) → ⊥
quote_not_sought Single s = omega arith
quote_not_sought Double s = omega arith
quote_not_sought Backtick s = omega arith

pub closed : Closed
closed q text rest u cs = all (mark q ∷ rest) (quote_not_sought q) cs
