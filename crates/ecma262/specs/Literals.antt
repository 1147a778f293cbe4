-- String literals and templates by ECMA-262 (12.9.4 String Literals, 12.9.6 Template Literal Lexical Components), as relations between
-- source text, a list of code points, and its value, SV or TV, a list of UTF-16 code units.
-- `X s rest u` says that s begins with an X of the value u, and that rest follows it.
-- Left out: LegacyOctalEscapeSequence and NonOctalDecimalEscapeSequence, which strict mode and templates forbid, and NotEscapeSequence,
-- which has no TV.
use Rattle.std.specs.Prelude.{◌≡◌, ℕ, ◌+◌, ◌*◌, ◌<◌, ◌≤◌, ◌≢◌, ◌⊎◌, List, [], ◌∷◌, ◌++◌}
use Rattle.ecma262.specs.Units.{utf16, mark}
use Rattle.ecma262.specs.declared.Quote.{Quote}
use Rattle.ecma262.specs.declared.Quote.TheVariants.{Single, Double, Backtick}

-- [lookahead ∉ P] (5.1.5); it holds at the end of the text
abbrev pub NotAhead : (ℕ → Type 0) → List ℕ → Type 0
NotAhead P [] = Unit {0}
NotAhead P (c ∷ s) = P c → ⊥

-- 12.9.3 Numeric Literals: 0 to 9
abbrev pub DecimalDigit : ℕ → Type 0
DecimalDigit c = (0x30 ≤ c) × (c ≤ 0x39)

-- 12.3 Line Terminators: LF, CR, LS, PS
abbrev pub LineTerminator : ℕ → Type 0
LineTerminator c = (c ≡ 0x0A) ⊎ ((c ≡ 0x0D) ⊎ ((c ≡ 0x2028) ⊎ (c ≡ 0x2029)))

-- 12.9.3: a HexDigit d, and its MV; 0 to 9, a to f, A to F
pub data HexDigit (d mv : ℕ) : Type 0 where
  decimal : mv < 10 → d ≡ 0x30 + mv → HexDigit d mv
  small : 10 ≤ mv → mv < 16 → d ≡ 0x57 + mv → HexDigit d mv
  capital : 10 ≤ mv → mv < 16 → d ≡ 0x37 + mv → HexDigit d mv

-- 12.9.3: HexDigits without separators, and the MV of all, where sofar is that of the digits read before
pub data HexDigits : ℕ → List ℕ → List ℕ → ℕ → Type 0 where
  last : {sofar d v : ℕ} {rest : List ℕ} → HexDigit d v → HexDigits sofar (d ∷ rest) rest (sofar * 16 + v)
  more : {sofar d v mv : ℕ} {s rest : List ℕ} → HexDigit d v → HexDigits (sofar * 16 + v) s rest mv → HexDigits sofar (d ∷ s) rest mv

-- 12.9.4: one of ' " \ b f n r t v, and the code unit that it stands for
pub data SingleEscapeCharacter : ℕ → ℕ → Type 0 where
  single_quote : SingleEscapeCharacter 0x27 0x27
  double_quote : SingleEscapeCharacter 0x22 0x22
  backslash : SingleEscapeCharacter 0x5C 0x5C
  backspace : SingleEscapeCharacter 0x62 0x08
  form_feed : SingleEscapeCharacter 0x66 0x0C
  line_feed : SingleEscapeCharacter 0x6E 0x0A
  carriage_return : SingleEscapeCharacter 0x72 0x0D
  tab : SingleEscapeCharacter 0x74 0x09
  vertical_tab : SingleEscapeCharacter 0x76 0x0B

-- 12.9.4: SourceCharacter but not one of EscapeCharacter (SingleEscapeCharacter, DecimalDigit, x, u) or LineTerminator
pub record NonEscapeCharacter (c : ℕ) : Type 0 where
  pub source : c ≤ 0x10FFFF
  pub not_single : (v : ℕ) → SingleEscapeCharacter c v → ⊥
  pub not_digit : DecimalDigit c → ⊥
  pub not_x : c ≢ 0x78
  pub not_u : c ≢ 0x75
  pub not_line : LineTerminator c → ⊥

-- 12.9.4, EscapeSequence, and 12.9.6, TemplateEscapeSequence, which are the same without the legacy forms: CharacterEscapeSequence
-- (two), 0 [lookahead ∉ DecimalDigit], HexEscapeSequence, UnicodeEscapeSequence (two: u Hex4Digits, and u{ CodePoint })
pub data EscapeSequence : List ℕ → List ℕ → List ℕ → Type 0 where
  single : {c v : ℕ} {rest : List ℕ} → SingleEscapeCharacter c v → EscapeSequence (c ∷ rest) rest (v ∷ [])
  non_escape : {c : ℕ} {rest : List ℕ} → NonEscapeCharacter c → EscapeSequence (c ∷ rest) rest (utf16 c)
  null : {rest : List ℕ} → NotAhead DecimalDigit rest → EscapeSequence (0x30 ∷ rest) rest (0x00 ∷ [])
  hex : {a b m n : ℕ} {rest : List ℕ} → HexDigit a m → HexDigit b n → EscapeSequence (0x78 ∷ a ∷ b ∷ rest) rest ((m * 16 + n) ∷ [])
  unicode : {a b c d k l m n : ℕ} {rest : List ℕ} → HexDigit a k → HexDigit b l → HexDigit c m → HexDigit d n →
      EscapeSequence (0x75 ∷ a ∷ b ∷ c ∷ d ∷ rest) rest ((((k * 16 + l) * 16 + m) * 16 + n) ∷ [])
  code_point : {mv : ℕ} {s rest : List ℕ} → HexDigits 0 s (0x7D ∷ rest) mv → mv ≤ 0x10FFFF →
      EscapeSequence (0x75 ∷ 0x7B ∷ s) rest (utf16 mv)

-- 12.3: LineTerminatorSequence, and its TRV, in which CR and CRLF are LF
pub data LineTerminatorSequence : List ℕ → List ℕ → ℕ → Type 0 where
  lf : {rest : List ℕ} → LineTerminatorSequence (0x0A ∷ rest) rest 0x0A
  cr : {rest : List ℕ} → NotAhead (λ c. c ≡ 0x0A) rest → LineTerminatorSequence (0x0D ∷ rest) rest 0x0A
  ls : {rest : List ℕ} → LineTerminatorSequence (0x2028 ∷ rest) rest 0x2028
  ps : {rest : List ℕ} → LineTerminatorSequence (0x2029 ∷ rest) rest 0x2029
  crlf : {rest : List ℕ} → LineTerminatorSequence (0x0D ∷ 0x0A ∷ rest) rest 0x0A

-- 12.9.4: DoubleStringCharacter and SingleStringCharacter, which differ in the quote; a LineContinuation has an empty value
pub data StringCharacter (quote : ℕ) : List ℕ → List ℕ → List ℕ → Type 0 where
  source : {c : ℕ} {rest : List ℕ} → c ≤ 0x10FFFF → c ≢ quote → c ≢ 0x5C → (LineTerminator c → ⊥) →
      StringCharacter quote (c ∷ rest) rest (utf16 c)
  ls : {rest : List ℕ} → StringCharacter quote (0x2028 ∷ rest) rest (0x2028 ∷ [])
  ps : {rest : List ℕ} → StringCharacter quote (0x2029 ∷ rest) rest (0x2029 ∷ [])
  escape : {s rest u : List ℕ} → EscapeSequence s rest u → StringCharacter quote (0x5C ∷ s) rest u
  continuation : {s rest : List ℕ} {v : ℕ} → LineTerminatorSequence s rest v → StringCharacter quote (0x5C ∷ s) rest []

-- 12.9.6: TemplateCharacter, and its TV
pub data TemplateCharacter : List ℕ → List ℕ → List ℕ → Type 0 where
  dollar : {rest : List ℕ} → NotAhead (λ c. c ≡ 0x7B) rest → TemplateCharacter (0x24 ∷ rest) rest (0x24 ∷ [])
  escape : {s rest u : List ℕ} → EscapeSequence s rest u → TemplateCharacter (0x5C ∷ s) rest u
  continuation : {s rest : List ℕ} {v : ℕ} → LineTerminatorSequence s rest v → TemplateCharacter (0x5C ∷ s) rest []
  line_end : {s rest : List ℕ} {v : ℕ} → LineTerminatorSequence s rest v → TemplateCharacter s rest (v ∷ [])
  source : {c : ℕ} {rest : List ℕ} → c ≤ 0x10FFFF → c ≢ 0x60 → c ≢ 0x5C → c ≢ 0x24 → (LineTerminator c → ⊥) →
      TemplateCharacter (c ∷ rest) rest (utf16 c)

-- a character of a literal between quotes q
pub data Character : Quote → List ℕ → List ℕ → List ℕ → Type 0 where
  single : {s rest u : List ℕ} → StringCharacter 0x27 s rest u → Character Single s rest u
  double : {s rest u : List ℕ} → StringCharacter 0x22 s rest u → Character Double s rest u
  template : {s rest u : List ℕ} → TemplateCharacter s rest u → Character Backtick s rest u

-- SingleStringCharacters, DoubleStringCharacters or TemplateCharacters, if there are any
pub data Characters (q : Quote) : List ℕ → List ℕ → List ℕ → Type 0 where
  none : {rest : List ℕ} → Characters q rest rest []
  more : {s between rest u v : List ℕ} → Character q s between u → Characters q between rest v → Characters q s rest (u ++ v)

-- StringLiteral (12.9.4), or with the backtick NoSubstitutionTemplate (12.9.6)
pub data Literal (q : Quote) : List ℕ → List ℕ → List ℕ → Type 0 where
  quoted : {s rest u : List ℕ} → Characters q s (mark q ∷ rest) u → Literal q (mark q ∷ s) rest u
