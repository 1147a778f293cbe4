-- What follows a character is an end of the text, and shorter than it.
use Rattle.std.proofs.Common.{ℕ, ◌<◌, List, ◌∷◌, length, arith}
use Rattle.std.specs.List.{AllByRecursion}
use Rattle.ecma262.specs.declared.Quote.{Quote}
use Rattle.ecma262.specs.Literals.{HexDigits, EscapeSequence, LineTerminatorSequence, StringCharacter, TemplateCharacter, Character}

-- r is what is left of s without its first code points, of which there is one at least
pub data End : List ℕ → List ℕ → Type 0 where
  one : {c : ℕ} {r : List ℕ} → End (c ∷ r) r
  more : {c : ℕ} {s r : List ℕ} → End s r → End (c ∷ s) r

pub shorter : {s r : List ℕ} → End s r → length r < length s
shorter one = omega arith
shorter (more e) = omega (arith, shorter e)

pub all_end : (P : ℕ → Type 0) {s r : List ℕ} → End s r → AllByRecursion P s → AllByRecursion P r
all_end P one h = h.1
all_end P (more e) h = all_end P e h.1

past : {s t r : List ℕ} → End s t → End t r → End s r
past one f = more f
past (more e) f = more (past e f)

digits : {n mv : ℕ} {s r : List ℕ} → HexDigits n s r mv → End s r
digits (HexDigits.last d) = one
digits (HexDigits.more d ds) = more (digits ds)

escape : {s r u : List ℕ} → EscapeSequence s r u → End s r
escape (EscapeSequence.single e) = one
escape (EscapeSequence.non_escape n) = one
escape (EscapeSequence.null n) = one
escape (EscapeSequence.hex a b) = more (more one)
escape (EscapeSequence.unicode a b c d) = more (more (more (more one)))
escape (EscapeSequence.code_point ds h) = more (more (past (digits ds) one))

line : {s r : List ℕ} {v : ℕ} → LineTerminatorSequence s r v → End s r
line LineTerminatorSequence.lf = one
line (LineTerminatorSequence.cr n) = one
line LineTerminatorSequence.ls = one
line LineTerminatorSequence.ps = one
line LineTerminatorSequence.crlf = more one

in_string : {m : ℕ} {s r u : List ℕ} → StringCharacter m s r u → End s r
in_string (StringCharacter.source h a b l) = one
in_string StringCharacter.ls = one
in_string StringCharacter.ps = one
in_string (StringCharacter.escape e) = more (escape e)
in_string (StringCharacter.continuation l) = more (line l)

in_template : {s r u : List ℕ} → TemplateCharacter s r u → End s r
in_template (TemplateCharacter.dollar n) = one
in_template (TemplateCharacter.escape e) = more (escape e)
in_template (TemplateCharacter.continuation l) = more (line l)
in_template (TemplateCharacter.line_end l) = line l
in_template (TemplateCharacter.source h a b d l) = one

pub character-end : {q : Quote} {s r u : List ℕ} → Character q s r u → End s r
character-end (Character.single c) = in_string c
character-end (Character.double c) = in_string c
character-end (Character.template c) = in_template c
