-- What is a character by ECMA-262 is read by the function of specs/Read; so a literal has one value.
use Rattle.std.proofs.Common.{◌≡◌, ℕ, ◌<◌, ◌≤◌, false, eqb, ◌≢◌, List, [], ◌∷◌, Some, sym, refl, subst, arith}
use Rattle.std.proofs.lemmas.Bool.{ne_eqb, le-leb}
use Rattle.std.proofs.lemmas.Bool.Decides.{nat_tests}
use Rattle.ecma262.specs.declared.Quote.{Quote}
use Rattle.ecma262.specs.declared.Quote.TheVariants.{Single, Double, Backtick}
use Rattle.ecma262.specs.Units.{mark, utf16}
use Rattle.ecma262.specs.Laws.{Unique}
use Rattle.ecma262.specs.Lookahead.{digit, opens}
use Rattle.ecma262.specs.Literals.{NotAhead, DecimalDigit, LineTerminator, HexDigit, HexDigits, SingleEscapeCharacter, NonEscapeCharacter, EscapeSequence, LineTerminatorSequence, StringCharacter, TemplateCharacter, Character, Characters, Literal}
use Rattle.ecma262.specs.Literals.HexDigit.{decimal, small, capital}
use Rattle.ecma262.specs.Literals.SingleEscapeCharacter.{single_quote, double_quote, backslash, backspace, form_feed, line_feed, carriage_return, tab, vertical_tab}
use Rattle.ecma262.specs.Read.Got.{nothing, got}
use Rattle.ecma262.specs.Read.{hex_value, read_code_point, behind_backslash as behind, string_character, template_character, character, is_line_terminator}
use Rattle.ecma262.proofs.Ahead.{not_ahead}

pub hex-digit : {d v : ℕ} → HexDigit d v → hex_value d ≡ Some v
hex-digit (decimal l e) = grind (arith, nat_tests)
hex-digit (small g l e) = grind (arith, nat_tests)
hex-digit (capital g l e) = grind (arith, nat_tests)

-- a digit is no brace
no_brace : {d v : ℕ} → HexDigit d v → (eqb d 0x7D ≡ false) × (eqb d 0x7B ≡ false) × (eqb 0x7D d ≡ false)
no_brace (decimal l e) = grind (arith, nat_tests)
no_brace (small g l e) = grind (arith, nat_tests)
no_brace (capital g l e) = grind (arith, nat_tests)

code_point : {sofar mv : ℕ} {s rest : List ℕ} → mv ≤ 0x10FFFF → HexDigits sofar s (0x7D ∷ rest) mv → read_code_point sofar s ≡ got rest (utf16 mv)
code_point h (HexDigits.last d) = rw ((no_brace d).0, hex-digit d, le-leb _ _ h)
code_point h (HexDigits.more d ds) = rw ((no_brace d).0, hex-digit d) (code_point h ds)

some_digit : {sofar mv : ℕ} {s rest : List ℕ} → HexDigits sofar s rest mv → opens (eqb 0x7D ∷ []) s ≡ false
some_digit (HexDigits.last d) = rw (no_brace d).2
some_digit (HexDigits.more d ds) = rw (no_brace d).2

single : {c v : ℕ} (s : List ℕ) → SingleEscapeCharacter c v → behind (c ∷ s) ≡ got s (v ∷ [])
single s single_quote = refl
single s double_quote = refl
single s backslash = refl
single s backspace = refl
single s form_feed = refl
single s line_feed = refl
single s carriage_return = refl
single s tab = refl
single s vertical_tab = refl

other : {c : ℕ} → NonEscapeCharacter c → {e v : ℕ} → SingleEscapeCharacter e v → eqb c e ≡ false
other {c} n {e} {v} s = ne_eqb c e (λ i. n.not_single v (rw i s))

pub not_line : (c : ℕ) → (LineTerminator c → ⊥) → is_line_terminator c ≡ false
not_line c l = grind (arith, nat_tests)

pub escapes : {s rest u : List ℕ} → EscapeSequence s rest u → behind s ≡ got rest u
escapes (EscapeSequence.single s) = single _ s
escapes (EscapeSequence.non_escape {c = c} n) =
    let no_digit : (c ≢ 0x30) × (digit c ≡ false) = grind (arith, nat_tests, n.not_digit) in
    rw (
      not_line c n.not_line,
      ne_eqb c 0x78 n.not_x,
      ne_eqb c 0x75 n.not_u,
      ne_eqb c 0x30 no_digit.0,
      no_digit.1,
      other n backspace,
      other n form_feed,
      other n line_feed,
      other n carriage_return,
      other n tab,
      other n vertical_tab,
    )
escapes (EscapeSequence.null {rest = rest} n) = rw (not_ahead digit DecimalDigit (λ c no. grind (arith, nat_tests)) rest n)
escapes (EscapeSequence.hex a b) = rw (hex-digit a, hex-digit b)
escapes (EscapeSequence.unicode a b c d) = rw ((no_brace a).1, hex-digit a, hex-digit b, hex-digit c, hex-digit d)
escapes (EscapeSequence.code_point ds h) = rw (some_digit ds) (code_point h ds)

no_feed : (rest : List ℕ) → NotAhead (λ c. c ≡ 0x0A) rest → opens (eqb 0x0A ∷ []) rest ≡ false
no_feed = not_ahead (eqb 0x0A) (λ c. c ≡ 0x0A) (λ c no. grind (arith, nat_tests))

continued : {s rest : List ℕ} {v : ℕ} → LineTerminatorSequence s rest v → behind s ≡ got rest []
continued LineTerminatorSequence.lf = refl
continued (LineTerminatorSequence.cr {rest = rest} n) = rw (no_feed rest n)
continued LineTerminatorSequence.ls = refl
continued LineTerminatorSequence.ps = refl
continued LineTerminatorSequence.crlf = refl

in_string : (m : ℕ) {s rest u : List ℕ} → m < 128 → StringCharacter m s rest u → string_character m s ≡ got rest u
in_string m k (StringCharacter.source {c = c} h a b l) = grind (arith, nat_tests)
in_string m k StringCharacter.ls = rw (ne_eqb 0x2028 m (omega arith))
in_string m k StringCharacter.ps = rw (ne_eqb 0x2029 m (omega arith))
in_string m k (StringCharacter.escape e) = escapes e
in_string m k (StringCharacter.continuation l) = continued l

line_end : {s rest : List ℕ} {v : ℕ} → LineTerminatorSequence s rest v → template_character s ≡ got rest (v ∷ [])
line_end LineTerminatorSequence.lf = refl
line_end (LineTerminatorSequence.cr {rest = rest} n) = rw (no_feed rest n)
line_end LineTerminatorSequence.ls = refl
line_end LineTerminatorSequence.ps = refl
line_end LineTerminatorSequence.crlf = refl

in_template : {s rest u : List ℕ} → TemplateCharacter s rest u → template_character s ≡ got rest u
in_template (TemplateCharacter.dollar {rest = rest} n) = rw (not_ahead (eqb 0x7B) (λ c. c ≡ 0x7B) (λ c no. grind (arith, nat_tests)) rest n)
in_template (TemplateCharacter.escape e) = escapes e
in_template (TemplateCharacter.continuation l) = continued l
in_template (TemplateCharacter.line_end l) = line_end l
in_template (TemplateCharacter.source {c = c} h a b d l) = grind (arith, nat_tests)

pub reads : {q : Quote} {s rest u : List ℕ} → Character q s rest u → character q s ≡ got rest u
reads (Character.single c) = in_string 0x27 (omega arith) c
reads (Character.double c) = in_string 0x22 (omega arith) c
reads (Character.template c) = in_template c

-- no character begins with the closing quote
pub closes : (q : Quote) (rest : List ℕ) → character q (mark q ∷ rest) ≡ nothing
closes Single rest = refl
closes Double rest = refl
closes Backtick rest = refl

same : {q : Quote} {s r t u v : List ℕ} → Character q s r u → Character q s t v → (r ≡ t) × (u ≡ v)
same a b = let e = reads a in let f = reads b in (cc, cc)

one_way : (q : Quote) {s x y u v : List ℕ} → character q x ≡ nothing → character q y ≡ nothing → Characters q s x u → Characters q s y v → (x ≡ y) × (u ≡ v)
one_way q cx cy Characters.none Characters.none = (refl, refl)
one_way q cx cy Characters.none (Characters.more b bs) = let e = reads b in (cc, cc)
one_way q cx cy (Characters.more a rest) Characters.none = let e = reads a in (cc, cc)
one_way q {y = y} cx cy (Characters.more a rest) (Characters.more {v = v} b bs) =
    let e = same a b in
    let r = one_way q cx cy rest (subst (λ s. Characters q s y v) (sym e.0) bs) in
    (r.0, cc)

-- the text between the quotes
pub body : {q : Quote} {s rest u : List ℕ} → Literal q s rest u → (x : List ℕ) × (s ≡ mark q ∷ x) × Characters q x (mark q ∷ rest) u
body (Literal.quoted {s = x} cs) = (x, refl, cs)

pub unique : Unique
unique q s r t u v a b =
    let (x, i, cs) = body a in
    let (y, j, ds) = body b in
    let k : x ≡ y = cc in
    let e = one_way q (closes q r) (closes q t) cs (subst (λ z. Characters q z (mark q ∷ t) v) (sym k) ds) in
    let f : mark q ∷ r ≡ mark q ∷ t = e.0 in
    (cc, e.1)
