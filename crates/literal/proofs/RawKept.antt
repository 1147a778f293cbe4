-- Raw text that is printed keeps its value, between backticks and between quotes.
use Rattle.std.proofs.Common.{◌≡◌, ℕ, ◌<◌, ◌≤◌, Bool, true, false, cond, ◌&&◌, eqb, leb, ◌≢◌, ◌⊎◌, List, [], ◌∷◌, ◌++◌, sym, refl, ◌∙◌, subst, inl, inr, ⊎_elim, arith}
use Rattle.std.proofs.lemmas.Bool.{cond_both, leb-true, leb-false, cases_eq, ne_eqb, le-leb, and_parts, cases_lt}
use Rattle.std.proofs.lemmas.Bool.Decides.{nat_tests}
use Rattle.ecma262.specs.Units.{utf16}
use Rattle.ecma262.specs.Lookahead.{opens}
use Rattle.ecma262.specs.Literals.{NotAhead, LineTerminator, EscapeSequence, StringCharacter, TemplateCharacter, HexDigit, HexDigits, DecimalDigit, SingleEscapeCharacter, NonEscapeCharacter, LineTerminatorSequence, Character, Characters}
use Rattle.ecma262.specs.Literals.LineTerminatorSequence.{lf, cr, ls, ps, crlf}
use Rattle.ecma262.specs.Literals.SingleEscapeCharacter.{single_quote, double_quote, backslash, backspace, form_feed, line_feed, carriage_return, tab, vertical_tab}
use Rattle.ecma262.specs.declared.Quote.{Quote}
use Rattle.ecma262.specs.declared.Quote.TheVariants.{Single, Double, Backtick}
use Rattle.ecma262.proofs.Ahead.{lookahead}
use Rattle.ecma262.proofs.Values.{not_line}
use Rattle.literal.specs.Escapes.{behind, script}
use Rattle.literal.specs.declared.HexCase.TheVariants.{Upper}
use Rattle.literal.specs.declared.EscapeSequence.TheVariants.{Unicode, CodePoint}
use Rattle.literal.specs.declared.NonAsciiEscape.TheVariants.{TemplateRaw, Directive}
use Rattle.literal.specs.Raw.{is_separator, wide, wide_printed}
use Rattle.literal.specs.RawWalk.{backslash_goes, raw_walk}
use Rattle.literal.specs.RawLaws.{PieceKept, TaggedKept, DirectiveKept}
use Rattle.literal.proofs.Digits.{by_four, by_braces}
use Rattle.literal.proofs.Reading.{slash, dollar}
use Rattle.literal.proofs.RawTurns.{wide_shape}
use Rattle.literal.proofs.RawBack.{tags_back}
use Rattle.literal.proofs.OneWalk.{piece_in_one_walk, tagged_in_one_walk, others_in_one_walk}

pub by_wide : (c : ℕ) (rest : List ℕ) → c ≤ 0x10FFFF → EscapeSequence (behind c (wide c) ++ rest) rest (utf16 c)
by_wide c rest h =
    cond_both (leb c 0xFFFF) (Unicode Upper) CodePoint (λ e. EscapeSequence (behind c e ++ rest) rest (utf16 c))
    (λ t. by_four Upper c rest (omega (arith, leb-true c 0xFFFF t)))
    (λ f. by_braces c rest (omega (arith, leb-false c 0xFFFF f)) h)

single_ascii : {c v : ℕ} → SingleEscapeCharacter c v → (c < 0x80) × (c ≢ 0x24)
single_ascii single_quote = omega arith
single_ascii double_quote = omega arith
single_ascii backslash = omega arith
single_ascii backspace = omega arith
single_ascii form_feed = omega arith
single_ascii line_feed = omega arith
single_ascii carriage_return = omega arith
single_ascii tab = omega arith
single_ascii vertical_tab = omega arith

-- K is a kind of character: a backslash and what may stand behind it, a dollar sign without a brace, and the separators
record Kind (K : List ℕ → List ℕ → List ℕ → Type 0) : Type 0 where
  escape : {s r u : List ℕ} → EscapeSequence s r u → K (0x5C ∷ s) r u
  continuation : {s r : List ℕ} {v : ℕ} → LineTerminatorSequence s r v → K (0x5C ∷ s) r []
  bare : {r : List ℕ} → NotAhead (λ c. c ≡ 0x7B) r → K (0x24 ∷ r) r (0x24 ∷ [])
  separator : (c : ℕ) (r : List ℕ) → is_separator c ≡ true → K (c ∷ r) r (c ∷ [])

module _ (dollars ascii tags : Bool) (K : List ℕ → List ℕ → List ℕ → Type 0) (kind : Kind K) where
  abbrev kept : ℕ → List ℕ → List ℕ
  kept before s = raw_walk dollars ascii TemplateRaw tags false before s

  -- behind a backslash that goes: a dollar sign, or an escape
  gone : (P : ℕ → Type 0) → (P 0x5C → ⊥) → (P 0x24 → ⊥) → (before : ℕ) (cs : List ℕ) → backslash_goes dollars ascii TemplateRaw cs ≡ true →
      NotAhead P (raw_walk dollars ascii TemplateRaw tags true before cs)
  gone P b d before [] e = tt
  gone P b d before (c ∷ cs) e = grind (arith, nat_tests)

  -- what is printed first of cs is a backslash, a dollar sign, or what cs begins with
  ahead : (P : ℕ → Type 0) → (P 0x5C → ⊥) → (P 0x24 → ⊥) → (before : ℕ) (cs : List ℕ) → NotAhead P cs → NotAhead P (kept before cs)
  ahead P b d before [] n = tt
  ahead P b d before (c ∷ cs) n =
      let t = raw_walk dollars ascii TemplateRaw tags (eqb c 0x5C) c cs in
      let Q : List ℕ → Type 0 = λ s. NotAhead P (s ++ t) in
      cond_both (eqb c 0x5C && backslash_goes dollars ascii TemplateRaw cs) [] _ Q
      (λ e. let (i, g) = and_parts (eqb c 0x5C) (backslash_goes dollars ascii TemplateRaw cs) e in rw i (gone P b d c cs g))
      (λ _. cond_both (leb 0x80 c && ascii) (wide_printed TemplateRaw false c) _ Q
      (λ _. let (x, i, _) = wide_shape TemplateRaw false c in rw i b)
      (λ _. cond_both (eqb c 0x2F && eqb before 0x3C && opens script cs && tags) (0x5C ∷ 0x2F ∷ []) (c ∷ []) Q (λ _. b) (λ _. n)))

  -- a character that stands for itself
  source : (before c : ℕ) (cs : List ℕ) → c ≤ 0x10FFFF → c ≢ 0x5C → (LineTerminator c → ⊥) → ((r : List ℕ) → K (c ∷ r) r (utf16 c)) →
      K (kept before (c ∷ cs)) (kept c cs) (utf16 c)
  source before c cs h b l itself =
      let s : is_separator c ≡ false = let n = not_line c l in grind (arith, nat_tests) in
      let P : List ℕ → Type 0 = λ s. K (s ++ kept c cs) (kept c cs) (utf16 c) in
      rw (ne_eqb c 0x5C b, s)
      (cond_both (leb 0x80 c && ascii) (0x5C ∷ behind c (wide c)) _ P
      (λ _. kind.escape (by_wide c (kept c cs) h))
      (λ _. cond_both (eqb c 0x2F && eqb before 0x3C && opens script cs && tags) (0x5C ∷ 0x2F ∷ []) (c ∷ []) P
      (λ t. let e : c ≡ 0x2F = grind (arith, nat_tests) in rw e (kind.escape (EscapeSequence.non_escape slash)))
      (λ _. itself (kept c cs))))

  -- a backslash before ASCII, but for the dollar sign
  plainly : (before c : ℕ) (cs : List ℕ) → c < 0x80 → c ≢ 0x24 → kept before (0x5C ∷ c ∷ cs) ≡ 0x5C ∷ c ∷ kept c cs
  plainly before c cs h d = grind (arith, nat_tests)

  -- a hexadecimal digit
  digit : {d v : ℕ} (before : ℕ) (cs : List ℕ) → HexDigit d v → kept before (d ∷ cs) ≡ d ∷ kept d cs
  digit {d} before cs h = grind (arith, nat_tests)

  digits : {n mv : ℕ} {s rest : List ℕ} (before : ℕ) → HexDigits n s (0x7D ∷ rest) mv → HexDigits n (kept before s) (0x7D ∷ kept 0x7D rest) mv
  digits before (HexDigits.last {rest = rest} d) = rw (digit before rest d) (HexDigits.last d)
  digits before (HexDigits.more {d = x} {s = s} d ds) = rw (digit before s d) (HexDigits.more d (digits x ds))

  abbrev Keeps : ℕ → List ℕ → List ℕ → List ℕ → Type 0
  Keeps before s rest u = (b : ℕ) × K (kept before s) (kept b rest) u

  no_brace : (before : ℕ) (rest : List ℕ) → NotAhead (λ c. c ≡ 0x7B) rest → NotAhead (λ c. c ≡ 0x7B) (kept before rest)
  no_brace before rest n = ahead (λ c. c ≡ 0x7B) (omega arith) (omega arith) before rest n

  no_feed : (before : ℕ) (rest : List ℕ) → NotAhead (λ c. c ≡ 0x0A) rest → NotAhead (λ c. c ≡ 0x0A) (kept before rest)
  no_feed before rest n = ahead (λ c. c ≡ 0x0A) (omega arith) (omega arith) before rest n

  dollar_kept : (before : ℕ) (rest : List ℕ) → Keeps before (0x5C ∷ 0x24 ∷ rest) rest (0x24 ∷ [])
  dollar_kept before rest = (
    0x24,
    cond_both (backslash_goes dollars ascii TemplateRaw (0x24 ∷ rest)) [] (0x5C ∷ [])
        (λ s. K (s ++ (0x24 ∷ kept 0x24 rest)) (kept 0x24 rest) (0x24 ∷ []))
        (λ t. kind.bare (no_brace 0x24 rest (lookahead (eqb 0x7B) (λ c. c ≡ 0x7B) (λ c i. grind (arith, nat_tests)) rest (grind (arith, nat_tests)))))
        (λ _. kind.escape (EscapeSequence.non_escape dollar)),
  )

  wide_kept : (before c : ℕ) (rest : List ℕ) → NonEscapeCharacter c → 0x80 ≤ c → Keeps before (0x5C ∷ c ∷ rest) rest (utf16 c)
  wide_kept before c rest n h =
      let l = not_line c n.not_line in
      let s : is_separator c ≡ false = grind (arith, nat_tests) in
      (c, rw (ne_eqb 0x24 c (omega arith), le-leb 0x80 c h, s, ne_eqb c 0x2F (omega arith)) (go ascii))
    where
      go : (x : Bool) → K (cond x [] (0x5C ∷ []) ++ (cond x (0x5C ∷ behind c (wide c)) (c ∷ []) ++ kept c rest)) (kept c rest) (utf16 c)
      go true = kind.escape (by_wide c (kept c rest) n.source)
      go false = kind.escape (EscapeSequence.non_escape n)

  escape_kept : {s rest u : List ℕ} (before : ℕ) → EscapeSequence s rest u → Keeps before (0x5C ∷ s) rest u
  escape_kept before (EscapeSequence.single {c = c} {rest = rest} e) =
      let a = single_ascii e in
      (c, rw (plainly before c rest a.0 a.1) (kind.escape (EscapeSequence.single e)))
  escape_kept before (EscapeSequence.non_escape {c = c} {rest = rest} n) =
      ⊎_elim (λ e. rw e (dollar_kept before rest))
      (λ d. ⊎_elim (λ l. (c, rw (plainly before c rest l d) (kind.escape (EscapeSequence.non_escape n)))) (wide_kept before c rest n) (cases_lt c 0x80))
      (cases_eq c 0x24)
  escape_kept before (EscapeSequence.null {rest = rest} n) =
      (0x30, kind.escape (EscapeSequence.null (ahead DecimalDigit (omega arith) (omega arith) 0x30 rest n)))
  escape_kept before (EscapeSequence.hex {a = x} {b = y} {rest = rest} a b) =
      (y, rw (digit 0x78 (y ∷ rest) a, digit x rest b) (kind.escape (EscapeSequence.hex a b)))
  escape_kept before (EscapeSequence.unicode {a = x} {b = y} {c = z} {d = w} {rest = rest} a b c d) =
      (w, rw (digit 0x75 (y ∷ z ∷ w ∷ rest) a, digit x (z ∷ w ∷ rest) b, digit y (w ∷ rest) c, digit z rest d) (kind.escape (EscapeSequence.unicode a b c d)))
  escape_kept before (EscapeSequence.code_point ds h) = (0x7D, kind.escape (EscapeSequence.code_point (digits 0x7B ds) h))

  -- a separator behind a backslash stays, or becomes a line feed
  separator_kept : (c : ℕ) (rest : List ℕ) → ((r : List ℕ) → LineTerminatorSequence (c ∷ r) r c) → (x : Bool) →
      K (cond x [] (0x5C ∷ []) ++ (cond x (0x5C ∷ 0x0A ∷ []) (c ∷ []) ++ kept c rest)) (kept c rest) []
  separator_kept c rest line true = kind.continuation lf
  separator_kept c rest line false = kind.continuation (line (kept c rest))

  continuation_kept : {s rest : List ℕ} {v : ℕ} (before : ℕ) → LineTerminatorSequence s rest v → Keeps before (0x5C ∷ s) rest []
  continuation_kept before lf = (0x0A, kind.continuation lf)
  continuation_kept before (cr {rest = rest} n) = (0x0D, kind.continuation (cr (no_feed 0x0D rest n)))
  continuation_kept before (ls {rest = rest}) = (0x2028, separator_kept 0x2028 rest (λ r. ls) ascii)
  continuation_kept before (ps {rest = rest}) = (0x2029, separator_kept 0x2029 rest (λ r. ps) ascii)
  continuation_kept before crlf = (0x0A, kind.continuation crlf)

  -- a separator that stands for itself
  separator_itself : (before c : ℕ) (rest : List ℕ) → (c ≡ 0x2028) ⊎ (c ≡ 0x2029) → Keeps before (c ∷ rest) rest (c ∷ [])
  separator_itself before c rest (inl e) = (c, rw e (go ascii))
    where
      go : (x : Bool) → K (cond x (0x5C ∷ behind 0x2028 (Unicode Upper)) (0x2028 ∷ []) ++ kept 0x2028 rest) (kept 0x2028 rest) (0x2028 ∷ [])
      go true = kind.escape (by_four Upper 0x2028 (kept 0x2028 rest) (omega arith))
      go false = kind.separator 0x2028 (kept 0x2028 rest) refl
  separator_itself before c rest (inr e) = (c, rw e (go ascii))
    where
      go : (x : Bool) → K (cond x (0x5C ∷ behind 0x2029 (Unicode Upper)) (0x2029 ∷ []) ++ kept 0x2029 rest) (kept 0x2029 rest) (0x2029 ∷ [])
      go true = kind.escape (by_four Upper 0x2029 (kept 0x2029 rest) (omega arith))
      go false = kind.separator 0x2029 (kept 0x2029 rest) refl

-- between backticks

in_template : Kind TemplateCharacter
in_template = record {
  escape = TemplateCharacter.escape;
  continuation = TemplateCharacter.continuation;
  bare = TemplateCharacter.dollar;
  separator = λ c r e. ⊎_elim (λ i. rw i (TemplateCharacter.line_end ls)) (λ n. let i : c ≡ 0x2029 = grind (arith, nat_tests) in rw i (TemplateCharacter.line_end ps)) (cases_eq c 0x2028);
}

module _ (dollars ascii tags : Bool) where
  abbrev TemplateKeeps : ℕ → List ℕ → List ℕ → List ℕ → Type 0
  TemplateKeeps before s rest u =
      (b : ℕ) × TemplateCharacter (raw_walk dollars ascii TemplateRaw tags false before s) (raw_walk dollars ascii TemplateRaw tags false b rest) u

  line_kept : {s rest : List ℕ} {v : ℕ} (before : ℕ) → LineTerminatorSequence s rest v → TemplateKeeps before s rest (v ∷ [])
  line_kept before lf = (0x0A, TemplateCharacter.line_end lf)
  line_kept before (cr {rest = rest} n) = (0x0D, TemplateCharacter.line_end (cr (no_feed dollars ascii tags TemplateCharacter in_template 0x0D rest n)))
  line_kept before (ls {rest = rest}) = separator_itself dollars ascii tags TemplateCharacter in_template before 0x2028 rest (inl refl)
  line_kept before (ps {rest = rest}) = separator_itself dollars ascii tags TemplateCharacter in_template before 0x2029 rest (inr refl)
  line_kept before crlf = (0x0A, TemplateCharacter.line_end crlf)

  template_kept : {s rest u : List ℕ} (before : ℕ) → TemplateCharacter s rest u → TemplateKeeps before s rest u
  template_kept before (TemplateCharacter.dollar {rest = rest} n) = (0x24, TemplateCharacter.dollar (no_brace dollars ascii tags TemplateCharacter in_template 0x24 rest n))
  template_kept before (TemplateCharacter.escape e) = escape_kept dollars ascii tags TemplateCharacter in_template before e
  template_kept before (TemplateCharacter.continuation l) = continuation_kept dollars ascii tags TemplateCharacter in_template before l
  template_kept before (TemplateCharacter.line_end l) = line_kept before l
  template_kept before (TemplateCharacter.source {c = c} {rest = rest} h q b d l) =
      (c, source dollars ascii tags TemplateCharacter in_template before c rest h b l (λ r. TemplateCharacter.source h q b d l))

-- between quotes m

module _ (ascii : Bool) (m : ℕ) (ascii-mark : m < 0x80) (no-dollar : m ≢ 0x24) where
  in_string : Kind (StringCharacter m)
  in_string = record {
    escape = StringCharacter.escape;
    continuation = StringCharacter.continuation;
    bare = λ {r} _. StringCharacter.source (omega arith) (omega arith) (omega arith) (omega arith);
    separator = λ c r e. ⊎_elim (λ i. rw i StringCharacter.ls) (λ n. let i : c ≡ 0x2029 = grind (arith, nat_tests) in rw i StringCharacter.ps) (cases_eq c 0x2028);
  }

  string_kept : {s rest u : List ℕ} (before : ℕ) → StringCharacter m s rest u → Keeps false ascii false (StringCharacter m) in_string before s rest u
  string_kept before (StringCharacter.source {c = c} {rest = rest} h q b l) =
      (c, source false ascii false (StringCharacter m) in_string before c rest h b l (λ r. StringCharacter.source h q b l))
  string_kept before (StringCharacter.ls {rest = rest}) = separator_itself false ascii false (StringCharacter m) in_string before 0x2028 rest (inl refl)
  string_kept before (StringCharacter.ps {rest = rest}) = separator_itself false ascii false (StringCharacter m) in_string before 0x2029 rest (inr refl)
  string_kept before (StringCharacter.escape e) = escape_kept false ascii false (StringCharacter m) in_string before e
  string_kept before (StringCharacter.continuation l) = continuation_kept false ascii false (StringCharacter m) in_string before l

-- texts

all-template : (dollars ascii tags : Bool) {s u : List ℕ} (before : ℕ) → Characters Backtick s [] u → Characters Backtick (raw_walk dollars ascii TemplateRaw tags false before s) [] u
all-template dollars ascii tags before Characters.none = Characters.none
all-template dollars ascii tags before (Characters.more (Character.template c) cs) =
    let k = template_kept dollars ascii tags before c in
    Characters.more (Character.template k.1) (all-template dollars ascii tags k.0 cs)

all-single : (ascii : Bool) {s u : List ℕ} (before : ℕ) → Characters Single s [] u → Characters Single (raw_walk false ascii TemplateRaw false false before s) [] u
all-single ascii before Characters.none = Characters.none
all-single ascii before (Characters.more (Character.single c) cs) =
    let k = string_kept ascii 0x27 (omega arith) (omega arith) before c in
    Characters.more (Character.single k.1) (all-single ascii k.0 cs)

all-double : (ascii : Bool) {s u : List ℕ} (before : ℕ) → Characters Double s [] u → Characters Double (raw_walk false ascii TemplateRaw false false before s) [] u
all-double ascii before Characters.none = Characters.none
all-double ascii before (Characters.more (Character.double c) cs) =
    let k = string_kept ascii 0x22 (omega arith) (omega arith) before c in
    Characters.more (Character.double k.1) (all-double ascii k.0 cs)

pub piece_kept : PieceKept
piece_kept minify ascii text u cs = subst (λ s. Characters Backtick s [] u) (sym (piece_in_one_walk minify ascii text)) (all-template minify ascii true 0 cs)

pub tagged_kept : TaggedKept
tagged_kept text u = (
  λ cs. subst (λ s. Characters Backtick s [] u) (sym (tagged_in_one_walk text)) (all-template false false true 0 cs),
  λ cs. tags_back 0 text cs,
)

-- a directive is escaped as a piece is
as_piece : (dollars ascii tags odd : Bool) (before : ℕ) (t : List ℕ) → raw_walk dollars ascii TemplateRaw tags odd before t ≡ raw_walk dollars ascii Directive tags odd before t
as_piece dollars ascii tags odd before [] = refl
as_piece dollars ascii tags odd before (c ∷ cs) = grind (arith, nat_tests)

all-quoted : (q : Quote) (ascii : Bool) {s u : List ℕ} → Characters q s [] u → Characters q (raw_walk false ascii TemplateRaw false false 0 s) [] u
all-quoted Single ascii cs = all-single ascii 0 cs
all-quoted Double ascii cs = all-double ascii 0 cs
all-quoted Backtick ascii cs = all-template false ascii false 0 cs

pub directive_kept : DirectiveKept
directive_kept q ascii text u cs =
    subst (λ s. Characters q s [] u) (as_piece false ascii false false 0 text ∙ sym (others_in_one_walk ascii text).0) (all-quoted q ascii cs)
