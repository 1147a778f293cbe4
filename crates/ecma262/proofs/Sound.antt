-- What the function of specs/Read reads is a character by ECMA-262.
use Rattle.std.proofs.Common.{◌≡◌, ℕ, ◌+◌, ◌*◌, ◌≤◌, Bool, true, false, cond, ◌&&◌, ◌||◌, eqb, leb, List, [], ◌∷◌, refl, subst, ⊎_elim, arith}
use Rattle.std.proofs.lemmas.Bool.{cond_both, leb-true, eqb-true, eqb-false, cases_eq, both_ways, ne_eqb}
use Rattle.std.proofs.lemmas.Bool.Decides.{nat_tests}
use Rattle.ecma262.specs.Units.{Text, utf16}
use Rattle.ecma262.specs.Lookahead.{digit, opens}
use Rattle.ecma262.specs.Literals.{DecimalDigit, HexDigit, HexDigits, SingleEscapeCharacter, EscapeSequence, LineTerminatorSequence, StringCharacter, TemplateCharacter, Character}
use Rattle.ecma262.specs.Literals.SingleEscapeCharacter.{single_quote, double_quote, backslash, backspace, form_feed, line_feed, carriage_return, tab, vertical_tab}
use Rattle.ecma262.specs.Read.Got.{nothing, got}
use Rattle.ecma262.specs.Read.{Got, hex_value, bind, is_line_terminator, read_code_point, hex_escape, hex4_digits, unicode_escape, character_escape, escape_sequence, after_line_terminator, behind_backslash as behind, string_character, template_character, character}
use Rattle.ecma262.specs.Laws.{Readable}
use Rattle.ecma262.specs.declared.Quote.{Quote}
use Rattle.ecma262.specs.declared.Quote.TheVariants.{Single, Double, Backtick}
use Rattle.ecma262.proofs.Values.{reads}
use Rattle.ecma262.proofs.Ahead.{lookahead}

-- what is read, if anything, is a K
abbrev pub Sound : (List ℕ → List ℕ → Type 0) → Got → Type 0
Sound K nothing = Unit {0}
Sound K (got rest u) = K rest u

with_digit : (K : List ℕ → List ℕ → Type 0) (d : ℕ) (f : ℕ → Got) → ((v : ℕ) → HexDigit d v → Sound K (f v)) → Sound K (bind (hex_value d) f)
with_digit K d f k = grind (arith, nat_tests)

-- the digits of a code point, as far as the brace
abbrev Point : ℕ → List ℕ → List ℕ → List ℕ → Type 0
Point sofar s rest u = (mv : ℕ) × HexDigits sofar s (0x7D ∷ rest) mv × (mv ≤ 0x10FFFF) × (u ≡ utf16 mv)

one_more : (sofar d v : ℕ) (s : List ℕ) (g : Got) → HexDigit d v → Sound (Point (sofar * 16 + v) s) g → Sound (Point sofar (d ∷ s)) g
one_more sofar d v s nothing h p = tt
one_more sofar d v s (got rest u) h p = (p.0, HexDigits.more h p.1, p.2, p.3)

code_point_sound : (sofar d : ℕ) (s : List ℕ) → eqb d 0x7D ≡ false → Sound (Point sofar (d ∷ s)) (read_code_point sofar (d ∷ s))
code_point_sound sofar d [] n = rw n (with_digit (Point sofar (d ∷ [])) d _ (λ v h. tt))
code_point_sound sofar d (e ∷ s) n =
    rw n
    (with_digit (Point sofar (d ∷ e ∷ s)) d _ (λ v h.
    ⊎_elim
    (λ i. rw i
    (cond_both (leb (sofar * 16 + v) 0x10FFFF) (got s (utf16 (sofar * 16 + v))) nothing (Sound (Point sofar (d ∷ 0x7D ∷ s)))
    (λ t. (sofar * 16 + v, HexDigits.last h, leb-true (sofar * 16 + v) 0x10FFFF t, refl)) (λ _. tt)))
    (λ i. one_more sofar d v (e ∷ s) (read_code_point (sofar * 16 + v) (e ∷ s)) h (code_point_sound (sofar * 16 + v) e s (ne_eqb e 0x7D i)))
    (cases_eq e 0x7D)))

hex_escape_sound : (s : List ℕ) → Sound (EscapeSequence (0x78 ∷ s)) (hex_escape s)
hex_escape_sound [] = tt
hex_escape_sound (a ∷ []) = tt
hex_escape_sound (a ∷ b ∷ s) =
    let K = EscapeSequence (0x78 ∷ a ∷ b ∷ s) in
    with_digit K a _ (λ m h. with_digit K b _ (λ n k. EscapeSequence.hex h k))

hex4_digits_sound : (s : List ℕ) → Sound (EscapeSequence (0x75 ∷ s)) (hex4_digits s)
hex4_digits_sound [] = tt
hex4_digits_sound (a ∷ []) = tt
hex4_digits_sound (a ∷ b ∷ []) = tt
hex4_digits_sound (a ∷ b ∷ c ∷ []) = tt
hex4_digits_sound (a ∷ b ∷ c ∷ d ∷ s) =
    let K = EscapeSequence (0x75 ∷ a ∷ b ∷ c ∷ d ∷ s) in
    with_digit K a _ (λ k hk. with_digit K b _ (λ l hl. with_digit K c _ (λ m hm. with_digit K d _ (λ n hn. EscapeSequence.unicode hk hl hm hn))))

from_point : (s : List ℕ) (g : Got) → Sound (Point 0 s) g → Sound (EscapeSequence (0x75 ∷ 0x7B ∷ s)) g
from_point s nothing p = tt
from_point s (got rest u) p = rw p.3 (EscapeSequence.code_point p.1 p.2)

braces_sound : (s : List ℕ) → Sound (EscapeSequence (0x75 ∷ 0x7B ∷ s)) (cond (opens (eqb 0x7D ∷ []) s) nothing (read_code_point 0 s))
braces_sound [] = tt
braces_sound (d ∷ s) =
    cond_both (eqb 0x7D d && true) nothing (read_code_point 0 (d ∷ s)) (Sound (EscapeSequence (0x75 ∷ 0x7B ∷ d ∷ s))) (λ _. tt)
    (λ f. from_point (d ∷ s) (read_code_point 0 (d ∷ s)) (code_point_sound 0 d s (grind (arith, nat_tests))))

unicode_sound : (s : List ℕ) → Sound (EscapeSequence (0x75 ∷ s)) (unicode_escape s)
unicode_sound [] = tt
unicode_sound (c ∷ s) =
    cond_both (eqb c 0x7B) (cond (opens (eqb 0x7D ∷ []) s) nothing (read_code_point 0 s)) (hex4_digits (c ∷ s)) (Sound (EscapeSequence (0x75 ∷ c ∷ s)))
    (λ t. rw (eqb-true c 0x7B t) (braces_sound s)) (λ _. hex4_digits_sound (c ∷ s))

is_single : ℕ → Bool
is_single c = eqb c 0x27 || eqb c 0x22 || eqb c 0x5C || eqb c 0x62 || eqb c 0x66 || eqb c 0x6E || eqb c 0x72 || eqb c 0x74 || eqb c 0x76

is_single_lem : {c v : ℕ} → SingleEscapeCharacter c v → is_single c ≡ true
unfolding is_single
is_single_lem single_quote = refl
is_single_lem double_quote = refl
is_single_lem backslash = refl
is_single_lem backspace = refl
is_single_lem form_feed = refl
is_single_lem line_feed = refl
is_single_lem carriage_return = refl
is_single_lem tab = refl
is_single_lem vertical_tab = refl

-- a character that stands for one
module _ (c : ℕ) (s : List ℕ) (source : c ≤ 0x10FFFF) (no_line : is_line_terminator c ≡ false) (no-x : eqb c 0x78 ≡ false) (no-u : eqb c 0x75 ≡ false) (no_digit : digit c ≡ false) where
  plain_sound : is_single c ≡ false → EscapeSequence (c ∷ s) s (utf16 c)
  plain_sound n = EscapeSequence.non_escape (record {
    source = source;
    not_single = λ v e. both_ways (is_single c) n (is_single_lem e);
    not_digit = grind (arith, nat_tests);
    not_x = eqb-false c 0x78 no-x;
    not_u = eqb-false c 0x75 no-u;
    not_line = grind (arith, nat_tests);
  })

  at : {e v : ℕ} → SingleEscapeCharacter e v → eqb c e ≡ true → EscapeSequence (c ∷ s) s (v ∷ [])
  at {e} x t = rw (eqb-true c e t) (EscapeSequence.single x)

  character_escape_sound : EscapeSequence (c ∷ s) s (character_escape c)
  unfolding is_single
  character_escape_sound =
      let P : List ℕ → Type 0 = EscapeSequence (c ∷ s) s in
      cond_both (eqb c 0x62) _ _ P (at backspace) (λ n₁. cond_both (eqb c 0x66) _ _ P (at form_feed) (λ n₂. cond_both (eqb c 0x6E) _ _ P (at line_feed) (λ n₃.
      cond_both (eqb c 0x72) _ _ P (at carriage_return) (λ n₄. cond_both (eqb c 0x74) _ _ P (at tab) (λ n₅. cond_both (eqb c 0x76) _ _ P (at vertical_tab) (λ n₆.
      ⊎_elim (λ e. rw e (EscapeSequence.single single_quote)) (λ n₇. ⊎_elim (λ e. rw e (EscapeSequence.single double_quote)) (λ n₈.
      ⊎_elim (λ e. rw e (EscapeSequence.single backslash)) (λ n₉. plain_sound (grind (arith, nat_tests)))
      (cases_eq c 0x5C)) (cases_eq c 0x22)) (cases_eq c 0x27)))))))

null_sound : (s : List ℕ) → Sound (EscapeSequence (0x30 ∷ s)) (cond (opens (digit ∷ []) s) nothing (got s (0x00 ∷ [])))
null_sound s =
    cond_both (opens (digit ∷ []) s) nothing (got s (0x00 ∷ [])) (Sound (EscapeSequence (0x30 ∷ s))) (λ _. tt)
    (λ f. EscapeSequence.null (lookahead digit DecimalDigit (λ x i. grind (arith, nat_tests)) s f))

escape_sound : (c : ℕ) (s : List ℕ) → c ≤ 0x10FFFF → is_line_terminator c ≡ false → Sound (EscapeSequence (c ∷ s)) (escape_sequence (c ∷ s))
escape_sound c s h l =
    let K = Sound (EscapeSequence (c ∷ s)) in
    cond_both (eqb c 0x78) _ _ K (λ t. rw (eqb-true c 0x78 t) (hex_escape_sound s)) (λ no-x.
    cond_both (eqb c 0x75) _ _ K (λ t. rw (eqb-true c 0x75 t) (unicode_sound s)) (λ no-u.
    cond_both (eqb c 0x30) _ _ K (λ t. rw (eqb-true c 0x30 t) (null_sound s)) (λ _.
    cond_both (digit c) _ _ K (λ _. tt) (λ no_digit. character_escape_sound c s h l no-x no-u no_digit))))

cr_sound : (s : List ℕ) → LineTerminatorSequence (0x0D ∷ s) (after_line_terminator 0x0D s) 0x0A
cr_sound [] = LineTerminatorSequence.cr tt
cr_sound (d ∷ s) =
    cond_both (eqb 0x0A d && true) s (d ∷ s) (λ r. LineTerminatorSequence (0x0D ∷ d ∷ s) r 0x0A)
    (λ t. let e : d ≡ 0x0A = grind (arith, nat_tests) in rw e LineTerminatorSequence.crlf)
    (λ f. LineTerminatorSequence.cr (grind (arith, nat_tests)))

line_sound : (c : ℕ) (s : List ℕ) → is_line_terminator c ≡ true → LineTerminatorSequence (c ∷ s) (after_line_terminator c s) (cond (eqb c 0x0D) 0x0A c)
line_sound c s l =
    ⊎_elim (λ e. rw e LineTerminatorSequence.lf) (λ n₁. ⊎_elim (λ e. rw e (cr_sound s)) (λ n₂. ⊎_elim (λ e. rw e LineTerminatorSequence.ls) (λ n₃.
    let e : c ≡ 0x2029 = grind (arith, nat_tests) in rw e LineTerminatorSequence.ps)
    (cases_eq c 0x2028)) (cases_eq c 0x0D)) (cases_eq c 0x0A)

pub lift : {K L : List ℕ → List ℕ → Type 0} → ((r u : List ℕ) → K r u → L r u) → (g : Got) → Sound K g → Sound L g
lift f nothing h = tt
lift f (got r u) h = f r u h

-- behind a backslash, for a kind of character L
behind_sound : (L : List ℕ → List ℕ → Type 0) (s : List ℕ) → Text s →
    ((r : List ℕ) (v : ℕ) → LineTerminatorSequence s r v → L r []) → ((r u : List ℕ) → EscapeSequence s r u → L r u) → Sound L (behind s)
behind_sound L [] t line escape_sequence = tt
behind_sound L (c ∷ s) t line escape_sequence =
    cond_both (is_line_terminator c) _ _ (Sound L) (λ l. line (after_line_terminator c s) _ (line_sound c s l)) (λ n. lift escape_sequence _ (escape_sound c s t.0 n))

string_sound : (m : ℕ) (s : List ℕ) → Text s → Sound (StringCharacter m s) (string_character m s)
string_sound m [] t = tt
string_sound m (c ∷ s) t =
    let K = Sound (StringCharacter m (c ∷ s)) in
    cond_both (eqb c 0x5C) _ _ K
    (λ b. rw (eqb-true c 0x5C b)
    (behind_sound (StringCharacter m (0x5C ∷ s)) s t.1 (λ r v l. StringCharacter.continuation l) (λ r u e. StringCharacter.escape e)))
    (λ b. cond_both (eqb c m || eqb c 0x0A || eqb c 0x0D) nothing (got s (utf16 c)) K (λ _. tt)
    (λ n. ⊎_elim (λ e. rw e StringCharacter.ls) (λ n₁. ⊎_elim (λ e. rw e StringCharacter.ps)
    (λ n₂. StringCharacter.source t.0 (grind (arith, nat_tests)) (eqb-false c 0x5C b) (grind (arith, nat_tests)))
    (cases_eq c 0x2029)) (cases_eq c 0x2028)))

template_sound : (s : List ℕ) → Text s → Sound (TemplateCharacter s) (template_character s)
template_sound [] t = tt
template_sound (c ∷ s) t =
    let K = Sound (TemplateCharacter (c ∷ s)) in
    cond_both (eqb c 0x5C) _ _ K
    (λ b. rw (eqb-true c 0x5C b)
    (behind_sound (TemplateCharacter (0x5C ∷ s)) s t.1 (λ r v l. TemplateCharacter.continuation l) (λ r u e. TemplateCharacter.escape e)))
    (λ b. cond_both (is_line_terminator c) _ _ K (λ l. TemplateCharacter.line_end (line_sound c s l))
    (λ n. cond_both (eqb c 0x60 || eqb c 0x24 && opens (eqb 0x7B ∷ []) s) nothing (got s (utf16 c)) K (λ _. tt)
    (λ f. ⊎_elim
    (λ e. rw e (TemplateCharacter.dollar (lookahead (eqb 0x7B) (λ x. x ≡ 0x7B) (λ x i. grind (arith, nat_tests)) s (grind (arith, nat_tests)))))
    (λ d. TemplateCharacter.source t.0 (grind (arith, nat_tests)) (eqb-false c 0x5C b) d (grind (arith, nat_tests)))
    (cases_eq c 0x24))))

pub sound : (q : Quote) (s : List ℕ) → Text s → Sound (Character q s) (character q s)
sound Single s t = lift (λ r u. Character.single) (string_character 0x27 s) (string_sound 0x27 s t)
sound Double s t = lift (λ r u. Character.double) (string_character 0x22 s) (string_sound 0x22 s t)
sound Backtick s t = lift (λ r u. Character.template) (template_character s) (template_sound s t)

pub readable : Readable
readable q s r u t = (λ c. reads c, λ e. subst (Sound (Character q s)) e (sound q s t))
