-- The raw turns that are right.
use Rattle.std.proofs.Common.{◌≡◌, ℕ, ◌<◌, ◌≤◌, Bool, true, false, cond, not, ◌&&◌, eqb, leb, List, [], ◌∷◌, ◌++◌, length, get_or, take, drop, sym, refl, ap, ◌∙◌, subst, arith}
use lib.Utf8.{encode, encodes}
use Rattle.std.specs.Char.{len_utf8}
use Rattle.std.specs.List.{AllByRecursion}
use Rattle.std.proofs.lemmas.List.{append-nil}
use Rattle.std.proofs.lemmas.Str.{len_utf8_bounds, len_utf8_ascii, encodes-append}
use Rattle.std.proofs.lemmas.Bool.{and_left, and_right, and_parts, and_from, eqb-true, cond-true, cond-false, le-leb, lt-leb, ne_eqb}
use Rattle.std.proofs.lemmas.Bool.Decides.{nat_tests}
use Rattle.ecma262.specs.Lookahead.{opens}
use Rattle.ecma262.specs.Units.{utf16}
use Rattle.literal.specs.declared.NonAsciiEscape.{NonAsciiEscape}
use Rattle.literal.specs.declared.NonAsciiEscape.TheVariants.{Identifier, RegExp, TemplateRaw, Directive}
use Rattle.literal.specs.declared.EscapeSequence.TheVariants.{Unicode, CodePoint}
use Rattle.literal.specs.declared.HexCase.TheVariants.{Upper}
use Rattle.literal.specs.Escapes.{script, tag, behind}
use Rattle.literal.specs.Raw.{odd_behind, continues_lines, is_separator, wide, unit_escapes, wide_escape, wide_printed}
use Rattle.literal.specs.RawWalk.{backslash_goes, raw_turn, raw_walk}
use Rattle.text.specs.Sequence.{code_points}
use Rattle.codegen.specs.declared.raw_style.RawStyle.{RawStyle}
use Rattle.codegen.specs.declared.raw_turn.RawTurn.{RawTurn}
use Rattle.codegen.specs.declared.raw_turn.RawTurn.TheVariants.{Keep, Drop, Escaped, LineEnd}
use Rattle.codegen.specs.RawTurns.{raw_takes, raw_puts, raw_body, odd_after, RawTurned}
use Rattle.codegen.specs.Turns.{Fit}
use Rattle.codegen.proofs.Crossing.{lead_byte}
use Rattle.codegen.proofs.Fronts.{lead}
use Rattle.codegen.proofs.Steps.{Front, reads, encodes-plain, escape-plain, width_fits, rest_is, front_is, points_are, rest-fit}

-- the walk in a style, and what it prints at one character

abbrev pub goes_in : RawStyle → List ℕ → Bool
goes_in style cs = backslash_goes style.dollars style.ascii_only style.mode cs

abbrev pub turn_in : RawStyle → Bool → ℕ → ℕ → List ℕ → List ℕ
turn_in style odd before c cs = raw_turn style.dollars style.ascii_only style.mode style.tags odd before c cs

abbrev pub walk_in : RawStyle → Bool → ℕ → List ℕ → List ℕ
walk_in style odd before cs = raw_walk style.dollars style.ascii_only style.mode style.tags odd before cs

pub none_ahead : (style : RawStyle) (odd : Bool) (s : List ℕ) → length s ≡ 0 → raw_body style odd s ≡ []
unfolding raw_body
none_ahead style odd [] e = refl
none_ahead style odd (x ∷ s) e = absurd (omega arith)

-- the character before matters to </script alone
same_turn : (style : RawStyle) (odd : Bool) (c d : ℕ) (ds : List ℕ) → (eqb d 0x2F && eqb c 0x3C && opens script ds && style.tags) ≡ false →
    (eqb d 0x2F && eqb 0 0x3C && opens script ds && style.tags) ≡ false → turn_in style odd c d ds ≡ turn_in style odd 0 d ds
same_turn style odd c d ds row none = rw (row, none) refl

pub walk_before : (style : RawStyle) (odd : Bool) (c : ℕ) (cs : List ℕ) → (opens tag (c ∷ cs) && style.tags) ≡ false →
    walk_in style odd c cs ≡ walk_in style odd 0 cs
walk_before style odd c [] h = refl
walk_before style odd c (d ∷ ds) h = ap (λ s. s ++ walk_in style (odd_behind odd d) d ds) (same_turn style odd c d ds row none)
  where
    row : (eqb d 0x2F && eqb c 0x3C && opens script ds && style.tags) ≡ false
    row = grind (arith, nat_tests)

    none : (eqb d 0x2F && eqb 0 0x3C && opens script ds && style.tags) ≡ false
    none = and_left (eqb d 0x2F && false && opens script ds) style.tags (and_left (eqb d 0x2F && false) (opens script ds) (and_right (eqb d 0x2F) false refl))

-- an escape of a character is ASCII

joined : (s t : List ℕ) → AllByRecursion (λ x. x < 128) s → AllByRecursion (λ x. x < 128) t → AllByRecursion (λ x. x < 128) (s ++ t)
joined [] t p q = q
joined (x ∷ s) t p q = (p.0, joined s t p.1 q)

unit-plain : (us : List ℕ) → AllByRecursion (λ x. x < 128) (unit_escapes us)
unit-plain [] = tt
unit-plain (u ∷ us) = joined (0x5C ∷ behind u (Unicode Upper)) (unit_escapes us) (escape-plain u (Unicode Upper) refl) (unit-plain us)

one_plain : (c : ℕ) → AllByRecursion (λ x. x < 128) (0x5C ∷ behind c (wide c))
one_plain c = by_wide (leb c 0xFFFF)
  where
    by_wide : (b : Bool) → AllByRecursion (λ x. x < 128) (0x5C ∷ behind c (cond b (Unicode Upper) CodePoint))
    by_wide true = escape-plain c (Unicode Upper) refl
    by_wide false = escape-plain c CodePoint refl

pub wide-plain : (mode : NonAsciiEscape) (c : ℕ) → AllByRecursion (λ x. x < 128) (wide_escape mode c)
wide-plain Identifier c = one_plain c
wide-plain RegExp c = unit-plain (utf16 c)
wide-plain TemplateRaw c = one_plain c
wide-plain Directive c = one_plain c

-- what is printed at one character

module _ (style : RawStyle) (odd : Bool) (c : ℕ) (cs : List ℕ) where
  third : (eqb c 0x2F && eqb 0 0x3C && opens script cs && style.tags) ≡ false
  third = and_left (eqb c 0x2F && false && opens script cs) style.tags (and_left (eqb c 0x2F && false) (opens script cs) (and_right (eqb c 0x2F) false refl))

  turn_keeps : (odd_behind odd c && goes_in style cs) ≡ false → (leb 0x80 c && style.ascii_only) ≡ false → turn_in style odd 0 c cs ≡ c ∷ []
  turn_keeps g w = rw (g, w, third) refl

  turn_drops : (odd_behind odd c && goes_in style cs) ≡ true → turn_in style odd 0 c cs ≡ []
  turn_drops g = rw g refl

  turn_escapes : (odd_behind odd c && goes_in style cs) ≡ false → (leb 0x80 c && style.ascii_only) ≡ true → turn_in style odd 0 c cs ≡ wide_printed style.mode odd c
  turn_escapes g w = rw (g, w) refl

no_run : (odd goes : Bool) (c : ℕ) → eqb c 0x5C ≡ false → (odd_behind odd c && goes) ≡ false
no_run odd goes c e = and_left (odd_behind odd c) goes (and_right (not odd) (eqb c 0x5C) e)

module _ (style : RawStyle) (odd : Bool) (s : List ℕ) (f : Front false s) where
  abbrev walk : Bool → ℕ → List ℕ → List ℕ
  walk = walk_in style

  body-rest : (o : Bool) → raw_body style o (drop (len_utf8 f.c) s) ≡ encodes (walk o 0 f.cs)
  unfolding raw_body
  body-rest o = ap (λ t. encodes (walk o 0 (code_points t))) (rest_is false s f) ∙ ap (λ t. encodes (walk o 0 t)) (reads false f.cs f.others)

  body-here : raw_body style odd s ≡ encodes (turn_in style odd 0 f.c f.cs) ++ encodes (walk (odd_behind odd f.c) f.c f.cs)
  unfolding raw_body
  body-here =
      ap (λ t. encodes (walk odd 0 t)) (points_are false s f)
      ∙ encodes-append (turn_in style odd 0 f.c f.cs) (walk (odd_behind odd f.c) f.c f.cs)

  same_odd : odd_behind odd f.c ≡ odd_after odd s
  same_odd = ap (λ t. not odd && t) (same_slash f.c (get_or s 0 0) (lead false s f))
    where
      same_slash : (c b : ℕ) → b ≡ lead_byte c → eqb c 0x5C ≡ eqb b 0x5C
      same_slash c b e = grind (arith, nat_tests)

  -- one character, of which t is printed
  one : (r : RawTurn) (t : List ℕ) → raw_takes r ≡ len_utf8 f.c → turn_in style odd 0 f.c f.cs ≡ t → (opens tag (f.c ∷ f.cs) && style.tags) ≡ false →
      encodes t ≡ raw_puts style.mode s r → RawTurned style odd s r
  one r t w p n e =
      record {
        more = omega (arith, len_utf8_bounds f.c);
        within = let l = width_fits false s f in omega arith;
        fit = subst (λ k. Fit false (drop k s)) (sym w) (rest-fit false s f);
        shown =
            body-here
            ∙ ap (λ x. encodes x ++ encodes (walk (odd_behind odd f.c) f.c f.cs)) p
            ∙ ap (λ x. x ++ encodes (walk (odd_behind odd f.c) f.c f.cs)) e
            ∙ ap (λ x. raw_puts style.mode s r ++ encodes x) (walk_before style (odd_behind odd f.c) f.c f.cs n)
            ∙ ap (λ o. raw_puts style.mode s r ++ encodes (walk o 0 f.cs)) same_odd
            ∙ ap (λ x. raw_puts style.mode s r ++ x) (sym (body-rest (odd_after odd s)) ∙ ap (λ k. raw_body style (odd_after odd s) (drop k s)) (sym w));
      }

  keeps : (n : ℕ) → n ≡ len_utf8 f.c → turn_in style odd 0 f.c f.cs ≡ f.c ∷ [] → (opens tag (f.c ∷ f.cs) && style.tags) ≡ false → RawTurned style odd s (Keep n)
  keeps n w p t = one (Keep n) (f.c ∷ []) w p t (append-nil (encode f.c) ∙ sym (front_is false s f) ∙ ap (λ k. take k s) (sym w))

  -- at a character above 7F
  module _ (h : 0x80 ≤ f.c) (n : ℕ) (w : n ≡ len_utf8 f.c) where
    no_slash : eqb f.c 0x5C ≡ false
    no_slash = ne_eqb f.c 0x5C (omega arith)

    no_tag : (opens tag (f.c ∷ f.cs) && style.tags) ≡ false
    no_tag = and_left (opens tag (f.c ∷ f.cs)) style.tags (and_left (eqb 0x3C f.c) _ (ne_eqb 0x3C f.c (omega arith)))

    quiet : (odd_behind odd f.c && goes_in style f.cs) ≡ false
    quiet = no_run odd (goes_in style f.cs) f.c no_slash

    pub wide_kept : style.ascii_only ≡ false → RawTurned style odd s (Keep n)
    wide_kept a = keeps n w (turn_keeps style odd f.c f.cs quiet (and_right (leb 0x80 f.c) style.ascii_only a)) no_tag

    escapes : style.ascii_only ≡ true → turn_in style odd 0 f.c f.cs ≡ wide_printed style.mode odd f.c
    escapes a = turn_escapes style odd f.c f.cs quiet (and_from (leb 0x80 f.c) style.ascii_only (le-leb 0x80 f.c h) a)

    pub line_end : style.ascii_only ≡ true → (is_separator f.c && odd && continues_lines style.mode) ≡ true → RawTurned style odd s (LineEnd n)
    line_end a e =
        one (LineEnd n) (0x5C ∷ 0x0A ∷ []) w (escapes a ∙ cond-true (is_separator f.c && odd && continues_lines style.mode) _ _ e) no_tag
        (encodes-plain (0x5C ∷ 0x0A ∷ []) (omega arith))

    pub wide-escaped : (c : ℕ) → c ≡ f.c → style.ascii_only ≡ true → (is_separator f.c && odd && continues_lines style.mode) ≡ false → RawTurned style odd s (Escaped c n)
    wide-escaped c i a e =
        one (Escaped c n) (wide_escape style.mode f.c) w (escapes a ∙ cond-false (is_separator f.c && odd && continues_lines style.mode) _ _ e) no_tag
        (encodes-plain (wide_escape style.mode f.c) (wide-plain style.mode f.c) ∙ ap (wide_escape style.mode) (sym i))

  -- at an ASCII character
  module _ (l : f.c < 0x80) where
    one_byte : 1 ≡ len_utf8 f.c
    one_byte = sym (len_utf8_ascii f.c l)

    narrow : (leb 0x80 f.c && style.ascii_only) ≡ false
    narrow = and_left (leb 0x80 f.c) style.ascii_only (lt-leb 0x80 f.c l)

    pub ascii_kept : (odd_behind odd f.c && goes_in style f.cs) ≡ false → (opens tag (f.c ∷ f.cs) && style.tags) ≡ false → RawTurned style odd s (Keep 1)
    ascii_kept g t = keeps 1 one_byte (turn_keeps style odd f.c f.cs g narrow) t

    pub backslash_dropped : (odd_behind odd f.c && goes_in style f.cs) ≡ true → RawTurned style odd s Drop
    backslash_dropped g = one Drop [] one_byte (turn_drops style odd f.c f.cs g) no_tag_here refl
      where
        slash : f.c ≡ 0x5C
        slash = eqb-true f.c 0x5C (and_parts (not odd) _ (and_parts (odd_behind odd f.c) _ g).0).1

        no_tag_here : (opens tag (f.c ∷ f.cs) && style.tags) ≡ false
        no_tag_here = let e = slash in and_left (opens tag (f.c ∷ f.cs)) style.tags (and_left (eqb 0x3C f.c) _ (ne_eqb 0x3C f.c (omega arith)))
