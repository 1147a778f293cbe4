-- The walk over raw text, for code that reads and writes bytes of UTF-8: what it prints of one character, and how it goes on.
use Rattle.std.proofs.lemmas.Bool.Decides.{nat_tests}
use Rattle.std.proofs.Common.{◌≡◌, ℕ, ◌<◌, ◌≤◌, Bool, true, false, cond, not, ◌&&◌, ◌||◌, eqb, leb, List, [], ◌∷◌, ◌++◌, sym, refl, ap, ◌∙◌, subst, ⊎_elim, arith}
use lib.Utf8.{encode, encodes}
use Rattle.std.specs.List.{AllByRecursion}
use Rattle.std.proofs.lemmas.Bool.{and_right, cases_lt, le-leb, ne_eqb}
use Rattle.std.proofs.lemmas.Str.{encodes-append}
use Rattle.ecma262.specs.Lookahead.{opens}
use Rattle.ecma262.proofs.Utf8.{encode_1, Encoded, ascii, wide, encoded, same_front, eqb_narrow}
use Rattle.literal.specs.Escapes.{script}
use Rattle.literal.specs.declared.NonAsciiEscape.{NonAsciiEscape}
use Rattle.literal.specs.Raw.{odd_behind, bare_dollar, loses_backslash, wide_printed}
use Rattle.literal.specs.RawWalk.{backslash_goes, raw_turn, raw_walk}
use Rattle.literal.proofs.Encoded.{script_narrow}
use Rattle.literal.proofs.RawTurns.{Calm, wide_shape}

-- ASCII is its own bytes

ascii_same : (s : List ℕ) → AllByRecursion (λ c. c < 128) s → encodes s ≡ s
ascii_same [] h = refl
ascii_same (c ∷ s) h = rw (encode_1 c h.0) (ap (λ t. c ∷ t) (ascii_same s h.1))

calm_ascii : (s : List ℕ) → AllByRecursion Calm s → AllByRecursion (λ c. c < 128) s
calm_ascii [] h = tt
calm_ascii (c ∷ s) h = (h.0.0, calm_ascii s h.1)

pub wide-bytes : (mode : NonAsciiEscape) (odd : Bool) (c : ℕ) → encodes (wide_printed mode odd c) ≡ wide_printed mode odd c
wide-bytes mode odd c =
    let (x, e, calm) = wide_shape mode odd c in
    ascii_same (wide_printed mode odd c) (subst (AllByRecursion (λ c. c < 128)) (sym e) (omega arith, calm_ascii x calm))

-- what stands ahead in the text stands ahead in its bytes

wide-here : {c : ℕ} {e : List ℕ} (s t : List ℕ) → Encoded c e → opens (leb 0x80 ∷ []) (e ++ t) ≡ opens (leb 0x80 ∷ []) (c ∷ s)
wide-here s t (ascii l) = refl
wide-here {c} s t (wide {b = b} h k _) = rw (le-leb 0x80 b k, le-leb 0x80 c h)

pub wide-ahead : (s : List ℕ) → opens (leb 0x80 ∷ []) (encodes s) ≡ opens (leb 0x80 ∷ []) s
wide-ahead [] = refl
wide-ahead (c ∷ s) = wide-here s (encodes s) (encoded c)

pub dollar-ahead : (s : List ℕ) → bare_dollar (encodes s) ≡ bare_dollar s
dollar-ahead s =
    let d = eqb_narrow 0x24 (omega arith) in
    λ i. same_front (eqb 0x24 ∷ []) (d, tt) s i && not (same_front (eqb 0x24 ∷ eqb 0x7B ∷ []) (d, (eqb_narrow 0x7B (omega arith), tt)) s i)

pub script-ahead : (s : List ℕ) → opens script (encodes s) ≡ opens script s
script-ahead s = same_front script script_narrow s

module _ (dollars ascii' : Bool) (mode : NonAsciiEscape) (tags : Bool) where
  pub goes-ahead : (s : List ℕ) → backslash_goes dollars ascii' mode (encodes s) ≡ backslash_goes dollars ascii' mode s
  goes-ahead s = λ i. dollar-ahead s i && dollars || wide-ahead s i && loses_backslash mode && ascii'

  pub turn_ahead : (odd : Bool) (before c : ℕ) (s : List ℕ) → raw_turn dollars ascii' mode tags odd before c (encodes s) ≡ raw_turn dollars ascii' mode tags odd before c s
  turn_ahead odd before c s = λ i.
      cond (odd_behind odd c && goes-ahead s i) []
      (cond (leb 0x80 c && ascii') (wide_printed mode odd c) (cond (eqb c 0x2F && eqb before 0x3C && script-ahead s i && tags) (0x5C ∷ 0x2F ∷ []) (c ∷ [])))

  -- of the character before it matters only whether it is <
  pub walk_before : (odd : Bool) (x y : ℕ) (s : List ℕ) → eqb x 0x3C ≡ eqb y 0x3C → raw_walk dollars ascii' mode tags odd x s ≡ raw_walk dollars ascii' mode tags odd y s
  walk_before odd x y [] e = refl
  walk_before odd x y (c ∷ cs) e = grind (arith, nat_tests)

  -- one character

  turn_ascii : (odd : Bool) (before c : ℕ) (cs : List ℕ) → c < 0x80 → AllByRecursion (λ c. c < 128) (raw_turn dollars ascii' mode tags odd before c cs)
  turn_ascii odd before c cs h = grind (arith, nat_tests)

  -- the bytes of the walk at an ASCII character, by the bytes ahead
  pub step_ascii : (odd : Bool) (before c : ℕ) (cs : List ℕ) → c < 0x80 →
      encodes (raw_walk dollars ascii' mode tags odd before (c ∷ cs)) ≡ raw_turn dollars ascii' mode tags odd before c (encodes cs) ++ encodes (raw_walk dollars ascii' mode tags (odd_behind odd c) c cs)
  step_ascii odd before c cs h =
      encodes-append (raw_turn dollars ascii' mode tags odd before c cs) (raw_walk dollars ascii' mode tags (odd_behind odd c) c cs)
      ∙ ap (λ x. x ++ encodes (raw_walk dollars ascii' mode tags (odd_behind odd c) c cs))
      (ascii_same (raw_turn dollars ascii' mode tags odd before c cs) (turn_ascii odd before c cs h) ∙ sym (turn_ahead odd before c cs))

-- no run of backslashes ends at a character above 7F
pub wide_even : (odd : Bool) (c : ℕ) → 0x80 ≤ c → odd_behind odd c ≡ false
wide_even odd c h = and_right (not odd) (eqb c 0x5C) (ne_eqb c 0x5C (omega arith))

module _ (dollars : Bool) (mode : NonAsciiEscape) (tags : Bool) where
  -- the bytes of the walk at a character above 7F that is escaped
  pub step_escaped : (odd : Bool) (before c : ℕ) (cs : List ℕ) → 0x80 ≤ c →
      encodes (raw_walk dollars true mode tags odd before (c ∷ cs)) ≡ wide_printed mode odd c ++ encodes (raw_walk dollars true mode tags false c cs)
  step_escaped odd before c cs h =
      rw (wide_even odd c h, le-leb 0x80 c h)
      (encodes-append (wide_printed mode odd c) (raw_walk dollars true mode tags false c cs)
      ∙ ap (λ x. x ++ encodes (raw_walk dollars true mode tags false c cs)) (wide-bytes mode odd c))

  -- where characters above 7F stay, the walk over the bytes prints the bytes of the walk over the characters

  abbrev bytewise : Bool → ℕ → List ℕ → List ℕ
  bytewise odd before s = raw_walk dollars false mode tags odd before s

  wide_turn : (odd : Bool) (before c : ℕ) (cs : List ℕ) → 0x80 ≤ c → bytewise odd before (c ∷ cs) ≡ c ∷ bytewise false c cs
  wide_turn odd before c cs h = grind (arith, nat_tests)

  wide_run : (x y : ℕ) (s t : List ℕ) → eqb x 0x3C ≡ false → eqb y 0x3C ≡ false → AllByRecursion (λ b. 0x80 ≤ b) s → bytewise false x (s ++ t) ≡ s ++ bytewise false y t
  wide_run x y [] t m n h = walk_before dollars false mode tags false x y t (m ∙ sym n)
  wide_run x y (b ∷ s) t m n h =
      wide_turn false x b (s ++ t) h.0 ∙ ap (λ z. b ∷ z) (wide_run b y s t (ne_eqb b 0x3C (omega arith)) n h.1)

  pub step_kept : (odd : Bool) (before c : ℕ) (cs : List ℕ) → 0x80 ≤ c → encodes (bytewise odd before (c ∷ cs)) ≡ encode c ++ encodes (bytewise false c cs)
  step_kept odd before c cs h = ap encodes (wide_turn odd before c cs h)

  at_bytes : {c : ℕ} {e : List ℕ} (odd : Bool) (before : ℕ) (t : List ℕ) → Encoded c e → 0x80 ≤ c → bytewise odd before (e ++ t) ≡ e ++ bytewise false c t
  at_bytes odd before t (ascii l) h = absurd (omega arith)
  at_bytes {c} odd before t (wide {b = b} {s = s} _ k a) h =
      wide_turn odd before b (s ++ t) k ∙ ap (λ z. b ∷ z) (wide_run b c s t (ne_eqb b 0x3C (omega arith)) (ne_eqb c 0x3C (omega arith)) a)

  pub walk-bytes : (odd : Bool) (before : ℕ) (s : List ℕ) → encodes (bytewise odd before s) ≡ bytewise odd before (encodes s)
  walk-bytes odd before [] = refl
  walk-bytes odd before (c ∷ cs) =
      ⊎_elim
      (λ l. step_ascii dollars false mode tags odd before c cs l
      ∙ ap (λ x. raw_turn dollars false mode tags odd before c (encodes cs) ++ x) (walk-bytes (odd_behind odd c) c cs)
      ∙ sym (ap (λ e. bytewise odd before (e ++ encodes cs)) (encode_1 c l)))
      (λ h. step_kept odd before c cs h ∙ ap (λ x. encode c ++ x) (walk-bytes false c cs) ∙ sym (at_bytes odd before (encodes cs) (encoded c) h))
      (cases_lt c 0x80)
