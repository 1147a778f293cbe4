-- What the walk over raw text prints of one character, and what it begins with.
use Rattle.std.proofs.Common.{◌≡◌, ℕ, ◌+◌, ◌-◌, ◌/◌, ◌%◌, ◌<◌, Bool, true, false, ◌&&◌, ltb, ◌≢◌, List, [], ◌∷◌, ◌++◌, refl, arith}
use Rattle.std.specs.List.{AllByRecursion}
use Rattle.std.proofs.lemmas.Bool.{cond_both, false≢true}
use Rattle.std.proofs.ByRecursion.{All-append}
use Rattle.std.proofs.lemmas.Bool.Decides.{nat_tests}
use Rattle.ecma262.specs.Lookahead.{opens}
use Rattle.literal.specs.Escapes.{hex_digit, behind}
use Rattle.literal.specs.declared.HexCase.{HexCase}
use Rattle.literal.specs.declared.HexCase.TheVariants.{Upper}
use Rattle.literal.specs.declared.EscapeSequence.TheVariants.{Unicode}
use Rattle.literal.specs.declared.NonAsciiEscape.{NonAsciiEscape}
use Rattle.literal.specs.declared.NonAsciiEscape.TheVariants.{Identifier, RegExp, TemplateRaw, Directive}
use Rattle.literal.specs.Raw.{continues_lines, is_separator, wide, unit_escapes, wide_escape, wide_printed}
use Rattle.literal.specs.RawWalk.{backslash_goes, raw_walk}

-- ASCII other than < and /, as all is that an escape is made of
abbrev pub Calm : ℕ → Type 0
Calm x = (x < 128) × (x ≢ 0x3C) × (x ≢ 0x2F)

hex_calm : (letters : HexCase) (n : ℕ) → Calm (hex_digit letters (n % 0x10))
hex_calm letters n = grind (arith, nat_tests)

four_calm : (c : ℕ) → AllByRecursion Calm (behind c (Unicode Upper))
four_calm c = omega (arith, hex_calm)

-- a backslash, and calm characters behind it
abbrev pub Escaping : List ℕ → Type 0
Escaping s = (x : List ℕ) × (s ≡ 0x5C ∷ x) × AllByRecursion Calm x

literal_shape : (c : ℕ) → Escaping (0x5C ∷ behind c (wide c))
literal_shape c = grind (arith, nat_tests)

units_calm : (us : List ℕ) → AllByRecursion Calm (unit_escapes us)
units_calm [] = tt
units_calm (u ∷ us) = (omega arith, All-append Calm (behind u (Unicode Upper)) (unit_escapes us) (four_calm u) (units_calm us))

units_shape : (u : ℕ) (us : List ℕ) → Escaping (unit_escapes (u ∷ us))
units_shape u us = (behind u (Unicode Upper) ++ unit_escapes us, refl, (units_calm (u ∷ us)).1)

escape_shape : (mode : NonAsciiEscape) (c : ℕ) → Escaping (wide_escape mode c)
escape_shape Identifier c = literal_shape c
escape_shape RegExp c =
    cond_both (ltb c 0x10000) (c ∷ []) _ (λ us. Escaping (unit_escapes us)) (λ _. units_shape c [])
    (λ _. units_shape (0xD800 + (c - 0x10000) / 0x400) ((0xDC00 + (c - 0x10000) % 0x400) ∷ []))
escape_shape TemplateRaw c = literal_shape c
escape_shape Directive c = literal_shape c

-- what is printed of a character above 7F
pub wide_shape : (mode : NonAsciiEscape) (odd : Bool) (c : ℕ) → Escaping (wide_printed mode odd c)
wide_shape mode odd c =
    cond_both (is_separator c && odd && continues_lines mode) (0x5C ∷ 0x0A ∷ []) (wide_escape mode c) Escaping
    (λ _. (0x0A ∷ [], refl, (omega arith, tt))) (λ _. escape_shape mode c)

-- in particular its first character
pub wide-first : (mode : NonAsciiEscape) (odd : Bool) (c : ℕ) (t : List ℕ) (p : ℕ → Bool) (ps : List (ℕ → Bool)) → p 0x5C ≡ false →
    opens (p ∷ ps) (wide_printed mode odd c ++ t) ≡ false
wide-first mode odd c t p ps n = grind (arith, nat_tests)

module _ (dollars ascii : Bool) (mode : NonAsciiEscape) (tags : Bool) where
  pub gone_first : (before : ℕ) (cs : List ℕ) (p : ℕ → Bool) (ps : List (ℕ → Bool)) → p 0x5C ≡ false → p 0x24 ≡ false → backslash_goes dollars ascii mode cs ≡ true →
      opens (p ∷ ps) (raw_walk dollars ascii mode tags true before cs) ≡ false
  gone_first before [] p ps b s e = absurd (false≢true e)
  gone_first before (d ∷ ds) p ps b s e = grind (arith, nat_tests)
