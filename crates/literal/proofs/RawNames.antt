-- A printed name is read as the name.
use Rattle.std.proofs.Common.{ℕ, ◌≤◌, Bool, true, false, cond, ◌&&◌, leb, List, [], ◌∷◌, ◌++◌, refl, inr, append_assoc, arith}
use Rattle.std.specs.List.{AllByRecursion}
use Rattle.std.proofs.lemmas.Bool.{cond_both, and_right}
use Rattle.ecma262.specs.Lookahead.{opens}
use Rattle.ecma262.specs.Units.{utf16}
use Rattle.ecma262.specs.Literals.{NotAhead, EscapeSequence}
use Rattle.ecma262.specs.Names.{NameStart, NamePart, NameCharacter, NameParts, GoesOn, IdentifierName}
use Rattle.literal.specs.Escapes.{behind}
use Rattle.literal.specs.declared.HexCase.TheVariants.{Upper}
use Rattle.literal.specs.declared.EscapeSequence.TheVariants.{Unicode, CodePoint}
use Rattle.literal.specs.declared.NonAsciiEscape.TheVariants.{Identifier}
use Rattle.literal.specs.Raw.{odd_behind, is_separator, wide, ascii_only}
use Rattle.literal.specs.RawLaws.{NameRead}
use Rattle.literal.proofs.RawKept.{by_wide}

module _ (Allowed : ℕ → Type 0) where
  -- an escape of a character above 7F
  escaped : (c : ℕ) (rest : List ℕ) → c ≤ 0x10FFFF → Allowed c → NameCharacter Allowed ((0x5C ∷ behind c (wide c)) ++ rest) rest c
  escaped c rest h a =
      cond_both (leb c 0xFFFF) (Unicode Upper) CodePoint (λ e. EscapeSequence (behind c e ++ rest) rest (utf16 c) → NameCharacter Allowed ((0x5C ∷ behind c e) ++ rest) rest c)
      (λ _ s. NameCharacter.escape s a) (λ _ s. NameCharacter.escape s a) (by_wide c rest h)

  character : (odd : Bool) (c : ℕ) (cs rest : List ℕ) → c ≤ 0x10FFFF → Allowed c →
      NameCharacter Allowed ((cond (odd_behind odd c && opens (leb 0x80 ∷ []) cs && false) [] (cond (leb 0x80 c) (cond (is_separator c && odd && false) (0x5C ∷ 0x0A ∷ []) (0x5C ∷ behind c (wide c))) (c ∷ []))) ++ rest) rest c
  character odd c cs rest h a =
      rw (and_right (odd_behind odd c && opens (leb 0x80 ∷ []) cs) false refl, and_right (is_separator c && odd) false refl)
      (cond_both (leb 0x80 c) (0x5C ∷ behind c (wide c)) (c ∷ []) (λ x. NameCharacter Allowed (x ++ rest) rest c)
      (λ _. escaped c rest h a) (λ _. NameCharacter.raw a))

part_source : (c : ℕ) → NamePart c → c ≤ 0x10FFFF
part_source c h = omega arith

parts : (odd : Bool) (cs rest : List ℕ) → AllByRecursion NamePart cs → NotAhead GoesOn rest → NameParts (ascii_only Identifier odd cs ++ rest) rest cs
parts odd [] rest h n = NameParts.end n
parts odd (c ∷ cs) rest h n =
    rw append_assoc
    (NameParts.more (character NamePart odd c cs (ascii_only Identifier (odd_behind odd c) cs ++ rest) (part_source c h.0) h.0) (parts (odd_behind odd c) cs rest h.1 n))

raw-parts : (cs rest : List ℕ) → AllByRecursion NamePart cs → NotAhead GoesOn rest → NameParts (cs ++ rest) rest cs
raw-parts [] rest h n = NameParts.end n
raw-parts (c ∷ cs) rest h n = NameParts.more (NameCharacter.raw h.0) (raw-parts cs rest h.1 n)

pub name_read : NameRead
name_read ascii [] rest h n = absurd h
name_read false (c ∷ cs) rest h n = IdentifierName.name (NameCharacter.raw h.0) (raw-parts cs rest h.1 n)
name_read true (c ∷ cs) rest h n =
    rw append_assoc
    (IdentifierName.name (character NameStart false c cs (ascii_only Identifier (odd_behind false c) cs ++ rest) (part_source c (inr h.0)) h.0) (parts (odd_behind false c) cs rest h.1 n))
