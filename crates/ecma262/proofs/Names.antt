-- A name has one end and one list of code points.
use Rattle.std.proofs.Common.{◌≡◌, ℕ, List, sym, refl, subst, inl, inr, arith}
use Rattle.std.proofs.lemmas.Bool.Decides.{nat_tests}
use Rattle.ecma262.specs.Units.{utf16}
use Rattle.ecma262.specs.Laws.{UniqueName}
use Rattle.ecma262.specs.Literals.{NotAhead}
use Rattle.ecma262.specs.Names.{NameStart, NamePart, GoesOn, NameCharacter, NameParts, IdentifierName}
use Rattle.ecma262.specs.Read.Got.{got}
use Rattle.ecma262.proofs.Values.{escapes}

-- a code point is known by its units

from_units : (c d : ℕ) → utf16 c ≡ utf16 d → c ≡ d
from_units c d e = grind (arith, nat_tests)

-- no backslash is allowed as it stands

no_backslash : NamePart 0x5C → ⊥
no_backslash h = omega arith

module _ (P Q : ℕ → Type 0) (no-p : P 0x5C → ⊥) (no-q : Q 0x5C → ⊥) where
  same-character : {s r t : List ℕ} {c d : ℕ} → NameCharacter P s r c → NameCharacter Q s t d → (r ≡ t) × (c ≡ d)
  same-character (NameCharacter.raw a) (NameCharacter.raw b) = (refl, refl)
  same-character (NameCharacter.raw a) (NameCharacter.escape e b) = absurd (no-p a)
  same-character (NameCharacter.escape e a) (NameCharacter.raw b) = absurd (no-q b)
  same-character {r = r} {t = t} {c = c} {d = d} (NameCharacter.escape e a) (NameCharacter.escape f b) =
      let i = escapes e in
      let j = escapes f in
      let k : got r (utf16 c) ≡ got t (utf16 d) = cc in
      let l : utf16 c ≡ utf16 d = cc in
      (cc, from_units c d l)

goes_on : {s r : List ℕ} {c : ℕ} → NotAhead GoesOn s → NameCharacter NamePart s r c → ⊥
goes_on n (NameCharacter.raw a) = n (inl a)
goes_on n (NameCharacter.escape e a) = n (inr refl)

same_parts : {s r t u v : List ℕ} → NameParts s r u → NameParts s t v → (r ≡ t) × (u ≡ v)
same_parts (NameParts.end n) (NameParts.end m) = (refl, refl)
same_parts (NameParts.end n) (NameParts.more d ds) = absurd (goes_on n d)
same_parts (NameParts.more c cs) (NameParts.end m) = absurd (goes_on m c)
same_parts {t = t} (NameParts.more c cs) (NameParts.more {cs = v} d ds) =
    let p = same-character NamePart NamePart no_backslash no_backslash c d in
    let q = same_parts cs (subst (λ s. NameParts s t v) (sym p.0) ds) in
    (q.0, cc)

no_start : NameStart 0x5C → ⊥
no_start h = omega arith

pub unique_name : UniqueName
unique_name s r t u v a b = go a b
  where
    go : {s r t u v : List ℕ} → IdentifierName s r u → IdentifierName s t v → (r ≡ t) × (u ≡ v)
    go {t = t} (IdentifierName.name c cs) (IdentifierName.name {cs = w} d ds) =
        let p = same-character NameStart NameStart no_start no_start c d in
        let q = same_parts cs (subst (λ s. NameParts s t w) (sym p.0) ds) in
        (q.0, cc)
