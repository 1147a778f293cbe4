-- Template text: text that is all TemplateCharacters (ECMA-262, 12.9.6), and the place of the first breach in other text.
use Rattle.std.specs.Prelude.{◌≡◌, ℕ, zero, suc, ◌+◌, ◌-◌, ◌≢◌, List, [], ◌∷◌, ◌++◌, length, Some, None, Option}
use Rattle.std.proofs.Math.Utf8.{encodes}
use Rattle.std.specs.Char.{len_utf8}
use Rattle.ecma262.specs.Literals.{TemplateCharacter, Characters}
use Rattle.ecma262.specs.Read.{Got, template_character}
use Rattle.ecma262.specs.Read.Got.{nothing, got}
use Rattle.ecma262.specs.declared.Quote.TheVariants.{Backtick}

-- text without a breach: TemplateCharacters up to its end, of some TV
abbrev pub TemplateText : List ℕ → Type 0
TemplateText text = (u : List ℕ) × Characters Backtick text [] u

-- text of which a part is read, and then no TemplateCharacter can be; place is where that is, in bytes of UTF-8
pub record TemplateBreach (text : List ℕ) (place : ℕ) : Type 0 where
  pub good : List ℕ
  pub rest : List ℕ
  pub tv : List ℕ
  pub parts : text ≡ good ++ rest
  pub readable : Characters Backtick text rest tv
  pub some_rest : rest ≢ []
  pub no_character : (r u : List ℕ) → TemplateCharacter rest r u → ⊥
  pub in_bytes : place ≡ length (encodes good)

-- how many bytes of UTF-8 a text has
abbrev pub bytes : List ℕ → ℕ
bytes [] = 0
bytes (c ∷ s) = len_utf8 c + bytes s

-- the text s itself, or what is done with what follows a character that was read at its front
abbrev pub onward : Got → List ℕ → (List ℕ → List ℕ) → List ℕ
onward nothing s f = s
onward (got rest u) s f = f rest

-- what is left of s where no TemplateCharacter can be read; fuel bounds how many are read before
abbrev pub unread : ℕ → List ℕ → List ℕ
unread zero s = s
unread (suc fuel) s = onward (template_character s) s (unread fuel)

-- the place at which rest stands in a text of total bytes, unless rest is empty
abbrev pub place_of : ℕ → List ℕ → Option ℕ
place_of total [] = None
place_of total (c ∷ rest) = Some (total - bytes (c ∷ rest))

-- the place of the first breach in s, which stands at the place at
abbrev pub breach_from : ℕ → List ℕ → Option ℕ
breach_from at s = place_of (at + bytes s) (unread (length s) s)

-- the place of the first breach in a text, if it has one
abbrev pub template_breach : List ℕ → Option ℕ
template_breach text = breach_from 0 text
