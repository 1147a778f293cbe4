-- The theorems.
use Rattle.std.specs.Prelude.{◌≡◌, ℕ, true, ◌||◌, ◌≢◌, List, [], ◌∷◌, ◌++◌, Some, None, nat_eq}
use Rattle.ecma262.specs.Units.{Text, mark}
use Rattle.ecma262.specs.Lookahead.{opens}
use Rattle.ecma262.specs.Literals.{NotAhead, Character, Characters, Literal}
use Rattle.ecma262.specs.Read.{character, whole}
use Rattle.ecma262.specs.Read.Got.{got}
use Rattle.ecma262.specs.Template.{TemplateText, TemplateBreach, template_breach}
use Rattle.ecma262.specs.Names.{IdentifierName}
use Rattle.ecma262.specs.declared.Quote.{Quote}
use Rattle.ecma262.specs.declared.Quote.TheVariants.{Backtick}

-- At the front of a text there is at most one literal between quotes q, with one end and one value.
abbrev pub Unique : Type 0
Unique = (q : Quote) (s r t u v : List ℕ) → Literal q s r u → Literal q s t v → (r ≡ t) × (u ≡ v)

-- The function `character` reads exactly the characters of the grammar, with their values.
abbrev pub Readable : Type 0
Readable =
    (q : Quote) (s rest u : List ℕ) → Text s →
    (Character q s rest u → character q s ≡ got rest u) × (character q s ≡ got rest u → Character q s rest u)

-- The function `whole` reads exactly the literals of the grammar, with their values.
abbrev pub WholeReadable : Type 0
WholeReadable =
    (q : Quote) (s rest u : List ℕ) → Text s →
    (Literal q s rest u → whole q s ≡ got rest u) × (whole q s ≡ got rest u → Literal q s rest u)

-- Template text stays what it is, with its value, where a backtick or a dollar sign follows it, or nothing.
abbrev pub Followed : Type 0
Followed =
    (text rest u : List ℕ) → NotAhead (λ c. (c ≢ 0x60) × (c ≢ 0x24)) rest → Characters Backtick text [] u →
    Characters Backtick (text ++ rest) rest u

-- What stands between quotes q stays what it is, with its value, where the closing quote follows it.
abbrev pub Closed : Type 0
Closed = (q : Quote) (text rest u : List ℕ) → Characters q text [] u → Characters q (text ++ (mark q ∷ rest)) (mark q ∷ rest) u

-- Text has no breach exactly if it is template text.
abbrev pub Unbroken : Type 0
Unbroken = (text : List ℕ) → Text text → (template_breach text ≡ None → TemplateText text) × (TemplateText text → template_breach text ≡ None)

-- The place is that of the first breach, where the longest readable beginning ends, and of nothing else.
abbrev pub BrokenAt : Type 0
BrokenAt =
    (text : List ℕ) (place : ℕ) → Text text →
    (template_breach text ≡ Some place → TemplateBreach text place) × (TemplateBreach text place → template_breach text ≡ Some place)

-- At a breach stands a backtick, a dollar sign before a brace, or a backslash.
abbrev pub BrokenBy : Type 0
BrokenBy =
    (text : List ℕ) (place : ℕ) → Text text → (breach : TemplateBreach text place) →
    opens (nat_eq 0x60 ∷ []) breach.rest || opens (nat_eq 0x24 ∷ nat_eq 0x7B ∷ []) breach.rest || opens (nat_eq 0x5C ∷ []) breach.rest ≡ true

-- At the front of a text there is at most one name, with one end and its code points.
abbrev pub UniqueName : Type 0
UniqueName = (s r t u v : List ℕ) → IdentifierName s r u → IdentifierName s t v → (r ≡ t) × (u ≡ v)
