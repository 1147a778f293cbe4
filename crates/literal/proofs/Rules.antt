-- What is printed of a character has a property, if each rule that applies gives it, and if the character has it where none applies.
use Rattle.std.proofs.Common.{◌≡◌, ℕ, Bool, true, false, ◌&&◌, List, [], ◌∷◌}
use Rattle.std.proofs.lemmas.Bool.{cond_both, and_parts}
use Rattle.literal.specs.declared.EscapeSequence.{EscapeSequence}
use Rattle.literal.specs.Escapes.{Rule, behind, first}
use Rattle.literal.specs.Escapes.Rule.{◌⇒◌}

-- P holds of the escape of each rule that applies
abbrev pub Rows : (EscapeSequence → Type 0) → List Rule → Type 0
Rows P [] = Unit {0}
Rows P ((applies ⇒ e) ∷ rs) = (applies ≡ true → P e) × Rows P rs

-- a test of the escapes that the rules name, whether they apply or not
abbrev pub pass : (EscapeSequence → Bool) → List Rule → Bool
pass f [] = true
pass f ((b ⇒ e) ∷ rs) = f e && pass f rs

pub rows_pass : (f : EscapeSequence → Bool) (rs : List Rule) → pass f rs ≡ true → Rows (λ e. f e ≡ true) rs
rows_pass f [] h = tt
rows_pass f ((b ⇒ e) ∷ rs) h = let p = and_parts (f e) _ h in (λ _. p.0, rows_pass f rs p.1)

-- a row, and the rows after it
infixr 4 ◌⊹◌
abbrev pub ◌⊹◌ : {A B : Type 0} → A → B → A × B
a ⊹ b = (a, b)

abbrev pub NoRule : List Rule → Type 0
NoRule [] = Unit {0}
NoRule ((applies ⇒ e) ∷ rs) = (applies ≡ false) × NoRule rs

pub by_rules : (P : List ℕ → Type 0) (Q : EscapeSequence → Type 0) (c : ℕ) (rs : List Rule) → Rows Q rs →
    ((e : EscapeSequence) → Q e → P (0x5C ∷ behind c e)) → (NoRule rs → P (c ∷ [])) → P (first c rs)
by_rules P Q c [] rows escape itself = itself tt
by_rules P Q c ((b ⇒ e) ∷ rs) rows escape itself =
    cond_both b (0x5C ∷ behind c e) (first c rs) P (λ t. escape e (rows.0 t))
    (λ f. by_rules P Q c rs rows.1 escape (λ none. itself (f, none)))

-- the same where it does not matter which rule applies
pub by_shape : (P : List ℕ → Type 0) (c : ℕ) (rs : List Rule) → ((e : EscapeSequence) → P (0x5C ∷ behind c e)) → P (c ∷ []) → P (first c rs)
by_shape P c [] escape itself = itself
by_shape P c ((b ⇒ e) ∷ rs) escape itself =
    cond_both b (0x5C ∷ behind c e) (first c rs) P (λ _. escape e) (λ _. by_shape P c rs escape itself)
