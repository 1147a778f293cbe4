-- What is printed of a character by the escape that was picked for it, and what is known of that escape.
use Rattle.std.proofs.Common.{◌≡◌, ℕ, Bool, true, false, cond, List, [], ◌∷◌, Some, None, Option, refl, subst}
use Rattle.ecma262.specs.declared.Quote.{Quote}
use Rattle.literal.specs.declared.EscapeSequence.{EscapeSequence}
use Rattle.literal.specs.Escapes.{Rule, behind, first, pick, rules}
use Rattle.literal.specs.Escapes.Rule.{◌⇒◌}
use Rattle.literal.specs.Quiet.{quiet}
use Rattle.literal.proofs.Output.{quiet_rows}
use Rattle.literal.proofs.Rules.{Rows}

-- what is printed of c, by the escape that was picked
abbrev pub put : ℕ → Option EscapeSequence → List ℕ
put c None = c ∷ []
put c (Some e) = 0x5C ∷ behind c e

by_cond : (c : ℕ) (e : EscapeSequence) (s : List ℕ) (o : Option EscapeSequence) (b : Bool) → s ≡ put c o → cond b (0x5C ∷ behind c e) s ≡ put c (cond b (Some e) o)
by_cond c e s o true i = refl
by_cond c e s o false i = i

pub first-put : (c : ℕ) (rs : List Rule) → first c rs ≡ put c (pick rs)
first-put c [] = refl
first-put c ((b ⇒ e) ∷ rs) = by_cond c e (first c rs) (pick rs) b (first-put c rs)

some_row : (P : EscapeSequence → Type 0) (b : Bool) (d e : EscapeSequence) (o : Option EscapeSequence) → (b ≡ true → P d) → (o ≡ Some e → P e) → cond b (Some d) o ≡ Some e → P e
some_row P true d e o f g i = let k : d ≡ e = cc in subst P k (f refl)
some_row P false d e o f g i = g i

-- what holds of the rules' escapes holds of the one that is picked
pub pick_row : (P : EscapeSequence → Type 0) (rs : List Rule) → Rows P rs → (e : EscapeSequence) → pick rs ≡ Some e → P e
pick_row P [] rows e i = absurd (none_some e i)
  where
    none_some : (e : EscapeSequence) → ◌≡◌ {A = Option EscapeSequence} None (Some e) → ⊥
    none_some e i = cc
pick_row P ((b ⇒ d) ∷ rs) rows e i = some_row P b d e (pick rs) rows.0 (pick_row P rs rows.1 e) i

pub picked_quiet : (q : Quote) (ascii : Bool) (before c : ℕ) (cs : List ℕ) (e : EscapeSequence) → pick (rules q ascii before c cs) ≡ Some e → quiet e ≡ true
picked_quiet q ascii before c cs = pick_row (λ e. quiet e ≡ true) (rules q ascii before c cs) (quiet_rows q ascii before c cs)
