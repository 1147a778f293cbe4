-- That what each kind of code buffer notes goes on over texts: the proofs that the ghost member `notes` of its impl holds.
use Rattle.std.specs.Prelude.{refl}
use Rattle.std.proofs.Common.{sym, ap, ◌∙◌}
use Rattle.std.proofs.lemmas.List.Sums.{fold-append}
use Rattle.buffer.specs.declared.code_buffer.CodeBuffer.{Ghosts}
use Rattle.buffer.specs.Laws.{Noting}
use Rattle.buffer.specs.Tally.{tally, stepped}
use Rattle.buffer.specs.Watching.{counts, Watched}

pub notes_nothing : {S : Type 0} → Noting {S = S} (λ a b s. Unit {0})
notes_nothing = record { nothing = λ b. tt; joined = λ a b c s t first second. tt }

pub watch_notes : {S : Type 0} (m : Ghosts S) → Noting (Watched m)
watch_notes m = record {
  nothing = λ b. record { counts_what_was_appended = refl; noted_below = m.notes.nothing b.below };
  joined = λ a b c s t first second. record {
    counts_what_was_appended = second.counts_what_was_appended ∙ ap (λ n. tally n t) first.counts_what_was_appended ∙ sym (fold-append stepped (counts m a) s t);
    noted_below = m.notes.joined a.below b.below c.below s t first.noted_below second.noted_below;
  };
}
