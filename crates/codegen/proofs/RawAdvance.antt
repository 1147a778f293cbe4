-- Printing raw text turn by turn: what was printed, the chunk that is still to be flushed, and what is ahead.
use Rattle.std.proofs.Common.{◌≡◌, ℕ, ◌+◌, ◌≤◌, List, [], ◌++◌, length, take, drop, sym, refl, ap, ◌∙◌, subst, append_assoc, arith, length-append, length-drop, take-add}
use Rattle.std.proofs.lemmas.List.{drop-drop, append-nil}
use Rattle.literal.specs.declared.NonAsciiEscape.{NonAsciiEscape}
use Rattle.buffer.specs.declared.code_buffer.CodeBuffer.{Ghosts}
use Rattle.buffer.specs.Printing.{Appends}
use Rattle.buffer.proofs.Printing.{appends_join, appends-nothing, appended_length}
use Rattle.codegen.specs.declared.raw_state.RawState.{RawState}
use Rattle.codegen.specs.declared.raw_turn.RawTurn.{RawTurn}
use Rattle.codegen.specs.declared.raw_turn.RawTurn.TheVariants.{Keep, Drop, Escaped, LineEnd, Tag}
use Rattle.codegen.specs.RawTurns.{raw_takes, raw_text, raw_puts}
use Rattle.codegen.specs.RawCursor.{raw_ahead, RawTaken}

-- a turn that keeps nothing prints its text
puts-text : (mode : NonAsciiEscape) (s : List ℕ) (r : RawTurn) → ((n : ℕ) → r ≡ Keep n → ⊥) → raw_puts mode s r ≡ raw_text mode r
puts-text mode s (Keep n) h = absurd (h n refl)
puts-text mode s Drop h = refl
puts-text mode s (Escaped c n) h = refl
puts-text mode s (LineEnd n) h = refl
puts-text mode s Tag h = refl

module _ {B : Type 0} (m : Ghosts B) (code : List ℕ) where
  -- The code is what was printed, the front of the chunk, and what is printed of what is ahead, which is the rest of the chunk.
  pub record Printed (chunk : List ℕ) (kept : ℕ) (state : RawState) (entry exit : B) : Type 0 where
    pub text : List ℕ
    pub appends : Appends m entry exit text
    pub total : text ++ (take kept chunk ++ raw_ahead state) ≡ code
    pub within : kept ≤ length chunk
    pub rest : state.rest.now ≡ drop kept chunk
    pub small : length chunk ≤ 16384

  pub begun : (s : RawState) (chunk : List ℕ) → s.rest.now ≡ chunk → length chunk ≤ 16384 → raw_ahead s ≡ code → (b : B) → Printed chunk 0 s b b
  begun s chunk e h c b = record { text = []; appends = appends-nothing m b; total = c; within = omega arith; rest = e; small = h }

  module _ {chunk : List ℕ} {kept : ℕ} {from : RawState} {a b : B} (p : Printed chunk kept from a b) where
    pub ahead_fits : length from.rest.now + kept ≡ length chunk
    ahead_fits = omega (arith, ap length p.rest, length-drop kept chunk, p.within)

    room_left : length (m.bytes a) + length code ≤ m.limit_of a → length (m.bytes b) + length (take kept chunk) + length (raw_ahead from) ≤ m.limit_of b
    room_left room =
        let n = appended_length m p.appends in
        let l = p.appends.limit_stays in
        let e = ap length (sym p.total) ∙ length-append p.text (take kept chunk ++ raw_ahead from) in
        let f = length-append (take kept chunk) (raw_ahead from) in
        omega arith

    pub chunk_room : length (m.bytes a) + length code ≤ m.limit_of a → length (m.bytes b) + length (take kept chunk) ≤ m.limit_of b
    chunk_room room = omega (arith, room_left room)

    pub kept_on : {to : RawState} (n : ℕ) → RawTaken from to (Keep n) → Printed chunk (kept + n) to a b
    kept_on {to} n t = record {
      text = p.text;
      appends = p.appends;
      total =
          ap (λ x. p.text ++ (x ++ raw_ahead to)) (take-add kept n chunk)
          ∙ ap (λ x. p.text ++ ((take kept chunk ++ take n x) ++ raw_ahead to)) (sym p.rest)
          ∙ ap (λ x. p.text ++ x) (append_assoc (take kept chunk) (take n from.rest.now) (raw_ahead to) ∙ ap (λ x. take kept chunk ++ x) (sym t.shown))
          ∙ p.total;
      within = let w = t.within in omega (arith, ahead_fits);
      rest = t.rest ∙ ap (drop n) p.rest ∙ drop-drop n kept chunk;
      small = p.small;
    }

    module _ {to : RawState} (r : RawTurn) (t : RawTaken from to r) (other : (n : ℕ) → r ≡ Keep n → ⊥) where
      shown : raw_ahead from ≡ raw_text to.style.mode r ++ raw_ahead to
      shown = t.shown ∙ ap (λ x. x ++ raw_ahead to) (puts-text to.style.mode from.rest.now r other)

      pub turn_room : {c : B} → length (m.bytes a) + length code ≤ m.limit_of a → Appends m b c (take kept chunk) →
          length (m.bytes c) + length (raw_text to.style.mode r) ≤ m.limit_of c
      turn_room {c} room q =
          let n = appended_length m q in
          let l = q.limit_stays in
          let e = ap length shown ∙ length-append (raw_text to.style.mode r) (raw_ahead to) in
          omega (arith, room_left room)

      pub printed_on : {c d : B} → Appends m b c (take kept chunk) → Appends m c d (raw_text to.style.mode r) → Printed to.rest.now 0 to a d
      printed_on {c} {d} q w = record {
        text = p.text ++ (take kept chunk ++ raw_text to.style.mode r);
        appends = appends_join m p.appends (appends_join m q w);
        total =
            append_assoc p.text (take kept chunk ++ raw_text to.style.mode r) (raw_ahead to)
            ∙ ap (λ x. p.text ++ x) (append_assoc (take kept chunk) (raw_text to.style.mode r) (raw_ahead to) ∙ ap (λ x. take kept chunk ++ x) (sym shown))
            ∙ p.total;
        within = omega arith;
        rest = refl;
        small = omega (arith, p.small, ahead_fits, ap length t.rest, length-drop (raw_takes r) from.rest.now);
      }

    -- at the end of the text the chunk is left
    pub flushed : {c : B} → raw_ahead from ≡ [] → Appends m b c (take kept chunk) → Appends m a c code
    flushed {c} e q =
        subst (Appends m a c) (ap (λ x. p.text ++ x) (sym (append-nil (take kept chunk)) ∙ ap (λ x. take kept chunk ++ x) (sym e)) ∙ p.total) (appends_join m p.appends q)
