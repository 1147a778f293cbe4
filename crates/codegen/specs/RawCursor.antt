-- The raw printer's place in a text: what is still to be printed, and what a turn leaves of it.
use Rattle.std.specs.Prelude.{◌≡◌, ℕ, ◌<◌, ◌≤◌, List, [], ◌++◌, length, drop, Some, None, Option}
use Rattle.codegen.specs.declared.raw_state.RawState.{RawState}
use Rattle.codegen.specs.declared.raw_turn.RawTurn.{RawTurn}
use Rattle.codegen.specs.RawTurns.{raw_body, raw_takes, raw_puts}

-- the bytes that are printed of what is ahead
abbrev pub raw_ahead : RawState → List ℕ
raw_ahead s = raw_body s.style s.odd s.rest.now

-- A turn was taken: what was to be printed is what the turn puts there, and then what is to be printed now.
pub record RawTaken (from to : RawState) (turn : RawTurn) : Type 0 where
  pub more : 0 < raw_takes turn
  pub within : raw_takes turn ≤ length from.rest.now
  pub rest : to.rest.now ≡ drop (raw_takes turn) from.rest.now
  pub shown : raw_ahead from ≡ raw_puts to.style.mode from.rest.now turn ++ raw_ahead to

-- the same, or nothing was left to be printed
abbrev pub RawWalked : RawState → RawState → Option RawTurn → Type 0
RawWalked from to (Some turn) = RawTaken from to turn
RawWalked from to None = raw_ahead from ≡ []
