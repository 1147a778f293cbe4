-- The printer's cursor: what is still pending, and what each of its steps keeps.
use Rattle.std.specs.Prelude.{◌≡◌, ℕ, Bool, true, List, ◌++◌, drop, Some}
use Rattle.std.specs.List.{between}
use Rattle.ecma262.specs.declared.Quote.{Quote}
use Rattle.buffer.specs.declared.code_buffer.CodeBuffer.{Ghosts}
use Rattle.buffer.specs.Printing.{Appends}
use Rattle.codegen.specs.declared.state.PrintStringState.{PrintStringState}
use Rattle.codegen.specs.declared.turn.Turn.{Turn}
use Rattle.codegen.specs.Strings.{settled, opening}
use Rattle.codegen.specs.Room.{HasRoom}
use Rattle.codegen.specs.Turns.{body, Turned, decides_at}

-- the text behind the cursor
abbrev pub ahead : PrintStringState → List ℕ
ahead s = drop s.at s.literal.now.bytes.now

abbrev pub quote_of : PrintStringState → Quote
quote_of s = settled s.quote s.literal.now.allow_backtick (ahead s)

-- the chunk up to a place
abbrev pub chunk : PrintStringState → ℕ → List ℕ
chunk s end = between s.chunk_start end s.literal.now.bytes.now

-- what is still to be printed up to the closing quote, in quotes q
abbrev pub pending : Quote → PrintStringState → List ℕ
pending q s = opening s.quote q ++ (chunk s s.at ++ body q s.literal.now.escaping.ascii_only (ahead s))

-- there is room for what is pending
abbrev pub Room : {B : Type 0} → Ghosts B → B → PrintStringState → Type 0
Room m code s = HasRoom m code (pending (quote_of s) s)

-- The cursor goes on with its quote settled, its chunk beginning at one place, and itself at another.
pub record GoesOn (start place : ℕ) (from to : PrintStringState) : Type 0 where
  pub literal : to.literal ≡ from.literal
  pub chunk_start : to.chunk_start ≡ start
  pub at : to.at ≡ place
  pub quote : to.quote ≡ Some (quote_of from)

-- whether the quote decides what is printed next
abbrev pub quote_decides : PrintStringState → Bool
quote_decides s = decides_at s.literal.now.escaping.ascii_only s.literal.now.escaping.lone s.literal.now.bytes.now s.at

-- Where it does, it is settled.
abbrev pub Known : PrintStringState → Type 0
Known s = quote_decides s ≡ true → s.quote ≡ Some (quote_of s)

-- a right turn at the cursor
abbrev pub TurnedHere : PrintStringState → Turn → Type 0
TurnedHere s = Turned (quote_of s) s.literal.now.escaping.ascii_only s.literal.now.escaping.lone (ahead s)

-- Steps from one cursor and buffer to others: what they printed, and then what is pending, is what was pending.
pub record Advanced {B : Type 0} (m : Ghosts B) (from to : PrintStringState) (entry exit : B) : Type 0 where
  pub text : List ℕ
  pub appends : Appends m entry exit text
  pub total : text ++ pending (quote_of from) to ≡ pending (quote_of from) from
  pub same_literal : to.literal ≡ from.literal
  pub same_quote : quote_of to ≡ quote_of from
