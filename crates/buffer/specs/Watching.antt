-- What a line watch has counted, and notes of what was appended.
use Rattle.std.specs.Prelude.{◌≡◌, ℕ, min, List, length}
use Rattle.buffer.specs.declared.code_buffer.CodeBuffer.{Ghosts}
use Rattle.buffer.specs.declared.line_watch.LineWatch.{LineWatch}
use Rattle.buffer.specs.declared.tally.Tally.{Tally}
use Rattle.buffer.specs.Tally.{tally, tally_of}

-- its two counts, which are never more than is held
abbrev pub counts : {S : Type 0} → Ghosts S → LineWatch S → Tally
counts m w = tally_of (min w.tally.line_feeds (length (m.bytes w.below))) (min w.tally.column (length (m.bytes w.below)))

-- between two states it counted these bytes, and the buffer below noted them
pub record Watched {S : Type 0} (m : Ghosts S) (entry exit : LineWatch S) (text : List ℕ) : Type 0 where
  pub counts_what_was_appended : counts m exit ≡ tally (counts m entry) text
  pub noted_below : m.noted entry.below exit.below text
