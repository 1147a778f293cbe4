-- The line feeds of a text, and the bytes since the last of them.
use Rattle.std.specs.Prelude.{◌≡◌, ℕ, ◌+◌, List, ◌++◌, length, ◌==◌, if◌then◌else◌, fold, count_by}
use Rattle.std.specs.List.{after_last}
use Rattle.buffer.specs.declared.tally.Tally.{Tally}

abbrev pub tally_of : ℕ → ℕ → Tally
tally_of lines column = record { line_feeds = lines; column = column }

abbrev pub nothing_yet : Tally
nothing_yet = tally_of 0 0

-- the tally after one more byte; 10 is the line feed
abbrev pub stepped : Tally → ℕ → Tally
stepped t b = if b == 10 then tally_of (t.line_feeds + 1) 0 else tally_of t.line_feeds (t.column + 1)

-- the tally after some more bytes
abbrev pub tally : Tally → List ℕ → Tally
tally t text = fold stepped t text

-- the same counts, each by itself

abbrev pub line_feeds_in : List ℕ → ℕ
line_feeds_in text = count_by (λ b. b == 10) text

-- the bytes after the last line feed, or all of them where there is none
abbrev pub after_last_line_feed : List ℕ → List ℕ
after_last_line_feed text = after_last (λ b. b == 10) text

-- texts one after the other are tallied as one text, and from nothing the tally is the plain counts
pub record TallyIsPlainCounts : Type 0 where
  pub over_joined_texts : (t : Tally) (first second : List ℕ) → tally (tally t first) second ≡ tally t (first ++ second)
  pub line_feeds_are_all : (text : List ℕ) → (tally nothing_yet text).line_feeds ≡ line_feeds_in text
  pub column_is_since_the_last : (text : List ℕ) → (tally nothing_yet text).column ≡ length (after_last_line_feed text)
