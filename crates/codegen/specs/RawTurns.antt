-- A turn of the raw printer: what it takes of the text, and what it prints.
use Rattle.std.specs.Prelude.{◌≡◌, ℕ, ◌<◌, ◌≤◌, Bool, false, not, ◌&&◌, ◌||◌, List, [], ◌∷◌, ◌++◌, length, take, drop, ◌==◌, nat_le, slice_index}
use Rattle.std.proofs.Math.Utf8.{encodes}
use Rattle.literal.specs.declared.NonAsciiEscape.{NonAsciiEscape}
use Rattle.literal.specs.Raw.{odd_behind, loses_backslash, wide_escape}
use Rattle.literal.specs.RawWalk.{raw_walk}
use Rattle.text.specs.Sequence.{code_points}
use Rattle.codegen.specs.declared.raw_style.RawStyle.{RawStyle}
use Rattle.codegen.specs.declared.raw_turn.RawTurn.{RawTurn}
use Rattle.codegen.specs.declared.raw_turn.RawTurn.TheVariants.{Keep, Drop, Escaped, LineEnd, Tag}
use Rattle.codegen.specs.Turns.{Fit}

-- the last backslash of an odd run goes before the bytes next and then after (0 past the end)
abbrev pub goes_before : RawStyle → ℕ → ℕ → Bool
goes_before style next after = next == 0x24 && not (after == 0x7B) && style.dollars || nat_le 0x80 next && loses_backslash style.mode && style.ascii_only

-- how many bytes a turn takes
abbrev pub raw_takes : RawTurn → ℕ
raw_takes (Keep n) = n
raw_takes Drop = 1
raw_takes (Escaped c n) = n
raw_takes (LineEnd n) = n
raw_takes Tag = 2

-- what a turn prints in the place of what it takes; nothing where that is kept
abbrev pub raw_text : NonAsciiEscape → RawTurn → List ℕ
raw_text mode (Keep n) = []
raw_text mode Drop = []
raw_text mode (Escaped c n) = wide_escape mode c
raw_text mode (LineEnd n) = 0x5C ∷ 0x0A ∷ []
raw_text mode Tag = 0x3C ∷ 0x5C ∷ 0x2F ∷ []

-- the same, with what is kept of the text s
abbrev pub raw_puts : NonAsciiEscape → List ℕ → RawTurn → List ℕ
raw_puts mode s (Keep n) = take n s
raw_puts mode s Drop = raw_text mode Drop
raw_puts mode s (Escaped c n) = raw_text mode (Escaped c n)
raw_puts mode s (LineEnd n) = raw_text mode (LineEnd n)
raw_puts mode s Tag = raw_text mode Tag

-- how many bytes a turn prints
abbrev pub raw_size : NonAsciiEscape → RawTurn → ℕ
raw_size mode (Keep n) = n
raw_size mode Drop = 0
raw_size mode (Escaped c n) = length (wide_escape mode c)
raw_size mode (LineEnd n) = 2
raw_size mode Tag = 3

-- the bytes that are printed of s behind an odd run of backslashes, or not
unfoldable pub raw_body : RawStyle → Bool → List ℕ → List ℕ
raw_body style odd s = encodes (raw_walk style.dollars style.ascii_only style.mode style.tags odd 0 (code_points s))

-- whether an odd run of backslashes stands behind the first byte of s
abbrev pub odd_after : Bool → List ℕ → Bool
odd_after odd s = odd_behind odd (slice_index s 0)

-- a right turn at the front of s
pub record RawTurned (style : RawStyle) (odd : Bool) (s : List ℕ) (r : RawTurn) : Type 0 where
  pub more : 0 < raw_takes r
  pub within : raw_takes r ≤ length s
  pub fit : Fit false (drop (raw_takes r) s)
  pub shown : raw_body style odd s ≡ raw_puts style.mode s r ++ raw_body style (odd_after odd s) (drop (raw_takes r) s)
