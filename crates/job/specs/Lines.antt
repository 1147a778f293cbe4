-- Where lines and words end.
use Rattle.std.specs.Prelude.{◌≡◌, ℕ, Bool, true, cond, not, ◌||◌, List, [], ◌∷◌, drop, filter, find, length, Option, ◌==◌}
use Rattle.std.specs.Borrow.{Bor}
use Rattle.std.specs.Fn.{Shared, AnyResult}
use Rattle.std.specs.List.{slice_split, onto_first, position_or_len, before_first, after_first}
use Rattle.std.specs.Option.{option_map_or}

-- a space or a tab
abbrev pub blank : ℕ → Bool
blank b = b == 32 || b == 9

-- each call of f answers whether the byte passes the test
abbrev pub TestsBy : {F : Type 0} → Shared F (Bor ℕ × Unit {0}) Bool → (ℕ → Bool) → F → Type 0
TestsBy g test f = (b : Bor ℕ) → AnyResult g f (b, tt) (λ passes. passes ≡ test b.now)

-- what stands from the first byte on that passes the test, or nothing where none does
abbrev pub from_first : (ℕ → Bool) → List ℕ → List ℕ
from_first test text = drop (position_or_len test text) text

-- the text up to the first blank, and what follows behind that blank
abbrev pub word : List ℕ → List ℕ
word text = before_first blank text

abbrev pub behind : List ℕ → List ℕ
behind text = after_first blank text

-- the first byte that is no blank
abbrev pub first_ink : List ℕ → Option ℕ
first_ink line = find (λ b. not (blank b)) line

-- whether a line is blank or a comment: 35 is '#'
abbrev pub ignored : List ℕ → Bool
ignored line = option_map_or (λ b. b == 35) (first_ink line) true

-- the lines of a text: each ends at a line feed, 10, and the last perhaps at the end
abbrev pub lines : List ℕ → List (List ℕ)
lines [] = []
lines (b ∷ rest) = cond (b == 10) ([] ∷ lines rest) (onto_first b (lines rest))

-- the words of a line, with blanks between them
abbrev pub words : List ℕ → List (List ℕ)
words line = filter (λ w. not (length w == 0)) (slice_split blank line)
