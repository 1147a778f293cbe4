-- What printing a text means to a code buffer that holds some bytes under a limit.
use Rattle.std.specs.Prelude.{ℕ, ◌+◌, Bool, cond, List, [], ◌++◌, length, Ok, Err, Result, nat_le}
use Rattle.buffer.specs.declared.code_buffer.BufferFault.{BufferFault}
use Rattle.buffer.specs.declared.code_buffer.BufferFault.TheVariants.{Full}

-- how many bytes are held after some more, or the fault where that passes the limit
abbrev pub count_after : ℕ → ℕ → ℕ → Result ℕ BufferFault
count_after held more limit = cond (nat_le (held + more) limit) (Ok (held + more)) (Err (Full (held + more)))

-- how many bytes would be held after the print
abbrev pub needed : List ℕ → List ℕ → ℕ
needed held text = length held + length text

abbrev pub has_room : List ℕ → ℕ → List ℕ → Bool
has_room held limit text = nat_le (needed held text) limit

-- the part of the text that is appended: all of it or nothing
abbrev pub accepted : List ℕ → ℕ → List ℕ → List ℕ
accepted held limit text = cond (has_room held limit text) text []

-- the bytes that are held after the print
abbrev pub printed : List ℕ → ℕ → List ℕ → List ℕ
printed held limit text = cond (has_room held limit text) (held ++ text) held

-- the print's answer
abbrev pub print_answer : List ℕ → ℕ → List ℕ → Result Unit BufferFault
print_answer held limit text = cond (has_room held limit text) (Ok tt) (Err (Full (needed held text)))
