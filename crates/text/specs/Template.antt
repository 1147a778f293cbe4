-- How many bytes the template character at the front of some bytes has, where there is one. A byte above 7F counts as a character of its own.
use Rattle.std.specs.Prelude.{ℕ, ◌+◌, ◌*◌, Bool, cond, ◌&&◌, ◌||◌, List, [], ◌∷◌, length, take, drop, Some, None, Option, ◌==◌, nat_le, slice_index}
use Rattle.std.specs.Char.{is_ascii_hexdigit}
use Rattle.std.specs.List.{list_all}
use Rattle.ecma262.specs.Lookahead.{digit}
use Rattle.ecma262.specs.Read.{hex_value}

-- the bytes begin with n HexDigits
unfoldable pub begins_with_hex : ℕ → List ℕ → Bool
begins_with_hex n bytes = nat_le n (length bytes) && list_all is_ascii_hexdigit (take n bytes)

abbrev pub with_digit : Option ℕ → (ℕ → Option ℕ) → Option ℕ
with_digit None next = None
with_digit (Some v) next = next v

-- where the brace ends that closes the digits of a code point; sofar is the value of those before the place at
abbrev pub closes : ℕ → ℕ → List ℕ → Option ℕ
closes at sofar [] = None
closes at sofar (b ∷ bytes) =
    cond (b == 0x7D) (Some (at + 1))
    (with_digit (hex_value b) (λ v. cond (nat_le (sofar * 16 + v) 0x10FFFF) (closes (at + 1) (sofar * 16 + v) bytes) None))

-- \u{ with at least one digit
abbrev pub braced_length : List ℕ → Option ℕ
braced_length bytes = cond (slice_index bytes 3 == 0x7D) None (closes 3 0 (drop 3 bytes))

-- \u
abbrev pub unicode_length : List ℕ → Option ℕ
unicode_length bytes =
    cond (slice_index bytes 2 == 0x7B) (braced_length bytes)
    (cond (begins_with_hex 4 (drop 2 bytes)) (Some 6) None)

-- a backslash with what stands behind it
abbrev pub escape_length : List ℕ → Option ℕ
escape_length bytes =
    cond (nat_le (length bytes) 1) None
    (cond (slice_index bytes 1 == 0x78) (cond (begins_with_hex 2 (drop 2 bytes)) (Some 4) None)
    (cond (slice_index bytes 1 == 0x75) (unicode_length bytes)
    (cond (slice_index bytes 1 == 0x30) (cond (digit (slice_index bytes 2)) None (Some 2)) (cond (digit (slice_index bytes 1)) None (Some 2)))))

-- what begins with a backslash, no character at a backtick or at a dollar sign before a brace, and one byte of anything else
abbrev pub character_length : List ℕ → Option ℕ
character_length bytes =
    cond (length bytes == 0) None
    (cond (slice_index bytes 0 == 0x5C) (escape_length bytes)
    (cond (slice_index bytes 0 == 0x60 || slice_index bytes 0 == 0x24 && slice_index bytes 1 == 0x7B) None (Some 1)))
