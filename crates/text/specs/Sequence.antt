-- The sequence that bytes begin with, the place of the first breach, the surrogate flag and the code points, by computation.
use Rattle.std.specs.Prelude.{ℕ, zero, suc, ◌+◌, ◌-◌, ◌*◌, ◌%◌, Bool, false, cond, ◌&&◌, ◌||◌, List, [], ◌∷◌, Some, None, Option, ◌==◌, nat_le, nat_lt, slice_index}
use Rattle.text.specs.declared.well_formed.Encoding.{Encoding}
use Rattle.text.specs.declared.well_formed.Encoding.TheVariants.{Wtf8, Utf8}

abbrev pub is_lead : ℕ → Bool
is_lead c = nat_le 0xD800 c && nat_le c 0xDBFF

abbrev pub is_trail : ℕ → Bool
is_trail c = nat_le 0xDC00 c && nat_le c 0xDFFF

abbrev pub is_surrogate : ℕ → Bool
is_surrogate c = nat_le 0xD800 c && nat_le c 0xDFFF

-- the code point c may not stand behind the code point before
abbrev pub bars : Encoding → ℕ → ℕ → Bool
bars Wtf8 before c = is_lead before && is_trail c
bars Utf8 before c = is_surrogate c

-- how many bytes a sequence has that begins with b, if one does
abbrev pub seq_len : ℕ → Option ℕ
seq_len b =
    cond (nat_lt b 0x80) (Some 1)
    (cond (nat_lt b 0xC0) None (cond (nat_lt b 0xE0) (Some 2) (cond (nat_lt b 0xF0) (Some 3) (cond (nat_lt b 0xF8) (Some 4) None))))

-- a byte that goes on with a sequence
abbrev pub goes : ℕ → Bool
goes b = nat_le 0x80 b && nat_le b 0xBF

-- the code point c of n bytes, if the bytes go on and c is not too low for n bytes or too high
abbrev pub held : Bool → ℕ → ℕ → ℕ → ℕ × ℕ
held all low c n = cond (all && nat_le low c && nat_le c 0x10FFFF) (c, n) (0, 0)

-- the sequence of the bytes a, b, c, d: its code point and its length, (0, 0) where there is none
abbrev pub code : ℕ → ℕ → ℕ → ℕ → ℕ × ℕ
code a b c d =
    cond (nat_lt a 0x80) (a, 1)
    (cond (nat_lt a 0xC0) (0, 0)
    (cond (nat_lt a 0xE0) (held (goes b) 0x80 (a % 0x20 * 0x40 + b % 0x40) 2)
    (cond (nat_lt a 0xF0) (held (goes b && goes c) 0x800 (a % 0x10 * 0x1000 + b % 0x40 * 0x40 + c % 0x40) 3)
    (cond (nat_lt a 0xF8) (held (goes b && goes c && goes d) 0x10000 (a % 8 * 0x40000 + b % 0x40 * 0x1000 + c % 0x40 * 0x40 + d % 0x40) 4)
    (0, 0)))))

-- the sequence that bytes begin with; behind their end stand zeros, which go on with none
unfoldable pub sequence : List ℕ → ℕ × ℕ
sequence [] = (0, 0)
sequence (a ∷ bytes) = code a (slice_index bytes 0) (slice_index bytes 1) (slice_index bytes 2)

-- the first breach behind the code point before, when skip bytes of its sequence are still to be passed; the list begins at the place at
abbrev pub walk : Encoding → ℕ → ℕ → ℕ → List ℕ → Option ℕ
walk encoding skip before at [] = None
walk encoding (suc skip) before at (b ∷ bytes) = walk encoding skip before (at + 1) bytes
walk encoding zero before at (b ∷ bytes) =
    cond ((sequence (b ∷ bytes)).1 == 0 || bars encoding before (sequence (b ∷ bytes)).0) (Some at)
    (walk encoding ((sequence (b ∷ bytes)).1 - 1) (sequence (b ∷ bytes)).0 (at + 1) bytes)

abbrev pub breach : Encoding → List ℕ → Option ℕ
breach encoding bytes = walk encoding 0 0 0 bytes

-- some ED is followed by A0 to BF; before is the byte in front
abbrev pub marked : ℕ → List ℕ → Bool
marked before [] = false
marked before (b ∷ bytes) = before == 0xED && nat_le 0xA0 b && nat_le b 0xBF || marked b bytes

abbrev pub surrogates : List ℕ → Bool
surrogates [] = false
surrogates (c ∷ cs) = is_surrogate c || surrogates cs

-- Well-formed bytes as code points. Of a character that is read in part, sofar has its bits so far, and left counts the bytes to come.
abbrev pub points : ℕ → ℕ → List ℕ → List ℕ
points sofar left [] = []
points sofar zero (b ∷ bytes) =
    cond (nat_lt b 0x80) (b ∷ points 0 0 bytes)
    (cond (nat_lt b 0xE0) (points (b - 0xC0) 1 bytes) (cond (nat_lt b 0xF0) (points (b - 0xE0) 2 bytes) (points (b - 0xF0) 3 bytes)))
points sofar (suc zero) (b ∷ bytes) = (sofar * 0x40 + (b - 0x80)) ∷ points 0 0 bytes
points sofar (suc (suc left)) (b ∷ bytes) = points (sofar * 0x40 + (b - 0x80)) (suc left) bytes

abbrev pub code_points : List ℕ → List ℕ
code_points bytes = points 0 0 bytes
