-- The class of a byte, and the escapes that a class leads to.
use Rattle.std.specs.Prelude.{ℕ, Bool, true, false, cond, ◌&&◌, ◌||◌, List, map, Some, None, Option, ◌==◌, nat_le, nat_lt}
use Rattle.std.specs.List.{range_with_len}
use Rattle.literal.specs.declared.EscapeSequence.{EscapeSequence}
use Rattle.literal.specs.declared.EscapeSequence.TheVariants.{Null, Character, Hex, Unicode, CodePoint}
use Rattle.literal.specs.declared.HexCase.TheVariants.{Lower, Upper}
use Rattle.ecma262.specs.declared.Quote.{Quote}
use Rattle.ecma262.specs.Lookahead.{digit}
use Rattle.literal.specs.Escapes.{is_backtick}
use Rattle.ecma262.specs.Units.{mark}
use Rattle.text.specs.Sequence.{is_surrogate}
use Rattle.codegen.specs.declared.escape.Escape.{Escape}
use Rattle.codegen.specs.declared.escape.Escape.TheVariants.{No, NU, BE, BK, VT, FF, NL, CR, ES, BS, SQ, DQ, BQ, DO, LT, LS, NB, SU, UC}

-- the class in a text without surrogates
abbrev pub class_of : ℕ → Escape
class_of b =
    cond (b == 0x00) NU (cond (b == 0x07) BE (cond (b == 0x08) BK (cond (b == 0x0A) NL (cond (b == 0x0B) VT (cond (b == 0x0C) FF (cond (b == 0x0D) CR
    (cond (b == 0x1B) ES (cond (b == 0x22) DQ (cond (b == 0x24) DO (cond (b == 0x27) SQ (cond (b == 0x3C) LT (cond (b == 0x5C) BS (cond (b == 0x60) BQ
    (cond (b == 0xC2) NB (cond (b == 0xE2) LS No)))))))))))))))

-- the class in the table that is used under ascii_only, or for a text with a lone surrogate
abbrev pub class_in : Bool → Bool → ℕ → Escape
class_in ascii lone b = cond (b == 0xED && (ascii || lone)) SU (cond (ascii && nat_le 0xC0 b) UC (class_of b))

-- that table, entry by entry
abbrev pub table_of : Bool → Bool → List Escape
table_of ascii lone = map (class_in ascii lone) (range_with_len 0 256)

-- a table that was made, or else the one of texts without surrogates
abbrev pub table_or : Option (List Escape) → List Escape
table_or (Some table) = table
table_or None = table_of false false

-- what an ASCII character of a class is escaped by, before the byte next (0 at the end)
abbrev pub short_of : Quote → Escape → ℕ → Option EscapeSequence
short_of q No next = None
short_of q NU next = cond (digit next) (Some Hex) (Some Null)
short_of q BE next = Some Hex
short_of q BK next = Some (Character 0x62)
short_of q VT next = Some (Character 0x76)
short_of q FF next = Some (Character 0x66)
short_of q NL next = cond (is_backtick q) None (Some (Character 0x6E))
short_of q CR next = Some (Character 0x72)
short_of q ES next = Some Hex
short_of q BS next = Some (Character 0x5C)
short_of q SQ next = cond (mark q == 0x27) (Some (Character 0x27)) None
short_of q DQ next = cond (mark q == 0x22) (Some (Character 0x22)) None
short_of q BQ next = cond (is_backtick q) (Some (Character 0x60)) None
short_of q DO next = cond (is_backtick q && next == 0x7B) (Some (Character 0x24)) None
short_of q LT next = None
short_of q LS next = None
short_of q NB next = None
short_of q SU next = None
short_of q UC next = None

-- what a character above 7F is escaped by
abbrev pub wide_of : Bool → ℕ → Option EscapeSequence
wide_of ascii c =
    cond (is_surrogate c) (Some (Unicode Lower))
    (cond ascii (cond (nat_lt c 0x10000) (Some (Unicode Upper)) (Some CodePoint))
    (cond (c == 0xA0) (Some Hex) (cond (c == 0x2028 || c == 0x2029) (Some (Unicode Upper)) None)))

-- the quote in use decides whether a character of a class is escaped, before the byte next
abbrev pub decides : Escape → ℕ → Bool
decides No next = false
decides NU next = false
decides BE next = false
decides BK next = false
decides VT next = false
decides FF next = false
decides NL next = true
decides CR next = false
decides ES next = false
decides BS next = false
decides SQ next = true
decides DQ next = true
decides BQ next = true
decides DO next = next == 0x7B
decides LT next = false
decides LS next = false
decides NB next = false
decides SU next = false
decides UC next = false
