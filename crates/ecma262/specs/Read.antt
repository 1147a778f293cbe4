-- The grammar of specs/Literals as a function: of a text, what follows a character or a literal at its front, and its value.
-- It gives nothing where none can be read. Names are those of the standard's productions (12.9.4, 12.9.6).
use Rattle.std.specs.Prelude.{ℕ, zero, suc, ◌+◌, ◌-◌, ◌*◌, Bool, cond, ◌&&◌, ◌||◌, List, [], ◌∷◌, ◌++◌, length, drop, Some, None, Option, ◌==◌, nat_eq, nat_le}
use Rattle.ecma262.specs.Units.{mark, utf16}
use Rattle.ecma262.specs.Lookahead.{digit, opens}
use Rattle.ecma262.specs.declared.Quote.{Quote}
use Rattle.ecma262.specs.declared.Quote.TheVariants.{Single, Double, Backtick}

-- what was read: `got` what follows, and the value
pub data Got : Type 0 where
  nothing : Got
  got : List ℕ → List ℕ → Got

-- the MV of a HexDigit
abbrev pub hex_value : ℕ → Option ℕ
hex_value d =
    cond (nat_le 0x30 d && nat_le d 0x39) (Some (d - 0x30))
    (cond (nat_le 0x61 d && nat_le d 0x66) (Some (d - 0x57)) (cond (nat_le 0x41 d && nat_le d 0x46) (Some (d - 0x37)) None))

-- what is read with a number, if there is one
abbrev pub bind : Option ℕ → (ℕ → Got) → Got
bind None f = nothing
bind (Some x) f = f x

abbrev pub is_line_terminator : ℕ → Bool
is_line_terminator c = c == 0x0A || c == 0x0D || c == 0x2028 || c == 0x2029

-- the HexDigits of a CodePoint, and the brace that closes it, behind digits of the MV sofar
abbrev pub read_code_point : ℕ → List ℕ → Got
read_code_point sofar [] = nothing
read_code_point sofar (d ∷ s) =
    cond (d == 0x7D) (cond (nat_le sofar 0x10FFFF) (got s (utf16 sofar)) nothing) (bind (hex_value d) (λ v. read_code_point (sofar * 16 + v) s))

-- behind x
abbrev pub hex_escape : List ℕ → Got
hex_escape [] = nothing
hex_escape (a ∷ []) = nothing
hex_escape (a ∷ b ∷ s) = bind (hex_value a) (λ m. bind (hex_value b) (λ n. got s ((m * 16 + n) ∷ [])))

-- behind u, without a brace
abbrev pub hex4_digits : List ℕ → Got
hex4_digits [] = nothing
hex4_digits (a ∷ []) = nothing
hex4_digits (a ∷ b ∷ []) = nothing
hex4_digits (a ∷ b ∷ c ∷ []) = nothing
hex4_digits (a ∷ b ∷ c ∷ d ∷ s) =
    bind (hex_value a) (λ k. bind (hex_value b) (λ l. bind (hex_value c) (λ m. bind (hex_value d) (λ n.
    got s ((((k * 16 + l) * 16 + m) * 16 + n) ∷ [])))))

-- behind u
abbrev pub unicode_escape : List ℕ → Got
unicode_escape [] = nothing
unicode_escape (c ∷ s) = cond (c == 0x7B) (cond (opens (nat_eq 0x7D ∷ []) s) nothing (read_code_point 0 s)) (hex4_digits (c ∷ s))

-- the SV of a CharacterEscapeSequence
abbrev pub character_escape : ℕ → List ℕ
character_escape c =
    cond (c == 0x62) (0x08 ∷ []) (cond (c == 0x66) (0x0C ∷ []) (cond (c == 0x6E) (0x0A ∷ [])
    (cond (c == 0x72) (0x0D ∷ []) (cond (c == 0x74) (0x09 ∷ []) (cond (c == 0x76) (0x0B ∷ []) (utf16 c))))))

abbrev pub escape_sequence : List ℕ → Got
escape_sequence [] = nothing
escape_sequence (c ∷ s) =
    cond (c == 0x78) (hex_escape s)
    (cond (c == 0x75) (unicode_escape s)
    (cond (c == 0x30) (cond (opens (digit ∷ []) s) nothing (got s (0x00 ∷ [])))
    (cond (digit c) nothing (got s (character_escape c)))))

-- what follows a LineTerminatorSequence that begins with c
abbrev pub after_line_terminator : ℕ → List ℕ → List ℕ
after_line_terminator c s = cond (c == 0x0D && opens (nat_eq 0x0A ∷ []) s) (drop 1 s) s

-- an EscapeSequence, or the rest of a LineContinuation
abbrev pub behind_backslash : List ℕ → Got
behind_backslash [] = nothing
behind_backslash (c ∷ s) = cond (is_line_terminator c) (got (after_line_terminator c s) []) (escape_sequence (c ∷ s))

-- between quotes m
abbrev pub string_character : ℕ → List ℕ → Got
string_character m [] = nothing
string_character m (c ∷ s) =
    cond (c == 0x5C) (behind_backslash s) (cond (c == m || c == 0x0A || c == 0x0D) nothing (got s (utf16 c)))

abbrev pub template_character : List ℕ → Got
template_character [] = nothing
template_character (c ∷ s) =
    cond (c == 0x5C) (behind_backslash s)
    (cond (is_line_terminator c) (got (after_line_terminator c s) (cond (c == 0x0D) 0x0A c ∷ []))
    (cond (c == 0x60 || c == 0x24 && opens (nat_eq 0x7B ∷ []) s) nothing (got s (utf16 c))))

-- a character of a literal between quotes q
abbrev pub character : Quote → List ℕ → Got
character Single = string_character 0x27
character Double = string_character 0x22
character Backtick = template_character

-- the same with the value u in front
abbrev pub prefixed : List ℕ → Got → Got
prefixed u nothing = nothing
prefixed u (got rest v) = got rest (u ++ v)

-- what is read behind what was read, with both values
abbrev pub and_then : Got → (List ℕ → Got) → Got
and_then nothing f = nothing
and_then (got rest u) f = prefixed u (f rest)

-- the characters up to the closing quote, and what follows that; fuel bounds how many there are
abbrev pub up_to_quote : ℕ → Quote → List ℕ → Got
up_to_quote zero q s = nothing
up_to_quote (suc fuel) q s = cond (opens (nat_eq (mark q) ∷ []) s) (got (drop 1 s) []) (and_then (character q s) (up_to_quote fuel q))

-- a literal between quotes q at the front of s
abbrev pub whole : Quote → List ℕ → Got
whole q s = cond (opens (nat_eq (mark q) ∷ []) s) (up_to_quote (length s) q (drop 1 s)) nothing
