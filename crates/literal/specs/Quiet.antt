-- Escapes of ASCII characters other than <, as all are that the rules name.
use Rattle.std.specs.Prelude.{Bool, true, not, ◌&&◌, ◌==◌, nat_lt}
use Rattle.literal.specs.declared.EscapeSequence.{EscapeSequence}
use Rattle.literal.specs.declared.EscapeSequence.TheVariants.{Null, Character, Hex, Unicode, CodePoint}

abbrev pub quiet : EscapeSequence → Bool
quiet Null = true
quiet (Character e) = nat_lt e 128 && not (e == 0x3C)
quiet Hex = true
quiet (Unicode letters) = true
quiet CodePoint = true
