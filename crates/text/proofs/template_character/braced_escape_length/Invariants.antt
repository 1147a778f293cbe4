use Rattle.std.proofs.Common.{◌≡◌, ◌+◌, ◌≤◌, drop}
use Rattle.text.specs.Template.{closes}
use Rattle.text.proofs.template_character.braced_escape_length.Given as goal

abbrev pub invariant-loop-i : goal.invariant-loop-i
invariant-loop-i l = (closes (l.i + 3) l.value (drop l.i l.digits) ≡ closes 3 0 l.digits) × (l.value ≤ 0x10FFFF)
