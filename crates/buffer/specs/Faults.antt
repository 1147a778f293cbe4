-- What a fault of a code buffer tells: refusal 7 of the layer Buffer, with the need.
use Rattle.std.specs.Prelude.{Some}
use Rattle.refusal.specs.declared.Layer.TheVariants.{Buffer}
use Rattle.refusal.specs.declared.Refusal.{Refusal}
use Rattle.refusal.specs.declared.Value.TheVariants.{Need}
use Rattle.refusal.specs.Returned.{refusal}
use Rattle.buffer.specs.declared.code_buffer.BufferFault.{BufferFault}
use Rattle.buffer.specs.declared.code_buffer.BufferFault.TheVariants.{Full}

abbrev pub tells : BufferFault → Refusal
tells (Full need) = refusal 7 Buffer (Some (Need need))
