use Rattle.std.proofs.Common.{◌≡◌, take}
use Rattle.buffer.specs.Tally.{tally}
use Rattle.buffer.proofs.tally.Tally.after.Given as goal

abbrev pub invariant-loop-byte : goal.invariant-loop-byte
invariant-loop-byte l = l.tally ≡ tally l.fn.self (take l.byte-index l.text)
