use Rattle.std.proofs.Common.{◌≡◌, ◌+◌, ◌-◌, ◌≤◌, length, drop}
use Rattle.codegen.specs.Turns.{Fit, body}
use Rattle.codegen.proofs.print.Literal.body_size.Given as goal

abbrev pub invariant-loop-at : goal.invariant-loop-at
invariant-loop-at l =
    record {
      within : l.at ≤ length l.self.bytes.now;
      fit : Fit l.self.escaping.lone (drop l.at l.self.bytes.now);
      size : l.size + length (body l.q l.self.escaping.ascii_only (drop l.at l.self.bytes.now)) ≡ length (body l.q l.self.escaping.ascii_only l.self.bytes.now);
    }

abbrev pub decreases-loop-at : goal.decreases-loop-at
decreases-loop-at l = length l.self.bytes.now - l.at
