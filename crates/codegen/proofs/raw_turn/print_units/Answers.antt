use Rattle.std.proofs.Common.{sym, subst, arith}
use Rattle.buffer.specs.Printing.{Appends}
use Rattle.buffer.proofs.Printing.{appends_join}
use Rattle.literal.specs.Raw.{unit_escapes}
use Rattle.codegen.proofs.RawArms.{two_units}
use Rattle.codegen.proofs.raw_turn.print_units.Goals as goal

pub returns-else-c-lt65536 : goal.returns-else-c-lt65536
returns-else-c-lt65536 g c =
    let m = g.B.CodeBuffer in
    subst (λ us. Appends m c.args.code.now c.print_escape-else-c-lt65536-2.new.code (unit_escapes us)) (sym (two_units c.args.c (omega arith)))
    (appends_join m c.print_escape-else-c-lt65536.ensures c.print_escape-else-c-lt65536-2.ensures)
