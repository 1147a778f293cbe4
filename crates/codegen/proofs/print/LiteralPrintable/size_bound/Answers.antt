use Rattle.codegen.specs.Strings.{settled}
use Rattle.codegen.proofs.Bound.{quoted_bound}
use Rattle.codegen.proofs.print.LiteralPrintable.size_bound.Goals as goal

pub returns-clause-is_no_less_than_its_length : goal.returns-clause-is_no_less_than_its_length
returns-clause-is_no_less_than_its_length c =
    let l = c.args.self.now in
    quoted_bound (settled l.quote l.allow_backtick l.bytes.now) l.escaping.ascii_only l.escaping.lone l.bytes.now l.fit
