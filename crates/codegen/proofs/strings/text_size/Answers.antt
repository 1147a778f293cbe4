use Rattle.std.proofs.Common.{length, ap, arith}
use Rattle.codegen.specs.Strings.{settled}
use Rattle.codegen.proofs.Bound.{quoted_bound}
use Rattle.codegen.proofs.Texts.{text-fits}
use Rattle.codegen.proofs.strings.text_size.Goals as goal

pub returns-clause-small : goal.returns-clause-small
returns-clause-small c =
    let s = c.args.style in
    let bytes = c.args.text.bytes.now in
    let f = text-fits bytes c.args.text.lone c.args.text.checked in
    let b = quoted_bound (settled s.quote s.allow_backtick bytes) s.ascii_only c.args.text.lone bytes f.0 in
    omega (arith, f.1, ap length c.new.ensures)
