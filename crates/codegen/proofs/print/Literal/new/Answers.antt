use Rattle.codegen.proofs.Texts.{text-fits}
use Rattle.codegen.proofs.print.Literal.new.Goals as goal

pub invariant_of-result : goal.invariant_of-result
invariant_of-result c =
    let f = text-fits c.args.text.bytes.now c.args.text.lone c.args.text.checked in
    record { fit = rw (c.new.ensures.text, c.requires.for_the_text) f.0; small = f.1 }
