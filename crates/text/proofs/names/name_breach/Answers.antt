use Rattle.std.proofs.Common.{not, sym, ◌∙◌, arith}
use Rattle.std.proofs.lemmas.Iterator.Adapters.{position_from-zero}
use Rattle.text.specs.Names.{continues_name}
use Rattle.text.proofs.Named.{starts}
use Rattle.text.proofs.names.name_breach.Goals as goal

pub returns-in-len1-up : goal.returns-in-len1-up
returns-in-len1-up c = record {
  is_the_rules = c.stop_in.ensures ∙ position_from-zero (λ b. not (continues_name b)) c.args.bytes.now
      ∙ starts c.args.bytes.now c.requires.well_formed (omega arith) (sym c.if-starts_name.ensures);
}
