use Rattle.std.proofs.Common.{get_or, ap, ◌∙◌, arith}
use Rattle.std.proofs.lemmas.List.FromFn.{get_or-map-range_with_len}
use Rattle.codegen.specs.Classes.{class_in}
use Rattle.codegen.specs.declared.escape.Escape.TheVariants.{No}
use Rattle.codegen.proofs.turn.Escaping.class_at.Goals as goal

pub returns : goal.returns
returns c =
    let b = get_or c.args.bytes.now c.args.at 0 in
    ap (λ t. get_or t b No) c.args.self.now.is_the_table ∙ get_or-map-range_with_len (class_in c.args.self.now.ascii_only c.args.self.now.lone) 0 256 b b No (omega arith) (omega arith)
