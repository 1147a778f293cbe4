use Rattle.std.proofs.Common.{length, ap, ◌∙◌, arith}
use Rattle.codegen.specs.declared.raw_kind.RawKind.TheVariants.{Name}
use Rattle.codegen.specs.RawTexts.{name_bytes}
use Rattle.codegen.proofs.RawKept.{name_fits, kind_bound}
use Rattle.codegen.proofs.raw.name_size.Goals as goal

pub returns-clause-is_at_most_384 : goal.returns-clause-is_at_most_384
returns-clause-is_at_most_384 c =
    let name = c.args.name.now in
    let f = name_fits name.bytes.items name.good in
    let b = kind_bound Name c.args.options name.bytes.items name.good in
    let e = ap length (c.new.ensures ∙ ap (name_bytes c.args.options.ascii_only) c.as_bytes.ensures.are_its_bytes) in
    omega (arith, c.size.ensures.is_its_length, f.1)
