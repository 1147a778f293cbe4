use Rattle.std.proofs.Common.{arith}
use Rattle.codegen.proofs.Texts.{literal_size_lem}
use Rattle.codegen.proofs.print.LiteralPrintable.size.Goals as goal

pub returns-clause-is_its_length : goal.returns-clause-is_its_length
returns-clause-is_its_length c = grind (arith, literal_size_lem)
