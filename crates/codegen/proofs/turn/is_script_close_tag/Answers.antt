use Rattle.std.proofs.lemmas.Bool.Decides.{same_from_decides}
use Rattle.ecma262.specs.Lookahead.{opens}
use Rattle.literal.specs.Escapes.{tag}
use Rattle.codegen.proofs.Crossing.{tag_cased}
use Rattle.codegen.proofs.turn.is_script_close_tag.Goals as goal

pub returns-then-text-ge8 : goal.returns-then-text-ge8
returns-then-text-ge8 c = same_from_decides _ (opens tag c.args.text.now) c.eq_ignore_ascii_case.ensures.test (tag_cased c.args.text.now c.if-text-ge8.true)
