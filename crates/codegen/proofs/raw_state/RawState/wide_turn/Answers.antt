use Rattle.std.proofs.Common.{sym}
use Rattle.codegen.proofs.RawArms.{kept_wide, ended_line, escaped-wide}
use Rattle.codegen.proofs.raw_state.RawState.wide_turn.Goals as goal

pub returns-then-continues_line : goal.returns-then-continues_line
returns-then-continues_line c = let s = c.args.self.now in ended_line s.style s.odd s.rest.now c.requires.more s.fit c.requires.wide c.decode-c.result c.decode-c.ensures.is_the_sequence_there c.if-self.true (sym c.if-continues_line.ensures)

pub returns-else-continues_line : goal.returns-else-continues_line
returns-else-continues_line c = let s = c.args.self.now in escaped-wide s.style s.odd s.rest.now c.requires.more s.fit c.requires.wide c.decode-c.result c.decode-c.ensures.is_the_sequence_there c.if-self.true (sym c.if-continues_line.ensures)

pub returns-else-self : goal.returns-else-self
returns-else-self c = let s = c.args.self.now in kept_wide s.style s.odd s.rest.now c.requires.more s.fit c.requires.wide c.decode-c.result c.decode-c.ensures.is_the_sequence_there c.if-self.false
