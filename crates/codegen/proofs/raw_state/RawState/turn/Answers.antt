use Rattle.std.proofs.Common.{sym, arith}
use Rattle.codegen.proofs.RawArms.{kept_slash, dropped_slash, kept_less, kept_other, tagged}
use Rattle.codegen.proofs.raw_state.RawState.turn.Goals as goal

pub returns-in-92 : goal.returns-in-92
returns-in-92 c = let s = c.args.self.now in dropped_slash s.style s.odd s.rest.now c.requires.more s.fit (omega arith) (sym c.if-drops_backslash.ensures)

pub returns-in_default : goal.returns-in_default
returns-in_default c = let s = c.args.self.now in kept_slash s.style s.odd s.rest.now c.requires.more s.fit (omega arith) (sym c.if-drops_backslash.ensures)

pub returns-in-60 : goal.returns-in-60
returns-in-60 c = let s = c.args.self.now in tagged s.style s.odd s.rest.now c.requires.more s.fit (sym c.if-breaks_tag.ensures)

pub returns-in_default-2 : goal.returns-in_default-2
returns-in_default-2 c = let s = c.args.self.now in kept_less s.style s.odd s.rest.now c.requires.more s.fit (omega arith) (sym c.if-breaks_tag.ensures)

pub returns-in_default-3 : goal.returns-in_default-3
returns-in_default-3 c = let s = c.args.self.now in kept_other s.style s.odd s.rest.now c.requires.more s.fit (omega arith) (λ e. omega arith) (λ e. omega arith)
