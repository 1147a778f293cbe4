use Rattle.std.proofs.Common.{◌++◌, ap, ◌∙◌, subst, arith}
use Rattle.ecma262.specs.Units.{mark}
use Rattle.buffer.specs.Printing.{Appends}
use Rattle.buffer.proofs.Printing.{appends_join, appended_length}
use Rattle.codegen.specs.Strings.{settled, opened, opening}
use Rattle.codegen.specs.Turns.{body}
use Rattle.codegen.proofs.Texts.{literal-printed, parts_length}
use Rattle.codegen.proofs.print.LiteralPrintable.print_to.Goals as goal

pub print_opening-requires : goal.print_opening-requires
print_opening-requires g c =
    let l = c.args.self.now in
    let p = parts_length l.quote l.allow_backtick l.escaping.ascii_only l.bytes.now in
    record { room = omega (arith, c.requires.room) }

pub print_body-q-requires : goal.print_body-q-requires
print_body-q-requires g c =
    let l = c.args.self.now in
    let p = parts_length l.quote l.allow_backtick l.escaping.ascii_only l.bytes.now in
    let e = c.print_opening.ensures.appends in
    let n = appended_length g.B.CodeBuffer {s = opened l.quote} e in
    record { room = omega (arith, c.requires.room, e.limit_stays) }

pub print_with_room-requires : goal.print_with_room-requires
print_with_room-requires g c =
    let l = c.args.self.now in
    let p = parts_length l.quote l.allow_backtick l.escaping.ascii_only l.bytes.now in
    let q = settled l.quote l.allow_backtick l.bytes.now in
    let e = c.print_opening.ensures.appends in
    let b = c.print_body-q.ensures.appends in
    let n = appended_length g.B.CodeBuffer {s = opened l.quote} e in
    let k = appended_length g.B.CodeBuffer {s = opening l.quote q ++ body q l.escaping.ascii_only l.bytes.now} b in
    record { room = omega (arith, c.requires.room, e.limit_stays, b.limit_stays) }

pub returns : goal.returns
returns g c =
    let m = g.B.CodeBuffer in
    let l = c.args.self.now in
    let all = appends_join m (appends_join m c.print_opening.ensures.appends c.print_body-q.ensures.appends) c.print_with_room.ensures in
    let parts = literal-printed l.quote l.allow_backtick l.escaping.ascii_only l.bytes.now c.mark.result (c.mark.ensures.is_its_code_point ∙ ap mark c.print_body-q.ensures.answers) in
    record { appends = subst (Appends m c.args.out.now c.print_with_room.new.code) parts all }
