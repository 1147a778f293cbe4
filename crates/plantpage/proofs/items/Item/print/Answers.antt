use Rattle.std.proofs.Common.{◌++◌, arith, length-append}
use Rattle.buffer.proofs.Printing.{refused_prints, prints_with_room, print_prints, prints_after}
use Rattle.plantpage.specs.Items.{literal_of, comma_and_line_feed}
use Rattle.plantpage.proofs.items.Item.print.Goals as goal

pub returns-then-need-limit : goal.returns-then-need-limit
returns-then-need-limit g c =
    let item = c.args.self.now in
    let literal = literal_of item.options item.kind item.text.now.bytes.items in
    let n = length-append literal comma_and_line_feed in
    let z = c.literal_size.ensures.is in
    record { prints_the_item_whole_or_not_at_all = refused_prints g.B.CodeBuffer c.args.code.now (literal ++ comma_and_line_feed) _ (omega arith) (omega arith) }

pub returns : goal.returns
returns g c =
    let m = g.B.CodeBuffer in
    let z = c.literal_size.ensures.is in
    let first = prints_with_room m c.print_literal.ensures.prints (omega arith) in
    let second = print_prints m c.print_literal.new.code c.print.new.self comma_and_line_feed _ c.print.ensures in
    record { prints_the_item_whole_or_not_at_all = prints_after m first second (omega arith) }
