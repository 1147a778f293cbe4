use Rattle.std.proofs.Common.{arith}
use Rattle.text.proofs.Turn.{keeps, ascii_keeps}
use Rattle.text.proofs.well_formed.check.Goals as goal

pub loop-rest-preserved-then-is_ascii : goal.loop-rest-preserved-then-is_ascii
loop-rest-preserved-then-is_ascii c =
    ascii_keeps c.args.encoding c.args.bytes.now c.loop-rest.rest.now c.loop-rest.before c.loop-rest.lone c.loop-rest.invariant (omega arith) c.if-is_ascii.ensures

pub slice_bounds-rest-count : goal.slice_bounds-rest-count
slice_bounds-rest-count c =
    (keeps c.args.encoding c.args.bytes.now c.loop-rest.rest.now c.loop-rest.before c.loop-rest.lone c.loop-rest.invariant
    c.decode-c.result c.is_surrogate-lone.result c.decode-c.ensures.is_the_sequence_there c.if-n-eq0.false c.if-is_barred.ensures c.is_surrogate-lone.ensures).0

pub slice_bounds-rest-start : goal.slice_bounds-rest-start
slice_bounds-rest-start c =
    (keeps c.args.encoding c.args.bytes.now c.loop-rest.rest.now c.loop-rest.before c.loop-rest.lone c.loop-rest.invariant
    c.decode-c.result c.is_surrogate-lone.result c.decode-c.ensures.is_the_sequence_there c.if-n-eq0.false c.if-is_barred.ensures c.is_surrogate-lone.ensures).0

pub loop-rest-preserved : goal.loop-rest-preserved
loop-rest-preserved c =
    (keeps c.args.encoding c.args.bytes.now c.loop-rest.rest.now c.loop-rest.before c.loop-rest.lone c.loop-rest.invariant
    c.decode-c.result c.is_surrogate-lone.result c.decode-c.ensures.is_the_sequence_there c.if-n-eq0.false c.if-is_barred.ensures c.is_surrogate-lone.ensures).1
