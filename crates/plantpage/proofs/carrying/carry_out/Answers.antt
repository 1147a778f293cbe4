use Rattle.std.proofs.Common.{vec_items, sym, ap, ◌∙◌, subst, arith}
use Rattle.refusal.specs.Returned.{answer}
use Rattle.buffer.specs.Printing.{Prints}
use Rattle.plantpage.specs.Items.{item_of}
use Rattle.plantpage.proofs.Carried.{longer, answered, holds}
use Rattle.plantpage.proofs.carrying.carry_out.Goals as goal

pub overflow_sub-result : goal.overflow_sub-result
overflow_sub-result g c =
    let l = longer c.print.ensures.prints_the_item_whole_or_not_at_all c.in_ok-print.was in
    let x = c.held.ensures.answers_how_many_bytes_it_holds in
    let y = c.held-before.ensures.answers_how_many_bytes_it_holds in
    omega arith

pub returns : goal.returns
returns g c =
    let call = c.args.call in
    let kept = c.in_ok-text.ensures.holds_the_bytes_and_the_flag in
    let good = c.in_ok-text.ensures.refuses_by_one_two_three_in_order in
    let whole = c.print.ensures.prints_the_item_whole_or_not_at_all in
    let p = subst (λ v. Prints g.B.CodeBuffer c.args.code.now c.print.new.code (item_of c.args.options call.kind (vec_items v)) c.print.result) kept.0 whole in
    let l = longer p c.in_ok-print.was in
    let x = c.held.ensures.answers_how_many_bytes_it_holds in
    let y = c.held-before.ensures.answers_how_many_bytes_it_holds in
    record {
      answers_zero_or_the_refusal = ap (answer 0) (omega arith) ∙ sym (answered p c.in_ok-print.was (vec_items call.bytes) call.lone good);
      sets_the_item_or_leaves_the_page = holds p c.in_ok-print.was (vec_items call.bytes) call.lone good;
      limit_stays = p.limit_stays;
    }
