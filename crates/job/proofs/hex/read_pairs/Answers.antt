use Rattle.std.proofs.Common.{◌-◌, length, take, drop, vec_items, sym, ap, ◌∙◌}
use Rattle.job.specs.Hex.{pairs}
use Rattle.job.proofs.Glued.{glued, pair_taken, some_from_ok_or}
use Rattle.job.proofs.hex.read_pairs.Goals as goal

pub loop-rest-preserved : goal.loop-rest-preserved
loop-rest-preserved c =
    let e = pair_taken (vec_items c.loop-rest.bytes) c.loop-rest.rest.now c.in_ok-ok_or-in-len2-up.field-0 c.in-len2-up.len_at_least c.if-is_blank.ensures.a_space_or_a_tab (some_from_ok_or _ _ _ c.in_ok-ok_or-in-len2-up.ensures.value ∙ c.hex_pair.ensures.byte_of_a_pair) in
    c.loop-rest.invariant ∙ e ∙ ap (λ bs. glued bs (pairs (take (length c.loop-rest.rest.now - 2) (drop 2 c.loop-rest.rest.now)))) (sym c.in_ok-push-in-len2-up.ensures.items)
