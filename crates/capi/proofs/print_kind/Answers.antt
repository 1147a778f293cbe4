use Rattle.std.proofs.Common.{ap, ◌∙◌, rules}
use Rattle.buffer.specs.Kinds.{slice_limit}
use Rattle.capi.specs.Answers.{packed}
use Rattle.capi.proofs.Small.{kind-value, raw_short}
use Rattle.capi.proofs.Written.{cells_are, answered, value_fits}
use Rattle.capi.proofs.print_kind.Goals as goal

pub packed_answer-requires : goal.packed_answer-requires
packed_answer-requires c =
    let new = c.new-code.ensures in
    let p = c.print_raw_bytes-answer.ensures.prints_raw_text_of_its_kind_or_nothing in
    let kind = c.args.kind in
    let o = c.args.options in
    let raw = c.args.raw.now in
    record {
      value_fits =
          value_fits p c.args.out.now new.begins_empty (ap slice_limit new.cells_are_as_they_came) c.finish.ensures.answers_how_many_it_held c.and.ensures
          (kind-value kind raw) (raw_short kind o raw);
    }

pub returns-clause-answers_for_its_kind : goal.returns-clause-answers_for_its_kind
returns-clause-answers_for_its_kind c =
    let new = c.new-code.ensures in
    let p = c.print_raw_bytes-answer.ensures.prints_raw_text_of_its_kind_or_nothing in
    c.packed_answer.ensures.is_number_and_value
    ∙ ap packed (answered p c.args.out.now new.begins_empty (ap slice_limit new.cells_are_as_they_came) c.finish.ensures.answers_how_many_it_held c.and.ensures)

pub returns-clause-prints_at_the_front_or_touches_nothing : goal.returns-clause-prints_at_the_front_or_touches_nothing
returns-clause-prints_at_the_front_or_touches_nothing c =
    let new = c.new-code.ensures in
    let p = c.print_raw_bytes-answer.ensures.prints_raw_text_of_its_kind_or_nothing in
    let end = c.finish.ensures in
    let left = cells_are p c.args.out.now new.begins_empty (ap slice_limit new.cells_are_as_they_came) new.cells_are_as_they_came end.answers_how_many_it_held end.cells_stay end.shows_what_it_held in
    search (rules, left)
