use Rattle.std.proofs.Common.{ap, ◌∙◌, rules}
use Rattle.buffer.specs.Kinds.{slice_limit}
use Rattle.capi.specs.Answers.{packed}
use Rattle.capi.proofs.Small.{text-value, literal_short}
use Rattle.capi.proofs.Written.{cells_are, answered, value_fits}
use Rattle.capi.proofs.jslit_print_string.Goals as goal

pub packed_answer-requires : goal.packed_answer-requires
packed_answer-requires c =
    let new = c.new-code.ensures in
    let p = c.print_string_bytes-answer.ensures.prints_the_literal_of_a_text_or_nothing in
    let text = c.args.text.now in
    let lone = c.is_set.result in
    record {
      value_fits =
          value_fits p c.args.out.now new.begins_empty (ap slice_limit new.cells_are_as_they_came) c.finish.ensures.answers_how_many_it_held c.and.ensures
          (text-value text lone) (literal_short c.options_of-options.result c.is_set-2.result text lone);
    }

pub returns-clause-answers_one_to_three_or_seven : goal.returns-clause-answers_one_to_three_or_seven
returns-clause-answers_one_to_three_or_seven c =
    let new = c.new-code.ensures in
    let p = c.print_string_bytes-answer.ensures.prints_the_literal_of_a_text_or_nothing in
    let told = answered p c.args.out.now new.begins_empty (ap slice_limit new.cells_are_as_they_came) c.finish.ensures.answers_how_many_it_held c.and.ensures in
    c.packed_answer.ensures.is_number_and_value ∙ ap packed (search (rules, told))

pub returns-clause-prints_at_the_front_or_touches_nothing : goal.returns-clause-prints_at_the_front_or_touches_nothing
returns-clause-prints_at_the_front_or_touches_nothing c =
    let new = c.new-code.ensures in
    let p = c.print_string_bytes-answer.ensures.prints_the_literal_of_a_text_or_nothing in
    let end = c.finish.ensures in
    let left = cells_are p c.args.out.now new.begins_empty (ap slice_limit new.cells_are_as_they_came) new.cells_are_as_they_came end.answers_how_many_it_held end.cells_stay end.shows_what_it_held in
    search (rules, left)
