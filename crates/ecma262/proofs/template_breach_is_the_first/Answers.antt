use Rattle.ecma262.proofs.Broken.{unbroken, broken_at, broken_by}
use Rattle.ecma262.proofs.template_breach_is_the_first.Goals as goal

pub returns : goal.returns
returns c = record {
  none_exactly_in_template_text = unbroken;
  ends_the_longest_readable_beginning = broken_at;
  is_a_backtick_a_substitution_or_a_backslash = broken_by;
}
