use Rattle.literal.proofs.RawKept.{directive_kept}
use Rattle.literal.proofs.RawNames.{name_read}
use Rattle.literal.proofs.RawRegex.{regex_kept}
use Rattle.literal.proofs.other_raw_text_keeps_its_meaning.Goals as goal

pub returns : goal.returns
returns c = record { directive_keeps_its_value = directive_kept; pattern_keeps_its_tokens = regex_kept; name_is_read_as_the_name = name_read }
