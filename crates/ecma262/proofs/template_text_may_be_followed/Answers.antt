use Rattle.ecma262.proofs.template_text_may_be_followed.Goals as goal
use Rattle.ecma262.proofs.After.{follows, closed}

pub returns : goal.returns
returns c = record { stays_template_text = follows; stays_between_its_quotes = closed }
