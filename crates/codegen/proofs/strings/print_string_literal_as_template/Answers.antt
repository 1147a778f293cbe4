use Rattle.ecma262.specs.declared.Quote.TheVariants.{Backtick}
use Rattle.codegen.proofs.Kept.{in_utf8, read_back, read_once, no_script_end, ascii_if_asked}
use Rattle.codegen.proofs.strings.print_string_literal_as_template.Goals as goal

pub returns-clause-it_is_utf8 : goal.returns-clause-it_is_utf8
returns-clause-it_is_utf8 g c = in_utf8 c.args.text.now.bytes.items c.args.text.now.lone c.args.text.now.good Backtick c.args.options.ascii_only

pub returns-clause-it_is_read_back_as_the_text : goal.returns-clause-it_is_read_back_as_the_text
returns-clause-it_is_read_back_as_the_text g c = read_back c.args.text.now.bytes.items c.args.text.now.lone c.args.text.now.good Backtick c.args.options.ascii_only

pub returns-clause-it_is_read_in_no_other_way : goal.returns-clause-it_is_read_in_no_other_way
returns-clause-it_is_read_in_no_other_way g c = read_once c.args.text.now.bytes.items c.args.text.now.lone c.args.text.now.good Backtick c.args.options.ascii_only

pub returns-clause-it_never_closes_a_script : goal.returns-clause-it_never_closes_a_script
returns-clause-it_never_closes_a_script g c = no_script_end c.args.text.now.bytes.items c.args.text.now.lone c.args.text.now.good Backtick c.args.options.ascii_only

pub returns-clause-it_is_ascii_under_ascii_only : goal.returns-clause-it_is_ascii_under_ascii_only
returns-clause-it_is_ascii_under_ascii_only g c = ascii_if_asked c.args.text.now.bytes.items c.args.text.now.lone c.args.text.now.good Backtick c.args.options.ascii_only
