use Rattle.codegen.specs.Strings.{quote_of_text}
use Rattle.codegen.proofs.Kept.{in_utf8, read_back, read_once, no_script_end, ascii_if_asked, shortest_under_minify}
use Rattle.codegen.proofs.strings.print_string.Goals as goal

pub returns-clause-it_is_utf8 : goal.returns-clause-it_is_utf8
returns-clause-it_is_utf8 g c = in_utf8 c.args.text.now.bytes.items c.args.text.now.lone c.args.text.now.good (quote_of_text c.args.options c.args.allow_backtick c.args.text.now.bytes.items) c.args.options.ascii_only

pub returns-clause-it_is_read_back_as_the_text : goal.returns-clause-it_is_read_back_as_the_text
returns-clause-it_is_read_back_as_the_text g c = read_back c.args.text.now.bytes.items c.args.text.now.lone c.args.text.now.good (quote_of_text c.args.options c.args.allow_backtick c.args.text.now.bytes.items) c.args.options.ascii_only

pub returns-clause-it_is_read_in_no_other_way : goal.returns-clause-it_is_read_in_no_other_way
returns-clause-it_is_read_in_no_other_way g c = read_once c.args.text.now.bytes.items c.args.text.now.lone c.args.text.now.good (quote_of_text c.args.options c.args.allow_backtick c.args.text.now.bytes.items) c.args.options.ascii_only

pub returns-clause-it_never_closes_a_script : goal.returns-clause-it_never_closes_a_script
returns-clause-it_never_closes_a_script g c = no_script_end c.args.text.now.bytes.items c.args.text.now.lone c.args.text.now.good (quote_of_text c.args.options c.args.allow_backtick c.args.text.now.bytes.items) c.args.options.ascii_only

pub returns-clause-it_is_ascii_under_ascii_only : goal.returns-clause-it_is_ascii_under_ascii_only
returns-clause-it_is_ascii_under_ascii_only g c = ascii_if_asked c.args.text.now.bytes.items c.args.text.now.lone c.args.text.now.good (quote_of_text c.args.options c.args.allow_backtick c.args.text.now.bytes.items) c.args.options.ascii_only

pub returns-clause-it_is_the_shortest_under_minify : goal.returns-clause-it_is_the_shortest_under_minify
returns-clause-it_is_the_shortest_under_minify g c = shortest_under_minify c.args.options c.args.allow_backtick c.args.text.now.bytes.items
