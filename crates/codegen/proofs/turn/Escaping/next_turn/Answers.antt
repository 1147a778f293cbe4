use Rattle.std.proofs.Common.{IsSome, sym, ap, ◌∙◌, subst}
use Rattle.ecma262.specs.Lookahead.{opens}
use Rattle.literal.specs.Escapes.{tag}
use Rattle.std.proofs.lemmas.List.{take_rest}
use Rattle.codegen.proofs.Arms.{is_led, decided_plain, decided_less, decided_tag, decided_wide, decided_wide_plain, decided_short, decided_short_plain, is_short, is_wide_class}
use Rattle.codegen.proofs.turn.Escaping.next_turn.Goals as goal

pub unwrap-requires : goal.unwrap-requires
unwrap-requires c =
    subst IsSome (sym c.sequence_length.ensures.is_that_of_the_lead_byte)
    (is_led c.args.q c.args.self.now.ascii_only c.args.self.now.lone c.args.bytes.now c.args.at c.requires.inside c.requires.fit)

pub returns-in-No : goal.returns-in-No
returns-in-No c = decided_plain c.args.q c.args.self.now.ascii_only c.args.self.now.lone c.args.bytes.now c.args.at c.requires.inside c.requires.fit c.unwrap.result (sym c.unwrap.ensures ∙ c.sequence_length.ensures.is_that_of_the_lead_byte) c.in-No.ensures

pub returns-then-is_script_close_tag : goal.returns-then-is_script_close_tag
returns-then-is_script_close_tag c =
    decided_tag _ _ _ _ _ c.requires.inside c.requires.fit (ap (opens tag) (sym (take_rest c.args.bytes.now c.args.at)) ∙ sym c.if-is_script_close_tag.ensures)

pub returns-else-is_script_close_tag : goal.returns-else-is_script_close_tag
returns-else-is_script_close_tag c =
    decided_less _ _ _ _ _ c.requires.inside c.requires.fit c.in-LT.ensures (ap (opens tag) (sym (take_rest c.args.bytes.now c.args.at)) ∙ sym c.if-is_script_close_tag.ensures)

pub returns-in-Some : goal.returns-in-Some
returns-in-Some c =
    decided_wide _ _ _ _ _ c.requires.inside c.requires.fit _ c.class_at-class.ensures (is_wide_class _ c.in-LS.is) _ c.decode-c.ensures.is_the_sequence_there _ c.in-Some.ensures

pub returns-in-None : goal.returns-in-None
returns-in-None c =
    decided_wide_plain _ _ _ _ _ c.requires.inside c.requires.fit _ c.class_at-class.ensures (is_wide_class _ c.in-LS.is) _ c.decode-c.ensures.is_the_sequence_there c.in-None.ensures

pub returns-in-Some-short_escape : goal.returns-in-Some-short_escape
returns-in-Some-short_escape c =
    let d = c.in_default in
    decided_short _ _ _ _ _ c.requires.inside c.requires.fit _ c.class_at-class.ensures (is_short _ d.not-No d.not-LT d.not-LS d.not-NB d.not-SU d.not-UC)
    _ c.byte_at.ensures.is_the_byte_or_zero_past_the_end _ c.in-Some-short_escape.ensures

pub returns-in-None-short_escape : goal.returns-in-None-short_escape
returns-in-None-short_escape c =
    let d = c.in_default in
    decided_short_plain _ _ _ _ _ c.requires.inside c.requires.fit _ c.class_at-class.ensures (is_short _ d.not-No d.not-LT d.not-LS d.not-NB d.not-SU d.not-UC)
    _ c.byte_at.ensures.is_the_byte_or_zero_past_the_end c.in-None-short_escape.ensures
