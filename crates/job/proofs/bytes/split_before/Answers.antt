use Rattle.std.proofs.Common.{rules, length, ◌≡◌, true, false, ◌∙◌, ap, take, drop}
use Rattle.std.proofs.lemmas.Iterator.{YieldsList-from_slice, IsFirst-from_position}
use Rattle.std.specs.List.{position_or_len}
use Rattle.std.specs.Option.{unwrap_or}
use Rattle.job.proofs.Runs.{place_of_first}
use Rattle.job.proofs.bytes.split_before.Goals as goal
use Rattle.job.proofs.bytes.split_before.Goals.{After-drop-passes}

-- the place where the text is split
place : (g : _) (c : After-drop-passes g) → c.unwrap_or.result ≡ position_or_len g.test c.args.text.now
place g c =
    let found = IsFirst-from_position _ _ _ (λ x. true ≡ g.test x) (λ x. false ≡ g.test x) c.position-place.ensures.ran (YieldsList-from_slice c.args.text.now cc) (λ x q k. search (rules, c.requires.1.1)) (λ x q k. search (rules, c.requires.1.1)) in
    let e : position_or_len g.test c.args.text.now ≡ unwrap_or c.position-place.result (length c.args.text.now) = place_of_first g.test c.args.text.now c.position-place.result found in
    cc

pub returns-clause-before_the_first : goal.returns-clause-before_the_first
returns-clause-before_the_first g c = c.split_at.ensures.front ∙ ap (λ n. take n c.args.text.now) (place g c)

pub returns-clause-from_the_first : goal.returns-clause-from_the_first
returns-clause-from_the_first g c = c.split_at.ensures.back ∙ ap (λ n. drop n c.args.text.now) (place g c)
