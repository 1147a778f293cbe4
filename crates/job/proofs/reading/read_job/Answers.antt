use Rattle.std.proofs.Common.{◌+◌, map, length, Some, None, Ok, Err, vec_items, sym, ap, ◌∙◌, subst, rules}
use Rattle.std.proofs.lemmas.List.{length_push}
use Rattle.options.specs.declared.CodegenOptions.{CodegenOptions}
use Rattle.job.specs.declared.faults.JobFault.{JobFault}
use Rattle.job.specs.declared.faults.Unread.{Unread}
use Rattle.job.specs.Calls.{call_at}
use Rattle.job.specs.Jobs.{sketch, drafted, job_from, JobRead}
use Rattle.job.proofs.Turns.{pieces, line_taken, job_refused, all_taken, job_of-pieces}
use Rattle.job.proofs.Pieces.{turn, end}
use Rattle.job.proofs.reading.read_job.Goals as goal

pub loop-before-init : goal.loop-before-init
loop-before-init c = job_of-pieces c.args.text.now ∙ ap (λ es. job_from 1 (sketch None None (map call_at es)) (pieces c.args.text.now)) (sym c.new.ensures.items)

pub returns-in-Err : goal.returns-in-Err
returns-in-Err c =
    let k = turn _ _ c.loop-before.yielded c.loop-before.yielded_by c.args.text.now c.split.result (cc) (cc) c.split.ensures.rest c.split.ensures.done c.split.ensures.closure (λ x b q k. search rules) _ _ c.in-Some.before c.in-Some.line c.in-Some.is c.next.ensures.steps in
    let told = job_refused c.args.text.now c.in-Some.before (c.in-Some.before + 1) c.in-Some.line.now (drafted c.loop-before.draft) k.1 (rw k.0 at c.loop-before.invariant) _ c.in-Err.error c.in-Err.ensures.what_the_line_makes in
    record { the_job_or_its_first_fault = subst (λ (e : Unread JobFault). JobRead c.args.text.now (Err e)) (sym c.at.ensures.with_its_line) told }

pub loop-before-preserved : goal.loop-before-preserved
loop-before-preserved c =
    let k = turn _ _ c.loop-before.yielded c.loop-before.yielded_by c.args.text.now c.split.result (cc) (cc) c.split.ensures.rest c.split.ensures.done c.split.ensures.closure (λ x b q k. search rules) _ _ c.in-Some.before c.in-Some.line c.in-Some.is c.next.ensures.steps in
    let taken = line_taken c.args.text.now c.in-Some.before (c.in-Some.before + 1) c.in-Some.line.now (drafted c.loop-before.draft) k.1 (rw k.0 at c.loop-before.invariant) (drafted c.take_line.new.self) c.in_default.ensures.what_the_line_makes in
    rw (length_push c.loop-before.yielded (c.in-Some.before, c.in-Some.line), k.0) taken

pub returns : goal.returns
returns c =
    let d = c.loop-before.draft in
    let k = end _ _ c.loop-before.yielded c.loop-before.yielded_by c.args.text.now c.split.result (cc) (cc) c.split.ensures.rest c.split.ensures.done c.split.ensures.closure (λ x b q k. search rules) _ _ c.in-None.is c.next.ensures.steps in
    let chosen = ap (λ (o : CodegenOptions). Ok (sketch (Some o) d.limit (map call_at (vec_items d.calls)))) (sym c.unwrap_or.ensures) in
    record { the_job_or_its_first_fault = all_taken c.args.text.now (length c.loop-before.yielded) (length c.loop-before.yielded + 1) (drafted d) k c.loop-before.invariant ∙ chosen }
