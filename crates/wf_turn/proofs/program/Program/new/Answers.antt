use Rattle.wf_turn.proofs.Common.{◌≤◌, IsTrue, ap, known, left, may_declare, quota, subst, sym, IsFit}
use Rattle.wf_calls.specs.Places.{job_in}
use Rattle.wf_turn.proofs.Films.{left_opening}
use Rattle.wf_turn.proofs.Handles.{known_none, opened}
use Rattle.wf_turn.proofs.ShowAtTheStart.{opening_fit}
use Rattle.wf_turn.proofs.program.Program.new.Goals as goal

pub returns-clause-program : goal.returns-clause-program
returns-clause-program c =
    let script = c.args.script.now in
    let own = known_none c.in_ok-own.own (ap (λ t. t.values) c.in_ok-own.ensures) in
    let learned = known_none c.in_ok-learned.learned (ap (λ t. t.values) c.in_ok-learned.ensures) in
    opened script _ _ (known c.in_ok-own.own) (known c.in_ok-learned.learned) _ (job_in c.in_ok-job.job) own learned c.in_ok-job.ensures
    (rw c.lines-lines.ensures.lines at c.skip-at.ensures.skipped)

pub returns-clause-fit : goal.returns-clause-fit
returns-clause-fit c =
    let declared = subst (λ ports. IsTrue (may_declare ports)) c.ports.ensures.ports c.ports.ensures.declared in
    subst IsFit (sym (returns-clause-program c)) (opening_fit c.args.script.now declared c.args.client)

pub returns-clause-left : goal.returns-clause-left
returns-clause-left c =
    let script = c.args.script.now in
    subst (λ p. left p ≤ quota script.lines c.args.client) (sym (returns-clause-program c)) (left_opening script c.args.client)
