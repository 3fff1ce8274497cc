use Rattle.std.proofs.Common.{◌≡◌, ap, arith}
use Rattle.wf_turn.specs.Quota.{all_left}
use Rattle.wf_turn.specs.Turns.{opening_show}
use Rattle.wf_turn.proofs.Films.{left_few}
use Rattle.wf_events.proofs.order.log_opened.Goals as goal

pub log_turns-requires-clause-early : goal.log_turns-requires-clause-early
log_turns-requires-clause-early c =
    let opened : c.in-Ok.show ≡ opening_show c.args.script.now = rw c.in-Ok.is at c.requires.opened in
    omega (arith, left_few c.args.script.now, ap (λ v. all_left v.programs) opened, ap (λ v. v.turns) opened, c.prove_few_lines.ensures)
