use Rattle.std.proofs.Common.{arith}
use Rattle.wf_events.specs.Watching.{bound_at}
use Rattle.wf_events.proofs.Pairs.{all_found}
use Rattle.wf_events.proofs.watch.add_bound.Goals as goal

pub returns-clause-found : goal.returns-clause-found
returns-clause-found c =
    all_found bound_at c.loop-place.place c.args.before.now c.args.after.now c.loop-place.found.items _ (λ one other. omega arith)
    c.loop-place.invariant.same
