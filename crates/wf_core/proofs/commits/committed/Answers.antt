use Rattle.std.proofs.Common.{arith}
use Rattle.wf_objects.specs.Sights.{sight_in}
use Rattle.wf_core.proofs.Faults.{small_fault}
use Rattle.wf_core.proofs.commits.committed.Goals as goal

pub overflow_mul-result : goal.overflow_mul-result
overflow_mul-result c =
    let small = small_fault (sight_in c.args.store.now) c.args.cached.now c.in-Err.field-0 c.in-Err.ensures.orderly
    c.in-Err.ensures.scene in
    omega (arith, small.0)

pub overflow_add-result : goal.overflow_add-result
overflow_add-result c =
    let small = small_fault (sight_in c.args.store.now) c.args.cached.now c.in-Err.field-0 c.in-Err.ensures.orderly
    c.in-Err.ensures.scene in
    omega (arith, small.0, small.1)
