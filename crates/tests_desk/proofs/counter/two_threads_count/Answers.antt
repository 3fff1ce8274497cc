use Rattle.std.proofs.Common.{rules}
use Rattle.wf_desk.specs.Desk.{AreAll-in_order}
use Rattle.tests_desk.proofs.counter.two_threads_count.Goals as goal

pub close-journal-requires-clause-passes : goal.close-journal-requires-clause-passes
close-journal-requires-clause-passes c κs within = AreAll-in_order _ _ _ (search rules) (search rules)
