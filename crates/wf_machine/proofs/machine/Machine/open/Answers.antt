use Rattle.wf_machine.proofs.Common.{sym, subst, IsSettled}
use Rattle.wf_machine.proofs.DropsKeepInvariant.{opening_settled}
use Rattle.wf_machine.proofs.machine.Machine.open.Goals as goal

pub invariant_of-result : goal.invariant_of-result
invariant_of-result c = subst IsSettled (sym c.in_ok-open.ensures) (opening_settled c.args.ports.now)
