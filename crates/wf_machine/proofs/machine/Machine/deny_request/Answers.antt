use Rattle.wf_machine.proofs.Common.{◌∙◌, true, sym}
use Rattle.wf_machine.proofs.SettledActIsStep.{unmarked}
use Rattle.wf_machine.proofs.machine.Machine.deny_request.Goals as goal

pub returns-else-is_creation : goal.returns-else-is_creation
returns-else-is_creation c =
    record {
      step = unmarked _ true _ _ _ _ _ (sym c.is_creation.ensures ∙ c.if-is_creation.false) c.run_request.ensures.step;
    }
