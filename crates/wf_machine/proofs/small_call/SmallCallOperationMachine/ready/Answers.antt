use Rattle.wf_machine.proofs.Common.{sym, ap}
use Rattle.std.specs.Prelude.{not, ◌&&◌}
use Rattle.wf_model.specs.Frames.{is_running}
use Rattle.wf_machine.proofs.small_call.SmallCallOperationMachine.ready.Goals as goal

pub returns : goal.returns
returns c = ap (λ b. not (b && is_running c.args._machine.now)) (sym c.prove_small.ensures)
