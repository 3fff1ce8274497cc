use Rattle.std.proofs.Common.{arith}
use Rattle.wf_events.proofs.QueueTold.{none_told}
use Rattle.wf_events.proofs.log.Queue.note_all.Goals as goal

pub loop-happening-init : goal.loop-happening-init
loop-happening-init c = record { told = none_told c.args.self.now; most = omega arith }
