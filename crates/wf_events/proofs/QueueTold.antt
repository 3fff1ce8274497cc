-- No happening joins the queue.
use Rattle.std.proofs.Common.{[], refl, sym, subst}
use Rattle.std.proofs.lemmas.List.{append-nil}
use Rattle.wf_events.specs.declared.log.Queue.{Queue}
use Rattle.wf_events.specs.Queue.{AreTold, Queues}

pub none_told : (q : Queue) → AreTold q q []
none_told q earlier stretch queues = (subst (λ ps. Queues earlier ps q) (sym (append-nil stretch)) queues, refl)
