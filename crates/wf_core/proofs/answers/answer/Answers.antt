use Rattle.std.proofs.Common.{refl}
use Rattle.wf_objects.specs.Sides.{KeepsRest}
use Rattle.wf_model.specs.Sides.{KeepsAll}
use Rattle.wf_core.proofs.CallsAnswered.{carried_out, turned_down}
use Rattle.wf_core.proofs.answers.answer.Goals as goal

pub returns-in-Ok-clause-steps : goal.returns-in-Ok-clause-steps
returns-in-Ok-clause-steps c =
    λ plain core store does. rw c.done.ensures (carried_out c.args.device plain KeepsRest core c.args.objects.now store c.args.store.now
    c.in-Ok.value does.kept (rw c.in-Ok.is at does))

pub returns-in-Ok-clause-stays : goal.returns-in-Ok-clause-stays
returns-in-Ok-clause-stays c =
    λ plain core does. rw c.done.ensures (carried_out c.args.device plain KeepsAll core c.args.objects.now c.args.store.now c.args.store.now
    c.in-Ok.value refl (rw c.in-Ok.is at does))

pub returns-in-Err-clause-steps : goal.returns-in-Err-clause-steps
returns-in-Err-clause-steps c =
    λ plain core store does. rw c.refused.ensures (turned_down c.args.device plain KeepsRest core c.args.objects.now store c.args.store.now
    c.in-Err.refused c.record.new.self does.kept c.record.ensures.recorded (c.record.ensures.fits c.args.store.now does.fits)
    (rw c.in-Err.is at does))

pub returns-in-Err-clause-stays : goal.returns-in-Err-clause-stays
returns-in-Err-clause-stays c =
    λ plain core does. rw c.refused.ensures (turned_down c.args.device plain KeepsAll core c.args.objects.now c.args.store.now
    c.args.store.now c.in-Err.refused c.record.new.self refl c.record.ensures.recorded
    (c.record.ensures.fits c.args.store.now does.fits) (rw c.in-Err.is at does))
