-- What happens in a step of the machine is seen between the states before and after it.
use Rattle.std.proofs.Common.{◌≡◌, ◌∙◌, ℕ, ◌-◌, Bool, ◌++◌, length, sym}
use Rattle.wf_calls.specs.declared.call.Call.{Call}
use Rattle.wf_model.specs.Names.{kept}
use Rattle.wf_model.specs.State.{State}
use Rattle.wf_model.specs.Step.{act, step}
use Rattle.wf_events.specs.Happenings.{happen, released}
use Rattle.wf_events.specs.Inside.{seen}
use Rattle.wf_events.specs.Watching.{IsLook, attached_at, between_from, bound_at, happened, waiting_at}
use Rattle.wf_events.specs.declared.watch.Look.{Look}
use Rattle.wf_events.proofs.CallsSeen.{call_seen}
use Rattle.wf_events.proofs.Differences.{between_seen}
use Rattle.wf_events.proofs.Gone.{streams_gone}

pub step_seen : (h : State) (client : ℕ) (c : Call) (m : Bool) → h.streams ≡ kept h
    → happen h c (step h client c m) ≡ seen h (step h client c m).0
unfolding step
step_seen h client c m settled =
    let d = h.display in
    let e = (act h c m).0.display in
    (λ i. call_seen h c m i ++ released (streams_gone h c m settled i))
    ∙ (λ i. (sym (between_seen bound_at waiting_at 1 d.pipelines e.pipelines) i
    ++ sym (between_seen attached_at (λ p. p.attached) 1 d.ports e.ports) i)
    ++ released (length h.streams - length (step h client c m).0.streams))

-- and so it is between two looks
pub looks_seen : (h after : State) (one other : Look) → IsLook h one → IsLook after other → happened one other ≡ seen h after
looks_seen h after one other first second =
    λ i. (between_from bound_at 1 (first.waiting i) (second.waiting i)
    ++ between_from attached_at 1 (first.attached i) (second.attached i))
    ++ released (first.streams i - second.streams i)
