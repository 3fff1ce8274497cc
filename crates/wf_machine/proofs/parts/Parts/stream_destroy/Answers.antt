use Rattle.wf_machine.proofs.Common.{◌≡◌, subst, IfSome, ap, sym, ◌∙◌, map, bare, done, settle, settled_so, state_of, stream_step, unnamed}
use Rattle.std.specs.Result.{result_ok}
use Rattle.wf_stream.specs.Streams.{hand_over, number_of, released}
use Rattle.wf_model.specs.Streams.{stream_destroy}
use Rattle.wf_machine.proofs.ActsAreTheModels.{as_settled}
use Rattle.wf_machine.proofs.BufferCalls.{destroyed, found, no_stream}
use Rattle.wf_machine.proofs.Counts.{seen_settled}
use Rattle.wf_machine.proofs.StreamNames.{nameless_seen, numbers_from_one, sound_nameless}
use Rattle.wf_machine.proofs.StreamCallsKeepInvariant.{leaves_so}
use Rattle.wf_machine.proofs.parts.Parts.stream_destroy.Goals as goal

pub returns-in_default : goal.returns-in_default
returns-in_default c =
    let none = ap result_ok (sym c.in_default.is) ∙ c.number.ensures.number in
    as_settled _ _ _ (no_stream c.args.stream c.args.self.now c.refuse.result (none
    ∙ ap (λ s. number_of c.args.stream s.streams) c.self.view_is) c.refuse.ensures)
    (seen_settled c.self.inside _ c.self.view_is c.self.invariant)

pub invariant_of-self : goal.invariant_of-self
invariant_of-self c =
    let m = c.self.inside in
    let s = found _ c.in-Ok.field-0 m.store.numbered m.store.streams c.self.invariant.holds.numbered c.in-Ok.ensures.number in
    sound_nameless m c.self.invariant c.args.stream _ s.0 s.1 s.2 (subst (λ o. IfSome o (λ n. map
    (unnamed c.args.stream) m.store.streams ≡ hand_over n 0 m.store.streams)) (sym c.in-Ok.ensures.number)
    c.kill.ensures.alone) _
    (subst (λ o. IfSome o (λ n. c.kill.new.self ≡ released n (record m.store { streams = map (unnamed c.args.stream) m.store.streams })))
    (sym c.in-Ok.ensures.number) c.kill.ensures.stream) (numbers_from_one m c.self.invariant _ s.0 s.2)

pub returns : goal.returns
returns c =
    let m = c.self.inside in
    let s = found _ c.in-Ok.field-0 m.store.numbered m.store.streams c.self.invariant.holds.numbered c.in-Ok.ensures.number in
    leaves_so m _ c.self.view_is (λ t r. settled_so (stream_step t (stream_destroy c.args.stream t)))
    (state_of (record m { store = c.kill.new.self }))
    (settle (record (state_of m) { streams = map (unnamed c.args.stream) m.store.streams }))
    (bare c.done.result) (bare (done 0))
    (nameless_seen m c.self.invariant c.args.stream _ s.0 s.1 s.2 (subst (λ o. IfSome o (λ n. map
    (unnamed c.args.stream) m.store.streams ≡ hand_over n 0 m.store.streams)) (sym c.in-Ok.ensures.number)
    c.kill.ensures.alone) _
    (subst (λ o. IfSome o (λ n. c.kill.new.self ≡ released n (record m.store { streams = map (unnamed c.args.stream) m.store.streams })))
    (sym c.in-Ok.ensures.number) c.kill.ensures.stream) (numbers_from_one m c.self.invariant _ s.0 s.2))
    (ap bare c.done.ensures) (ap settled_so (destroyed c.args.stream (state_of m) s.0 s.1))
