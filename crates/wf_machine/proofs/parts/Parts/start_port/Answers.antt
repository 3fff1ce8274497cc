use Rattle.wf_machine.proofs.Common.{◌≡◌, ap, sym, subst, begun_display, port_scene, AllByRecursion, IfSome, LayerFits, MayStart, None}
use Rattle.wf_machine.proofs.Common.{Option, Scene, Some, State}
use Rattle.std.specs.Option.{IsSome}
use Rattle.wf_calls.specs.declared.call.JobKind.TheVariants as kind
use Rattle.wf_machine.proofs.PortFrames.{port_starts}
use Rattle.wf_machine.proofs.parts.Parts.start_port.Goals as goal

-- the scene that was written is the port's
written : (o : Option Scene) (scene : Scene) → IsSome o → IfSome o (λ shown. scene ≡ shown) → Some scene ≡ o
written None scene some is = absurd cc
written (Some shown) scene some is = ap (λ s. Some s) is

pub start_frame-requires-clause-may : goal.start_frame-requires-clause-may
start_frame-requires-clause-may c =
    let begun = subst (λ d. begun_display c.args.port d ≡ d) (sym (ap (λ s. s.display) c.self.view_is)) c.requires.begun in
    let shows = subst (λ (s : State). IsSome (port_scene c.args.port s.display)) (sym c.self.view_is) c.requires.shows in
    subst (λ h. MayStart (kind.Port c.args.port) c.in-Some.mode c.write_scene.new.scene h) c.self.view_is
    (port_starts c.self.inside c.args.port c.write_scene.new.scene c.in-Some.mode c.self.invariant.holds c.in-Some.ensures.display
    (written _ _ shows c.write_scene.ensures.scene) c.in-Some.ensures.mode begun)

pub returns-clause-layers : goal.returns-clause-layers
returns-clause-layers c =
    let begun = subst (λ d. begun_display c.args.port d ≡ d) (sym (ap (λ s. s.display) c.self.view_is)) c.requires.begun in
    let shows = subst (λ (s : State). IsSome (port_scene c.args.port s.display)) (sym c.self.view_is) c.requires.shows in
    let is = written _ _ shows c.write_scene.ensures.scene in
    let starts = port_starts c.self.inside c.args.port c.write_scene.new.scene c.in-Some.mode c.self.invariant.holds
    c.in-Some.ensures.display is c.in-Some.ensures.mode begun in
    subst (λ (h : State). IfSome (port_scene c.args.port h.display) (λ scene. AllByRecursion (LayerFits h.streams) scene.layers.items))
    c.self.view_is
    (subst (λ o. IfSome o (λ scene. AllByRecursion (LayerFits c.self.inside.store.streams) scene.layers.items)) is starts.layers)
