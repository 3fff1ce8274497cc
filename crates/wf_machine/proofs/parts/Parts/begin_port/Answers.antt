use Rattle.wf_machine.proofs.Common.{◌≡◌, ℕ, None, Some, true, refl, ap, sym, subst, ◌∙◌, ◌<◌, ◌-◌, ◌^◌, arith, rules, to_z-of_z, count_of}
use Rattle.wf_machine.proofs.Common.{is_some}
use Rattle.wf_machine.proofs.Common.{nth, Scene, State, StoreView, AllByRecursion, IfSome, IsAnswer, IsSound, LayerFits, begin_port}
use Rattle.wf_machine.proofs.Common.{begun_display}
use Rattle.wf_machine.proofs.Common.{beginning_of, kept, modes_of, not_some, port_scene, settle, settled_so, start, state_of}
use Rattle.wf_calls.specs.declared.call.JobKind.TheVariants as kind
use Rattle.wf_calls.specs.Parts.{no_register}
use Rattle.wf_calls.specs.Places.{job_in}
use Rattle.wf_calls.specs.Replies.{with_job}
use Rattle.wf_model.specs.Frames.{started}
use Rattle.wf_display.specs.Sides.{KeepsRest, beside}
use Rattle.wf_machine.proofs.ActsAreTheModels.{settled_left}
use Rattle.wf_machine.proofs.Counts.{display_fits, room}
use Rattle.wf_machine.proofs.PortFrames.{begins, declared, shown_of, twice_begun}
use Rattle.wf_machine.proofs.NamesOfOneSide.{displayed_left, sound_displayed}
use Rattle.wf_machine.proofs.SettledFirst.{settled_start}
use Rattle.wf_machine.proofs.parts.Parts.begin_port.Goals as goal

pub returns-in_default-clause-left : goal.returns-in_default-clause-left
returns-in_default-clause-left c = settled_left (started no_register c.args.self.now (begin_port c.args.port c.args.self.now)) _
    (search rules) c.prove_all_named.ensures

pub begin-requires-clause-fits : goal.begin-requires-clause-fits
begin-requires-clause-fits c = c.self.invariant.holds.shows

pub begin-requires-clause-names : goal.begin-requires-clause-names
begin-requires-clause-names c = display_fits c.self.inside c.self.invariant

pub begin-requires-clause-room : goal.begin-requires-clause-room
begin-requires-clause-room c = room c.self.inside c.self.invariant c.prove_few_names.ensures c.prove_few_names-2.ensures

pub start_port-requires-clause-begun : goal.start_port-requires-clause-begun
start_port-requires-clause-begun c =
    subst (λ d. begun_display c.in-Some.number d ≡ d) (sym c.begin.ensures.begun) (twice_begun c.in-Some.number c.self.inside.display)

-- what waited is current, and the store knows of it
begun_sound : (c : goal.After-begin) → IsSound (record c.self.inside { display = c.begin.new.self; store = c.begin.new.store })
begun_sound c =
    let rest : KeepsRest c.self.inside.store c.begin.new.store = record {
      numbered = ap (λ (v : StoreView). v.numbered) c.begin.ensures.rest;
      others = ap (λ (v : StoreView). beside v.others) c.begin.ensures.rest;
    } in
    sound_displayed c.self.inside c.self.invariant c.begin.new.self c.begin.new.store rest c.begin.ensures.names c.begin.ensures.fits
    (ap modes_of c.begin.ensures.begun)

module _ (c : goal.After-start_port) where
  abbrev h : State
  h = c.args.self.now

  abbrev n : ℕ
  n = c.in-Some.number

  rest : KeepsRest c.self.inside.store c.begin.new.store
  rest = record {
    numbered = ap (λ (v : StoreView). v.numbered) c.begin.ensures.rest;
    others = ap (λ (v : StoreView). beside v.others) c.begin.ensures.rest;
  }

  -- the state once what waited is current, before streams are dropped
  abbrev before : State
  before = record h { display = begun_display n h.display }

  -- and after
  abbrev g : State
  g = state_of (record c.self.inside { display = c.begin.new.self; store = c.begin.new.store })

  is : g ≡ settle before
  is =
      displayed_left c.self.inside c.self.invariant c.begin.new.self c.begin.new.store rest c.begin.ensures.names c.begin.ensures.fits
      (ap modes_of c.begin.ensures.begun)
      ∙ ap (λ made. settle (record (state_of c.self.inside) { made = made; display = c.begin.new.self }))
      (ap (λ (v : StoreView). v.made) c.begin.ensures.rest)
      ∙ ap (λ d. settle (record (state_of c.self.inside) { display = d })) c.begin.ensures.begun
      ∙ ap (λ (s : State). settle (record s { display = begun_display n s.display })) c.self.view_is

  shown : (scene : Scene) × (port_scene n c.begin.new.self ≡ Some scene)
  shown = shown_of _ (ap (λ d. is_some (port_scene n d)) c.begin.ensures.begun
      ∙ sym c.gives_frames.ensures ∙ c.if-not-gives_frames.false)

  found : (count_of c.args.port ≡ n) × (is_some (nth n h.display.ports) ≡ true)
  found = declared c.args.port h n (rw (to_z-of_z c.ranges.port) at c.in-Some.ensures.screen)

  free : h.frame ≡ None
  free = not_some h.frame (sym c.is_busy.ensures ∙ c.if-is_busy.false)

  few : h.begun < 2 ^ 64 - 1
  few = subst (λ (s : State). s.begun < 2 ^ 64 - 1) c.self.view_is (omega (arith, c.if-self.false, c.self.ranges))

  layers : AllByRecursion (LayerFits (kept before)) shown.0.layers.items
  layers =
      subst (λ (s : State). AllByRecursion (LayerFits s.streams) shown.0.layers.items) is
      (subst (λ o. IfSome o (λ scene. AllByRecursion (LayerFits g.streams) scene.layers.items)) shown.1 c.start_port.ensures.layers)

  begun : started no_register h (begin_port c.args.port h) ≡ start (beginning_of (kind.Port n) shown.0 n before) before
  begun = begins c.args.port n h before shown.0 found.0 found.1 free few refl
      (ap (port_scene n) (sym (ap (λ (s : State). s.display) is)) ∙ shown.1)

  -- the frame begins as it does before streams are dropped
  same : start (beginning_of (kind.Port n) shown.0 n g) g ≡ settled_so (started no_register h (begin_port c.args.port h))
  same =
      ap (λ s. start (beginning_of (kind.Port n) shown.0 n s) s) is
      ∙ settled_start n n c.self.inside.store.numbered shown.0 before
      (subst (λ (s : State). Rattle.wf_stream.specs.Streams.IsNumbered 0 s.streams c.self.inside.store.numbered) c.self.view_is
      c.self.invariant.holds.numbered) free layers
      ∙ ap settled_so (sym begun)

pub invariant_of-self : goal.invariant_of-self
invariant_of-self c = begun_sound c

pub returns-clause-left : goal.returns-clause-left
returns-clause-left c =
    subst (λ o. IfSome o (λ scene. c.start_port.new.self ≡ (start (beginning_of (kind.Port c.in-Some.number) scene c.in-Some.number
    (g c)) (g c)).0))
    (shown c).1 c.start_port.ensures.left ∙ ap (λ x. x.0) (same c)

pub returns-clause-answer : goal.returns-clause-answer
returns-clause-answer c =
    subst (λ x. IsAnswer x.1 (with_job c.start_port.result (job_in c.start_port.new.place))) (same c)
    (subst (λ o. IfSome o (λ scene. IsAnswer (start (beginning_of (kind.Port c.in-Some.number) scene c.in-Some.number (g c)) (g c)).1
    (with_job c.start_port.result (job_in c.start_port.new.place)))) (shown c).1 c.start_port.ensures.answer)
