use Rattle.wf_machine.proofs.Common.{◌≡◌, ◌+◌, [], Some, refl, sym, subst, ap, ◌∙◌, start, IsAnswer, IsSomeAnd, IsSound, Frame, Inside}
use Rattle.wf_machine.proofs.Common.{AllByRecursion, Images, ◌<◌, Job, JobKind, MayStart, Option, Scene, State, StoreView, beginning_of}
use Rattle.wf_machine.proofs.Common.{content_shape, latch, map, scene_streams, state_of, stream_at, ℕ, None}
use Rattle.std.specs.Option.{IsSome, option_copied}
use Rattle.wf_calls.specs.Places.{job_in}
use Rattle.wf_calls.specs.Replies.{with_job}
use Rattle.wf_stream.specs.Names.{AreCounted}
use Rattle.wf_stream.specs.Renames.{Renames}
use Rattle.wf_stream.specs.Streams.{count_of}
use Rattle.wf_machine.specs.Naming.{drawn_names, held_names}
use Rattle.wf_machine.specs.Starting.{IsKept}
use Rattle.wf_machine.proofs.ImagesOfBegunFrame.{home_without}
use Rattle.wf_machine.proofs.FrameBegunKeepsInvariant.{no_frame}
use Rattle.wf_machine.proofs.Counts.{room, sound_settles}
use Rattle.wf_machine.proofs.FrameCounts.{contents_kept, counted_begun, drawn_kept, sound_told, told_seen}
use Rattle.wf_machine.proofs.FrameStarts.{Starts, answers, b, begun, left, ready}
use Rattle.wf_machine.proofs.parts.Parts.start_frame.Goals as goal

-- what may start as it was told may start as it stands in the place
may_there : (k : JobKind) (mode : ℕ) (g h : State) (next was : Job) → g ≡ h → next ≡ was → MayStart k mode was.scene h
    → MayStart k mode next.scene g
may_there k mode g h next was same is may = subst (λ s. MayStart k mode next.scene s) (sym same)
    (subst (λ (j : Job). MayStart k mode j.scene h) (sym is) may)

-- what is kept of the frame is that which was written
kept_of : (P : Frame → Type 0) (o : Option Frame) (f : Frame) → IsSomeAnd o P → o ≡ Some f → P f
kept_of P None f some is = absurd some
kept_of P (Some x) f some is = (let same : x ≡ f = cc in subst P same some)

pub take_images-image-requires-clause-home : goal.take_images-image-requires-clause-home
take_images-image-requires-clause-home c = home_without c.self.inside (no_frame c.self.inside _ c.self.view_is c.requires.free)
    c.self.invariant.holds

pub take_images-image-requires-clause-ready : goal.take_images-image-requires-clause-ready
take_images-image-requires-clause-ready c =
    let free = no_frame c.self.inside _ c.self.view_is c.requires.free in
    let may = may_there c.args.kind c.args.mode _ _ _ _ c.self.view_is c.job_mut-next.ensures.job c.requires.may in
    ready c.self.inside c.args.mode c.job_mut-next.result.now.scene c.args.value c.self.invariant.holds free c.args.kind may.draws

pub begin_names-requires-clause-counted : goal.begin_names-requires-clause-counted
begin_names-requires-clause-counted c =
    subst AreCounted (sym c.take_images-image.ensures.store)
    (counted_begun c.args.kind (scene_streams c.job_mut-next.result.now.scene) c.self.inside.store c.self.invariant.counted)

pub begin_names-requires-clause-kept : goal.begin_names-requires-clause-kept
begin_names-requires-clause-kept c =
    let keeps = kept_of (IsKept (c.self.inside.begun + 1) c.args.kind c.args.mode c.take_images-image.result
    c.take_images-image.new.next.contents) _ _ c.take_images-image.ensures.frame
    (sym c.running.ensures ∙ ap option_copied c.in-Some.is) in
    subst (λ cs. AllByRecursion (λ x. IsSome (stream_at x.stream c.take_images-image.new.store.streams)) cs)
    (sym (c.as_slice.ensures.value ∙ keeps.contents_are))
    (subst (λ (v : StoreView). AllByRecursion (λ x. IsSome (stream_at x.stream v.streams))
    (map content_shape c.take_images-image.new.next.contents))
    (sym c.take_images-image.ensures.store) (contents_kept c.args.kind _ _ c.take_images-image.ensures.shaped))

pub begin_names-requires-clause-target : goal.begin_names-requires-clause-target
begin_names-requires-clause-target c =
    let free = no_frame c.self.inside _ c.self.view_is c.requires.free in
    let may = may_there c.args.kind c.args.mode _ _ _ _ c.self.view_is c.job_mut-next.ensures.job c.requires.may in
    let scene = c.job_mut-next.result.now.scene in
    subst (λ (v : StoreView). AllByRecursion (λ n. IsSome (stream_at n v.streams)) (drawn_names c.args.kind))
    (sym c.take_images-image.ensures.store)
    (drawn_kept c.args.kind (latch (scene_streams scene) c.self.inside.store.streams) c.self.inside.ports.items c.args.mode
    (ready c.self.inside c.args.mode scene c.args.value c.self.invariant.holds free c.args.kind may.draws))

pub begin_names-requires-clause-room : goal.begin_names-requires-clause-room
begin_names-requires-clause-room c n =
    subst (λ k. k < 2147483648) (sym (ap (count_of n) c.take_images-image.ensures.store))
    (room c.self.inside c.self.invariant c.prove_few_names.ensures c.prove_few_names-2.ensures n)

module _ (c : goal.After-done) where
  abbrev scene : Scene
  scene = c.job_mut-next.result.now.scene

  abbrev was : Inside
  was = c.self.inside

  abbrev frame : Frame
  frame = c.in-Some.frame.now

  runs : c.take_images-image.new.place ≡ Some frame
  runs = sym c.running.ensures ∙ ap option_copied c.in-Some.is

  abbrev contents : Images
  contents = c.take_images-image.new.next.contents

  abbrev given : Job
  given =
      record {
        number = was.begun + 1;
        kind = c.args.kind;
        scene = c.take_images-image.new.next.scene;
        contents = contents;
        image = c.take_images-image.result;
      }

  -- the machine before the store is told of the frame's names
  abbrev now : Inside
  now =
      record {
        store = c.take_images-image.new.store;
        core = was.core;
        display = was.display;
        ports = c.take_images-image.new.ports;
        begun = was.begun + 1;
        frame = c.take_images-image.new.place;
      }

  keeps : IsKept (was.begun + 1) c.args.kind c.args.mode c.take_images-image.result contents frame
  keeps = kept_of _ _ frame c.take_images-image.ensures.frame runs

  starts : Starts was now c.args.kind c.args.mode scene (record was.store { streams = latch (scene_streams scene) was.store.streams })
      contents contents c.take_images-image.result frame
  starts =
      record {
        free = no_frame was c.args.self.now c.self.view_is c.requires.free;
        sound = c.self.invariant.holds;
        may = may_there c.args.kind c.args.mode _ _ _ _ c.self.view_is c.job_mut-next.ensures.job c.requires.may;
        taken = c.take_images-image.ensures.contents;
        latched_is = refl;
        shaped = c.take_images-image.ensures.shaped;
        store = c.take_images-image.ensures.store;
        core = refl;
        display = refl;
        modes = c.take_images-image.ensures.modes;
        away = c.take_images-image.ensures.away;
        image_is = c.take_images-image.ensures.image;
        begun = refl;
        frame_is = runs;
        number = keeps.number_is;
        kind_is = keeps.kind_is;
        mode_is = keeps.mode_is;
        size = keeps.size_is;
        format = keeps.format_is;
        shapes = keeps.contents_are;
        contents_are = refl;
      }

  -- the store is told of them
  told : Renames [] (held_names frame.contents.items c.args.kind) now.store c.begin_names.new.store
  told =
      subst (λ cs. Renames [] (held_names cs c.args.kind) now.store c.begin_names.new.store) c.as_slice.ensures.value
      c.begin_names.ensures.begins

  sound_now : IsSound (record now { store = c.begin_names.new.store })
  sound_now =
      let a = c.args in
      sound_told was now (b was now a.kind a.mode scene a.value _ _ _ _ frame starts) frame contents
      (begun was now a.kind a.mode scene a.value _ _ _ _ frame starts) c.self.invariant was.ports.items a.mode
      (ready was a.mode scene a.value c.self.invariant.holds starts.free a.kind starts.may.draws)
      c.begin_names.new.store told c.begin_names.ensures.streams

  seen_now : state_of (record now { store = c.begin_names.new.store }) ≡ state_of now
  seen_now =
      let a = c.args in
      told_seen was now (b was now a.kind a.mode scene a.value _ _ _ _ frame starts) frame contents
      (begun was now a.kind a.mode scene a.value _ _ _ _ frame starts) c.self.invariant was.ports.items a.mode
      (ready was a.mode scene a.value c.self.invariant.holds starts.free a.kind starts.may.draws)
      c.begin_names.new.store told c.begin_names.ensures.streams

pub invariant_of-self : goal.invariant_of-self
invariant_of-self c = sound_now c

pub returns-clause-left : goal.returns-clause-left
returns-clause-left c =
    seen_now c
    ∙ left c.self.inside (now c) _ _ _ c.args.value _ _ _ _ (frame c) (starts c) c.args.self.now c.self.view_is
    ∙ ap (λ (j : Job). (start (beginning_of c.args.kind j.scene c.args.value c.args.self.now) c.args.self.now).0)
    c.job_mut-next.ensures.job

pub returns-clause-settled : goal.returns-clause-settled
returns-clause-settled c = sound_settles (record (now c) { store = c.begin_names.new.store }) (sound_now c)

pub returns-clause-answer : goal.returns-clause-answer
returns-clause-answer c =
    subst (λ (j : Job). IsAnswer (start (beginning_of c.args.kind j.scene c.args.value c.args.self.now) c.args.self.now).1
    (with_job c.done.result (job_in c.begin.new.self))) c.job_mut-next.ensures.job
    (subst (λ o. IsAnswer (start (beginning_of c.args.kind (scene c) c.args.value c.args.self.now) c.args.self.now).1
    (with_job c.done.result o)) (sym c.begin.ensures)
    (subst (λ a. IsAnswer (start (beginning_of c.args.kind (scene c) c.args.value c.args.self.now) c.args.self.now).1
    (with_job a (Some (given c)))) (sym c.done.ensures)
    (answers c.self.inside (now c) c.args.kind c.args.mode (scene c) c.args.value _ _ _ _ (frame c) (starts c)
    c.args.self.now c.self.view_is (given c) refl refl c.take_images-image.ensures.scene refl refl)))
