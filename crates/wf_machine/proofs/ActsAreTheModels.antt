-- What each call does and answers is what the plain machine does and answers.
use Rattle.wf_machine.proofs.Common.{◌≡◌, ℕ, Bool, true, false, List, Result, Ok, Err, Option, None, Some, refl, sym, ap, subst}
use Rattle.wf_machine.proofs.Common.{◌∙◌, Live, Canvas, Bitmap, Buffers, KeptStream, StoreView, Call, Job, JobKind, Reply, is_ok_code}
use Rattle.wf_machine.proofs.Common.{is_out_of_memory, CoreState, screen_of, end, is_of_frame, bare, refused, Running, State, act}
use Rattle.wf_machine.proofs.Common.{acquire_step, canvas_back, is_out_at_client, Fits, Inside, Holds, IsSound, IsSettled, settled_so}
use Rattle.wf_machine.proofs.Common.{state_of, IsAct, IsAnswer}
use Rattle.wf_machine.proofs.Common.{IfSome, SameImage, ◌+◌, length, map, length-map}
use Rattle.wf_machine.proofs.Common.{DisplayState, modes_of, core_names, display_names, settle}
use Rattle.wf_life.specs.declared.Kind.{Kind}
use Rattle.wf_life.specs.declared.Kind.TheVariants as lives
use Rattle.wf_life.specs.Handles.{live_count}
use Rattle.wf_calls.specs.declared.reply.Refusal.{Refusal}
use Rattle.wf_calls.specs.declared.call.JobKind.TheVariants as kind
use Rattle.wf_calls.specs.declared.reply.Payload.{Payload}
use Rattle.wf_calls.specs.declared.reply.Payload.TheVariants as payload
use Rattle.wf_model.specs.Composition.{core_answer}
use Rattle.wf_model.specs.Composing.{composed, core_side, with_side}
use Rattle.wf_model.specs.Calls.{core_call, display_call}
use Rattle.wf_calls.specs.Parts.{device_of, is_of_core, of_core, part_of}
use Rattle.wf_calls.specs.declared.reply.Answer.{Answer}
use Rattle.wf_calls.specs.Replies.{told, with_job}
use Rattle.wf_calls.specs.declared.call.Call.TheVariants as call
use Rattle.wf_calls.specs.declared.part.Part.TheVariants as part
use Rattle.std.proofs.lemmas.List.Sums.{length-filter}
use Rattle.wf_life.specs.Handles.{same_kind}
use Rattle.wf_life.specs.Living.{of_kind}
use Rattle.wf_model.specs.Composing.{display_side, displayed, with_display_side}
use Rattle.wf_model.specs.DisplaySides.{display_answer}
use Rattle.wf_model.specs.Kept.{modes_in, modes_stay}
use Rattle.wf_objects.specs.Fits.{mask_live, source_live}
use Rattle.wf_model.specs.Sides.{with_streams}
use Rattle.wf_objects.specs.Sides.{KeepsRest, core_side_of}
use Rattle.wf_display.specs.Does as does
use Rattle.wf_display.specs.Fits.{Fits as Shows, source_live as shown_live}
use Rattle.wf_display.specs.Sides as displays
use Rattle.wf_core.specs.Steps.{Steps}
use Rattle.wf_machine.specs.Object.{CarriesPaintable, IsMarkedAct, SamePayload}
use Rattle.wf_stream.specs.Names.{Recounts}
use Rattle.wf_model.specs.Composition.{CoreSide}
use Rattle.wf_model.specs.DisplaySides.{DisplaySide}
use Rattle.wf_machine.proofs.NamesOfOneSide.{composed_left, composed_state, displayed_left, displayed_state, sound_displayed}
use Rattle.wf_machine.proofs.SettledActIsStep.{settles_itself}

-- an answer without a Job to paint
abbrev IsPlain : Reply → Type 0
IsPlain r = CarriesPaintable (is_ok_code r.code) r.payload

same_image : (is_new : Bool) (k : JobKind) (image : Bitmap) → SameImage is_new k image image
same_image true (kind.Context handle target) image = refl
same_image true (kind.Port port) image = (refl, refl)
same_image false k image = refl

same_payload : (is_new : Bool) (p : Payload) → SamePayload is_new p p
same_payload is_new payload.Nothing = refl
same_payload is_new (payload.Canvas canvas) = refl
same_payload is_new (payload.Job job) = record {
  number = refl;
  kind = refl;
  scene = refl;
  contents = refl;
  image =
      same_image is_new job.kind job.image;
}

-- an answer as wanted that has no Job to paint
itself : (r : Reply) → IsPlain r → IsAnswer r r
itself r plain = record { code = refl; value = refl; payload = same_payload (is_ok_code r.code) r.payload; paintable = plain }

-- a call was matched, and did and answered as the plain machine does, without a Job to paint

pub as_marked_act : (m : Bool) (h left : State) (c wanted : Call) (reply : Reply) → c ≡ wanted
    → settled_so (act h wanted m) ≡ (left, reply) → IsPlain reply → IsMarkedAct m h c left reply
as_marked_act m h left c wanted reply is goes plain =
    subst (λ x. IsMarkedAct m h x left reply) (sym is)
    (record {
      left_is = sym (ap (λ x. x.0) goes);
      answer = subst (λ r. IsAnswer r reply) (sym (ap (λ x. x.1) goes)) (itself reply plain);
    })

pub as_act : (h left : State) (c wanted : Call) (reply : Reply) → c ≡ wanted
    → settled_so (act h wanted (is_out_of_memory reply.code)) ≡ (left, reply) → IsPlain reply → IsAct h c left reply
as_act h left c wanted reply is goes plain = as_marked_act (is_out_of_memory reply.code) h left c wanted reply is goes plain

-- what leaves no stream without a name
pub as_settled : (x : State × Reply) (left : State) (reply : Reply) → x ≡ (left, reply) → IsSettled left → settled_so x ≡ (left, reply)
as_settled x left reply is named = ap settled_so is ∙ ap (λ s. (s, reply)) (settles_itself left named)

pub settled_left : (x : State × Reply) (left : State) → left ≡ x.0 → IsSettled left → left ≡ (settled_so x).0
settled_left x left is named = sym (settles_itself left named) ∙ ap settle is

-- nothing comes with an answer
pub as_bare : (m : Bool) (h left : State) (c : Call) (reply : Reply) → reply ≡ bare (told reply)
    → IsMarkedAct m h c left (bare (told reply)) → IsMarkedAct m h c left reply
as_bare m h left c reply is done = subst (IsMarkedAct m h c left) (sym is) done

-- a call was matched whose answer may have a Job
pub as_begin : (h left : State) (c wanted : Call) (reply : Reply) → c ≡ wanted
    → left ≡ (settled_so (act h wanted (is_out_of_memory reply.code))).0
    → IsAnswer (act h wanted (is_out_of_memory reply.code)).1 reply → IsAct h c left reply
as_begin h left c wanted reply is leaves answers = subst (λ x. IsAct h x left reply) (sym is)
    (record { left_is = leaves; answer = answers })

-- the answer of a step that is plain
pub plain_of : (x : State × Reply) (left : State) (reply : Reply) → x ≡ (left, reply) → IsPlain x.1 → IsPlain reply
plain_of x left reply is plain = subst IsPlain (ap (λ y. y.1) is) plain

pub plain_answer : (a : Answer) → IsPlain (bare a)
plain_answer a = nothing (is_ok_code a.code)
  where
    nothing : (b : Bool) → CarriesPaintable b payload.Nothing
    nothing true = tt
    nothing false = tt

pub plain_acquired : (h : State) (o : Result KeptStream Refusal) → IsPlain (acquire_step h o).1
plain_acquired h (Ok s) = tt
plain_acquired h (Err r) = plain_answer (refused r)

pub plain_back : (canvas : Canvas) (f : Buffers → Buffers) (h : State) → IsPlain (canvas_back canvas f h).1
plain_back canvas f h = of_test (is_out_at_client canvas h) refl
  where
    of_test : (b : Bool) → is_out_at_client canvas h ≡ b → IsPlain (canvas_back canvas f h).1
    of_test true is = rw is tt
    of_test false is = rw is tt

pub plain_end : (job : Job) (h : State) → IsPlain (end job h).1
plain_end job h = of_frame h.frame refl
  where
    of_test : (f : Running) → h.frame ≡ Some f → (b : Bool) → is_of_frame job f ≡ b → IsPlain (end job h).1
    of_test f runs true is = rw (runs, is) tt
    of_test f runs false is = rw (runs, is) tt

    of_frame : (o : Option Running) → h.frame ≡ o → IsPlain (end job h).1
    of_frame None free = rw free tt
    of_frame (Some f) runs = of_test f runs (is_of_frame job f) refl

-- the Job that stands in a place is ended
pub as_ended : (h left : State) (a : Answer) (o now : Option Job) → IfSome o (λ job. settled_so (end job h) ≡ (left, with_job a now))
    → IfSome o (λ job. IsAct h (call.End job) left (with_job a now))
unfolding act
as_ended h left a None now ends = tt
as_ended h left a (Some job) now ends =
    as_act h left (call.End job) (call.End job) (with_job a now) refl ends (plain_of _ _ _ ends (plain_end job h))

-- what calls see of the machine is what they see of its state

counted : {A : Type 0} (k : Kind) (g : A → Live) (xs : List A) (others : List Live) → of_kind k others ≡ map g xs
    → live_count k others ≡ length xs
counted k g xs others is = sym (length-filter (λ l. same_kind l.kind k) others) ∙ ap length is ∙ length-map xs g

core_side_is : (m : Inside) → Holds m → core_side_of m.core m.store ≡ core_side (state_of m)
core_side_is m sound = ap (λ n. record { made = m.store.made; streams = m.store.streams; core = m.core; display_sources = n })
    (counted lives.DisplaySource shown_live m.display.sources m.store.others sound.shows.handles.sources)

display_side_is : (m : Inside) → Holds m → displays.display_side_of m.display m.store ≡ display_side (state_of m)
display_side_is m sound = ap (λ n. record { made = m.store.made; streams = m.store.streams; display = m.display; composition_sources = n })
    (ap (λ n. n + live_count lives.Mask m.store.others)
    (counted lives.Source source_live m.core.sources m.store.others sound.fits.handles.sources)
    ∙ ap (λ n. length m.core.sources + n) (counted lives.Mask mask_live m.core.masks m.store.others sound.fits.handles.masks))

-- calls of composition

module _ (inside : Inside) (h : State) (seen : state_of inside ≡ h) (sound : IsSound inside) (core : CoreState) (store : StoreView)
    (rest : KeepsRest inside.store store) (names : Recounts (core_names inside.core) (core_names core) inside.store store)
    (fits : Fits core store) where
  -- a call of composition did and answered as the plain call, where memory is refused or not
  pub as_marked_composed : (m : Bool) (c : Call) (screen : Option ℕ) (a : Answer) → is_of_core (part_of c) ≡ true
      → screen ≡ screen_of c h
      → core_answer (device_of c) (core_side_of inside.core inside.store) (core_call screen m c (core_side_of inside.core inside.store))
      ≡ (core_side_of core (with_streams inside.store.streams store), a)
      → IsMarkedAct m h c (state_of (record inside { core = core; store = store })) (bare a)
  unfolding act
  as_marked_composed m c screen a ours asked step =
      as_marked_act m h (state_of (record inside { core = core; store = store })) c c (bare a) refl (ap settled_so goes
      ∙ ap (λ s. (s, bare a)) (sym (composed_left inside sound core store rest names fits))) (plain_answer a)
    where
      acts : act h c m ≡ composed (device_of c) (core_call (screen_of c h) m c) h
      acts = rw (of_core (part_of c) ours) refl

      side : core_side_of inside.core inside.store ≡ core_side h
      side = core_side_is inside sound.holds ∙ ap core_side seen

      left_side : CoreSide
      left_side = core_side_of core (with_streams inside.store.streams store)

      there : core_answer (device_of c) (core_side h) (core_call (screen_of c h) m c (core_side h)) ≡ (left_side, a)
      there =
          ap (λ w. core_answer (device_of c) w (core_call (screen_of c h) m c w)) (sym side)
          ∙ ap (λ s. core_answer (device_of c) (core_side_of inside.core inside.store)
          (core_call s m c (core_side_of inside.core inside.store))) (sym asked)
          ∙ step

      goes : act h c m ≡ (composed_state inside sound core store rest names fits, bare a)
      goes = acts ∙ ap (λ x. (with_side x.0 h, bare x.1)) there ∙ ap (λ s. (with_side left_side s, bare a)) (sym seen)

  -- so it is where want of memory is told by the answer
  pub as_composed : (c : Call) (screen : Option ℕ) (a : Answer) → is_of_core (part_of c) ≡ true → screen ≡ screen_of c h
      → Steps (device_of c) (λ m. core_call screen m c) KeepsRest inside.core core inside.store store (bare a)
      → IsAct h c (state_of (record inside { core = core; store = store })) (bare a)
  as_composed c screen a ours asked steps = as_marked_composed (is_out_of_memory a.code) c screen a ours asked steps.step

-- calls of the display

module _ (m : Bool) (inside : Inside) (h : State) (seen : state_of inside ≡ h) (sound : IsSound inside) (d : DisplayState)
    (store : StoreView) (c : Call) (a : Answer) (rest : displays.KeepsRest inside.store store)
    (names : Recounts (display_names inside.display) (display_names d) inside.store store) (fits : Shows d store)
    (step : display_answer (displays.display_side_of inside.display inside.store)
    (display_call m c (displays.display_side_of inside.display inside.store))
    ≡ (displays.display_side_of d (with_streams inside.store.streams store), a)) where
  -- it changes no modes
  same_modes : modes_of d ≡ modes_of inside.display
  same_modes = sym (ap (λ x. modes_in x.0) step) ∙ modes_stay m c (displays.display_side_of inside.display inside.store)

  -- what holds of the machine holds after it
  pub sound_marked_displayed : IsSound (record inside { display = d; store = store })
  sound_marked_displayed = sound_displayed inside sound d store rest names fits same_modes

  -- a call of the display did and answered as the plain call, where memory is refused or not
  pub as_marked_displayed : part_of c ≡ part.Display
      → IsMarkedAct m h c (state_of (record inside { display = d; store = store })) (bare a)
  unfolding act
  as_marked_displayed ours =
      as_marked_act m h (state_of (record inside { display = d; store = store })) c c (bare a) refl (ap settled_so goes
      ∙ ap (λ s. (s, bare a)) (sym (displayed_left inside sound d store rest names fits same_modes))) (plain_answer a)
    where
      acts : act h c m ≡ displayed (display_call m c) h
      acts = rw ours refl

      side : displays.display_side_of inside.display inside.store ≡ display_side h
      side = display_side_is inside sound.holds ∙ ap display_side seen

      left_side : DisplaySide
      left_side = displays.display_side_of d (with_streams inside.store.streams store)

      there : display_answer (display_side h) (display_call m c (display_side h)) ≡ (left_side, a)
      there = ap (λ w. display_answer w (display_call m c w)) (sym side) ∙ step

      goes : act h c m ≡ (displayed_state inside sound d store rest names fits same_modes, bare a)
      goes = acts ∙ ap (λ x. (with_display_side x.0 h, bare x.1)) there ∙ ap (λ s. (with_display_side left_side s, bare a)) (sym seen)

-- so it is where want of memory is told by the answer

module _ (inside : Inside) (h : State) (seen : state_of inside ≡ h) (sound : IsSound inside) (d : DisplayState) (store : StoreView)
    (c : Call)
    (a : Answer) (steps : does.Steps (λ m. display_call m c) displays.KeepsRest inside.display d inside.store store (bare a)) where
  pub sound_after_display : IsSound (record inside { display = d; store = store })
  sound_after_display =
      sound_marked_displayed (is_out_of_memory a.code) inside h seen sound d store c a steps.kept steps.names steps.fits steps.step

  pub as_displayed : part_of c ≡ part.Display → IsAct h c (state_of (record inside { display = d; store = store })) (bare a)
  as_displayed ours =
      as_marked_displayed (is_out_of_memory a.code) inside h seen sound d store c a steps.kept steps.names steps.fits steps.step ours
