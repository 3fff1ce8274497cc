-- A context's frame that begins.
use Rattle.wf_machine.proofs.Common.{◌≡◌, ℕ, Bool, true, false, cond, ◌==◌, List, Option, Some, None, refl, sym, Ok, ap, subst, ◌∙◌}
use Rattle.wf_machine.proofs.Common.{option_map, IfSome, IsSomeAnd, eq-eqb, is_in, is_a8, Bitmap, Scene, Buffers, away_if, latched}
use Rattle.wf_machine.proofs.Common.{latched_if}
use Rattle.wf_machine.proofs.Common.{next_image, KeptStream, StoreView, buffers_at, change_stream}
use Rattle.wf_machine.proofs.Common.{stream_at, has_number, Context, is_running}
use Rattle.wf_machine.proofs.Common.{latch, latched_among, target_ready, State, ContextFits, Fits, next_shown, IsComposable, MayStart}
use Rattle.std.specs.Prelude.{◌&&◌, Result, Err}
use Rattle.std.proofs.lemmas.Bool.{and_parts, eqb-true}
use Rattle.wf_words.specs.Found.{passes}
use Rattle.wf_words.specs.Keyed.{at_key}
use Rattle.wf_words.specs.Refusals.{◌>>=◌, found_or}
use Rattle.wf_calls.specs.declared.code.Code.{Code}
use Rattle.wf_calls.specs.declared.reply.Refusal.{Refusal}
use Rattle.wf_calls.specs.Replies.{refusal}
use Rattle.wf_calls.specs.declared.call.JobKind.TheVariants as kind
use Rattle.wf_calls.specs.declared.code.Code.TheVariants as code
use Rattle.wf_calls.specs.Codes.{is_ok_code}
use Rattle.wf_calls.specs.Parts.{no_register, of_device as of_device_register}
use Rattle.wf_calls.specs.declared.reply.Reply.{Reply}
use Rattle.wf_model.specs.Frames.{Beginning, begin_composed, begin_context, begin_next, next_context, started}
use Rattle.wf_model.specs.Registers.{offered}
use Rattle.wf_machine.specs.Object.{IsAnswer}
use Rattle.wf_model.specs.Frames.{is_short, all_begun}
use Rattle.wf_model.specs.Objects.{Device}
use Rattle.wf_model.specs.Outcome.{refuse, refuse_with}
use Rattle.wf_objects.specs.Owners.{of_device}
use Rattle.wf_objects.specs.Shows.{Shown, next_of, shown_context, shown_of}
use Rattle.wf_machine.proofs.StreamsLatched.{KeepsShape}
use Rattle.wf_machine.proofs.StreamsMapped.{buffers_mapped, changed_at, changed_keeps, latch_keeps}
use Rattle.wf_words.specs.Each.{each_found}

-- what a context composes fits the streams
composable : (ss : List KeptStream) (c : Context) → ContextFits ss c → IsComposable ss c.target c.committed
composable ss c fits = record { target_is = of_buffers (buffers_at c.target ss) fits.target; layers = fits.layers }
  where
    of_buffers : (o : Option Buffers) → IsSomeAnd o (λ b. (b.size ≡ c.cached.size) × (is_a8 b.format ≡ false))
        → IsSomeAnd o (λ b. (b.size ≡ c.committed.size) × (is_a8 b.format ≡ false))
    of_buffers None is = absurd is
    of_buffers (Some b) is = (is.0 ∙ sym fits.size, is.1)

-- the next context

module _ (h : State) (after handle : ℕ) (shown : Shown) (found : Some (handle, shown) ≡ next_shown after h.core) where
  -- what is begun next is a frame of the context that is shown
  module _ (P : ℕ → ℕ → Scene → Type 0) where
    of_shown : (c : Context) → Some (handle, shown) ≡ Some (next_of c) → P c.handle c.target c.committed → P handle shown.target shown.scene
    of_shown c is holds =
        let same : next_of c ≡ (handle, shown) = cc in
        subst (λ x. P x.0 x.1.target x.1.scene) same holds

  pub next_is : is_running h ≡ false → begin_next after h ≡ begin_context handle handle shown.target shown.scene h
  next_is free = of_context (next_context after h.core.contexts) refl found
    where
      of_context : (o : Option Context) → next_context after h.core.contexts ≡ o → Some (handle, shown) ≡ option_map next_of o
          → begin_next after h ≡ begin_context handle handle shown.target shown.scene h
      of_context None none is = absurd cc
      of_context (Some c) some is = of_shown (λ n target scene. begin_next after h ≡ begin_context n n target scene h) c is
          (rw (free, some) refl)

  pub next_fits : (store : StoreView) → store.streams ≡ h.streams → Fits h.core store → IsComposable h.streams shown.target shown.scene
  next_fits store same fits = subst (λ ss. IsComposable ss shown.target shown.scene) same
      (of_context (next_context after h.core.contexts) refl found)
    where
      of_context : (o : Option Context) → next_context after h.core.contexts ≡ o → Some (handle, shown) ≡ option_map next_of o
          → IsComposable store.streams shown.target shown.scene
      of_context None none is = absurd cc
      of_context (Some c) some is =
          of_shown (λ n target scene. IsComposable store.streams target scene) c is
          (composable store.streams c (each_found (ContextFits store.streams) _ h.core.contexts c fits.streams.contexts some))

-- a context that a client asks for

-- a frame of it, by what it shows
abbrev pub begin_asked : ℕ → Shown → State → Result (Option Beginning) Refusal
begin_asked handle shown h = do
  _ ← refuse code.Unsupported shown.active
  _ ← refuse code.Busy (is_running h)
  begin_context 0 handle shown.target shown.scene h

-- where it is not active and no frame runs, it may begin by its target alone
pub asked_free : (handle : ℕ) (shown : Shown) (h : State) → shown.active ≡ false → is_running h ≡ false
    → begin_asked handle shown h ≡ begin_context 0 handle shown.target shown.scene h
asked_free handle shown h inactive free = rw (inactive, free) refl

module _ (h : State) (d handle : ℕ) where
  -- a context of the device has the handle
  module _ (shown : Shown) (is : Ok shown ≡ shown_context d handle h.core) where
    record Asked : Type 0 where
      device_at : Device
      context_at : Context
      lives : at_key (λ x. x.handle) d h.core.devices ≡ Some device_at
      stands : of_device d handle h.core.contexts ≡ Some context_at
      shows : shown_of context_at ≡ shown

    asked : Asked
    asked = of_devices (at_key (λ x. x.handle) d h.core.devices) refl is
      where
        of_contexts : (x : Device) → at_key (λ x. x.handle) d h.core.devices ≡ Some x → (o : Option Context)
            → of_device d handle h.core.contexts ≡ o
            → Ok shown ≡ (found_or code.BadHandle o >>= (λ c. Ok (shown_of c))) → Asked
        of_contexts x lives None stands is = absurd cc
        of_contexts x lives (Some c) stands is =
            record { device_at = x; context_at = c; lives = lives; stands = stands; shows = cc }

        of_devices : (o : Option Device) → at_key (λ x. x.handle) d h.core.devices ≡ o
            → Ok shown ≡ (found_or code.BadDevice o >>= (λ _. found_or code.BadHandle (of_device d handle h.core.contexts)
            >>= (λ c. Ok (shown_of c))))
            → Asked
        of_devices None lives is = absurd cc
        of_devices (Some x) lives is = of_contexts x lives (of_device d handle h.core.contexts) refl is

    own_handle : asked.context_at.handle ≡ handle
    own_handle =
        let c = asked.context_at in
        let both = passes (λ (x : Context). (x.handle == handle) && (x.device == d)) h.core.contexts c asked.stands in
        eqb-true c.handle handle (and_parts (c.handle == handle) (c.device == d) both).0

    pub asked_is : begin_composed d handle h ≡ begin_asked handle shown h
    asked_is =
        let c = asked.context_at in
        rw (asked.lives, asked.stands) (ap (λ n. refuse code.Unsupported c.active >>= (λ _. refuse code.Busy (is_running h)
        >>= (λ _. begin_context 0 n c.target c.committed h))) own_handle)
        ∙ ap (λ s. begin_asked handle s h) asked.shows

    pub asked_fits : (store : StoreView) → store.streams ≡ h.streams → Fits h.core store
        → IsComposable h.streams shown.target shown.scene
    asked_fits store same fits =
        subst (λ (s : Shown). IsComposable h.streams s.target s.scene) asked.shows
        (subst (λ ss. IsComposable ss asked.context_at.target asked.context_at.committed) same
        (composable store.streams asked.context_at
        (each_found (ContextFits store.streams) _ h.core.contexts asked.context_at fits.streams.contexts asked.stands)))

  -- none has
  pub asked_none : (broken : Code) → Err broken ≡ shown_context d handle h.core → begin_composed d handle h ≡ Err (refusal broken)
  asked_none broken is = of_devices (at_key (λ x. x.handle) d h.core.devices) refl is
    where
      of_contexts : (x : Device) → at_key (λ x. x.handle) d h.core.devices ≡ Some x → (o : Option Context)
          → of_device d handle h.core.contexts ≡ o
          → Err broken ≡ (found_or code.BadHandle o >>= (λ c. Ok (shown_of c))) → begin_composed d handle h ≡ Err (refusal broken)
      of_contexts x lives None stands is = (let same : code.BadHandle ≡ broken = cc in rw (lives, stands) (ap (λ y. Err (refusal y)) same))
      of_contexts x lives (Some c) stands is = absurd cc

      of_devices : (o : Option Device) → at_key (λ x. x.handle) d h.core.devices ≡ o
          → Err broken ≡ (found_or code.BadDevice o >>= (λ _. found_or code.BadHandle (of_device d handle h.core.contexts)
          >>= (λ c. Ok (shown_of c))))
          → begin_composed d handle h ≡ Err (refusal broken)
      of_devices None lives is = (let same : code.BadDevice ≡ broken = cc in rw lives (ap (λ y. Err (refusal y)) same))
      of_devices (Some x) lives is = of_contexts x lives (of_device d handle h.core.contexts) refl is

-- a refusal that the register of a device takes

module _ (d : ℕ) (h : State) (r : Result (Option Beginning) Refusal) where
  pub same_answer : (started no_register h r).1 ≡ (started (of_device_register d) h r).1
  same_answer = of_result r
    where
      of_result : (x : Result (Option Beginning) Refusal) → (started no_register h x).1 ≡ (started (of_device_register d) h x).1
      of_result (Ok None) = refl
      of_result (Ok (Some b)) = refl
      of_result (Err x) = refl

  pub recorded_is : (reply : Reply) → IsAnswer (started no_register h r).1 reply → is_ok_code reply.code ≡ false
      → offered (of_device_register d) reply.code (started no_register h r).0 ≡ (started (of_device_register d) h r).0
  recorded_is reply answer refused = of_result r answer
    where
      done : reply.code ≡ code.Ok → ⊥
      done is = (let no : true ≡ false = sym (ap is_ok_code is) ∙ refused in cc)

      of_result : (x : Result (Option Beginning) Refusal) → IsAnswer (started no_register h x).1 reply
          → offered (of_device_register d) reply.code (started no_register h x).0 ≡ (started (of_device_register d) h x).0
      of_result (Ok None) answer = absurd (done answer.code)
      of_result (Ok (Some b)) answer = absurd (done answer.code)
      of_result (Err x) answer = ap (λ y. offered (of_device_register d) y h) answer.code

-- the target

-- the buffers of the stream of a number, changed
pub changed_here : (f : Buffers → Buffers) (n : ℕ) (ss : List KeptStream) (b : Buffers) → KeepsShape f → buffers_at n ss ≡ Some b
    → buffers_at n (change_stream n f ss) ≡ Some (f b)
changed_here f n ss b keeps found = of_stream (stream_at n ss) refl
  where
    of_stream : (o : Option KeptStream) → stream_at n ss ≡ o → buffers_at n (change_stream n f ss) ≡ Some (f b)
    of_stream None at = absurd (let no : None ≡ Some b = rw at at found in cc)
    of_stream (Some s) at =
        let is : Some s.buffers ≡ Some b = rw at at found in
        let same : s.buffers ≡ b = cc in
        let here : (s.number == n) ≡ true = eq-eqb s.number n (has_number n ss s at) in
        buffers_mapped (changed_at n f) (changed_keeps n f keeps) n ss
        ∙ ap (λ o. option_map (λ t. (changed_at n f t).buffers) o) at
        ∙ ap (λ x. Some (cond x (record s { buffers = f s.buffers }) s).buffers) here ∙ ap (λ c. Some (f c)) same

-- the buffers of a stream after a frame took the images of some
pub latched_here : (ns : List ℕ) (n : ℕ) (ss : List KeptStream) (b : Buffers) → buffers_at n ss ≡ Some b
    → buffers_at n (latch ns ss) ≡ Some (latched_if (is_in n ns) b)
latched_here ns n ss b found = of_stream (stream_at n ss) refl
  where
    of_stream : (o : Option KeptStream) → stream_at n ss ≡ o → buffers_at n (latch ns ss) ≡ Some (latched_if (is_in n ns) b)
    of_stream None at = absurd (let no : None ≡ Some b = rw at at found in cc)
    of_stream (Some s) at =
        let is : Some s.buffers ≡ Some b = rw at at found in
        let same : s.buffers ≡ b = cc in
        buffers_mapped (latched_among ns) (latch_keeps ns) n ss
        ∙ ap (λ o. option_map (λ t. (latched_among ns t).buffers) o) at
        ∙ elim (is_in s.number ns) as (λ x. Some (cond x (record s { buffers = latched s.buffers }) s).buffers
        ≡ Some (latched_if x s.buffers)) [
          | true ↦ refl
          | false ↦ refl
        ]
        ∙ ap (λ k. Some (latched_if (is_in k ns) s.buffers)) (has_number n ss s at)
        ∙ ap (λ c. Some (latched_if (is_in n ns) c)) same

latched_out : (b : Buffers) → (latched b).out ≡ b.out
latched_out b = of_next_image (next_image b)
  where
    of_next_image : (o : Option Bitmap) → (away_if o b).out ≡ b.out
    of_next_image None = refl
    of_next_image (Some image) = refl

-- a target that is ready has its write buffer at home, and a free one after the latches
pub is_ready : (target : ℕ) (scene : Scene) (b : Buffers) (h : State) → target_ready 0 target scene b h ≡ Ok tt
    → (b.out ≡ false) × (is_short target scene b ≡ false)
is_ready target scene b h ready = of_tests b.out (is_short target scene b) ready
  where
    of_tests : (x y : Bool)
        → (refuse_with code.Busy 0 x >>= (λ _. refuse_with code.NoBuffer 0 y >>= (λ _. refuse_with code.Limit 0 (all_begun h)))) ≡ Ok tt
        → (x ≡ false) × (y ≡ false)
    of_tests true y is = absurd cc
    of_tests false true is = absurd cc
    of_tests false false is = (refl, refl)

-- whether it is ready says nothing of the value of a refusal
ready_without : (value target : ℕ) (scene : Scene) (b : Buffers) (h : State) → Ok tt ≡ target_ready value target scene b h
    → target_ready 0 target scene b h ≡ Ok tt
ready_without value target scene b h ready = of_tests b.out (is_short target scene b) (all_begun h) ready
  where
    tests : ℕ → Bool → Bool → Bool → Result (Unit {0}) Refusal
    tests v x y z = refuse_with code.Busy v x >>= (λ _. refuse_with code.NoBuffer v y >>= (λ _. refuse_with code.Limit v z))

    of_tests : (x y z : Bool) → Ok tt ≡ tests value x y z → tests 0 x y z ≡ Ok tt
    of_tests true y z is = absurd cc
    of_tests false true z is = absurd cc
    of_tests false false true is = absurd cc
    of_tests false false false is = refl

pub latched_if_out : (shows : Bool) (b : Buffers) → (latched_if shows b).out ≡ b.out
latched_if_out true b = latched_out b
latched_if_out false b = refl

-- a frame of a composable scene whose target is ready may start
pub may_compose : (value handle target : ℕ) (scene : Scene) (h : State) → IsComposable h.streams target scene
    → IfSome (buffers_at target h.streams) (λ b. Ok tt ≡ target_ready value target scene b h)
    → MayStart (kind.Context handle target) 0 scene h
may_compose value handle target scene h fits ready =
    record { draws = of_buffers (buffers_at target h.streams) fits.target_is ready; layers = fits.layers }
  where
    of_buffers : (o : Option Buffers) → IsSomeAnd o (λ b. (b.size ≡ scene.size) × (is_a8 b.format ≡ false))
        → IfSome o (λ b. Ok tt ≡ target_ready value target scene b h)
        → IsSomeAnd o (λ b. (b.size ≡ scene.size) × (is_a8 b.format ≡ false) × (target_ready 0 target scene b h ≡ Ok tt))
    of_buffers None size ready = absurd size
    of_buffers (Some b) size ready = (size.0, size.1, ready_without value target scene b h ready)
