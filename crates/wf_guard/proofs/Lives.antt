-- Which streams are live after a call, and how many bytes their buffers take.
use Rattle.std.proofs.Common.{◌≡◌, ◌∙◌, ℕ, ◌+◌, Bool, true, false, cond, not, ◌==◌, ◌||◌, List, [], ◌∷◌, ◌++◌, map, filter, Option, Some}
use Rattle.std.proofs.Common.{None}
use Rattle.std.proofs.Common.{Result, Ok, Err, refl, sym, ap, flat_map, arith}
use Rattle.std.proofs.lemmas.Bool.Decides.{nat_tests}
use Rattle.std.proofs.lemmas.List.{map-append}
use Rattle.std.specs.Prelude.{ℤ}
use Rattle.wf_pixel.specs.declared.Format.{Format}
use Rattle.wf_words.specs.Keyed.{is_in}
use Rattle.wf_words.specs.Refusals.{◌>>=◌}
use Rattle.wf_image.specs.Bitmap.{Bitmap}
use Rattle.wf_image.specs.Contents.{image_of}
use Rattle.wf_image.specs.declared.canvas.Canvas.{Canvas}
use Rattle.wf_life.specs.Handles.{is_full}
use Rattle.wf_stream.specs.Buffers.{Buffers, acquired, away_if, buffer_bytes, discarded, next_image, posted}
use Rattle.wf_stream.specs.Streams.{KeptStream, change_stream, has_no_room, stream_of, unnamed}
use Rattle.wf_calls.specs.Codes.{is_ok_code}
use Rattle.wf_calls.specs.Parts.{Register, no_register, of_device, of_display, part_of, recorded_by}
use Rattle.wf_calls.specs.Replies.{bare, done, gives_back_canvas}
use Rattle.wf_calls.specs.declared.call.Call.{Call}
use Rattle.wf_calls.specs.declared.call.Call.TheVariants as call
use Rattle.wf_calls.specs.declared.call.Job.{Job}
use Rattle.wf_calls.specs.declared.call.JobKind.{JobKind}
use Rattle.wf_calls.specs.declared.call.JobKind.TheVariants as kind
use Rattle.wf_calls.specs.declared.code.Code.{Code}
use Rattle.wf_calls.specs.declared.code.Code.TheVariants as code
use Rattle.wf_calls.specs.declared.part.Part.{Part}
use Rattle.wf_calls.specs.declared.part.Part.TheVariants as part
use Rattle.wf_calls.specs.declared.reply.Refusal.{Refusal}
use Rattle.wf_calls.specs.declared.reply.Reply.{Reply}
use Rattle.wf_model.specs.Calls.{begin_call, buffer_call, core_call, display_call, end_call, stream_call}
use Rattle.wf_model.specs.Composing.{composed, core_side, display_side, displayed, screen_of}
use Rattle.wf_model.specs.Composition.{CoreSide}
use Rattle.wf_model.specs.DisplaySides.{DisplaySide}
use Rattle.wf_model.specs.Effects.{core_leaves_streams, display_leaves_streams}
use Rattle.wf_model.specs.Frames.{Beginning, brought_home, delivered, drawing, end, home_if, is_of_frame, latch}
use Rattle.wf_model.specs.Frames.{latched_among, scene_streams, started}
use Rattle.wf_model.specs.Named.{in_back, in_first, in_front}
use Rattle.wf_model.specs.Names.{all_names, core_names, display_names, frame_names, own_names, settle_if}
use Rattle.wf_model.specs.Outcome.{Leaves, Outcome, refuse}
use Rattle.wf_model.specs.Picture.{Images}
use Rattle.wf_model.specs.Registers.{offered}
use Rattle.wf_model.specs.State.{Running, State}
use Rattle.wf_model.specs.Step.{act, act_of, step}
use Rattle.wf_model.specs.Streams.{acquirable, acquire_step, canvas_back, is_out_at_client, may_make, new_buffers, stream_destroy}
use Rattle.wf_model.specs.Streams.{stream_made}
use Rattle.wf_model.specs.Streams.{stream_step, with_stream}
use Rattle.wf_guard.specs.LiveStreams.{live_bytes, live_handles, lives_after, lives_if}
use Rattle.wf_guard.specs.Requests.{stream_bytes}

-- lists of streams

-- a change that keeps each handle and the bytes of the buffers
record Steady (g : KeptStream → KeptStream) : Type 0 where
  handle : (s : KeptStream) → (g s).handle ≡ s.handle
  bytes : (s : KeptStream) → buffer_bytes (g s).buffers ≡ buffer_bytes s.buffers

mapped : (g : KeptStream → KeptStream) → Steady g → (ss : List KeptStream) → live_bytes (map g ss) ≡ live_bytes ss
mapped g keeps [] = refl
mapped g keeps (s ∷ ss) = rw (keeps.handle s, keeps.bytes s, mapped g keeps ss) refl

-- a change of buffers that keeps their bytes
abbrev KeepsBytes : (Buffers → Buffers) → Type 0
KeepsBytes f = (b : Buffers) → buffer_bytes (f b) ≡ buffer_bytes b

changed : (k : ℕ) (f : Buffers → Buffers) → KeepsBytes f → (ss : List KeptStream) → live_bytes (change_stream k f ss) ≡ live_bytes ss
changed k f same ss =
    mapped (λ t. cond (t.number == k) (record t { buffers = f t.buffers }) t)
    (record { handle = λ t. handle t (t.number == k); bytes = λ t. bytes t (t.number == k) }) ss
  where
    handle : (t : KeptStream) (b : Bool) → (cond b (record t { buffers = f t.buffers }) t).handle ≡ t.handle
    handle t true = refl
    handle t false = refl

    bytes : (t : KeptStream) (b : Bool) → buffer_bytes (cond b (record t { buffers = f t.buffers }) t).buffers ≡ buffer_bytes t.buffers
    bytes t true = same t.buffers
    bytes t false = refl

more : (new : KeptStream) (ss : List KeptStream) → (new.handle == 0) ≡ false
    → live_bytes (ss ++ new ∷ []) ≡ live_bytes ss ++ (new.handle, buffer_bytes new.buffers) ∷ []
more new [] live = rw live refl
more new (s ∷ ss) live =
    elim (s.handle == 0)
    as (λ b. cond b (live_bytes (ss ++ new ∷ [])) ((s.handle, buffer_bytes s.buffers) ∷ live_bytes (ss ++ new ∷ []))
    ≡ cond b (live_bytes ss) ((s.handle, buffer_bytes s.buffers) ∷ live_bytes ss) ++ (new.handle, buffer_bytes new.buffers) ∷ []) [
      | true ↦ more new ss live
      | false ↦ ap (λ l. (s.handle, buffer_bytes s.buffers) ∷ l) (more new ss live)
    ]

-- what is left without a stream
abbrev pub but : ℕ → List (ℕ × ℕ) → List (ℕ × ℕ)
but k live = filter (λ e. not (e.0 == k)) live

dead : (k : ℕ) (ss : List KeptStream) → live_bytes (map (unnamed k) ss) ≡ but k (live_bytes ss)
dead k [] = refl
dead k (s ∷ ss) = by_tests (dead k ss) (s.handle == k) refl (s.handle == 0) refl
  where
    by_tests : live_bytes (map (unnamed k) ss) ≡ but k (live_bytes ss) → (b : Bool) → (s.handle == k) ≡ b → (z : Bool)
        → (s.handle == 0) ≡ z → live_bytes (unnamed k s ∷ map (unnamed k) ss) ≡ but k (live_bytes (s ∷ ss))
    by_tests rest true is true zero = rw (is, zero) rest
    by_tests rest true is false zero = rw (is, zero, is) rest
    by_tests rest false is true zero = rw (is, zero) rest
    by_tests rest false is false zero = rw (is, zero, is) (ap (λ l. (s.handle, buffer_bytes s.buffers) ∷ l) rest)

-- every live stream is kept
kept_live : (ns : List ℕ) (ss : List KeptStream) → ((n : ℕ) → is_in n (flat_map own_names ss) ≡ true → is_in n ns ≡ true)
    → live_bytes (filter (λ s. is_in s.number ns) ss) ≡ live_bytes ss
kept_live ns [] named = refl
kept_live ns (s ∷ ss) named =
    by_tests (kept_live ns ss (λ n is. named n (in_back n (own_names s) (flat_map own_names ss) is))) (s.handle == 0) refl
    (is_in s.number ns) refl
  where
    by_tests : live_bytes (filter (λ s. is_in s.number ns) ss) ≡ live_bytes ss → (z : Bool) → (s.handle == 0) ≡ z → (b : Bool)
        → is_in s.number ns ≡ b → live_bytes (filter (λ s. is_in s.number ns) (s ∷ ss)) ≡ live_bytes (s ∷ ss)
    by_tests rest true zero true is = rw (is, zero) rest
    by_tests rest true zero false is = rw (is, zero) rest
    by_tests rest false zero true is = rw (is, zero) (ap (λ l. (s.handle, buffer_bytes s.buffers) ∷ l) rest)
    by_tests rest false zero false is =
        let own : is_in s.number (flat_map own_names (s ∷ ss)) ≡ true = rw zero (in_first s.number _) in
        absurd (let no : true ≡ false = sym (named s.number own) ∙ is in cc)

settled : (b : Bool) (h : State) → live_bytes (settle_if b h).streams ≡ live_bytes h.streams
settled false h = refl
settled true h =
    let own = flat_map own_names h.streams in
    let composed = own ++ core_names h.core in
    let shown = composed ++ display_names h.display in
    kept_live (all_names h) h.streams
    (λ n is. in_front n shown (frame_names h.frame) (in_front n composed (display_names h.display) (in_front n own (core_names h.core) is)))

-- the live streams after a call that was carried out, or was not, with its value
abbrev pub bytes_if : Bool → Call → ℕ → List (ℕ × ℕ) → List (ℕ × ℕ)
bytes_if false c value live = live
bytes_if true (call.StreamNew width height format buffers) value live = live ++ (value, stream_bytes false width height format buffers) ∷ []
bytes_if true (call.StreamQueue width height format depth) value live = live ++ (value, stream_bytes true width height format depth) ∷ []
bytes_if true (call.StreamDestroy stream) value live = but stream live
bytes_if true _ value live = live

-- and after a call with its reply
abbrev pub bytes_after : Call → Reply → List (ℕ × ℕ) → List (ℕ × ℕ)
bytes_after c reply live = bytes_if (is_ok_code reply.code) c reply.value live

-- calls

module _ (h : State) where
  abbrev live : List (ℕ × ℕ)
  live = live_bytes h.streams

  made : (c : Call) (new : Buffers) (wrong full lacking : Bool)
      → (wrong ≡ false → (value : ℕ) → bytes_if true c value live ≡ live ++ (value, buffer_bytes new) ∷ [])
      → let x : State × Reply = stream_step h (refuse code.IllegalArgument wrong >>= (λ _. refuse code.Limit full >>= (λ _.
      refuse code.OutOfMemory lacking >>= (λ _. Ok (stream_made new h))))) in
      live_bytes x.0.streams ≡ bytes_after c x.1 live
  made c new true full lacking makes = refl
  made c new false true lacking makes = refl
  made c new false false true makes = refl
  made c new false false false makes =
      let one : KeptStream = record { number = h.numbered + 1; handle = h.made + 1; buffers = new } in
      let above : (one.handle == 0) ≡ false = grind (arith, nat_tests) in
      more one h.streams above ∙ sym (makes refl (h.made + 1))

  destroyed : (handle : ℕ) (o : Option KeptStream) → stream_of handle h.streams ≡ o
      → live_bytes (stream_step h (stream_destroy handle h)).0.streams
      ≡ bytes_after (call.StreamDestroy handle) (stream_step h (stream_destroy handle h)).1 live
  destroyed handle None is = rw is refl
  destroyed handle (Some t) is = rw is (dead handle h.streams)

  back : (canvas : Canvas) (f : Buffers → Buffers) → KeepsBytes f → live_bytes (canvas_back canvas f h).0.streams ≡ live
  back canvas f same = of_test (is_out_at_client canvas h)
    where
      of_test : (b : Bool)
          → live_bytes (cond {A = State × Reply} b (with_stream canvas.stream f h, bare (done 0)) (h, gives_back_canvas canvas)).0.streams
          ≡ live
      of_test true = changed canvas.stream f same h.streams
      of_test false = refl

  acquires : (r : Result KeptStream Refusal) → live_bytes (acquire_step h r).0.streams ≡ live
  acquires (Ok s) = changed s.number acquired (λ b. refl) h.streams
  acquires (Err r) = refl

  composes : (d : ℕ) (o : Outcome CoreSide) → Leaves (λ (x : CoreSide). x.streams) h.streams o
      → live_bytes (composed d (λ _. o) h).0.streams ≡ live
  composes d (Ok x) leaves = ap live_bytes leaves
  composes d (Err r) leaves = refl

  displays : (o : Outcome DisplaySide) → Leaves (λ (x : DisplaySide). x.streams) h.streams o
      → live_bytes (displayed (λ _. o) h).0.streams ≡ live
  displays (Ok x) leaves = ap live_bytes leaves
  displays (Err r) leaves = refl

  latches : (ns : List ℕ) (ss : List KeptStream) → live_bytes (latch ns ss) ≡ live_bytes ss
  latches ns ss =
      mapped (latched_among ns)
      (record { handle = λ s. handle s (is_in s.number ns) refl; bytes = λ s. bytes s (is_in s.number ns) refl }) ss
    where
      handle : (s : KeptStream) (b : Bool) → is_in s.number ns ≡ b → (latched_among ns s).handle ≡ s.handle
      handle s true is = rw is refl
      handle s false is = rw is refl

      taken : (o : Option Bitmap) (b : Buffers) → buffer_bytes (away_if o b) ≡ buffer_bytes b
      taken None b = refl
      taken (Some image) b = refl

      bytes : (s : KeptStream) (b : Bool) → is_in s.number ns ≡ b → buffer_bytes (latched_among ns s).buffers ≡ buffer_bytes s.buffers
      bytes s true is = rw is (taken (next_image s.buffers) s.buffers)
      bytes s false is = rw is refl

  draws : (k : JobKind) (ss : List KeptStream) → live_bytes (drawing k ss) ≡ live_bytes ss
  draws (kind.Context handle target) ss = changed target acquired (λ b. refl) ss
  draws (kind.Port port) ss = refl

  offers : (register : Register) (refused : Code) → live_bytes (offered register refused h).streams ≡ live
  offers (of_device d) refused = refl
  offers of_display refused = refl
  offers no_register refused = refl

  begins : (own : Register) (r : Result (Option Beginning) Refusal) → live_bytes (started own h r).0.streams ≡ live
  begins own (Ok None) = refl
  begins own (Ok (Some b)) = draws b.kind (latch (scene_streams b.scene) h.streams) ∙ latches (scene_streams b.scene) h.streams
  begins own (Err r) = offers own r.code

  homes : (contents : Images) (ss : List KeptStream) → live_bytes (brought_home contents ss) ≡ live_bytes ss
  homes contents ss =
      mapped (λ s. home_if (image_of s.number contents) s)
      (record { handle = λ s. handle s (image_of s.number contents); bytes = λ s. bytes s (image_of s.number contents) }) ss
    where
      handle : (s : KeptStream) (o : Option Bitmap) → (home_if o s).handle ≡ s.handle
      handle s None = refl
      handle s (Some image) = refl

      bytes : (s : KeptStream) (o : Option Bitmap) → buffer_bytes (home_if o s).buffers ≡ buffer_bytes s.buffers
      bytes s None = refl
      bytes s (Some image) = refl

  delivers : (k : JobKind) (image : Bitmap) (ss : List KeptStream) → live_bytes (delivered k image ss) ≡ live_bytes ss
  delivers (kind.Context handle target) image ss = changed target (posted image) (λ b. refl) ss
  delivers (kind.Port port) image ss = refl

  ends : (job : Job) → live_bytes (end job h).0.streams ≡ live
  ends job = of_frame h.frame refl
    where
      of_frame : (o : Option Running) → h.frame ≡ o → live_bytes (end job h).0.streams ≡ live
      of_frame None is = rw is refl
      of_frame (Some f) is = of_test (is_of_frame job f) refl
        where
          of_test : (b : Bool) → is_of_frame job f ≡ b → live_bytes (end job h).0.streams ≡ live
          of_test true own = rw (is, own) (delivers job.kind job.image (brought_home job.contents h.streams) ∙ homes job.contents h.streams)
          of_test false own = rw (is, own) refl

-- the calls that make a stream, or end the life of its handle
abbrev changes_lives : Call → Bool
changes_lives (call.StreamNew width height format buffers) = true
changes_lives (call.StreamQueue width height format depth) = true
changes_lives (call.StreamDestroy stream) = true
changes_lives _ = false

lives_same : (c : Call) (b : Bool) (value : ℕ) (ns : List (ℕ × ℕ)) → changes_lives c ≡ false → bytes_if b c value ns ≡ ns
lives_same c false value ns other = refl
lives_same (call.StreamNew width height format buffers) true value ns other = absurd cc
lives_same (call.StreamQueue width height format depth) true value ns other = absurd cc
lives_same (call.StreamDestroy stream) true value ns other = absurd cc
lives_same _ true value ns other = refl

module _ (h : State) where
  of_streams : (c : Call) (m : Bool) → changes_lives c ≡ false → live_bytes (stream_call m c h).0.streams ≡ live_bytes h.streams
  of_streams (call.StreamNew width height format buffers) m other = absurd cc
  of_streams (call.StreamQueue width height format depth) m other = absurd cc
  of_streams (call.StreamDestroy stream) m other = absurd cc
  of_streams _ m other = refl

  of_buffers : (c : Call) → live_bytes (buffer_call c h).0.streams ≡ live_bytes h.streams
  of_buffers (call.Acquire stream) = acquires h (acquirable stream h)
  of_buffers (call.Post canvas) = back h canvas (posted canvas.image) (λ b. refl)
  of_buffers (call.Discard canvas) = back h canvas discarded (λ b. refl)
  of_buffers _ = refl

  of_end : (c : Call) → live_bytes (end_call c h).0.streams ≡ live_bytes h.streams
  of_end (call.End job) = ends h job
  of_end _ = refl

  by_part : (p : Part) (c : Call) (m : Bool) → changes_lives c ≡ false → live_bytes (act_of p h c m).0.streams ≡ live_bytes h.streams
  by_part part.Streams c m other = of_streams c m other
  by_part part.Buffers c m other = of_buffers c
  by_part (part.Composition d) c m other =
      composes h d (core_call (screen_of c h) m c (core_side h)) (core_leaves_streams (screen_of c h) m c (core_side h))
  by_part part.Display c m other = displays h (display_call m c (display_side h)) (display_leaves_streams m c (display_side h))
  by_part (part.Begin d) c m other = begins h (recorded_by (part.Begin d)) (begin_call c h)
  by_part part.End c m other = of_end c

  -- a stream that may be made has the bytes that were asked for
  asked : (queue : Bool) (width height : ℤ) (format : Format) (count : ℤ) → not (may_make queue width height count) ≡ false
      → stream_bytes queue width height format count ≡ buffer_bytes (new_buffers queue width height format count)
  asked queue width height format count fit = of_test (may_make queue width height count) fit
    where
      of_test : (b : Bool) → not b ≡ false → cond b (buffer_bytes (new_buffers queue width height format count)) 0
          ≡ buffer_bytes (new_buffers queue width height format count)
      of_test true fit = refl
      of_test false fit = absurd cc

  changes : (c : Call) (m : Bool) → changes_lives c ≡ true
      → live_bytes (act h c m).0.streams ≡ bytes_after c (act h c m).1 (live_bytes h.streams)
  unfolding act
  changes (call.StreamNew width height format buffers) m is =
      let new : Buffers = new_buffers false width height format buffers in
      let wrong : Bool = not (may_make false width height buffers) in
      made h (call.StreamNew width height format buffers) new wrong (has_no_room new h.streams || is_full h.made) m
      (λ fit value. ap (λ (n : ℕ). live_bytes h.streams ++ (value, n) ∷ []) (asked false width height format buffers fit))
  changes (call.StreamQueue width height format depth) m is =
      let new : Buffers = new_buffers true width height format depth in
      let wrong : Bool = not (may_make true width height depth) in
      made h (call.StreamQueue width height format depth) new wrong (has_no_room new h.streams || is_full h.made) m
      (λ fit value. ap (λ (n : ℕ). live_bytes h.streams ++ (value, n) ∷ []) (asked true width height format depth fit))
  changes (call.StreamDestroy stream) m is = destroyed h stream (stream_of stream h.streams) refl
  changes _ m is = absurd cc

  keeps : (c : Call) (m : Bool) → changes_lives c ≡ false
      → live_bytes (act h c m).0.streams ≡ bytes_after c (act h c m).1 (live_bytes h.streams)
  unfolding act
  keeps c m is =
      by_part (part_of c) c m is
      ∙ sym (lives_same c (is_ok_code (act h c m).1.code) (act h c m).1.value (live_bytes h.streams) is)

  acts : (c : Call) (m : Bool) → live_bytes (act h c m).0.streams ≡ bytes_after c (act h c m).1 (live_bytes h.streams)
  acts c m = by_test (changes_lives c) refl
    where
      by_test : (b : Bool) → changes_lives c ≡ b
          → live_bytes (act h c m).0.streams ≡ bytes_after c (act h c m).1 (live_bytes h.streams)
      by_test true is = changes c m is
      by_test false is = keeps c m is

pub step_bytes : (h : State) (client : ℕ) (c : Call) (m : Bool)
    → live_bytes (step h client c m).0.streams ≡ bytes_after c (step h client c m).1 (live_bytes h.streams)
unfolding step
step_bytes h client c m = settled (is_ok_code (act h c m).1.code) (act h c m).0 ∙ acts h c m

-- the handles alone

abbrev pub handles : List (ℕ × ℕ) → List ℕ
handles lives = map (λ e. e.0) lives

pub handles_live : (ss : List KeptStream) → live_handles ss ≡ handles (live_bytes ss)
handles_live [] = refl
handles_live (s ∷ ss) =
    elim (s.handle == 0) as (λ b. cond b (live_handles ss) (s.handle ∷ live_handles ss)
    ≡ handles (cond b (live_bytes ss) ((s.handle, buffer_bytes s.buffers) ∷ live_bytes ss))) [
      | true ↦ handles_live ss
      | false ↦ ap (λ l. s.handle ∷ l) (handles_live ss)
    ]

handles_but : (k : ℕ) (lives : List (ℕ × ℕ)) → handles (but k lives) ≡ filter (λ n. not (n == k)) (handles lives)
handles_but k [] = refl
handles_but k (e ∷ es) = by_test (handles_but k es) (e.0 == k) refl
  where
    by_test : handles (but k es) ≡ filter (λ n. not (n == k)) (handles es) → (b : Bool) → (e.0 == k) ≡ b
        → handles (but k (e ∷ es)) ≡ filter (λ n. not (n == k)) (handles (e ∷ es))
    by_test rest true is = rw is rest
    by_test rest false is = rw is (ap (λ l. e.0 ∷ l) rest)

handles_after : (b : Bool) (c : Call) (value : ℕ) (lives : List (ℕ × ℕ))
    → handles (bytes_if b c value lives) ≡ lives_if b c value (handles lives)
handles_after false c value lives = refl
handles_after true (call.StreamNew width height format buffers) value lives =
    map-append (λ (e : ℕ × ℕ). e.0) lives ((value, stream_bytes false width height format buffers) ∷ [])
handles_after true (call.StreamQueue width height format depth) value lives =
    map-append (λ (e : ℕ × ℕ). e.0) lives ((value, stream_bytes true width height format depth) ∷ [])
handles_after true (call.StreamDestroy stream) value lives = handles_but stream lives
handles_after true _ value lives = refl

pub step_lives : (h : State) (client : ℕ) (c : Call) (m : Bool)
    → live_handles (step h client c m).0.streams ≡ lives_after c (step h client c m).1 (live_handles h.streams)
step_lives h client c m =
    let x : State × Reply = step h client c m in
    handles_live x.0.streams ∙ ap handles (step_bytes h client c m)
    ∙ handles_after (is_ok_code x.1.code) c x.1.value (live_bytes h.streams)
    ∙ ap (lives_after c x.1) (sym (handles_live h.streams))
