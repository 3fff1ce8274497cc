-- A queue gives its images to frames in the order in which they were put into it.
use Rattle.std.proofs.Common.{◌≡◌, ◌∙◌, ℕ, ◌+◌, Bool, true, false, not, ◌&&◌, ◌||◌, ◌==◌, cond, List, [], ◌∷◌, ◌++◌, map, filter, find}
use Rattle.std.proofs.Common.{Option, Some, None, option_map, refl, sym, ap, subst, append_assoc, append-nil}
use Rattle.std.proofs.lemmas.Bool.{and_parts, eqb-true}
use Rattle.std.proofs.lemmas.Option.{same_Some}
use Rattle.std.specs.Prelude.{take, Result, Ok, Err, IsSome}
use Rattle.wf_words.specs.Keyed.{has_key, is_in}
use Rattle.wf_words.specs.Mapped.{at_mapped, at_more, found_left}
use Rattle.wf_words.specs.Refusals.{◌>>=◌}
use Rattle.wf_image.specs.Bitmap.{Bitmap}
use Rattle.wf_image.specs.Contents.{image_of}
use Rattle.wf_image.specs.declared.canvas.Canvas.{Canvas}
use Rattle.wf_stream.specs.Buffers.{Buffers, acquired, discarded, is_plain, latched, posted}
use Rattle.wf_stream.specs.Order.{latches, once_in_order}
use Rattle.wf_stream.specs.Streams.{KeptStream, buffers_at, change_stream, stream_at, unnamed}
use Rattle.wf_calls.specs.Parts.{Register, of_device, of_display, no_register, part_of, recorded_by}
use Rattle.wf_calls.specs.declared.call.Call.{Call}
use Rattle.wf_calls.specs.declared.call.Call.TheVariants as call
use Rattle.wf_calls.specs.declared.call.Job.{Job}
use Rattle.wf_calls.specs.declared.call.JobKind.{JobKind}
use Rattle.wf_calls.specs.declared.call.JobKind.TheVariants as kind
use Rattle.wf_calls.specs.declared.code.Code.{Code}
use Rattle.wf_calls.specs.declared.code.Code.TheVariants as code
use Rattle.wf_calls.specs.declared.part.Part.{Part}
use Rattle.wf_calls.specs.declared.part.Part.TheVariants as part
use Rattle.wf_calls.specs.declared.reply.Refusal.{Refusal}
use Rattle.wf_calls.specs.declared.reply.Reply.{Reply}
use Rattle.wf_calls.specs.Replies.{bare, done, gives_back_canvas}
use Rattle.wf_calls.specs.Codes.{is_ok_code}
use Rattle.wf_model.specs.Calls.{begin_call, core_call, display_call, stream_call, buffer_call, end_call}
use Rattle.wf_model.specs.Composing.{composed, core_side, display_side, displayed, screen_of}
use Rattle.wf_model.specs.Composition.{CoreSide, live_stream}
use Rattle.wf_model.specs.DisplaySides.{DisplaySide}
use Rattle.wf_model.specs.Effects.{core_leaves_streams, display_leaves_streams}
use Rattle.wf_model.specs.Frames.{Beginning, brought_home, delivered, drawing, end, home_if, is_of_frame, latch, latched_among}
use Rattle.wf_model.specs.Frames.{scene_streams, started}
use Rattle.wf_model.specs.Names.{all_names, kept, settle_if}
use Rattle.wf_model.specs.Outcome.{Leaves, Outcome, refuse}
use Rattle.wf_model.specs.QueueOrder.{IsKept, all_put, all_taken, begun_streams, draws_into, is_running_job, put_by, put_if}
use Rattle.wf_model.specs.QueueOrder.{taken_by, taken_if, waiting_at, waiting_in}
use Rattle.wf_model.specs.Reached.{Called, after_calls}
use Rattle.wf_model.specs.Registers.{offered}
use Rattle.wf_model.specs.State.{Running, State}
use Rattle.wf_model.specs.Step.{act, act_of, step}
use Rattle.wf_model.specs.Streams as streams
use Rattle.wf_life.specs.Handles.{is_full}
use Rattle.wf_stream.specs.Streams.{has_no_room}

-- among these streams the one of a number is a queue still, and what waited in it and was put into it is what was taken and what waits
record Goes (n : ℕ) (s : KeptStream) (puts takes : List Bitmap) (streams : List KeptStream) : Type 0 where
  after : KeptStream
  is : stream_at n streams ≡ Some after
  queue : is_plain after.buffers ≡ false
  order : s.buffers.waiting ++ puts ≡ takes ++ after.buffers.waiting

-- it is there, with all that waited
record Stays (n : ℕ) (s : KeptStream) (streams : List KeptStream) : Type 0 where
  after : KeptStream
  is : stream_at n streams ≡ Some after
  plain : is_plain after.buffers ≡ is_plain s.buffers
  waits : after.buffers.waiting ≡ s.buffers.waiting

goes_on : (n : ℕ) (s : KeptStream) (streams : List KeptStream) → is_plain s.buffers ≡ false → Stays n s streams → Goes n s [] [] streams
goes_on n s streams queue stays =
    record {
      after = stays.after;
      is = stays.is;
      queue = stays.plain ∙ queue;
      order = append-nil s.buffers.waiting ∙ sym stays.waits;
    }

same : (n : ℕ) (s : KeptStream) (streams : List KeptStream) → stream_at n streams ≡ Some s → Stays n s streams
same n s streams at = record { after = s; is = at; plain = refl; waits = refl }

-- what stays goes as what comes of it
stays_then : (n : ℕ) (s : KeptStream) (puts takes : List Bitmap) (streams now : List KeptStream) (stays : Stays n s streams)
    → Goes n stays.after puts takes now → Goes n s puts takes now
stays_then n s puts takes streams now stays goes =
    record {
      after = goes.after;
      is = goes.is;
      queue = goes.queue;
      order = ap (λ xs. xs ++ puts) (sym stays.waits) ∙ goes.order;
    }

then_stays : (n : ℕ) (s : KeptStream) (puts takes : List Bitmap) (streams now : List KeptStream) (goes : Goes n s puts takes streams)
    → Stays n goes.after now → Goes n s puts takes now
then_stays n s puts takes streams now goes stays =
    record {
      after = stays.after;
      is = stays.is;
      queue = stays.plain ∙ goes.queue;
      order = goes.order ∙ ap (λ xs. takes ++ xs) (sym stays.waits);
    }

-- streams that are changed and keep their numbers

module _ (g : KeptStream → KeptStream) (keeps : (s : KeptStream) → (g s).number ≡ s.number) where
  stays_mapped : (n : ℕ) (ss : List KeptStream) (s : KeptStream) → stream_at n ss ≡ Some s
      → is_plain (g s).buffers ≡ is_plain s.buffers → (g s).buffers.waiting ≡ s.buffers.waiting → Stays n s (map g ss)
  stays_mapped n ss s at plain waits =
      let is = at_mapped (λ (x : KeptStream). x.number) g keeps n ss ∙ ap (option_map g) at in
      record { after = g s; is = is; plain = plain; waits = waits }

  goes_mapped : (n : ℕ) (ss : List KeptStream) (s : KeptStream) (puts takes : List Bitmap) → stream_at n ss ≡ Some s
      → is_plain (g s).buffers ≡ false → s.buffers.waiting ++ puts ≡ takes ++ (g s).buffers.waiting → Goes n s puts takes (map g ss)
  goes_mapped n ss s puts takes at queue order =
      let is = at_mapped (λ (x : KeptStream). x.number) g keeps n ss ∙ ap (option_map g) at in
      record { after = g s; is = is; queue = queue; order = order }

-- the buffers of one are changed

abbrev changed : ℕ → (Buffers → Buffers) → KeptStream → KeptStream
changed k f s = cond (s.number == k) (record s { buffers = f s.buffers }) s

changed_number : (k : ℕ) (f : Buffers → Buffers) (s : KeptStream) → (changed k f s).number ≡ s.number
changed_number k f s =
    elim (s.number == k) as (λ b. (cond b (record s { buffers = f s.buffers }) s).number ≡ s.number) [ true ↦ refl | false ↦ refl ]

changed_stays : (k : ℕ) (f : Buffers → Buffers) (n : ℕ) (ss : List KeptStream) (s : KeptStream) → stream_at n ss ≡ Some s
    → is_plain (f s.buffers) ≡ is_plain s.buffers → (f s.buffers).waiting ≡ s.buffers.waiting → Stays n s (change_stream k f ss)
changed_stays k f n ss s at plain waits =
    stays_mapped (changed k f) (changed_number k f) n ss s at
    (elim (s.number == k) as (λ b. is_plain (cond b (record s { buffers = f s.buffers }) s).buffers ≡ is_plain s.buffers) [
      | true ↦ plain
      | false ↦ refl
    ])
    (elim (s.number == k) as (λ b. (cond b (record s { buffers = f s.buffers }) s).buffers.waiting ≡ s.buffers.waiting) [
      | true ↦ waits
      | false ↦ refl
    ])

-- an image is put into one
posted_goes : (n k : ℕ) (image : Bitmap) (ss : List KeptStream) (s : KeptStream) → stream_at n ss ≡ Some s
    → is_plain s.buffers ≡ false → Goes n s (put_if (n == k) image) [] (change_stream k (posted image) ss)
posted_goes n k image ss s at queue =
    goes_mapped (changed k (posted image)) (changed_number k (posted image)) n ss s (put_if (n == k) image) [] at
    (elim (s.number == k) as (λ b. is_plain (cond b (record s { buffers = posted image s.buffers }) s).buffers ≡ false) [
      | true ↦ queue
      | false ↦ queue
    ])
    (subst (λ m. s.buffers.waiting ++ put_if (m == k) image ≡ (changed k (posted image) s).buffers.waiting)
    (has_key (λ (x : KeptStream). x.number) n ss s at)
    (elim (s.number == k) as (λ b. s.buffers.waiting ++ put_if b image
    ≡ (cond b (record s { buffers = posted image s.buffers }) s).buffers.waiting) [
      | true ↦ rw queue refl
      | false ↦ append-nil s.buffers.waiting
    ]))

-- frames take from those that their scene names
latched_number : (ns : List ℕ) (s : KeptStream) → (latched_among ns s).number ≡ s.number
latched_number ns s =
    elim (is_in s.number ns) as (λ b. (cond b (record s { buffers = latched s.buffers }) s).number ≡ s.number) [
      | true ↦ refl
      | false ↦ refl
    ]

latched_goes : (n : ℕ) (ns : List ℕ) (ss : List KeptStream) (s : KeptStream) → stream_at n ss ≡ Some s → is_plain s.buffers ≡ false
    → Goes n s [] (taken_if (is_in n ns) s.buffers.waiting) (latch ns ss)
latched_goes n ns ss s at queue =
    let one = once_in_order s.buffers latches queue in
    goes_mapped (latched_among ns) (latched_number ns) n ss s [] (taken_if (is_in n ns) s.buffers.waiting) at
    (elim (is_in s.number ns) as (λ b. is_plain (cond b (record s { buffers = latched s.buffers }) s).buffers ≡ false) [
      | true ↦ one.1
      | false ↦ queue
    ])
    (subst (λ m. s.buffers.waiting ++ [] ≡ taken_if (is_in m ns) s.buffers.waiting ++ (latched_among ns s).buffers.waiting)
    (has_key (λ (x : KeptStream). x.number) n ss s at)
    (elim (is_in s.number ns) as (λ b. s.buffers.waiting ++ []
    ≡ taken_if b s.buffers.waiting ++ (cond b (record s { buffers = latched s.buffers }) s).buffers.waiting) [
      | true ↦ one.0
      | false ↦ append-nil s.buffers.waiting
    ]))

drawing_stays : (k : JobKind) (n : ℕ) (ss : List KeptStream) (s : KeptStream) → stream_at n ss ≡ Some s → Stays n s (drawing k ss)
drawing_stays (kind.Context handle target) n ss s at = changed_stays target acquired n ss s at refl refl
drawing_stays (kind.Port port) n ss s at = same n s ss at

-- a frame brings images home
home_stays : (contents : List (ℕ × Bitmap)) (n : ℕ) (ss : List KeptStream) (s : KeptStream) → stream_at n ss ≡ Some s
    → Stays n s (brought_home contents ss)
home_stays contents n ss s at =
    stays_mapped (λ x. home_if (image_of x.number contents) x) (λ x. number x (image_of x.number contents)) n ss s at
    (plain (image_of s.number contents)) (waits (image_of s.number contents))
  where
    number : (x : KeptStream) (o : Option Bitmap) → (home_if o x).number ≡ x.number
    number x None = refl
    number x (Some image) = refl

    plain : (o : Option Bitmap) → is_plain (home_if o s).buffers ≡ is_plain s.buffers
    plain None = refl
    plain (Some image) = refl

    waits : (o : Option Bitmap) → (home_if o s).buffers.waiting ≡ s.buffers.waiting
    waits None = refl
    waits (Some image) = refl

delivered_goes : (k : JobKind) (image : Bitmap) (n : ℕ) (ss : List KeptStream) (s : KeptStream) → stream_at n ss ≡ Some s
    → is_plain s.buffers ≡ false → Goes n s (put_if (draws_into n k) image) [] (delivered k image ss)
delivered_goes (kind.Context handle target) image n ss s at queue = posted_goes n target image ss s at queue
delivered_goes (kind.Port port) image n ss s at queue = goes_on n s ss queue (same n s ss at)

-- a call

offered_streams : (recorder : Register) (refused : Code) (h : State) → (offered recorder refused h).streams ≡ h.streams
offered_streams (of_device d) refused h = refl
offered_streams of_display refused h = refl
offered_streams no_register refused h = refl

composed_streams : (d : ℕ) (does : CoreSide → Outcome CoreSide) (h : State)
    → Leaves (λ (x : CoreSide). x.streams) h.streams (does (core_side h)) → (composed d does h).0.streams ≡ h.streams
composed_streams d does h leaves = of_outcome (does (core_side h)) refl leaves
  where
    of_outcome : (o : Outcome CoreSide) → does (core_side h) ≡ o → Leaves (λ (x : CoreSide). x.streams) h.streams o
        → (composed d does h).0.streams ≡ h.streams
    of_outcome (Ok x) at is = rw at is
    of_outcome (Err r) at is = rw at refl

displayed_streams : (does : DisplaySide → Outcome DisplaySide) (h : State)
    → Leaves (λ (x : DisplaySide). x.streams) h.streams (does (display_side h)) → (displayed does h).0.streams ≡ h.streams
displayed_streams does h leaves = of_outcome (does (display_side h)) refl leaves
  where
    of_outcome : (o : Outcome DisplaySide) → does (display_side h) ≡ o → Leaves (λ (x : DisplaySide). x.streams) h.streams o
        → (displayed does h).0.streams ≡ h.streams
    of_outcome (Ok x) at is = rw at is
    of_outcome (Err r) at is = rw at refl

module _ (n : ℕ) (h : State) (s : KeptStream) (at : stream_at n h.streams ≡ Some s) (queue : is_plain s.buffers ≡ false) where
  unchanged : (ss : List KeptStream) → ss ≡ h.streams → Goes n s [] [] ss
  unchanged ss is = goes_on n s ss queue (same n s ss (ap (stream_at n) is ∙ at))

  -- a call that makes or ends a stream

  made_goes : (made : KeptStream) → Goes n s [] [] (h.streams ++ made ∷ [])
  made_goes made =
      goes_on n s (h.streams ++ made ∷ []) queue
      (same n s (h.streams ++ made ∷ []) (at_more (λ (x : KeptStream). x.number) n h.streams made s at))

  new_goes : (new : Buffers) (astray full denied : Bool)
      → Goes n s [] [] (streams.stream_step h (refuse code.IllegalArgument astray >>= (λ _. refuse code.Limit full
      >>= (λ _. refuse code.OutOfMemory denied >>= (λ _. Ok (streams.stream_made new h)))))).0.streams
  new_goes new true full denied = unchanged h.streams refl
  new_goes new false true denied = unchanged h.streams refl
  new_goes new false false true = unchanged h.streams refl
  new_goes new false false false = made_goes (record { number = h.numbered + 1; handle = h.made + 1; buffers = new })

  destroyed_goes : (handle : ℕ) (r : Result KeptStream Refusal)
      → Goes n s [] [] (streams.stream_step h (r >>= (λ _. Ok (record h { streams = map (unnamed handle) h.streams }, 0)))).0.streams
  destroyed_goes handle (Ok x) = goes_on n s (map (unnamed handle) h.streams) queue (stays_mapped (unnamed handle) number n h.streams s at
      (elim (s.handle == handle) as (λ b. is_plain (cond b (record s { handle = 0 }) s).buffers ≡ is_plain s.buffers) [
        | true ↦ refl
        | false ↦ refl
      ])
      (elim (s.handle == handle) as (λ b. (cond b (record s { handle = 0 }) s).buffers.waiting ≡ s.buffers.waiting) [
        | true ↦ refl
        | false ↦ refl
      ]))
    where
      number : (x : KeptStream) → (unnamed handle x).number ≡ x.number
      number x = elim (x.handle == handle) as (λ b. (cond b (record x { handle = 0 }) x).number ≡ x.number) [ true ↦ refl | false ↦ refl ]
  destroyed_goes handle (Err r) = unchanged h.streams refl

  streams_go : (c : Call) (m : Bool) → part_of c ≡ part.Streams → Goes n s (put_by n h c) (taken_by n h c) (stream_call m c h).0.streams
  streams_go (call.StreamNew w height f b) m is =
      new_goes (streams.new_buffers false w height f b) (not (streams.may_make false w height b))
      (has_no_room (streams.new_buffers false w height f b) h.streams || is_full h.made) m
  streams_go (call.StreamQueue w height f d) m is =
      new_goes (streams.new_buffers true w height f d) (not (streams.may_make true w height d))
      (has_no_room (streams.new_buffers true w height f d) h.streams || is_full h.made) m
  streams_go (call.StreamDestroy stream) m is = destroyed_goes stream (live_stream stream h.streams)
  streams_go (call.Stat what) m is = unchanged h.streams refl
  streams_go _ m is = absurd cc

  -- a call on a write buffer

  acquired_goes : (r : Result KeptStream Refusal) → Goes n s [] [] (streams.acquire_step h r).0.streams
  acquired_goes (Ok x) =
      goes_on n s (change_stream x.number acquired h.streams) queue (changed_stays x.number acquired n h.streams s at refl refl)
  acquired_goes (Err r) = unchanged h.streams refl

  abbrev back : Canvas → (Buffers → Buffers) → Bool → State × Reply
  back canvas f out = cond out (streams.with_stream canvas.stream f h, bare (done 0)) (h, gives_back_canvas canvas)

  post_goes : (canvas : Canvas) (out : Bool)
      → Goes n s (put_if (out && (n == canvas.stream)) canvas.image) [] (back canvas (posted canvas.image) out).0.streams
  post_goes canvas true = posted_goes n canvas.stream canvas.image h.streams s at queue
  post_goes canvas false = unchanged h.streams refl

  discard_goes : (canvas : Canvas) (out : Bool) → Goes n s [] [] (back canvas discarded out).0.streams
  discard_goes canvas true =
      goes_on n s (change_stream canvas.stream discarded h.streams) queue
      (changed_stays canvas.stream discarded n h.streams s at refl refl)
  discard_goes canvas false = unchanged h.streams refl

  buffers_go : (c : Call) → part_of c ≡ part.Buffers → Goes n s (put_by n h c) (taken_by n h c) (buffer_call c h).0.streams
  buffers_go (call.Acquire stream) is = acquired_goes (streams.acquirable stream h)
  buffers_go (call.Post canvas) is = post_goes canvas (streams.is_out_at_client canvas h)
  buffers_go (call.Discard canvas) is = discard_goes canvas (streams.is_out_at_client canvas h)
  buffers_go _ is = absurd cc

  -- a frame

  begun_goes : (recorder : Register) (r : Result (Option Beginning) Refusal)
      → Goes n s [] (taken_if (is_in n (begun_streams r)) s.buffers.waiting) (started recorder h r).0.streams
  begun_goes recorder (Ok None) = unchanged h.streams refl
  begun_goes recorder (Ok (Some b)) =
      let ns = scene_streams b.scene in
      let goes = latched_goes n ns h.streams s at queue in
      then_stays n s [] (taken_if (is_in n ns) s.buffers.waiting) (latch ns h.streams) (drawing b.kind (latch ns h.streams)) goes
      (drawing_stays b.kind n (latch ns h.streams) goes.after goes.is)
  begun_goes recorder (Err r) = unchanged (offered recorder r.code h).streams (offered_streams recorder r.code h)

  waits_is : waiting_at n h ≡ s.buffers.waiting
  waits_is = ap (λ (o : Option KeptStream). waiting_in (option_map (λ x. x.buffers) o)) at

  begins_go : (c : Call) (recorder : Register) → put_by n h c ≡ []
      → Goes n s (put_by n h c) (taken_by n h c) (started recorder h (begin_call c h)).0.streams
  begins_go c recorder none =
      let taken = is_in n (begun_streams (begin_call c h)) in
      let now = (started recorder h (begin_call c h)).0.streams in
      subst (λ puts. Goes n s puts (taken_by n h c) now) (sym none)
      (subst (λ waits. Goes n s [] (taken_if taken waits) now) (sym waits_is) (begun_goes recorder (begin_call c h)))

  abbrev is_begin_part : Part → Bool
  is_begin_part (part.Begin d) = true
  is_begin_part _ = false

  begin_puts : (c : Call) → is_begin_part (part_of c) ≡ true → put_by n h c ≡ []
  begin_puts (call.Post canvas) is = absurd cc
  begin_puts (call.End job) is = absurd cc
  begin_puts _ is = refl

  end_goes : (job : Job) → Goes n s (put_by n h (call.End job)) [] (end job h).0.streams
  end_goes job = of_frame h.frame refl
    where
      of_own : (f : Running) → h.frame ≡ Some f → (b : Bool) → is_of_frame job f ≡ b
          → Goes n s (put_if (b && draws_into n job.kind) job.image) [] (end job h).0.streams
      of_own f runs true is =
          let home = home_stays job.contents n h.streams s at in
          let now = delivered job.kind job.image (brought_home job.contents h.streams) in
          rw (runs, is) (stays_then n s (put_if (draws_into n job.kind) job.image) [] (brought_home job.contents h.streams) now home
          (delivered_goes job.kind job.image n (brought_home job.contents h.streams) home.after home.is (home.plain ∙ queue)))
      of_own f runs false is = rw (runs, is) (unchanged h.streams refl)

      of_frame : (o : Option Running) → h.frame ≡ o
          → Goes n s (put_if (is_running_job job o && draws_into n job.kind) job.image) [] (end job h).0.streams
      of_frame None free = rw free (unchanged h.streams refl)
      of_frame (Some f) runs = of_own f runs (is_of_frame job f) refl

  ends_go : (c : Call) → part_of c ≡ part.End → Goes n s (put_by n h c) (taken_by n h c) (end_call c h).0.streams
  ends_go (call.End job) is = end_goes job
  ends_go _ is = absurd cc

  -- any other call

  abbrev moves_images : Part → Bool
  moves_images part.Buffers = true
  moves_images (part.Begin d) = true
  moves_images part.End = true
  moves_images _ = false

  still_goes : (c : Call) (ss : List KeptStream) → moves_images (part_of c) ≡ false → ss ≡ h.streams
      → Goes n s (put_by n h c) (taken_by n h c) ss
  still_goes (call.Post canvas) ss still is = absurd cc
  still_goes (call.End job) ss still is = absurd cc
  still_goes (call.BeginNext after) ss still is = absurd cc
  still_goes (call.BeginPort port) ss still is = absurd cc
  still_goes (call.BeginContext d c) ss still is = absurd cc
  still_goes _ ss still is = unchanged ss is

  act_goes : (c : Call) (m : Bool) → Goes n s (put_by n h c) (taken_by n h c) (act h c m).0.streams
  unfolding act
  act_goes c m = of_part (part_of c) refl
    where
      of_part : (p : Part) → part_of c ≡ p → Goes n s (put_by n h c) (taken_by n h c) (act_of p h c m).0.streams
      of_part part.Streams is = streams_go c m is
      of_part part.Buffers is = buffers_go c is
      of_part (part.Composition d) is =
          still_goes c _ (ap moves_images is)
          (composed_streams d (core_call (screen_of c h) m c) h (core_leaves_streams (screen_of c h) m c (core_side h)))
      of_part part.Display is =
          still_goes c _ (ap moves_images is) (displayed_streams (display_call m c) h (display_leaves_streams m c (display_side h)))
      of_part (part.Begin d) is = begins_go c (recorded_by (part.Begin d)) (begin_puts c (ap is_begin_part is))
      of_part part.End is = ends_go c is

-- streams that nothing names are dropped

settled_goes : (n : ℕ) (s : KeptStream) (puts takes : List Bitmap) (h : State) (carried : Bool)
    → IsSome (stream_at n (settle_if carried h).streams) → Goes n s puts takes h.streams → Goes n s puts takes (settle_if carried h).streams
settled_goes n s puts takes h true some goes =
    record {
      after = goes.after;
      is = found_left (λ (x : KeptStream). x.number) (λ k. is_in k (all_names h)) n h.streams some ∙ goes.is;
      queue = goes.queue;
      order = goes.order;
    }
settled_goes n s puts takes h false some goes = goes

step_goes : (n : ℕ) (h : State) (client : ℕ) (c : Call) (m : Bool) (s : KeptStream) → stream_at n h.streams ≡ Some s
    → is_plain s.buffers ≡ false → IsSome (stream_at n (step h client c m).0.streams)
    → Goes n s (put_by n h c) (taken_by n h c) (step h client c m).0.streams
unfolding step
step_goes n h client c m s at queue some =
    settled_goes n s (put_by n h c) (taken_by n h c) (act h c m).0 (is_ok_code (act h c m).1.code) some (act_goes n h s at queue c m)

-- calls one after another
all_go : (n : ℕ) (calls : List Called) (h : State) (s : KeptStream) → stream_at n h.streams ≡ Some s → is_plain s.buffers ≡ false
    → IsKept n h calls → s.buffers.waiting ++ all_put n h calls ≡ all_taken n h calls ++ waiting_at n (after_calls h calls)
all_go n [] h s at queue stays = append-nil s.buffers.waiting ∙ sym (waits_is n h s at queue)
all_go n (c ∷ rest) h s at queue stays =
    let now = (step h c.0 c.1.0 c.1.1).0 in
    let puts = put_by n h c.1.0 in
    let takes = taken_by n h c.1.0 in
    let one = step_goes n h c.0 c.1.0 c.1.1 s at queue stays.0 in
    let later = all_go n rest now one.after one.is one.queue stays.1 in
    sym (append_assoc s.buffers.waiting puts (all_put n now rest))
    ∙ ap (λ xs. xs ++ all_put n now rest) one.order
    ∙ append_assoc takes one.after.buffers.waiting (all_put n now rest)
    ∙ ap (λ xs. takes ++ xs) later
    ∙ sym (append_assoc takes (all_taken n now rest) (waiting_at n (after_calls now rest)))

pub images_go_in_order : (n : ℕ) (h : State) (calls : List Called) (b : Buffers) → buffers_at n h.streams ≡ Some b → is_plain b ≡ false
    → IsKept n h calls → b.waiting ++ all_put n h calls ≡ all_taken n h calls ++ waiting_at n (after_calls h calls)
images_go_in_order n h calls b at queue stays = of_stream (stream_at n h.streams) refl at
  where
    of_stream : (o : Option KeptStream) → stream_at n h.streams ≡ o → option_map (λ x. x.buffers) o ≡ Some b
        → b.waiting ++ all_put n h calls ≡ all_taken n h calls ++ waiting_at n (after_calls h calls)
    of_stream None none is = absurd cc
    of_stream (Some s) found is =
        let own : s.buffers ≡ b = same_Some s.buffers b is in
        subst (λ (x : Buffers). x.waiting ++ all_put n h calls ≡ all_taken n h calls ++ waiting_at n (after_calls h calls)) own
        (all_go n calls h s found (ap is_plain own ∙ queue) stays)
