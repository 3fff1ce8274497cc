-- What another client asks for leaves a state that looks alike to an app, where it names none of its streams.
use Rattle.std.proofs.Common.{◌≡◌, ◌∙◌, ℕ, ◌+◌, Bool, true, false, cond, not, ◌==◌, ◌||◌, List, Option, Some, None, Ok, Err, option_map}
use Rattle.std.proofs.Common.{refl, sym, ap, subst}
use Rattle.std.proofs.lemmas.Bool.{both_ways, eqb-true, ne_eqb}
use Rattle.wf_words.specs.Refusals.{◌>>=◌}
use Rattle.wf_image.specs.Bitmap.{Bitmap}
use Rattle.wf_image.specs.declared.canvas.Canvas.{Canvas}
use Rattle.wf_life.specs.Handles.{is_full}
use Rattle.wf_stream.specs.Buffers.{Buffers, acquired, discarded, is_blocked, posted}
use Rattle.wf_stream.specs.Streams.{KeptStream, has_no_room, stream_at, stream_of}
use Rattle.wf_calls.specs.Codes.{is_ok_code}
use Rattle.wf_calls.specs.Parts.{begins, is_begin, part_of}
use Rattle.wf_calls.specs.Replies.{bare, done, given_canvas, gives_back_canvas}
use Rattle.wf_calls.specs.Requests.{call_of}
use Rattle.wf_calls.specs.declared.call.Call.{Call}
use Rattle.wf_calls.specs.declared.call.Call.TheVariants as call
use Rattle.wf_calls.specs.declared.code.Code.TheVariants as code
use Rattle.wf_calls.specs.declared.part.Part.{Part}
use Rattle.wf_calls.specs.declared.part.Part.TheVariants as part
use Rattle.wf_calls.specs.declared.reply.Reply.{Reply}
use Rattle.wf_calls.specs.declared.request.Request.{Request}
use Rattle.wf_calls.specs.declared.request.Request.TheVariants as request
use Rattle.wf_host.specs.Held.{adding, canvas_of, without}
use Rattle.wf_host.specs.declared.canvases.Held.{Held}
use Rattle.wf_host.specs.declared.told.Told.{Told}
use Rattle.wf_guard.specs.declared.owners.Owned.{Owned}
use Rattle.wf_model.specs.Calls.{buffer_call, core_call, display_call, end_call, stream_call}
use Rattle.wf_model.specs.Composing.{composed, core_side, display_side, displayed, screen_of}
use Rattle.wf_model.specs.Composition.{CoreSide}
use Rattle.wf_model.specs.DisplaySides.{DisplaySide}
use Rattle.wf_model.specs.Effects.{core_leaves_streams, display_leaves_streams, effect, frame_stays, moves_frame}
use Rattle.wf_model.specs.Names.{settle_if}
use Rattle.wf_model.specs.Outcome.{Leaves, Outcome, refuse}
use Rattle.wf_model.specs.State.{State}
use Rattle.wf_model.specs.Step.{act, act_of, step}
use Rattle.wf_model.specs.Streams.{acquirable, acquire_step, canvas_back, is_out_at_client, may_make, new_buffers, stream_destroy}
use Rattle.wf_model.specs.Streams.{stream_made, stream_step, with_stream}
use Rattle.wf_guard.specs.Alike.{HoldsApart, LooksAlike, Spares, made_of}
use Rattle.wf_guard.specs.Policy.{owns, refusal_of}
use Rattle.wf_guard.specs.Requests.{named_stream}
use Rattle.wf_guard.specs.Serving.{Asked, Served, discard, draw, drawn, given, made, owned_by, plain, post, served, with_held}
use Rattle.wf_guard.proofs.ForApps.{begins_none}
use Rattle.wf_guard.proofs.Held.{adds, goes}
use Rattle.wf_guard.proofs.Found.{changed, changed_seen, no_zero, out_same, seen_again, unnamed_outs}
use Rattle.wf_guard.proofs.MadeOf.{same_made_of}
use Rattle.wf_guard.proofs.Numbered.{found_handle, rise_apart}
use Rattle.wf_guard.proofs.OwnCanvases.{own_stream}
use Rattle.wf_guard.proofs.Seen.{outs, outs_changed, outs_more, outs_settled, seen_before, seen_unnamed}
use Rattle.wf_guard.proofs.Sound.{IsSound, owned_there}
use Rattle.wf_guard.proofs.Turns.{holder_keeps, request_keeps}

-- the calls that make, end or change a stream by its name, and the end of a frame
abbrev pub touches : Call → Bool
touches (call.StreamNew width height format buffers) = true
touches (call.StreamQueue width height format depth) = true
touches (call.StreamDestroy stream) = true
touches (call.Acquire stream) = true
touches (call.Post canvas) = true
touches (call.Discard canvas) = true
touches (call.End job) = true
touches _ = false

-- no other call that begins no frame changes a stream

module _ (h : State) where
  of_streams : (c : Call) (m : Bool) → touches c ≡ false → (stream_call m c h).0.streams ≡ h.streams
  of_streams (call.StreamNew width height format buffers) m other = absurd cc
  of_streams (call.StreamQueue width height format depth) m other = absurd cc
  of_streams (call.StreamDestroy stream) m other = absurd cc
  of_streams _ m other = refl

  of_buffers : (c : Call) → touches c ≡ false → (buffer_call c h).0.streams ≡ h.streams
  of_buffers (call.Acquire stream) other = absurd cc
  of_buffers (call.Post canvas) other = absurd cc
  of_buffers (call.Discard canvas) other = absurd cc
  of_buffers _ other = refl

  of_end : (c : Call) → touches c ≡ false → (end_call c h).0.streams ≡ h.streams
  of_end (call.End job) other = absurd cc
  of_end _ other = refl

  composes : (d : ℕ) (o : Outcome CoreSide) → Leaves (λ (x : CoreSide). x.streams) h.streams o
      → (composed d (λ _. o) h).0.streams ≡ h.streams
  composes d (Ok x) leaves = leaves
  composes d (Err r) leaves = refl

  displays : (o : Outcome DisplaySide) → Leaves (λ (x : DisplaySide). x.streams) h.streams o → (displayed (λ _. o) h).0.streams ≡ h.streams
  displays (Ok x) leaves = leaves
  displays (Err r) leaves = refl

  by_part : (p : Part) (c : Call) (m : Bool) → begins p ≡ false → touches c ≡ false → (act_of p h c m).0.streams ≡ h.streams
  by_part part.Streams c m still other = of_streams c m other
  by_part part.Buffers c m still other = of_buffers c other
  by_part (part.Composition d) c m still other =
      composes d (core_call (screen_of c h) m c (core_side h)) (core_leaves_streams (screen_of c h) m c (core_side h))
  by_part part.Display c m still other = displays (display_call m c (display_side h)) (display_leaves_streams m c (display_side h))
  by_part (part.Begin d) c m still other = absurd cc
  by_part part.End c m still other = of_end c other

  pub untouched : (c : Call) (m : Bool) → is_begin c ≡ false → touches c ≡ false → (act h c m).0.streams ≡ h.streams
  unfolding act
  untouched c m still other = by_part (part_of c) c m still other

-- a request that begins no frame moves none
pub still : (r : Request) → is_begin (call_of r) ≡ false → moves_frame (call_of r) ≡ false
still (request.BeginNext after) begins_none = absurd cc
still (request.BeginPort port) begins_none = absurd cc
still (request.BeginContext device context) begins_none = absurd cc
still _ begins_none = refl

module _ (a : ℕ) (app : (a == 0) ≡ false) (v : Served) (sound : IsSound v) where
  abbrev h : State
  h = v.machine

  -- what an app sees of streams is the same: those that it owns, and what comes back of what it holds
  record Unmoved (g : State) : Type 0 where
    streams : (k : ℕ) → owns a k v.owned ≡ true → stream_of k g.streams ≡ stream_of k h.streams
    out : (canvas : Canvas) (image : Bitmap) → canvas_of a v.held ≡ Some canvas
        → outs (record canvas { image = image }) g.streams ≡ outs (record canvas { image = image }) h.streams

  same_streams : (g : State) → g.streams ≡ h.streams → Unmoved g
  same_streams g same =
      record {
        streams = λ k own. ap (stream_of k) same;
        out = λ canvas image at. ap (outs (record canvas { image = image })) same;
      }

  makes : (new : Buffers) → new.out ≡ false → (wrong full lacking : Bool)
      → Unmoved (stream_step h (refuse code.IllegalArgument wrong >>= (λ _. refuse code.Limit full >>= (λ _.
      refuse code.OutOfMemory lacking >>= (λ _. Ok (stream_made new h)))))).0
  makes new home true full lacking = same_streams h refl
  makes new home false true lacking = same_streams h refl
  makes new home false false true = same_streams h refl
  makes new home false false false =
      let one : KeptStream = record { number = h.numbered + 1; handle = h.made + 1; buffers = new } in
      record {
        streams = λ k own.
            let there = owned_there a k v sound own in
            seen_before k there.live one there.stream h.streams there.found ∙ sym there.found;
        out = λ canvas image at. outs_more (record canvas { image = image }) one home h.streams;
      }

  -- what is none of its own is another one
  another : (k stream : ℕ) → owns a k v.owned ≡ true → owns a stream v.owned ≡ false → (k == stream) ≡ false
  another k stream own other = ne_eqb k stream (λ same. both_ways _ other (ap (λ i. owns a i v.owned) (sym same) ∙ own))

  ends : (stream : ℕ) → owns a stream v.owned ≡ false → (o : Option KeptStream) → stream_of stream h.streams ≡ o
      → Unmoved (stream_step h (stream_destroy stream h)).0
  ends stream other None is = rw is (same_streams h refl)
  ends stream other (Some t) is =
      rw is (record {
        streams = λ k own. seen_unnamed k (owned_there a k v sound own).live stream (another k stream own other) h.streams;
        out = λ canvas image at. unnamed_outs stream (record canvas { image = image }) h.streams;
      })

  -- a stream that the app sees has another number
  record IsElsewhere (n : ℕ) : Type 0 where
    streams : (k : ℕ) (s : KeptStream) → owns a k v.owned ≡ true → stream_of k h.streams ≡ Some s → (s.number == n) ≡ false
    held : (canvas : Canvas) → canvas_of a v.held ≡ Some canvas → (canvas.stream == n) ≡ false

  changes : (n : ℕ) (f : Buffers → Buffers) → IsElsewhere n → Unmoved (with_stream n f h)
  changes n f elsewhere =
      record {
        streams = λ k own.
            let there = owned_there a k v sound own in
            let same : Some (changed n f there.stream) ≡ Some there.stream = rw (elsewhere.streams k there.stream own there.found) refl in
            changed_seen n f false k there.live h ∙ ap (option_map (changed n f)) there.found ∙ same ∙ sym there.found;
        out = λ canvas image at. outs_changed (record canvas { image = image }) n f (elsewhere.held canvas at) h.streams;
      }

  -- a stream of a handle that is none of its own
  is_elsewhere : (stream : ℕ) (t : KeptStream) → owns a stream v.owned ≡ false → stream_of stream h.streams ≡ Some t → IsElsewhere t.number
  is_elsewhere stream t other found =
      record {
        streams = λ k s own is. of_own k s own is (s.number == t.number) refl;
        held = λ canvas at. of_held canvas at (canvas.stream == t.number) refl (stream == 0) refl;
      }
    where
      there : stream_at t.number h.streams ≡ Some t
      there = rise_apart h sound.numbers stream t found

      of_own : (k : ℕ) (s : KeptStream) → owns a k v.owned ≡ true → stream_of k h.streams ≡ Some s → (b : Bool)
          → (s.number == t.number) ≡ b → b ≡ false
      of_own k s own is false apart = refl
      of_own k s own is true same =
          let here : stream_at t.number h.streams ≡ Some s =
          subst (λ (n : ℕ). stream_at n h.streams ≡ Some s) (eqb-true s.number t.number same) (rise_apart h sound.numbers k s is) in
          let both : Some s ≡ Some t = sym here ∙ there in
          let one : s ≡ t = cc in
          let handle : k ≡ stream =
          sym (found_handle k h.streams s is) ∙ ap (λ (x : KeptStream). x.handle) one ∙ found_handle stream h.streams t found in
          absurd (let no : true ≡ false = sym own ∙ ap (λ i. owns a i v.owned) handle ∙ other in cc)

      of_held : (canvas : Canvas) → canvas_of a v.held ≡ Some canvas → (b : Bool) → (canvas.stream == t.number) ≡ b → (z : Bool)
          → (stream == 0) ≡ z → b ≡ false
      of_held canvas at false apart z zero = refl
      of_held canvas at true same true zero =
          absurd (let no : None ≡ Some t = sym (no_zero stream zero h.streams) ∙ found in cc)
      of_held canvas at true same false live =
          let here : stream_at canvas.stream h.streams ≡ Some t =
          ap (λ n. stream_at n h.streams) (eqb-true canvas.stream t.number same) ∙ there in
          let handle : t.handle ≡ stream = found_handle stream h.streams t found in
          let own = own_stream a v (sound.own a app) canvas t at here (ap (λ i. i == 0) handle ∙ live) in
          absurd (let no : true ≡ false = sym own ∙ ap (λ i. owns a i v.owned) handle ∙ other in cc)

  taken : (t : KeptStream) → IsElsewhere t.number → (out blocked : Bool)
      → Unmoved (acquire_step h (refuse code.Busy out >>= (λ _. refuse code.NoBuffer blocked >>= (λ _. Ok t)))).0
  taken t elsewhere true blocked = same_streams h refl
  taken t elsewhere false true = same_streams h refl
  taken t elsewhere false false = changes t.number acquired elsewhere

  acquires : (stream : ℕ) → owns a stream v.owned ≡ false → (o : Option KeptStream) → stream_of stream h.streams ≡ o
      → Unmoved (acquire_step h (acquirable stream h)).0
  acquires stream other None is = rw is (same_streams h refl)
  acquires stream other (Some t) is = rw is (taken t (is_elsewhere stream t other is) t.buffers.out (is_blocked t.buffers))

  back : (canvas : Canvas) (f : Buffers → Buffers) → IsElsewhere canvas.stream → Unmoved (canvas_back canvas f h).0
  back canvas f elsewhere = of_test (is_out_at_client canvas h)
    where
      of_test : (b : Bool)
          → Unmoved (cond {A = State × Reply} b (with_stream canvas.stream f h, bare (done 0)) (h, gives_back_canvas canvas)).0
      of_test true = changes canvas.stream f elsewhere
      of_test false = same_streams h refl

  -- a request
  moved : (r : Request) (m : Bool) → is_begin (call_of r) ≡ false
      → ((stream : ℕ) → named_stream r ≡ Some stream → owns a stream v.owned ≡ false) → Unmoved (act h (call_of r) m).0
  unfolding act
  moved (request.StreamNew width height format buffers) m begins_none spares =
      let new : Buffers = new_buffers false width height format buffers in
      makes new refl (not (may_make false width height buffers)) (has_no_room new h.streams || is_full h.made) m
  moved (request.StreamQueue width height format depth) m begins_none spares =
      let new : Buffers = new_buffers true width height format depth in
      makes new refl (not (may_make true width height depth)) (has_no_room new h.streams || is_full h.made) m
  moved (request.StreamDestroy stream) m begins_none spares = ends stream (spares stream refl) (stream_of stream h.streams) refl
  moved (request.Acquire stream) m begins_none spares = acquires stream (spares stream refl) (stream_of stream h.streams) refl
  moved r m begins_none spares = same_streams (act h (call_of r) m).0 (untouched h (call_of r) m begins_none refl)

  -- what a call leaves that moves nothing which the app sees
  leaves_alike : (b : ℕ) (c : Call) (m : Bool) → moves_frame c ≡ false → Unmoved (act h c m).0 → (owned : List Owned)
      → made_of a owned ≡ made_of a v.owned → (held : List Held) → canvas_of a held ≡ canvas_of a v.held
      → LooksAlike a v (record v { machine = (step h b c m).0; owned = owned; held = held })
  unfolding step
  leaves_alike b c m rests unmoved owned made held same =
      let x : State × Reply = act h c m in
      let frame : x.0.frame ≡ h.frame = frame_stays h c x (effect h c m) rests in
      let ok : Bool = is_ok_code x.1.code in
      record {
        owned = sym made;
        streams = λ k own. sym (seen_again k ok x.0 ∙ unmoved.streams k own);
        held = sym same;
        out = λ canvas image at.
            sym (out_same (record canvas { image = image }) (settle_if ok x.0) h frame
            (outs_settled (record canvas { image = image }) ok x.0 ∙ unmoved.out canvas image at));
        frame = sym frame;
      }

  alike_itself : LooksAlike a v v
  alike_itself = record { owned = refl; streams = λ k own. refl; held = refl; out = λ canvas image at. refl; frame = refl }

  module _ (b : ℕ) (apart : (b == a) ≡ false) (m : Bool) where
    makes_alike : (r : Request) → refusal_of b r v.owned ≡ None
        → ((stream : ℕ) → named_stream r ≡ Some stream → owns a stream v.owned ≡ false)
        → LooksAlike a v (made b r v (step h b (call_of r) m)).0
    makes_alike r none spares =
        let reply : Reply = (step h b (call_of r) m).1 in
        let rests = begins_none b v.owned r none in
        leaves_alike b (call_of r) m (still r rests) (moved r m rests spares) (owned_by b r reply v.owned)
        (same_made_of a b apart r reply v.owned (λ stream destroys. spares stream (ap named_stream destroys)))
        (adding b (given_canvas reply.payload) v.held) (adds b a apart (given_canvas reply.payload) v.held)

    pub request_alike : (r : Request)
        → (refusal_of b r v.owned ≡ None → (stream : ℕ) → named_stream r ≡ Some stream → owns a stream v.owned ≡ false)
        → LooksAlike a v (served b (plain r) m v).0
    request_alike r spares =
        request_keeps (LooksAlike a v) v b alike_itself r m (λ none place. makes_alike r none (spares none))

    elsewhere : HoldsApart a b v → (canvas : Canvas) → canvas_of b v.held ≡ Some canvas → IsElsewhere canvas.stream
    elsewhere holds canvas at =
        record {
          streams = λ k s own is. holds.streams canvas k s at own is;
          held = λ own its. holds.held canvas own at its;
        }

    gives : (c : Canvas → Call) → ((canvas : Canvas) → moves_frame (c canvas) ≡ false)
        → ((canvas : Canvas) → IsElsewhere canvas.stream → Unmoved (act h (c canvas) m).0) → HoldsApart a b v → (canvas : Canvas)
        → canvas_of b v.held ≡ Some canvas → LooksAlike a v (given b c m v canvas).0
    gives c rests moves holds canvas is =
        let reply : Reply = (step h b (c canvas) m).1 in
        leaves_alike b (c canvas) m (rests canvas) (moves canvas (elsewhere holds canvas is)) v.owned refl
        (adding b (given_canvas reply.payload) (without b v.held)) (goes b a apart (given_canvas reply.payload) v.held)

    posts : (canvas : Canvas) → IsElsewhere canvas.stream → Unmoved (act h (call.Post canvas) m).0
    unfolding act
    posts canvas is = back canvas (posted canvas.image) is

    discards : (canvas : Canvas) → IsElsewhere canvas.stream → Unmoved (act h (call.Discard canvas) m).0
    unfolding act
    discards canvas is = back canvas discarded is

    paints : (paint : Bitmap → Bitmap) (canvas : Canvas) → LooksAlike a v (drawn b paint v canvas).0
    paints paint canvas =
        record {
          owned = refl;
          streams = λ k own. refl;
          held = sym (goes b a apart (Some (record canvas { image = paint canvas.image })) v.held);
          out = λ kept image at. refl;
          frame = refl;
        }

    holding : (f : Canvas → Served × Told) → ((canvas : Canvas) → canvas_of b v.held ≡ Some canvas → LooksAlike a v (f canvas).0)
        → LooksAlike a v (with_held f v (canvas_of b v.held)).0
    holding = holder_keeps (LooksAlike a v) v b alike_itself

    pub spared_alike : (x : Asked) → Spares a b x v → LooksAlike a v (served b x m v).0
    spared_alike (plain r) spares = request_alike r (λ none. spares)
    spared_alike post spares = holding (given b call.Post m v) (gives call.Post (λ canvas. refl) posts spares)
    spared_alike discard spares = holding (given b call.Discard m v) (gives call.Discard (λ canvas. refl) discards spares)
    spared_alike (draw paint) spares = holding (drawn b paint v) (λ canvas is. paints paint canvas)
