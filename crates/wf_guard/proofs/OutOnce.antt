-- No two clients hold the write buffer of one stream.
use Rattle.std.proofs.Common.{◌≡◌, ◌∙◌, ℕ, ◌+◌, Bool, true, false, cond, not, ◌==◌, ◌&&◌, ◌||◌, List, [], ◌∷◌, ◌++◌, Option, Some, None, Ok}
use Rattle.std.proofs.Common.{Err, ◌⊎◌, inl, inr, refl, sym, ap, subst}
use Rattle.std.proofs.lemmas.Bool.{and_parts, both_ways, eq-eqb, eqb-true, false_from_ne_true, ne_eqb, true≢false}
use Rattle.wf_words.specs.Keyed.{is_in}
use Rattle.wf_words.specs.Refusals.{◌>>=◌}
use Rattle.wf_image.specs.Bitmap.{Bitmap}
use Rattle.wf_image.specs.declared.canvas.Canvas.{Canvas}
use Rattle.wf_life.specs.Handles.{is_full}
use Rattle.wf_stream.specs.Buffers.{Buffers, acquired, discarded, is_blocked, posted}
use Rattle.wf_stream.specs.Streams.{KeptStream, has_no_room, stream_at, stream_of}
use Rattle.wf_calls.specs.Codes.{is_ok_code}
use Rattle.wf_calls.specs.Parts.{Register, is_begin, no_register, of_device, of_display}
use Rattle.wf_calls.specs.Replies.{bare, done, gives_back_canvas, gives_back_job, gives_canvas, given_canvas}
use Rattle.wf_calls.specs.Requests.{call_of}
use Rattle.wf_calls.specs.declared.call.Call.{Call}
use Rattle.wf_calls.specs.declared.call.Call.TheVariants as call
use Rattle.wf_calls.specs.declared.call.Job.{Job}
use Rattle.wf_calls.specs.declared.call.JobKind.{JobKind}
use Rattle.wf_calls.specs.declared.call.JobKind.TheVariants as kind
use Rattle.wf_calls.specs.declared.code.Code.{Code}
use Rattle.wf_calls.specs.declared.code.Code.TheVariants as code
use Rattle.wf_calls.specs.declared.ports.Ports.{Ports}
use Rattle.wf_calls.specs.declared.reply.Answer.{Answer}
use Rattle.wf_calls.specs.declared.reply.Reply.{Reply}
use Rattle.wf_calls.specs.declared.request.Request.{Request}
use Rattle.wf_calls.specs.declared.request.Request.TheVariants as request
use Rattle.wf_host.specs.Held.{adding, canvas_of, without}
use Rattle.wf_host.specs.declared.canvases.Held.{Held}
use Rattle.wf_model.specs.Beginnings.{by_begin}
use Rattle.wf_model.specs.Effects.{effect, frame_stays}
use Rattle.wf_model.specs.Frames.{Beginning, brought_home, delivered, drawing, end, end_frame, is_of_frame, is_target, latch, same_kind}
use Rattle.wf_model.specs.Frames.{scene_streams, start}
use Rattle.wf_model.specs.Names.{settle_if, target_names}
use Rattle.wf_model.specs.Outcome.{refuse}
use Rattle.wf_model.specs.Registers.{offered}
use Rattle.wf_model.specs.State.{Running, State}
use Rattle.wf_model.specs.Step.{act, step}
use Rattle.wf_model.specs.Streams.{acquirable, acquire_step, is_out_at_client, may_make, new_buffers, stream_destroy, stream_made}
use Rattle.wf_model.specs.Streams.{stream_step, with_stream}
use Rattle.wf_model.specs.Streams as model
use Rattle.wf_guard.specs.declared.clients.TheConstants.{OUTPUT}
use Rattle.wf_guard.specs.declared.form.Form.{Form}
use Rattle.wf_guard.specs.LiveStreams.{Turn, after_turn, after_turns, is_of_frames, opened}
use Rattle.wf_guard.specs.Serving.{Served}
use Rattle.wf_guard.proofs.ForApps.{begins_none}
use Rattle.wf_guard.proofs.HeldApart.{AllApart, IsTaken, apart_more, in_more, is_held, none_more, other_way, taken}
use Rattle.wf_guard.proofs.Numbered.{NumbersRise, open_rising, rise_apart, turn_rises}
use Rattle.wf_guard.proofs.OwnCanvases.{acquirable_is}
use Rattle.wf_guard.proofs.Outs.{IsFree, StaysOut, begun_target, changed_out, drawn_is_out, home_out, is_out, latched_out, more_out, out_of}
use Rattle.wf_guard.proofs.Outs.{settled_out, taken_is_out, unnamed_keeps}
use Rattle.wf_guard.proofs.Payloads.{given, gives_acquired, gives_none}
use Rattle.wf_guard.proofs.Spared.{still, untouched}
use Rattle.wf_guard.proofs.Turns.{Keeps, runs_keep, turn_keeps}

-- each write buffer that is held is out, no two are of one stream, and none is the running frame's
pub record OutOnce (h : State) (held : List Held) : Type 0 where
  pub out : (n : ℕ) → is_held n held ≡ true → is_out n h.streams ≡ true
  pub apart : AllApart held
  pub target : (n : ℕ) → is_target n h.frame ≡ true → (is_out n h.streams ≡ true) × (is_held n held ≡ false)

-- a call that keeps what is out, and the running frame

record Steady (h g : State) : Type 0 where
  out : (n : ℕ) → StaysOut n h.streams g.streams
  frame : g.frame ≡ h.frame

module _ (h : State) where
  same : Steady h h
  same = record { out = λ n out. out; frame = refl }

  makes : (new : Buffers) (wrong full lacking : Bool) (n : ℕ)
      → StaysOut n h.streams (stream_step h (refuse code.IllegalArgument wrong >>= (λ _. refuse code.Limit full >>= (λ _.
      refuse code.OutOfMemory lacking >>= (λ _. Ok (stream_made new h)))))).0.streams
  makes new true full lacking n out = out
  makes new false true lacking n out = out
  makes new false false true n out = out
  makes new false false false n out =
      more_out n (record { number = h.numbered + 1; handle = h.made + 1; buffers = new }) h.streams out

  ends : (stream : ℕ) (o : Option KeptStream) → stream_of stream h.streams ≡ o → (n : ℕ)
      → StaysOut n h.streams (stream_step h (stream_destroy stream h)).0.streams
  ends stream None is n = rw is (λ out. out)
  ends stream (Some t) is n = rw is (unnamed_keeps n stream h.streams)

  takes : (t : KeptStream) (out blocked : Bool) (n : ℕ)
      → StaysOut n h.streams (acquire_step h (refuse code.Busy out >>= (λ _. refuse code.NoBuffer blocked >>= (λ _. Ok t)))).0.streams
  takes t true blocked n out = out
  takes t false true n out = out
  takes t false false n out = changed_out n t.number acquired (λ same b is. refl) h.streams out

  acquires : (stream : ℕ) (o : Option KeptStream) → stream_of stream h.streams ≡ o → (n : ℕ)
      → StaysOut n h.streams (acquire_step h (acquirable stream h)).0.streams
  acquires stream None is n = rw is (λ out. out)
  acquires stream (Some t) is n = rw is (takes t t.buffers.out (is_blocked t.buffers) n)

  request_keeps : (r : Request) (m : Bool) → is_begin (call_of r) ≡ false → (n : ℕ) → StaysOut n h.streams (act h (call_of r) m).0.streams
  unfolding act
  request_keeps (request.StreamNew width height format buffers) m rests n =
      let new : Buffers = new_buffers false width height format buffers in
      makes new (not (may_make false width height buffers)) (has_no_room new h.streams || is_full h.made) m n
  request_keeps (request.StreamQueue width height format depth) m rests n =
      let new : Buffers = new_buffers true width height format depth in
      makes new (not (may_make true width height depth)) (has_no_room new h.streams || is_full h.made) m n
  request_keeps (request.StreamDestroy stream) m rests n = ends stream (stream_of stream h.streams) refl n
  request_keeps (request.Acquire stream) m rests n = acquires stream (stream_of stream h.streams) refl n
  request_keeps r m rests n =
      subst (λ (ss : List KeptStream). StaysOut n h.streams ss) (sym (untouched h (call_of r) m rests refl)) (λ out. out)

  request_steady : (client : ℕ) (r : Request) (m : Bool) → is_begin (call_of r) ≡ false → Steady h (step h client (call_of r) m).0
  unfolding step
  request_steady client r m rests =
      let x : State × Reply = act h (call_of r) m in
      record {
        out = λ n out. settled_out n (is_ok_code x.1.code) x.0 (request_keeps r m rests n out);
        frame = frame_stays h (call_of r) x (effect h (call_of r) m) (still r rests);
      }

-- where what is out stays out, and the frame, nothing else has to be known
steadily : (h g : State) (held : List Held) → Steady h g → OutOnce h held → OutOnce g held
steadily h g held steady once =
    record {
      out = λ n is. steady.out n (once.out n is);
      apart = once.apart;
      target = λ n is.
          let was = once.target n (ap (is_target n) (sym steady.frame) ∙ is) in
          (steady.out n was.0, was.1);
    }

-- what is acquired was not out, and is out then
record IsTakenNow (h : State) (n : ℕ) (g : State) : Type 0 where
  before : is_out n h.streams ≡ false
  after : is_out n g.streams ≡ true

acquired_now : (h : State) → NumbersRise h → (client stream : ℕ) (m : Bool) (canvas : Canvas)
    → given (step h client (call.Acquire stream) m) ≡ Some canvas → IsTakenNow h canvas.stream (step h client (call.Acquire stream) m).0
unfolding step act
acquired_now h rise client stream m canvas is =
    let got = gives_acquired h client stream m canvas is in
    let s : KeptStream = got.0 in
    let at : stream_at s.number h.streams ≡ Some s = rise_apart h rise stream s (acquirable_is stream h s got.1) in
    let x : State × Reply = acquire_step h (acquirable stream h) in
    let does : x ≡ (with_stream s.number acquired h, gives_canvas (model.canvas_of s)) = ap (acquire_step h) got.1 in
    let out : is_out s.number (settle_if (is_ok_code x.1.code) x.0).streams ≡ true =
    settled_out s.number (is_ok_code x.1.code) x.0
    (ap (λ (y : State × Reply). is_out s.number y.0.streams) does ∙ taken_is_out s.number s h.streams at) in
    subst (λ (k : ℕ). IsTakenNow h k (settle_if (is_ok_code x.1.code) x.0)) (sym (ap (λ (c : Canvas). c.stream) got.2))
    (record { before = ap out_of at ∙ not_out s got.1; after = out })
  where
    not_out : (s : KeptStream) → acquirable stream h ≡ Ok s → s.buffers.out ≡ false
    not_out s ok = of_stream (stream_of stream h.streams) refl
      where
        of_tests : (t : KeptStream) (out blocked : Bool) → t.buffers.out ≡ out
            → (refuse code.Busy out >>= (λ _. refuse code.NoBuffer blocked >>= (λ _. Ok t))) ≡ Ok s → s.buffers.out ≡ false
        of_tests t true blocked is done = absurd cc
        of_tests t false true is done = absurd cc
        of_tests t false false is done = let one : t ≡ s = cc in ap (λ (y : KeptStream). y.buffers.out) (sym one) ∙ is

        of_stream : (o : Option KeptStream) → stream_of stream h.streams ≡ o → s.buffers.out ≡ false
        of_stream None none = absurd (let no : Err _ ≡ Ok s = rw none at ok in cc)
        of_stream (Some t) found = of_tests t t.buffers.out (is_blocked t.buffers) refl (rw found at ok)

-- one more is held
one_more : (h g : State) (held : List Held) (key : ℕ) (canvas : Canvas) → Steady h g → OutOnce h held → IsTakenNow h canvas.stream g
    → OutOnce g (held ++ record { key = key; canvas = canvas } ∷ [])
one_more h g held key canvas steady once now =
    record {
      out = λ n is. of_either n (in_more n one held is);
      apart = apart_more one held once.apart none;
      target = λ n is.
          let was = once.target n (ap (is_target n) (sym steady.frame) ∙ is) in
          (steady.out n was.0, none_more n one held was.1 (other n was.0));
    }
  where
    one : Held
    one = record { key = key; canvas = canvas }

    none : is_held canvas.stream held ≡ false
    none = false_from_ne_true (is_held canvas.stream held) (λ is. both_ways _ now.before (once.out canvas.stream is))

    other : (n : ℕ) → is_out n h.streams ≡ true → (canvas.stream == n) ≡ false
    other n out = ne_eqb canvas.stream n (λ same. both_ways _ now.before (ap (λ k. is_out k h.streams) same ∙ out))

    of_either : (n : ℕ) → (is_held n held ≡ true) ⊎ (n ≡ canvas.stream) → is_out n g.streams ≡ true
    of_either n (inl is) = steady.out n (once.out n is)
    of_either n (inr is) = ap (λ k. is_out k g.streams) is ∙ now.after

-- the write buffer of a client

module _ (h : State) (held : List Held) (once : OutOnce h held) (b : ℕ) (canvas : Canvas) (taken_it : IsTaken b canvas held) where
  not_left : (n : ℕ) → is_held n held ≡ false → is_held n (without b held) ≡ false
  not_left n none = false_from_ne_true (is_held n (without b held)) (λ is. both_ways _ none (taken_it.left n is))

  another : (n : ℕ) → is_held n held ≡ false → (canvas.stream == n) ≡ false
  another n none = ne_eqb canvas.stream n (λ same. both_ways _ none (ap (λ k. is_held k held) (sym same) ∙ taken_it.held))

  -- it is held again, drawn on or not
  put_back : (image : Bitmap) → OutOnce h (without b held ++ record { key = b; canvas = record canvas { image = image } } ∷ [])
  put_back image =
      record {
        out = λ n is. of_either n (in_more n one (without b held) is);
        apart = apart_more one (without b held) taken_it.apart taken_it.gone;
        target = λ n is.
            let was = once.target n is in
            (was.0, none_more n one (without b held) (not_left n was.1) (another n was.1));
      }
    where
      one : Held
      one = record { key = b; canvas = record canvas { image = image } }

      of_either : (n : ℕ) → (is_held n (without b held) ≡ true) ⊎ (n ≡ canvas.stream) → is_out n h.streams ≡ true
      of_either n (inl is) = once.out n (taken_it.left n is)
      of_either n (inr is) = ap (λ k. is_out k h.streams) is ∙ once.out canvas.stream taken_it.held

  -- it is given back
  given_back : (f : Buffers → Buffers) → OutOnce (settle_if true (with_stream canvas.stream f h)) (without b held)
  given_back f =
      record {
        out = λ n is. stays n (not_it n is) (once.out n (taken_it.left n is));
        apart = taken_it.apart;
        target = λ n is.
            let was = once.target n is in
            (stays n (other_way canvas.stream n (another n was.1)) was.0, not_left n was.1);
      }
    where
      not_it : (n : ℕ) → is_held n (without b held) ≡ true → (n == canvas.stream) ≡ false
      not_it n is =
          ne_eqb n canvas.stream (λ same. both_ways _ taken_it.gone (ap (λ k. is_held k (without b held)) (sym same) ∙ is))

      stays : (n : ℕ) → (n == canvas.stream) ≡ false → is_out n h.streams ≡ true
          → is_out n (settle_if true (with_stream canvas.stream f h)).streams ≡ true
      stays n other out =
          settled_out n true (with_stream canvas.stream f h)
          (changed_out n canvas.stream f (λ same x is. absurd (let no : true ≡ false = sym same ∙ other in cc)) h.streams out)

  abbrev Left : State × Reply → Type 0
  Left x = OutOnce (settle_if (is_ok_code x.1.code) x.0) (adding b (given_canvas x.1.payload) (without b held))

  back : (f : Buffers → Buffers) (t : Bool)
      → Left (cond {A = State × Reply} t (with_stream canvas.stream f h, bare (done 0)) (h, gives_back_canvas canvas))
  back f true = given_back f
  back f false = put_back canvas.image

  posts : (client : ℕ) (m : Bool) → OutOnce (step h client (call.Post canvas) m).0
      (adding b (given (step h client (call.Post canvas) m)) (without b held))
  unfolding step act
  posts client m = back (posted canvas.image) (is_out_at_client canvas h)

  discards : (client : ℕ) (m : Bool) → OutOnce (step h client (call.Discard canvas) m).0
      (adding b (given (step h client (call.Discard canvas) m)) (without b held))
  unfolding step act
  discards client m = back discarded (is_out_at_client canvas h)

-- frames

module _ (h : State) (held : List Held) (once : OutOnce h held) where
  abbrev Now : State × Reply → Type 0
  Now x = OutOnce (settle_if (is_ok_code x.1.code) x.0) held

  settles : (ok : Bool) (g : State) → Steady h g → OutOnce (settle_if ok g) held
  settles ok g steady =
      steadily h (settle_if ok g) held (record { out = λ n out. settled_out n ok g (steady.out n out); frame = steady.frame }) once

  offers : (register : Register) (refused : Code) (a : Answer) → Now (offered register refused h, bare a)
  offers (of_device d) refused a =
      settles (is_ok_code a.code) (offered (of_device d) refused h) (record { out = λ n out. out; frame = refl })
  offers of_display refused a = settles (is_ok_code a.code) (offered of_display refused h) (record { out = λ n out. out; frame = refl })
  offers no_register refused a = settles (is_ok_code a.code) h (same h)

  draws : (ns : List ℕ) (k : JobKind) (n : ℕ) → StaysOut n h.streams (drawing k (latch ns h.streams))
  draws ns (kind.Context handle target) n out =
      changed_out n target acquired (λ same b is. refl) (latch ns h.streams) (latched_out n ns h.streams out)
  draws ns (kind.Port port) n out = latched_out n ns h.streams out

  drawn_target : (ns : List ℕ) (k : JobKind) (n : ℕ) → is_in n (target_names k) ≡ true → IsFree h n
      → is_out n (drawing k (latch ns h.streams)) ≡ true
  drawn_target ns (kind.Context handle target) n among free = of_one (target == n) refl among
    where
      of_one : (d : Bool) → (target == n) ≡ d → (d || false) ≡ true
          → is_out n (drawing (kind.Context handle target) (latch ns h.streams)) ≡ true
      of_one false other is = absurd cc
      of_one true same is =
          subst (λ (k : ℕ). is_out n (drawing (kind.Context handle k) (latch ns h.streams)) ≡ true) (sym (eqb-true target n same))
          (drawn_is_out n ns free.stream h.streams free.at)
  drawn_target ns (kind.Port port) n among free = absurd cc

  begun : (b : Beginning) → ((n : ℕ) → is_in n (target_names b.kind) ≡ true → IsFree h n) → Now (start b h)
  begun b free =
      record {
        out = λ n is. settled_out n true (start b h).0 (draws ns b.kind n (once.out n is));
        apart = once.apart;
        target = λ n is.
            let kept = free n is in
            (settled_out n true (start b h).0 (drawn_target ns b.kind n is kept), not_held_yet n kept);
      }
    where
      ns : List ℕ
      ns = scene_streams b.scene

      not_held_yet : (n : ℕ) → IsFree h n → is_held n held ≡ false
      not_held_yet n kept =
          false_from_ne_true (is_held n held) (λ is. true≢false (sym (once.out n is) ∙ ap out_of kept.at ∙ kept.home))

  begins_once : (c : Call) (m : Bool) → is_begin c ≡ true → Now (act h c m)
  begins_once c m begin = by_begin Now h c m begin offers (λ b is. begun b (begun_target h b c is))

  same_target : (k l : JobKind) → same_kind k l ≡ true → target_names k ≡ target_names l
  same_target (kind.Context handle target) (kind.Context other into) is =
      let parts = and_parts (handle == other) (target == into) is in
      ap (λ (n : ℕ). n ∷ []) (eqb-true target into parts.1)
  same_target (kind.Context handle target) (kind.Port q) is = absurd cc
  same_target (kind.Port p) (kind.Context other into) is = absurd cc
  same_target (kind.Port p) (kind.Port q) is = refl

  -- what comes home and what was drawn take back the target's write buffer alone
  comes_home : (job : Job) (k : JobKind) (n : ℕ) → is_in n (target_names k) ≡ false
      → StaysOut n h.streams (delivered k job.image (brought_home job.contents h.streams))
  comes_home job (kind.Context handle target) n other out =
      changed_out n target (posted job.image)
      (λ same b is. absurd (let no : true ≡ false = sym (rw (eq-eqb target n (sym (eqb-true n target same))) refl) ∙ other in cc))
      (brought_home job.contents h.streams) (home_out n job.contents h.streams out)
  comes_home job (kind.Port port) n other out = home_out n job.contents h.streams out

  own_kind : (a k s t l x : Bool) → (a && k && s && t && l && x) ≡ true → k ≡ true
  own_kind a k s t l x all =
      let five = and_parts (a && k && s && t && l) x all in
      let four = and_parts (a && k && s && t) l five.0 in
      let three = and_parts (a && k && s) t four.0 in
      let two = and_parts (a && k) s three.0 in
      (and_parts a k two.0).1

  ended : (job : Job) (f : Running) → h.frame ≡ Some f → is_of_frame job f ≡ true → OutOnce (settle_if true (end_frame job h)) held
  ended job f runs own =
      record {
        out = λ n is. settled_out n true (end_frame job h) (comes_home job job.kind n (not_target n is) (once.out n is));
        apart = once.apart;
        target = λ n is. absurd cc;
      }
    where
      kinds : target_names job.kind ≡ target_names f.kind
      kinds = same_target job.kind f.kind (own_kind (job.number == f.number) (same_kind job.kind f.kind) _ _ _ _ own)

      not_target : (n : ℕ) → is_held n held ≡ true → is_in n (target_names job.kind) ≡ false
      not_target n is =
          false_from_ne_true (is_in n (target_names job.kind)) (λ same.
          both_ways _ (once.target n (ap (is_target n) runs ∙ ap (is_in n) (sym kinds) ∙ same)).1 is)

  ends_once : (job : Job) → Now (end job h)
  ends_once job = of_frame h.frame refl
    where
      of_own : (f : Running) → h.frame ≡ Some f → (b : Bool) → is_of_frame job f ≡ b → Now (end job h)
      of_own f runs true own =
          let does : end job h ≡ (end_frame job h, bare (done 0)) = rw (runs, own) refl in subst Now (sym does) (ended job f runs own)
      of_own f runs false own = let back : end job h ≡ (h, gives_back_job job) = rw (runs, own) refl in subst Now (sym back) once

      of_frame : (o : Option Running) → h.frame ≡ o → Now (end job h)
      of_frame None free = let back : end job h ≡ (h, gives_back_job job) = rw free refl in subst Now (sym back) once
      of_frame (Some f) runs = of_own f runs (is_of_frame job f) refl

  frame_once : (c : Call) → is_of_frames c ≡ true → OutOnce (step h OUTPUT c false).0 held
  unfolding step act
  frame_once (call.BeginNext after) moves = begins_once (call.BeginNext after) false refl
  frame_once (call.BeginPort port) moves = begins_once (call.BeginPort port) false refl
  frame_once (call.BeginContext d c) moves = begins_once (call.BeginContext d c) false refl
  frame_once (call.End job) moves = ends_once job
  frame_once _ moves = absurd cc

-- turns

abbrev pub IsOutOnce : Served → Type 0
IsOutOnce v = OutOnce v.machine v.held

module _ (v : Served) (rise : NumbersRise v.machine) (once : IsOutOnce v) where
  answered : (b : ℕ) (r : Request) (m : Bool) → is_begin (call_of r) ≡ false
      → OutOnce (step v.machine b (call_of r) m).0 (adding b (given (step v.machine b (call_of r) m)) v.held)
  answered b (request.Acquire stream) m rests = of_given (given x) refl
    where
      x : State × Reply
      x = step v.machine b (call.Acquire stream) m

      of_given : (o : Option Canvas) → given x ≡ o → OutOnce x.0 (adding b (given x) v.held)
      of_given None none = rw none (steadily v.machine x.0 v.held (request_steady v.machine b (request.Acquire stream) m refl) once)
      of_given (Some canvas) is =
          rw is (one_more v.machine x.0 v.held b canvas (request_steady v.machine b (request.Acquire stream) m refl) once
          (acquired_now v.machine rise b stream m canvas is))
  answered b r m rests =
      rw (gives_none v.machine b r m refl) (steadily v.machine (step v.machine b (call_of r) m).0 v.held
      (request_steady v.machine b r m rests) once)

  taken_by : (b : ℕ) (canvas : Canvas) → canvas_of b v.held ≡ Some canvas → IsTaken b canvas v.held
  taken_by b canvas is = taken b canvas v.held once.apart is

  keeps : (b : ℕ) (m : Bool) → Keeps IsOutOnce v b m
  keeps b m =
      record {
        here = once;
        makes = λ r none place. answered b r m (begins_none b v.owned r none);
        posts = λ canvas is. posts v.machine v.held once b canvas (taken_by b canvas is) b m;
        discards = λ canvas is. discards v.machine v.held once b canvas (taken_by b canvas is) b m;
        draws = λ paint canvas is. put_back v.machine v.held once b canvas (taken_by b canvas is) (paint canvas.image);
      }

  pub turn_once : (t : Turn) → IsOutOnce (after_turn t v)
  turn_once = turn_keeps IsOutOnce v keeps (frame_once v.machine v.held once)

pub always_once : (form : Form) (ports : Ports) (rs : List Turn) → IsOutOnce (after_turns (opened form ports) rs)
always_once form ports rs =
    (runs_keep (λ v. NumbersRise v.machine × IsOutOnce v) (λ t v both. (turn_rises t v both.0, turn_once v both.0 both.1 t)) rs
    (opened form ports) (open_rising form ports, record { out = λ n is. absurd cc; apart = tt; target = λ n is. absurd cc })).1
