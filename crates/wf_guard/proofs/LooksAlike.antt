-- Two states that look alike to an app answer it the same, and look alike to it afterwards.
use Rattle.std.proofs.Common.{◌≡◌, ◌∙◌, ℕ, ◌+◌, ◌≤◌, Bool, true, false, cond, not, ◌==◌, ◌&&◌, ◌||◌, List, [], ◌∷◌, ◌++◌, map, Option, Some}
use Rattle.std.proofs.Common.{None, option_map, refl, sym, ap, subst, arith}
use Rattle.std.proofs.lemmas.Bool.{eqb-true, or_parts}
use Rattle.std.proofs.lemmas.Bool.Decides.{nat_tests}
use Rattle.std.proofs.lemmas.List.Folds.{list_any-append}
use Rattle.std.specs.Prelude.{is_some, length, nat_le}
use Rattle.wf_image.specs.Bitmap.{Bitmap}
use Rattle.wf_image.specs.declared.canvas.Canvas.{Canvas}
use Rattle.wf_life.specs.Handles.{is_full}
use Rattle.wf_stream.specs.Buffers.{Buffers, acquired, discarded, posted}
use Rattle.wf_stream.specs.Streams.{KeptStream, has_no_room, stream_of, unnamed}
use Rattle.wf_stream.specs.declared.TheConstants.{MOST_STREAMS}
use Rattle.wf_calls.specs.Codes.{is_ok_code}
use Rattle.wf_calls.specs.Replies.{bare, done, given_canvas, gives_back_canvas, gives_canvas, refused}
use Rattle.wf_calls.specs.Requests.{call_of}
use Rattle.wf_calls.specs.declared.call.Call.{Call}
use Rattle.wf_calls.specs.declared.call.Call.TheVariants as call
use Rattle.wf_calls.specs.declared.code.Code.{Code}
use Rattle.wf_calls.specs.declared.code.Code.TheVariants as code
use Rattle.wf_calls.specs.declared.reply.Reply.{Reply}
use Rattle.wf_calls.specs.declared.request.Request.{Request}
use Rattle.wf_calls.specs.declared.request.Request.TheVariants as request
use Rattle.wf_host.specs.Held.{adding, canvas_of, holds, without}
use Rattle.wf_host.specs.Made.{told_of}
use Rattle.wf_host.specs.declared.told.Told.{Told}
use Rattle.wf_model.specs.Names.{settle_if}
use Rattle.wf_model.specs.State.{State}
use Rattle.wf_model.specs.Step.{act, step}
use Rattle.wf_model.specs.Streams.{is_out_at_client, may_make, new_buffers, stream_made, with_stream}
use Rattle.wf_model.specs.Streams as model
use Rattle.wf_wire.specs.Asked.{is_acquire}
use Rattle.wf_guard.specs.declared.owners.Owned.{Owned}
use Rattle.wf_guard.specs.Alike.{LooksAlike, MeetsSame, SharesSame}
use Rattle.wf_guard.specs.Apps.{LooksSame, RoomSame}
use Rattle.wf_guard.specs.LiveStreams.{live_handles}
use Rattle.wf_guard.specs.Policy.{made_by, owned_after, owns, refusal_of}
use Rattle.wf_guard.specs.Requests.{asked_bytes, is_for_apps}
use Rattle.wf_guard.specs.Serving.{Asked, Served, allowed, carried, discard, draw, drawn, given, lacks_place, made, plain, post, served}
use Rattle.wf_guard.specs.Serving.{with_held}
use Rattle.wf_guard.proofs.ForApps.{acquires_own, destroys_own, kinds_let_through, let_through}
use Rattle.wf_guard.proofs.Found.{adding_same, alone_adding, below, changed, changed_seen, found_live, holds_is, no_zero, out_same}
use Rattle.wf_guard.proofs.Found.{seen_again, still_owned, taken_out, unnamed_out}
use Rattle.wf_guard.proofs.MadeOf.{same_lacks, same_made, same_owns}
use Rattle.wf_guard.proofs.OneEach.{left_none, none_held, none_of}
use Rattle.wf_guard.proofs.Pairs.{Both, Pair, by_acquired, by_back, by_destroyed, by_new, settled}
use Rattle.wf_guard.proofs.Seen.{outs_more, outs_settled, seen_more, seen_new, seen_unnamed}
use Rattle.wf_guard.proofs.Sound.{IsSound, owned_there}
use Rattle.wf_guard.proofs.Told.{told_same}

module _ (a : ℕ) (app : (a == 0) ≡ false) (m : Bool) (v w : Served) (sv : IsSound v) (sw : IsSound w) (alike : LooksAlike a v w) where
  abbrev h : State
  h = v.machine

  abbrev g : State
  g = w.machine

  -- the policy

  owns_same : (k : ℕ) → owns a k v.owned ≡ owns a k w.owned
  owns_same k = same_owns a k v.owned w.owned alike.owned

  of_share : Bool → Option Code
  of_share lacks = cond (not ((a == 0) || true)) (Some code.Unsupported) (cond lacks (Some code.Limit) None)

  of_name : Bool → Option Code
  of_name own = cond (not ((a == 0) || true)) (Some code.Unsupported) (cond ((a == 0) || own) None (Some code.BadHandle))

  refusals : (r : Request) → MeetsSame (plain r) v w → refusal_of a r v.owned ≡ refusal_of a r w.owned
  unfolding of_share of_name
  refusals (request.StreamNew width height format buffers) meets =
      ap of_share (same_lacks a (asked_bytes (request.StreamNew width height format buffers)) v.owned w.owned alike.owned meets.live)
  refusals (request.StreamQueue width height format depth) meets =
      ap of_share (same_lacks a (asked_bytes (request.StreamQueue width height format depth)) v.owned w.owned alike.owned meets.live)
  refusals (request.StreamDestroy stream) meets = ap of_name (owns_same stream)
  refusals (request.Acquire stream) meets = ap of_name (owns_same stream)
  refusals _ meets = refl

  places : (r : Request) → MeetsSame (plain r) v w → lacks_place a r v.held ≡ lacks_place a r w.held
  places (request.Acquire stream) meets =
      let same : holds a v.held ≡ holds a w.held = holds_is a v.held ∙ ap (λ o. is_some o) alike.held ∙ sym (holds_is a w.held) in
      ap (λ b. b || nat_le MOST_STREAMS (length v.held)) same ∙ ap (λ b. holds a w.held || b) meets
  places _ meets = refl

  looks : (r : Request) → refusal_of a r v.owned ≡ None → MeetsSame (plain r) v w → LooksSame (call_of r) h g
  looks (request.StreamNew width height format buffers) none meets = meets.room
  looks (request.StreamQueue width height format depth) none meets = meets.room
  looks (request.StreamDestroy stream) none meets = alike.streams stream (destroys_own a app v.owned stream none)
  looks (request.Acquire stream) none meets = alike.streams stream (acquires_own a app v.owned stream none)
  looks _ none meets = tt

  full : (new : Buffers) → RoomSame new h g → (has_no_room new h.streams || is_full h.made) ≡ (has_no_room new g.streams || is_full g.made)
  full new room = ap (λ b. b || is_full h.made) room.0 ∙ ap (λ n. has_no_room new g.streams || is_full n) room.1

  -- a request

  abbrev After : Request → Pair
  After r x y = LooksAlike a (made a r v (settled x)).0 (made a r w (settled y)).0

  refuses : (r : Request) (reply : Reply) → is_ok_code reply.code ≡ false → given_canvas reply.payload ≡ None
      → After r (h, reply) (g, reply)
  refuses r reply refused none = rw (refused, none) alike

  -- the next handle is nobody's yet
  next_free : (u : Served) → IsSound u → stream_of (u.machine.made + 1) u.machine.streams ≡ None
  next_free u sound = by_stream (stream_of (u.machine.made + 1) u.machine.streams) refl
    where
      by_stream : (o : Option KeptStream) → stream_of (u.machine.made + 1) u.machine.streams ≡ o
          → stream_of (u.machine.made + 1) u.machine.streams ≡ None
      by_stream None is = is
      by_stream (Some t) is =
          let among = found_live (u.machine.made + 1) u.machine.streams t is in
          let low : u.machine.made + 1 ≤ u.machine.made =
          below (u.machine.made + 1) 0 u.machine.made (live_handles u.machine.streams) sound.handles among in
          absurd (omega (arith, low))

  module _ (new : Buffers) (home : new.out ≡ false) (shares : SharesSame new v w) where
    one : KeptStream
    one = record { number = h.numbered + 1; handle = h.made + 1; buffers = new }

    two : KeptStream
    two = record { number = g.numbered + 1; handle = g.made + 1; buffers = new }

    same_new : one ≡ two
    unfolding one two
    same_new =
        ap (λ (n : ℕ). record { number = n; handle = h.made + 1; buffers = new }) (ap (λ n. n + 1) shares.number)
        ∙ ap (λ (n : ℕ). record { number = g.numbered + 1; handle = n; buffers = new }) (ap (λ n. n + 1) shares.room.1)

    new_seen : (k : ℕ) → ((k == h.made + 1) ≡ false → stream_of k h.streams ≡ stream_of k g.streams)
        → stream_of k (h.streams ++ one ∷ []) ≡ stream_of k (g.streams ++ two ∷ [])
    unfolding one two
    new_seen k before = by_tests (k == 0) refl (k == h.made + 1) refl
      where
        by_tests : (z : Bool) → (k == 0) ≡ z → (b : Bool) → (k == h.made + 1) ≡ b
            → stream_of k (h.streams ++ one ∷ []) ≡ stream_of k (g.streams ++ two ∷ [])
        by_tests true zero b is = no_zero k zero (h.streams ++ one ∷ []) ∙ sym (no_zero k zero (g.streams ++ two ∷ []))
        by_tests false live true is =
            let here : k ≡ h.made + 1 = eqb-true k (h.made + 1) is in
            let there : k ≡ g.made + 1 = here ∙ ap (λ n. n + 1) shares.room.1 in
            seen_new k live one (sym here) h.streams (ap (λ i. stream_of i h.streams) here ∙ next_free v sv)
            ∙ ap Some same_new
            ∙ sym (seen_new k live two (sym there) g.streams (ap (λ i. stream_of i g.streams) there ∙ next_free w sw))
        by_tests false live false is =
            let here : (h.made + 1 == k) ≡ false = grind (arith, nat_tests) in
            let there : (g.made + 1 == k) ≡ false = ap (λ n. n + 1 == k) (sym shares.room.1) ∙ here in
            seen_more k live one here h.streams ∙ before is ∙ sym (seen_more k live two there g.streams)

    new_out : (canvas : Canvas) → is_out_at_client canvas h ≡ is_out_at_client canvas g
        → is_out_at_client canvas (settle_if true (stream_made new h).0) ≡ is_out_at_client canvas (settle_if true (stream_made new g).0)
    unfolding one two
    new_out canvas before =
        out_same canvas (settle_if true (stream_made new h).0) h refl
        (outs_settled canvas true (stream_made new h).0 ∙ outs_more canvas one home h.streams)
        ∙ before
        ∙ sym (out_same canvas (settle_if true (stream_made new g).0) g refl
        (outs_settled canvas true (stream_made new g).0 ∙ outs_more canvas two home g.streams))

    -- what is owned beside a new stream was owned before
    owned_before : (r : Request) (o : Owned) → o.stream ≡ h.made + 1 → (k : ℕ) → owns a k (v.owned ++ o ∷ []) ≡ true
        → (k == h.made + 1) ≡ false → owns a k v.owned ≡ true
    owned_before r o is k own other =
        let not_new : (o.stream == k) ≡ false = grind (arith, nat_tests) in
        by_test (owns a k v.owned) refl (sym (list_any-append (λ (x : Owned). (x.client == a) && (x.stream == k)) v.owned (o ∷ [])) ∙ own)
        not_new
      where
        by_test : (b : Bool) → owns a k v.owned ≡ b → (owns a k v.owned || owns a k (o ∷ [])) ≡ true → (o.stream == k) ≡ false
            → owns a k v.owned ≡ true
        by_test true own either not_new = own
        by_test false none either not_new = absurd (of_client (o.client == a) refl (rw (none, not_new) at either))
          where
            of_client : (b : Bool) → (o.client == a) ≡ b → (b && false || false) ≡ true → ⊥
            of_client true is either = cc
            of_client false is either = cc

    makes : (r : Request) (o : ℕ → Owned) → ((n : ℕ) → (o n).stream ≡ n)
        → ((value : ℕ) (owned : List Owned) → owned_after a r value owned ≡ owned ++ o value ∷ [])
        → After r ((stream_made new h).0, bare (done (h.made + 1))) ((stream_made new g).0, bare (done (g.made + 1)))
    unfolding one two
    makes r o is grows =
        record {
          owned =
              same_made a r (bare (done (h.made + 1))) (bare (done (g.made + 1))) v.owned w.owned alike.owned
              (ap (λ (n : ℕ). bare (done (n + 1))) shares.room.1);
          streams = λ k own.
              seen_again k true (stream_made new h).0
              ∙ new_seen k (λ other. alike.streams k (owned_before r (o (h.made + 1)) (is (h.made + 1)) k
              (ap (λ l. owns a k l) (sym (grows (h.made + 1) v.owned)) ∙ own) other))
              ∙ sym (seen_again k true (stream_made new g).0);
          held = alike.held;
          out = λ canvas image at. new_out (record canvas { image = image }) (alike.out canvas image at);
          frame = alike.frame;
        }

  ends : (stream : ℕ) → owns a stream v.owned ≡ true
      → After (request.StreamDestroy stream) (record h { streams = map (unnamed stream) h.streams }, bare (done 0))
      (record g { streams = map (unnamed stream) g.streams }, bare (done 0))
  ends stream its =
      record {
        owned = same_made a (request.StreamDestroy stream) (bare (done 0)) (bare (done 0)) v.owned w.owned alike.owned refl;
        streams = λ k own.
            let left = still_owned a k stream v.owned own in
            let live : (k == 0) ≡ false = (owned_there a k v sv left.0).live in
            seen_again k true (record h { streams = map (unnamed stream) h.streams }) ∙ seen_unnamed k live stream left.1 h.streams
            ∙ alike.streams k left.0
            ∙ sym (seen_again k true (record g { streams = map (unnamed stream) g.streams }) ∙ seen_unnamed k live stream left.1 g.streams);
        held = alike.held;
        out = λ canvas image at.
            unnamed_out stream (record canvas { image = image }) h ∙ alike.out canvas image at
            ∙ sym (unnamed_out stream (record canvas { image = image }) g);
        frame = alike.frame;
      }

  takes : (stream : ℕ) → owns a stream v.owned ≡ true → canvas_of a v.held ≡ None → (t : KeptStream)
      → stream_of stream h.streams ≡ Some t → stream_of stream g.streams ≡ Some t
      → After (request.Acquire stream) (with_stream t.number acquired h, gives_canvas (model.canvas_of t))
      (with_stream t.number acquired g, gives_canvas (model.canvas_of t))
  takes stream its free t here there =
      record {
        owned = alike.owned;
        streams = λ k own.
            let live : (k == 0) ≡ false = (owned_there a k v sv own).live in
            changed_seen t.number acquired true k live h ∙ ap (option_map (changed t.number acquired)) (alike.streams k own)
            ∙ sym (changed_seen t.number acquired true k live g);
        held = adding_same a (Some (model.canvas_of t)) v.held w.held alike.held;
        out = λ canvas image at.
            let one : Some canvas ≡ Some (model.canvas_of t) = sym at ∙ alone_adding a (model.canvas_of t) v.held free in
            let same : canvas ≡ model.canvas_of t = cc in
            subst (λ (c : Canvas). is_out_at_client (record c { image = image }) (settle_if true (with_stream t.number acquired h))
            ≡ is_out_at_client (record c { image = image }) (settle_if true (with_stream t.number acquired g))) (sym same)
            (out_same (record (model.canvas_of t) { image = image }) (settle_if true (with_stream t.number acquired h))
            (settle_if true (with_stream t.number acquired g)) alike.frame (taken_out image v sv stream t here ∙ sym
            (taken_out image w sw stream t there)));
        frame = alike.frame;
      }

  -- what each request that is let through does
  after : (r : Request) → is_for_apps r ≡ true → refusal_of a r v.owned ≡ None → (is_acquire r ≡ true → canvas_of a v.held ≡ None)
      → MeetsSame (plain r) v w → After r (act h (call_of r) m) (act g (call_of r) m)
  unfolding act
  after (request.StreamNew width height format buffers) may none free meets =
      let new : Buffers = new_buffers false width height format buffers in
      by_new h g (After (request.StreamNew width height format buffers)) (refuses (request.StreamNew width height format buffers)) new
      (makes new refl meets (request.StreamNew width height format buffers)
      (λ n. made_by a n width height (asked_bytes (request.StreamNew width height format buffers))) (λ n. refl) (λ value owned. refl))
      (not (may_make false width height buffers)) (has_no_room new h.streams || is_full h.made)
      (has_no_room new g.streams || is_full g.made) m
      (full new meets.room)
  after (request.StreamQueue width height format depth) may none free meets =
      let new : Buffers = new_buffers true width height format depth in
      by_new h g (After (request.StreamQueue width height format depth)) (refuses (request.StreamQueue width height format depth)) new
      (makes new refl meets (request.StreamQueue width height format depth)
      (λ n. made_by a n width height (asked_bytes (request.StreamQueue width height format depth))) (λ n. refl) (λ value owned. refl))
      (not (may_make true width height depth)) (has_no_room new h.streams || is_full h.made) (has_no_room new g.streams || is_full g.made) m
      (full new meets.room)
  after (request.StreamDestroy stream) may none free meets =
      let its : owns a stream v.owned ≡ true = destroys_own a app v.owned stream none in
      by_destroyed h g (After (request.StreamDestroy stream)) (refuses (request.StreamDestroy stream)) stream (ends stream its)
      (stream_of stream h.streams) refl (sym (alike.streams stream its))
  after (request.Acquire stream) may none free meets =
      let its : owns a stream v.owned ≡ true = acquires_own a app v.owned stream none in
      by_acquired h g (After (request.Acquire stream)) (refuses (request.Acquire stream)) stream (takes stream its (free refl))
      (stream_of stream h.streams) refl (sym (alike.streams stream its))
  after _ may none free meets = absurd cc

  -- who may ask for a write buffer holds none
  is_free : (r : Request) → lacks_place a r v.held ≡ false → is_acquire r ≡ true → canvas_of a v.held ≡ None
  is_free r place takes_it =
      let both : (true && (holds a v.held || nat_le MOST_STREAMS (length v.held))) ≡ false =
      ap (λ t. t && (holds a v.held || nat_le MOST_STREAMS (length v.held))) (sym takes_it) ∙ place in
      let none = or_parts (holds a v.held) (nat_le MOST_STREAMS (length v.held)) both in
      none_held a v.held (none_of a v.held none.0)

  stepped : (r : Request) → After r (act h (call_of r) m) (act g (call_of r) m)
      → LooksAlike a (made a r v (step h a (call_of r) m)).0 (made a r w (step g a (call_of r) m)).0
  unfolding step
  stepped r alike_after = alike_after

  requests : (r : Request) → MeetsSame (plain r) v w → Both a (served a (plain r) m v) (served a (plain r) m w)
  requests r meets = by_refusal (refusal_of a r v.owned) refl (sym (refusals r meets))
    where
      by_refusal : (o : Option Code) → refusal_of a r v.owned ≡ o → refusal_of a r w.owned ≡ refusal_of a r v.owned
          → Both a (served a (plain r) m v) (served a (plain r) m w)
      by_refusal (Some why) is other = rw (other, is) (record { told = refl; alike = alike })
      by_refusal None is other = rw (other, is) (by_place (lacks_place a r v.held) refl (sym (places r meets)))
        where
          by_place : (b : Bool) → lacks_place a r v.held ≡ b → lacks_place a r w.held ≡ lacks_place a r v.held
              → Both a (allowed a r m v None) (allowed a r m w None)
          by_place true place there = rw (there, place) (record { told = refl; alike = alike })
          by_place false place there =
              rw (there, place) (record {
                told = ap told_of (told_same h g a (call_of r) m (kinds_let_through a app v.owned r is) (looks r is meets));
                alike = stepped r (after r (let_through a app v.owned r is) is (is_free r place) meets);
              })

  -- the write buffer that is held

  abbrev Back : (Canvas → Call) → Canvas → Pair
  Back c canvas x y = LooksAlike a (carried a (without a v.held) v (settled x)).0 (carried a (without a w.held) w (settled y)).0

  none_after : (u : Served) → IsSound u → canvas_of a (without a u.held) ≡ None
  none_after u sound = none_held a (without a u.held) (left_none a u.held (sound.one a))

  returned : (c : Canvas → Call) (canvas : Canvas) (f : Buffers → Buffers)
      → Back c canvas (with_stream canvas.stream f h, bare (done 0)) (with_stream canvas.stream f g, bare (done 0))
  returned c canvas f =
      record {
        owned = alike.owned;
        streams = λ k own.
            let live : (k == 0) ≡ false = (owned_there a k v sv own).live in
            changed_seen canvas.stream f true k live h ∙ ap (option_map (changed canvas.stream f)) (alike.streams k own)
            ∙ sym (changed_seen canvas.stream f true k live g);
        held = none_after v sv ∙ sym (none_after w sw);
        out = λ kept image at. absurd (let no : None ≡ Some kept = sym (none_after v sv) ∙ at in cc);
        frame = alike.frame;
      }

  back_again : (u : Served) → IsSound u → (canvas : Canvas) → canvas_of a (adding a (Some canvas) (without a u.held)) ≡ Some canvas
  back_again u sound canvas = alone_adding a canvas (without a u.held) (none_after u sound)

  given_back : (c : Canvas → Call) (canvas : Canvas) → canvas_of a v.held ≡ Some canvas
      → Back c canvas (h, gives_back_canvas canvas) (g, gives_back_canvas canvas)
  given_back c canvas holds_it =
      record {
        owned = alike.owned;
        streams = alike.streams;
        held = back_again v sv canvas ∙ sym (back_again w sw canvas);
        out = λ kept image at.
            alike.out kept image (holds_it ∙ sym (back_again v sv canvas) ∙ at);
        frame = alike.frame;
      }

  -- it is posted or discarded

  posts : (canvas : Canvas) → canvas_of a v.held ≡ Some canvas → Both a (given a call.Post m v canvas) (given a call.Post m w canvas)
  unfolding step act
  posts canvas holds_it =
      let same = alike.out canvas canvas.image holds_it in
      record {
        told = ap told_of (told_same h g a (call.Post canvas) m refl same);
        alike = by_back h g (Back call.Post canvas) canvas (posted canvas.image) (returned call.Post canvas (posted canvas.image))
            (given_back call.Post canvas holds_it) (is_out_at_client canvas h) (is_out_at_client canvas g) same;
      }

  discards : (canvas : Canvas) → canvas_of a v.held ≡ Some canvas
      → Both a (given a call.Discard m v canvas) (given a call.Discard m w canvas)
  unfolding step act
  discards canvas holds_it =
      let same = alike.out canvas canvas.image holds_it in
      record {
        told = ap told_of (told_same h g a (call.Discard canvas) m refl same);
        alike = by_back h g (Back call.Discard canvas) canvas discarded (returned call.Discard canvas discarded)
            (given_back call.Discard canvas holds_it) (is_out_at_client canvas h) (is_out_at_client canvas g) same;
      }

  -- it is drawn on
  draws : (paint : Bitmap → Bitmap) (canvas : Canvas) → canvas_of a v.held ≡ Some canvas
      → Both a (drawn a paint v canvas) (drawn a paint w canvas)
  draws paint canvas holds_it =
      let painted : Canvas = record canvas { image = paint canvas.image } in
      record {
        told = refl;
        alike = record {
          owned = alike.owned;
          streams = alike.streams;
          held = back_again v sv painted ∙ sym (back_again w sw painted);
          out = λ kept image at.
              let one : Some kept ≡ Some painted = sym at ∙ back_again v sv painted in
              let same : kept ≡ painted = cc in
              subst (λ (c : Canvas). is_out_at_client (record c { image = image }) h ≡ is_out_at_client (record c { image = image }) g)
              (sym same) (alike.out canvas image holds_it);
          frame = alike.frame;
        };
      }

  holding : (f : Served → Canvas → Served × Told) → ((canvas : Canvas) → canvas_of a v.held ≡ Some canvas
      → Both a (f v canvas) (f w canvas))
      → Both a (with_held (f v) v (canvas_of a v.held)) (with_held (f w) w (canvas_of a w.held))
  holding f does = by_held (canvas_of a v.held) refl (sym alike.held)
    where
      by_held : (o : Option Canvas) → canvas_of a v.held ≡ o → canvas_of a w.held ≡ canvas_of a v.held
          → Both a (with_held (f v) v (canvas_of a v.held)) (with_held (f w) w (canvas_of a w.held))
      by_held None is other = rw (other, is) (record { told = refl; alike = alike })
      by_held (Some canvas) is other = rw (other, is) (does canvas is)

  pub answered_alike : (x : Asked) → MeetsSame x v w → Both a (served a x m v) (served a x m w)
  answered_alike (plain r) meets = requests r meets
  answered_alike post meets = holding (λ u. given a call.Post m u) posts
  answered_alike discard meets = holding (λ u. given a call.Discard m u) discards
  answered_alike (draw paint) meets = holding (λ u. drawn a paint u) (draws paint)
