-- A write buffer that an app holds is of a stream that it owns, as long as that stream lives.
use Rattle.std.proofs.Common.{◌≡◌, ◌∙◌, ℕ, zero, suc, ◌≤◌, Bool, true, false, cond, ◌==◌, ◌&&◌, List, [], ◌∷◌, ◌++◌, Option, Some, None, Ok}
use Rattle.std.proofs.Common.{Err, not, find, option_map, refl, sym, ap, subst, arith}
use Rattle.std.proofs.lemmas.Bool.{eqb-true}
use Rattle.std.specs.List.{position, remove}
use Rattle.wf_words.specs.Refusals.{◌>>=◌}
use Rattle.wf_words.specs.Rising.{RisesTo, low_under}
use Rattle.wf_image.specs.Bitmap.{Bitmap}
use Rattle.wf_image.specs.declared.canvas.Canvas.{Canvas}
use Rattle.wf_stream.specs.Buffers.{is_blocked}
use Rattle.wf_stream.specs.Streams.{KeptStream, handle_at, stream_at, stream_of}
use Rattle.wf_calls.specs.Requests.{call_of}
use Rattle.wf_calls.specs.declared.call.Call.{Call}
use Rattle.wf_calls.specs.declared.call.Call.TheVariants as call
use Rattle.wf_calls.specs.declared.code.Code.TheVariants as code
use Rattle.wf_calls.specs.declared.ports.Ports.{Ports}
use Rattle.wf_calls.specs.declared.reply.Reply.{Reply}
use Rattle.wf_calls.specs.declared.request.Request.{Request}
use Rattle.wf_calls.specs.declared.request.Request.TheVariants as request
use Rattle.wf_host.specs.Held.{adding, canvas_of, without}
use Rattle.wf_host.specs.declared.canvases.Held.{Held}
use Rattle.wf_model.specs.Outcome.{found, refuse}
use Rattle.wf_model.specs.State.{State}
use Rattle.wf_model.specs.Step.{step}
use Rattle.wf_model.specs.Streams.{acquirable}
use Rattle.wf_guard.specs.declared.form.Form.{Form}
use Rattle.wf_guard.specs.declared.owners.Owned.{Owned}
use Rattle.wf_guard.specs.LiveStreams.{Turn, after_turn, after_turns, opened}
use Rattle.wf_guard.specs.declared.clients.TheConstants.{OUTPUT}
use Rattle.wf_guard.specs.Policy.{owns, refusal_of}
use Rattle.wf_guard.specs.Serving.{Served, drawn, made, owned_by}
use Rattle.wf_guard.specs.Serving as serving
use Rattle.wf_guard.proofs.ForApps.{acquires_own}
use Rattle.wf_guard.proofs.Numbered.{NumbersRise, found_handle, number, open_rising, rise_apart, turn_rises}
use Rattle.wf_guard.proofs.Origins.{step_comes, step_numbers}
use Rattle.wf_guard.proofs.Owns.{stays}
use Rattle.wf_guard.proofs.Payloads.{given, gives_acquired, gives_none, posts_back, discards_back}
use Rattle.wf_guard.proofs.Turns.{Keeps, runs_keep, turn_keeps}

-- what a client holds

module _ (a : ℕ) (P : Canvas → Type 0) where
  -- all write buffers under a number are such
  abbrev pub AllHeld : List Held → Type 0
  AllHeld [] = Unit {0}
  AllHeld (h ∷ hs) = ((h.key == a) ≡ true → P h.canvas) × AllHeld hs

  removes : (at : ℕ) (hs : List Held) → AllHeld hs → AllHeld (remove hs at)
  removes zero [] all = all
  removes (suc at) [] all = all
  removes zero (h ∷ hs) all = all.1
  removes (suc at) (h ∷ hs) all = (all.0, removes at hs all.1)

  without_all : (b : ℕ) (hs : List Held) → AllHeld hs → AllHeld (without b hs)
  without_all b hs all = of_place (position (λ h. h.key == b) hs) refl
    where
      of_place : (o : Option ℕ) → position (λ h. h.key == b) hs ≡ o → AllHeld (without b hs)
      of_place None is = rw is all
      of_place (Some at) is = rw is (removes at hs all)

  one_more : (b : ℕ) (canvas : Canvas) → ((b == a) ≡ true → P canvas) → (hs : List Held) → AllHeld hs
      → AllHeld (hs ++ record { key = b; canvas = canvas } ∷ [])
  one_more b canvas is [] all = (is, all)
  one_more b canvas is (h ∷ hs) all = (all.0, one_more b canvas is hs all.1)

  adds : (b : ℕ) (o : Option Canvas) → ((canvas : Canvas) → o ≡ Some canvas → (b == a) ≡ true → P canvas) → (hs : List Held) → AllHeld hs
      → AllHeld (adding b o hs)
  adds b None is hs all = all
  adds b (Some canvas) is hs all = one_more b canvas (is canvas refl) hs all

  pub held_is : (hs : List Held) (canvas : Canvas) → AllHeld hs → canvas_of a hs ≡ Some canvas → P canvas
  held_is [] canvas all at = absurd cc
  held_is (h ∷ hs) canvas all at = by_test (held_is hs canvas all.1) (h.key == a) refl at
    where
      by_test : (canvas_of a hs ≡ Some canvas → P canvas) → (b : Bool) → (h.key == a) ≡ b → canvas_of a (h ∷ hs) ≡ Some canvas → P canvas
      by_test later true is at =
          let same : h.canvas ≡ canvas = (let one : Some h.canvas ≡ Some canvas = rw is at at in cc) in
          subst P same (all.0 is)
      by_test later false is at = later (rw is at at)

turns_into : (a : ℕ) (P Q : Canvas → Type 0) → ((canvas : Canvas) → P canvas → Q canvas) → (hs : List Held) → AllHeld a P hs
    → AllHeld a Q hs
turns_into a P Q turns [] all = all
turns_into a P Q turns (h ∷ hs) all = ((λ is. turns h.canvas (all.0 is)), turns_into a P Q turns hs all.1)

-- the number of a stream that was found
within : (p : KeptStream → Bool) (low high : ℕ) (ss : List KeptStream) (s : KeptStream) → RisesTo number low ss high → find p ss ≡ Some s
    → s.number ≤ high
within p low high [] s rises found = absurd cc
within p low high (t ∷ ss) s rises found = by_test (within p t.number high ss s rises.1) (p t) found
  where
    by_test : (find p ss ≡ Some s → s.number ≤ high) → (b : Bool) → cond b (Some t) (find p ss) ≡ Some s → s.number ≤ high
    by_test later true at =
        let same : t ≡ s = cc in
        subst (λ (x : KeptStream). x.number ≤ high) same (low_under number t.number high ss rises.1)
    by_test later false at = later at

-- what is acquired is of the stream of the handle
pub acquirable_is : (handle : ℕ) (h : State) (s : KeptStream) → acquirable handle h ≡ Ok s → stream_of handle h.streams ≡ Some s
acquirable_is handle h s is = of_stream (stream_of handle h.streams) refl
  where
    of_tests : (t : KeptStream) (out blocked : Bool)
        → (refuse code.Busy out >>= (λ _. refuse code.NoBuffer blocked >>= (λ _. Ok t))) ≡ Ok s → t ≡ s
    of_tests t true blocked is = absurd cc
    of_tests t false true is = absurd cc
    of_tests t false false is = cc

    of_stream : (o : Option KeptStream) → stream_of handle h.streams ≡ o → stream_of handle h.streams ≡ Some s
    of_stream None none = absurd (let no : Err _ ≡ Ok s = rw none at is in cc)
    of_stream (Some t) at = at ∙ ap Some (of_tests t t.buffers.out (is_blocked t.buffers) (rw at at is))

-- a number that was given, whose stream is this client's as long as it lives
pub record IsOwn (a : ℕ) (h : State) (owned : List Owned) (n : ℕ) : Type 0 where
  pub numbered : n ≤ h.numbered
  pub own : (k : ℕ) → handle_at n h.streams ≡ Some k → (k == 0) ≡ false → owns a k owned ≡ true

-- all that a client holds is of streams of its own
abbrev pub HoldsOwn : ℕ → Served → Type 0
HoldsOwn a v = AllHeld a (λ canvas. IsOwn a v.machine v.owned canvas.stream) v.held

module _ (a : ℕ) (app : (a == 0) ≡ false) (v : Served) (rise : NumbersRise v.machine) (own : HoldsOwn a v) where
  abbrev here : State
  here = v.machine

  -- after a request it is its own still
  after_request : (b : ℕ) (r : Request) (m : Bool) (n : ℕ) → IsOwn a here v.owned n
      → IsOwn a (step here b (call_of r) m).0 (owned_by b r (step here b (call_of r) m).1 v.owned) n
  after_request b r m n is =
      let more = step_numbers here b (call_of r) m in
      record {
        numbered = omega (arith, more, is.numbered);
        own = λ k at live.
            let was = step_comes n here b (call_of r) m is.numbered k at live in
            stays (λ (o : Owned). o.client == a) k here b n m live v.owned (is.own k was live) r at;
      }

  -- and after a call that moves a write buffer
  after_call : (b : ℕ) (c : Call) (m : Bool) (n : ℕ) → IsOwn a here v.owned n → IsOwn a (step here b c m).0 v.owned n
  after_call b c m n is =
      let more = step_numbers here b c m in
      record {
        numbered = omega (arith, more, is.numbered);
        own = λ k at live. is.own k (step_comes n here b c m is.numbered k at live) live;
      }

  -- a write buffer that an app acquires is of a stream of its own
  acquired : (stream : ℕ) (s : KeptStream) → acquirable stream here ≡ Ok s → owns a stream v.owned ≡ true → IsOwn a here v.owned s.number
  acquired stream s ok its =
      let found : stream_of stream here.streams ≡ Some s = acquirable_is stream here s ok in
      let at : stream_at s.number here.streams ≡ Some s = rise_apart here rise stream s found in
      record {
        numbered = within (λ t. (t.handle == stream) && not (stream == 0)) 0 here.numbered here.streams s rise found;
        own = λ k is live.
            let same : Some k ≡ Some s.handle = sym is ∙ ap (option_map (λ (t : KeptStream). t.handle)) at in
            let handle : k ≡ stream = (let one : k ≡ s.handle = cc in one ∙ found_handle stream here.streams s found) in
            ap (λ i. owns a i v.owned) handle ∙ its;
      }

  comes : (b : ℕ) (r : Request) (m : Bool) → refusal_of b r v.owned ≡ None → (canvas : Canvas)
      → given (step here b (call_of r) m) ≡ Some canvas → (b == a) ≡ true
      → IsOwn a (step here b (call_of r) m).0 (owned_by b r (step here b (call_of r) m).1 v.owned) canvas.stream
  comes b (request.Acquire stream) m none canvas is key =
      let none_of : refusal_of a (request.Acquire stream) v.owned ≡ None =
      subst (λ (i : ℕ). refusal_of i (request.Acquire stream) v.owned ≡ None) (eqb-true b a key) none in
      let got = gives_acquired here b stream m canvas is in
      subst (λ (i : ℕ). IsOwn a (step here b (call.Acquire stream) m).0
      (owned_by b (request.Acquire stream) (step here b (call.Acquire stream) m).1 v.owned) i)
      (sym (ap (λ (x : Canvas). x.stream) got.2))
      (after_request b (request.Acquire stream) m got.0.number
      (acquired stream got.0 got.1 (acquires_own a app v.owned stream none_of)))
  comes b r m none canvas is key = absurd (let no : None ≡ Some canvas = sym (gives_none here b r m refl) ∙ is in cc)

  makes : (b : ℕ) (r : Request) (m : Bool) → refusal_of b r v.owned ≡ None
      → HoldsOwn a (made b r v (step here b (call_of r) m)).0
  makes b r m none =
      let x : State × Reply = step here b (call_of r) m in
      adds a (λ canvas. IsOwn a x.0 (owned_by b r x.1 v.owned) canvas.stream) b (given x) (comes b r m none) v.held
      (turns_into a (λ canvas. IsOwn a here v.owned canvas.stream) (λ canvas. IsOwn a x.0 (owned_by b r x.1 v.owned) canvas.stream)
      (λ canvas. after_request b r m canvas.stream) v.held own)

  gives : (b : ℕ) (c : Canvas → Call) (m : Bool) (canvas : Canvas)
      → ((other : Canvas) → given (step here b (c canvas) m) ≡ Some other → other ≡ canvas) → canvas_of b v.held ≡ Some canvas
      → HoldsOwn a (serving.given b c m v canvas).0
  gives b c m canvas back is =
      let x : State × Reply = step here b (c canvas) m in
      adds a (λ kept. IsOwn a x.0 v.owned kept.stream) b (given x) returned (without b v.held)
      (without_all a (λ kept. IsOwn a x.0 v.owned kept.stream) b v.held
      (turns_into a (λ kept. IsOwn a here v.owned kept.stream) (λ kept. IsOwn a x.0 v.owned kept.stream)
      (λ kept. after_call b (c canvas) m kept.stream) v.held own))
    where
      returned : (other : Canvas) → given (step here b (c canvas) m) ≡ Some other → (b == a) ≡ true
          → IsOwn a (step here b (c canvas) m).0 v.owned other.stream
      returned other came key =
          let its : canvas_of a v.held ≡ Some canvas = ap (λ i. canvas_of i v.held) (sym (eqb-true b a key)) ∙ is in
          subst (λ (i : ℕ). IsOwn a (step here b (c canvas) m).0 v.owned i) (sym (ap (λ (y : Canvas). y.stream) (back other came)))
          (after_call b (c canvas) m canvas.stream (held_is a (λ kept. IsOwn a here v.owned kept.stream) v.held canvas own its))

  paints : (b : ℕ) (paint : Bitmap → Bitmap) (canvas : Canvas) → canvas_of b v.held ≡ Some canvas → HoldsOwn a (drawn b paint v canvas).0
  paints b paint canvas is =
      one_more a (λ kept. IsOwn a here v.owned kept.stream) b (record canvas { image = paint canvas.image })
      (λ key. held_is a (λ kept. IsOwn a here v.owned kept.stream) v.held canvas own
      (ap (λ i. canvas_of i v.held) (sym (eqb-true b a key)) ∙ is)) (without b v.held)
      (without_all a (λ kept. IsOwn a here v.owned kept.stream) b v.held own)

  keeps : (b : ℕ) (m : Bool) → Keeps (HoldsOwn a) v b m
  keeps b m =
      record {
        here = own;
        makes = λ r none place. makes b r m none;
        posts = λ canvas is. gives b call.Post m canvas (λ other. posts_back here b canvas other m) is;
        discards = λ canvas is. gives b call.Discard m canvas (λ other. discards_back here b canvas other m) is;
        draws = paints b;
      }

  pub turn_own : (t : Turn) → HoldsOwn a (after_turn t v)
  turn_own =
      turn_keeps (HoldsOwn a) v keeps (λ c moves. turns_into a (λ kept. IsOwn a here v.owned kept.stream)
      (λ kept. IsOwn a (step here OUTPUT c false).0 v.owned kept.stream) (λ kept. after_call OUTPUT c false kept.stream) v.held own)

-- over runs

pub always_own : (a : ℕ) → (a == 0) ≡ false → (form : Form) (ports : Ports) (rs : List Turn)
    → HoldsOwn a (after_turns (opened form ports) rs)
always_own a app form ports rs =
    (runs_keep (λ v. NumbersRise v.machine × HoldsOwn a v)
    (λ t v both. (turn_rises t v both.0, turn_own a app v both.0 both.1 t)) rs (opened form ports) (open_rising form ports, tt)).1

-- what an app holds, of a stream that lives, is of its own
pub own_stream : (a : ℕ) (v : Served) → HoldsOwn a v → (canvas : Canvas) (s : KeptStream) → canvas_of a v.held ≡ Some canvas
    → stream_at canvas.stream v.machine.streams ≡ Some s → (s.handle == 0) ≡ false → owns a s.handle v.owned ≡ true
own_stream a v own canvas s holds at live =
    (held_is a (λ kept. IsOwn a v.machine v.owned kept.stream) v.held canvas own holds).own s.handle
    (ap (option_map (λ (t : KeptStream). t.handle)) at) live
