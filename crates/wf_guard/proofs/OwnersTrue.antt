-- Owners stay true, and so does what is kept of the bytes of their streams.
use Rattle.std.proofs.Common.{◌≡◌, ◌∙◌, ℕ, Bool, true, false, cond, ◌==◌, List, [], ◌∷◌, ◌++◌, map, length, refl, sym, ap}
use Rattle.std.specs.List.{range_with_len, zip}
use Rattle.std.proofs.lemmas.List.{map-append}
use Rattle.wf_image.specs.declared.canvas.Canvas.{Canvas}
use Rattle.wf_calls.specs.Codes.{is_ok_code}
use Rattle.wf_calls.specs.declared.call.Call.{Call}
use Rattle.wf_calls.specs.declared.call.Call.TheVariants as call
use Rattle.wf_calls.specs.declared.ports.Modes.{Modes}
use Rattle.wf_calls.specs.declared.ports.Ports.{Ports}
use Rattle.wf_calls.specs.Requests.{call_of}
use Rattle.wf_calls.specs.declared.reply.Reply.{Reply}
use Rattle.wf_calls.specs.declared.request.Request.{Request}
use Rattle.wf_calls.specs.declared.request.Request.TheVariants as request
use Rattle.wf_model.specs.State.{screen}
use Rattle.wf_model.specs.Step.{step}
use Rattle.wf_guard.specs.declared.form.Form.{Form}
use Rattle.wf_guard.specs.LiveStreams.{AreMeasured, AreTrue, Turn, after_turn, after_turns, is_of_frames, live_bytes, opened}
use Rattle.wf_guard.specs.declared.clients.TheConstants.{OUTPUT}
use Rattle.wf_guard.specs.Policy.{forgotten, made_by, owned_after}
use Rattle.wf_guard.specs.Requests.{asked_bytes}
use Rattle.wf_guard.specs.Serving.{Served, made}
use Rattle.wf_guard.specs.declared.owners.Owned.{Owned}
use Rattle.wf_guard.proofs.Lives.{but, bytes_after, bytes_if, handles, handles_live, step_bytes}
use Rattle.wf_guard.proofs.Turns.{Keeps, runs_keep, turn_keeps}

-- each with its bytes
abbrev bytes_of : List Owned → List (ℕ × ℕ)
bytes_of owned = map (λ o. (o.stream, o.bytes)) owned

filtered : (stream : ℕ) (owned : List Owned) → bytes_of (forgotten stream owned) ≡ but stream (bytes_of owned)
filtered stream [] = refl
filtered stream (o ∷ os) = by_test (filtered stream os) (o.stream == stream) refl
  where
    by_test : bytes_of (forgotten stream os) ≡ but stream (bytes_of os) → (b : Bool) → (o.stream == stream) ≡ b
        → bytes_of (forgotten stream (o ∷ os)) ≡ but stream (bytes_of (o ∷ os))
    by_test rest true is = rw is rest
    by_test rest false is = rw is (ap (λ l. (o.stream, o.bytes) ∷ l) rest)

one_more : (o : Owned) (owned : List Owned) → bytes_of (owned ++ o ∷ []) ≡ bytes_of owned ++ (o.stream, o.bytes) ∷ []
one_more o owned = map-append (λ (x : Owned). (x.stream, x.bytes)) owned (o ∷ [])

-- what is kept of streams changes as the live streams do
owned_lives : (client : ℕ) (r : Request) (value : ℕ) (owned : List Owned) (b : Bool)
    → bytes_of (cond b (owned_after client r value owned) owned) ≡ bytes_if b (call_of r) value (bytes_of owned)
owned_lives client r value owned false = refl
owned_lives client (request.StreamNew width height format buffers) value owned true =
    one_more (made_by client value width height (asked_bytes (request.StreamNew width height format buffers))) owned
owned_lives client (request.StreamQueue width height format depth) value owned true =
    one_more (made_by client value width height (asked_bytes (request.StreamQueue width height format depth))) owned
owned_lives client (request.StreamDestroy stream) value owned true = filtered stream owned
owned_lives client _ value owned true = refl

-- a call that makes and destroys no stream
abbrev keeps_lives : Call → Type 0
keeps_lives c = (b : Bool) (value : ℕ) (lives : List (ℕ × ℕ)) → bytes_if b c value lives ≡ lives

posts : (canvas : Canvas) → keeps_lives (call.Post canvas)
posts canvas true value lives = refl
posts canvas false value lives = refl

discards : (canvas : Canvas) → keeps_lives (call.Discard canvas)
discards canvas true value lives = refl
discards canvas false value lives = refl

-- where a frame begins or ends, no live stream changes
still : (c : Call) → is_of_frames c ≡ true → keeps_lives c
still c moves false value lives = refl
still (call.StreamNew width height format buffers) moves true value lives = absurd cc
still (call.StreamQueue width height format depth) moves true value lives = absurd cc
still (call.StreamDestroy stream) moves true value lives = absurd cc
still _ moves true value lives = refl

-- over runs

module _ (v : Served) (are : AreMeasured v) where
  rests : (client : ℕ) (c : Call) (m : Bool) → keeps_lives c → bytes_of v.owned ≡ live_bytes (step v.machine client c m).0.streams
  rests client c m keeps =
      let reply : Reply = (step v.machine client c m).1 in
      are ∙ sym (keeps (is_ok_code reply.code) reply.value (live_bytes v.machine.streams)) ∙ sym (step_bytes v.machine client c m)

  answered : (client : ℕ) (r : Request) (m : Bool) → AreMeasured (made client r v (step v.machine client (call_of r) m)).0
  answered client r m =
      let reply : Reply = (step v.machine client (call_of r) m).1 in
      owned_lives client r reply.value v.owned (is_ok_code reply.code)
      ∙ ap (bytes_after (call_of r) reply) are
      ∙ sym (step_bytes v.machine client (call_of r) m)

  keeps : (client : ℕ) (m : Bool) → Keeps AreMeasured v client m
  keeps client m =
      record {
        here = are;
        makes = λ r none place. answered client r m;
        posts = λ canvas is. rests client (call.Post canvas) m (posts canvas);
        discards = λ canvas is. rests client (call.Discard canvas) m (discards canvas);
        draws = λ paint canvas is. are;
      }

  pub turn_measured : (t : Turn) → AreMeasured (after_turn t v)
  turn_measured = turn_keeps AreMeasured v keeps (λ c moves. rests OUTPUT c false (still c moves))

-- screens have no handle
no_live : (ps : List (ℕ × Modes)) → live_bytes (map screen ps) ≡ []
no_live [] = refl
no_live (p ∷ ps) = no_live ps

pub always_measured : (form : Form) (ports : Ports) (rs : List Turn) → AreMeasured (after_turns (opened form ports) rs)
always_measured form ports rs =
    runs_keep AreMeasured (λ t v are. turn_measured v are t) rs (opened form ports)
    (sym (no_live (zip (range_with_len 1 (length ports.modes.items)) ports.modes.items)))

-- the handles alone

streams_of : (owned : List Owned) → map (λ o. o.stream) owned ≡ handles (bytes_of owned)
streams_of [] = refl
streams_of (o ∷ os) = ap (λ l. o.stream ∷ l) (streams_of os)

pub measured_true : (v : Served) → AreMeasured v → AreTrue v
measured_true v are = streams_of v.owned ∙ ap handles are ∙ sym (handles_live v.machine.streams)

pub always_true : (form : Form) (ports : Ports) (rs : List Turn) → AreTrue (after_turns (opened form ports) rs)
always_true form ports rs = measured_true (after_turns (opened form ports) rs) (always_measured form ports rs)
