-- Who owns a stream, and what else is kept of it, stays as long as its handle lives.
use Rattle.std.proofs.Common.{◌≡◌, ◌∙◌, ℕ, Bool, true, false, cond, not, ◌==◌, ◌&&◌, ◌||◌, List, [], ◌∷◌, ◌++◌, filter, Some}
use Rattle.std.proofs.Common.{refl, sym, ap}
use Rattle.std.proofs.lemmas.Bool.{eq-eqb, eqb-true}
use Rattle.std.proofs.lemmas.List.Folds.{list_any-append}
use Rattle.std.specs.List.{list_any}
use Rattle.wf_words.specs.Keyed.{is_in}
use Rattle.wf_stream.specs.Streams.{KeptStream, handle_at}
use Rattle.wf_calls.specs.Codes.{is_ok_code}
use Rattle.wf_calls.specs.Requests.{call_of}
use Rattle.wf_calls.specs.declared.call.Call.TheVariants as call
use Rattle.wf_calls.specs.declared.reply.Reply.{Reply}
use Rattle.wf_calls.specs.declared.request.Request.{Request}
use Rattle.wf_calls.specs.declared.request.Request.TheVariants as request
use Rattle.wf_model.specs.Named.{in_behind}
use Rattle.wf_model.specs.State.{State}
use Rattle.wf_model.specs.Step.{step}
use Rattle.wf_guard.specs.LiveStreams.{live_handles, lives_if}
use Rattle.wf_guard.specs.Policy.{forgotten, made_by, owned_after}
use Rattle.wf_guard.specs.Requests.{asked_bytes}
use Rattle.wf_guard.specs.Serving.{owned_by}
use Rattle.wf_guard.specs.declared.owners.Owned.{Owned}
use Rattle.wf_guard.proofs.Lives.{step_lives}

-- a live handle is among the live ones
in_lives : (n k : ℕ) (ss : List KeptStream) → handle_at n ss ≡ Some k → (k == 0) ≡ false → is_in k (live_handles ss) ≡ true
in_lives n k [] at live = absurd cc
in_lives n k (s ∷ ss) at live = by_tests (in_lives n k ss) (s.number == n) refl (s.handle == 0) refl at
  where
    by_tests : (handle_at n ss ≡ Some k → (k == 0) ≡ false → is_in k (live_handles ss) ≡ true) → (b : Bool) → (s.number == n) ≡ b
        → (z : Bool) → (s.handle == 0) ≡ z → handle_at n (s ∷ ss) ≡ Some k → is_in k (live_handles (s ∷ ss)) ≡ true
    by_tests later true here z zero at =
        let is : s.handle ≡ k = (let same : Some s.handle ≡ Some k = rw here at at in cc) in
        let alive : (s.handle == 0) ≡ false = ap (λ i. i == 0) is ∙ live in
        let found : (s.handle == k) ≡ true = eq-eqb s.handle k is in
        rw (alive, found) refl
    by_tests later false other true zero at = rw zero (later (rw other at at) live)
    by_tests later false other false zero at = rw zero (in_behind k s.handle (live_handles ss) (later (rw other at at) live))

-- what is left without a stream is not that one
not_left : (k stream : ℕ) (ns : List ℕ) → is_in k (filter (λ n. not (n == stream)) ns) ≡ true → (k == stream) ≡ false
not_left k stream [] among = absurd cc
not_left k stream (n ∷ ns) among = by_test (not_left k stream ns) (n == stream) refl (n == k) refl among
  where
    by_test : (is_in k (filter (λ i. not (i == stream)) ns) ≡ true → (k == stream) ≡ false) → (b : Bool) → (n == stream) ≡ b → (d : Bool)
        → (n == k) ≡ d → is_in k (filter (λ i. not (i == stream)) (n ∷ ns)) ≡ true → (k == stream) ≡ false
    by_test later true gone d is among = later (rw gone at among)
    by_test later false stays true is among = ap (λ i. i == stream) (sym (eqb-true n k is)) ∙ stays
    by_test later false stays false is among = later (rw (stays, is) at among)

-- what lives after a stream was destroyed is another one
spared : (h : State) (client n k stream : ℕ) (m : Bool) → is_ok_code (step h client (call.StreamDestroy stream) m).1.code ≡ true
    → handle_at n (step h client (call.StreamDestroy stream) m).0.streams ≡ Some k → (k == 0) ≡ false → (k == stream) ≡ false
spared h client n k stream m ok at live =
    let x : State × Reply = step h client (call.StreamDestroy stream) m in
    let lives : live_handles x.0.streams ≡ filter (λ i. not (i == stream)) (live_handles h.streams) =
    step_lives h client (call.StreamDestroy stream) m
    ∙ ap (λ b. lives_if b (call.StreamDestroy stream) x.1.value (live_handles h.streams)) ok in
    not_left k stream (live_handles h.streams) (ap (is_in k) (sym lives) ∙ in_lives n k x.0.streams at live)

-- a live stream of this handle is kept for which something holds
module _ (p : Owned → Bool) (k : ℕ) where
  abbrev pub Has : List Owned → Type 0
  Has owned = list_any (λ o. p o && (o.stream == k)) owned ≡ true

  more : (o : Owned) (owned : List Owned) → Has owned → Has (owned ++ o ∷ [])
  more o owned has =
      list_any-append (λ x. p x && (x.stream == k)) owned (o ∷ []) ∙ ap (λ b. b || list_any (λ x. p x && (x.stream == k)) (o ∷ [])) has

  left : (stream : ℕ) → (k == stream) ≡ false → (owned : List Owned) → Has owned → Has (forgotten stream owned)
  left stream other [] has = has
  left stream other (o ∷ os) has = by_tests (left stream other os) (o.stream == stream) refl (p o) refl (o.stream == k) refl has
    where
      by_tests : (Has os → Has (forgotten stream os)) → (b : Bool) → (o.stream == stream) ≡ b → (d : Bool) → p o ≡ d → (e : Bool)
          → (o.stream == k) ≡ e → Has (o ∷ os) → Has (forgotten stream (o ∷ os))
      by_tests later true gone d holds true is has =
          absurd (let no : true ≡ false = sym gone ∙ ap (λ i. i == stream) (eqb-true o.stream k is) ∙ other in cc)
      by_tests later true gone true holds false is has = rw gone (later (rw (holds, is) at has))
      by_tests later true gone false holds false is has = rw gone (later (rw holds at has))
      by_tests later false stays true holds true is has = rw (stays, holds, is) refl
      by_tests later false stays true holds false is has = rw (stays, holds, is) (later (rw (holds, is) at has))
      by_tests later false stays false holds e is has = rw (stays, holds) (later (rw holds at has))

  module _ (h : State) (client n : ℕ) (m : Bool) (live : (k == 0) ≡ false) (owned : List Owned) (has : Has owned) where
    answered : (r : Request) (b : Bool) → is_ok_code (step h client (call_of r) m).1.code ≡ b
        → handle_at n (step h client (call_of r) m).0.streams ≡ Some k
        → Has (cond b (owned_after client r (step h client (call_of r) m).1.value owned) owned)
    answered r false refused at = has
    answered (request.StreamNew width height format buffers) true ok at =
        let value = (step h client (call.StreamNew width height format buffers) m).1.value in
        more (made_by client value width height (asked_bytes (request.StreamNew width height format buffers))) owned has
    answered (request.StreamQueue width height format depth) true ok at =
        let value = (step h client (call.StreamQueue width height format depth) m).1.value in
        more (made_by client value width height (asked_bytes (request.StreamQueue width height format depth))) owned has
    answered (request.StreamDestroy stream) true ok at = left stream (spared h client n k stream m ok at live) owned has
    answered _ true ok at = has

    -- it is kept as long as its handle lives
    pub stays : (r : Request) → handle_at n (step h client (call_of r) m).0.streams ≡ Some k
        → Has (owned_by client r (step h client (call_of r) m).1 owned)
    stays r at = answered r (is_ok_code (step h client (call_of r) m).1.code) refl at
