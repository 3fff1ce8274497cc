-- What a request and a write buffer that goes with a call leave and answer.
use Rattle.std.specs.Prelude.{if◌then◌else◌}
use Rattle.std.proofs.Common.{◌≡◌, ◌∙◌, ℕ, Bool, true, false, List, Option, Some, None, refl, sym, ap}
use Rattle.wf_calls.specs.Codes.{is_ok_code, is_out_of_memory}
use Rattle.wf_calls.specs.Replies.{bare, canvas_payload, given_canvas, with_canvas}
use Rattle.wf_calls.specs.Requests.{call_of}
use Rattle.wf_calls.specs.declared.call.Call.{Call}
use Rattle.wf_calls.specs.declared.reply.Answer.{Answer}
use Rattle.wf_calls.specs.declared.reply.Reply.{Reply}
use Rattle.wf_calls.specs.declared.call.Call.TheVariants as call
use Rattle.wf_calls.specs.declared.request.Request.{Request}
use Rattle.wf_calls.specs.declared.request.Request.TheVariants as request
use Rattle.wf_image.specs.declared.canvas.Canvas.{Canvas}
use Rattle.wf_machine.specs.Object.{IsStep, MayAnswer, after}
use Rattle.wf_model.specs.State.{State}
use Rattle.wf_model.specs.Step.{step}
use Rattle.wf_wire.specs.Asked.{is_acquire}
use Rattle.wf_host.specs.Held.{adding, canvas_of, holds, without}
use Rattle.wf_host.specs.Made.{told_of}
use Rattle.wf_host.specs.declared.told.Told.{Told}
use Rattle.wf_guard.specs.Policy.{owned_after, refusal_of}
use Rattle.wf_guard.specs.declared.owners.Owned.{Owned}
use Rattle.wf_host.specs.declared.canvases.Held.{Held}
use Rattle.wf_guard.specs.Serving.{Served, Serves, allowed, carried, given, lacks_place, made, owned_by, plain, with_held}
use Rattle.wf_serve.proofs.Replies.{bare_is, canvas_is, given_back, stepped}

-- a request that the policy lets through and that takes nothing
pub asked_so : (client : ℕ) (r : Request) (v : Served) (left : State) (a : Answer) → refusal_of client r v.owned ≡ None
    → is_acquire r ≡ false → left ≡ after v.machine client (call_of r) (bare a) → MayAnswer v.machine client (call_of r) (bare a)
    → Serves client (plain r) v (record v { machine = left; owned = owned_by client r (bare a) v.owned }) (told_of (bare a))
asked_so client r v left a none takes is may =
    let m : Bool = is_out_of_memory a.code in
    let x : State × Reply = step v.machine client (call_of r) m in
    let same : x ≡ (left, bare a) = λ i. (sym is i, bare_is x.1 a may i) in
    (m, ap (allowed client r m v) none ∙ rw takes (ap (made client r v) same))

-- a write buffer that is held goes with a call
pub given_so : (client : ℕ) (c : Canvas → Call) (v : Served) (canvas : Canvas) (left : State) (x : Answer × Option Canvas)
    → canvas_of client v.held ≡ Some canvas → IsStep v.machine client (c canvas) left (with_canvas x)
    → (m : Bool) × (with_held (given client c m v) v (canvas_of client v.held)
    ≡ (record v { machine = left; held = adding client x.1 (without client v.held) }, told_of (bare x.0)))
given_so client c v canvas left x holds is =
    let m : Bool = is_out_of_memory x.0.code in
    let same : step v.machine client (c canvas) m ≡ (left, with_canvas x) =
    stepped v.machine left client (c canvas) (with_canvas x) is
    (canvas_is (step v.machine client (c canvas) m).1 x is.answer) in (
      m,
      ap (with_held (given client c m v) v) holds ∙ ap (carried client (without client v.held) v) same
          ∙ ap (λ o. (record v { machine = left; held = adding client o (without client v.held) }, told_of (bare x.0))) (given_back x.1),
    )

-- the same, as a body comes to it

pub asked_as : (client : ℕ) (r : Request) (v : Served) (left : State) (a : Answer) (owned : List Owned) (t : Told)
    → refusal_of client r v.owned ≡ None → is_acquire r ≡ false → left ≡ after v.machine client (call_of r) (bare a)
    → MayAnswer v.machine client (call_of r) (bare a) → owned ≡ owned_by client r (bare a) v.owned → t ≡ told_of (bare a)
    → Serves client (plain r) v (record v { machine = left; owned = owned }) t
asked_as client r v left a owned t none takes is may owners told =
    let so = asked_so client r v left a none takes is may in
    (so.0, so.1 ∙ λ i. (record v { machine = left; owned = sym owners i }, sym told i))

pub owned_ok : (client : ℕ) (r : Request) (a : Answer) (owned : List Owned) → is_ok_code a.code ≡ true
    → owned_after client r a.value owned ≡ owned_by client r (bare a) owned
owned_ok client r a owned ok = rw ok refl

pub owned_refused : (client : ℕ) (r : Request) (a : Answer) (owned : List Owned) → is_ok_code a.code ≡ false
    → owned ≡ owned_by client r (bare a) owned
owned_refused client r a owned refused = rw refused refl

pub given_as : (client key again : ℕ) (c : Canvas → Call) (v : Served) (canvas : Canvas) (left : State) (x : Answer × Option Canvas)
    (rest now : List Held) (t : Told) → key ≡ client → again ≡ client → Some canvas ≡ canvas_of key v.held → rest ≡ without key v.held
    → IsStep v.machine client (c canvas) left (with_canvas x) → now ≡ adding again x.1 rest → t ≡ told_of (bare x.0)
    → (m : Bool) × (with_held (given client c m v) v (canvas_of client v.held) ≡ (record v { machine = left; held = now }, t))
given_as client key again c v canvas left x rest now t one two holds others is put told =
    let so = given_so client c v canvas left x (sym (holds ∙ ap (λ k. canvas_of k v.held) one)) is in
    let held : adding client x.1 (without client v.held) ≡ now =
    sym (put ∙ (λ i. adding (two i) x.1 (others i)) ∙ ap (λ k. adding client x.1 (without k v.held)) one) in
    (so.0, so.1 ∙ λ i. (record v { machine = left; held = held i }, sym told i))

-- a write buffer is taken

same_owners : (client stream : ℕ) (x : Reply) (owned : List Owned) (b : Bool)
    → (if b then owned_after client (request.Acquire stream) x.value owned else owned) ≡ owned
same_owners client stream x owned true = refl
same_owners client stream x owned false = refl

pub acquired_as : (client stream key : ℕ) (v : Served) (left : State) (x : Answer × Option Canvas) (now : List Held) (t : Told)
    → key ≡ client → refusal_of client (request.Acquire stream) v.owned ≡ None
    → lacks_place client (request.Acquire stream) v.held ≡ false
    → IsStep v.machine client (call.Acquire stream) left (with_canvas x) → now ≡ adding key x.1 v.held → t ≡ told_of (bare x.0)
    → Serves client (plain (request.Acquire stream)) v (record v { machine = left; held = now }) t
acquired_as client stream key v left x now t one none room is put told =
    let r : Request = request.Acquire stream in
    let m : Bool = is_out_of_memory x.0.code in
    let same : step v.machine client (call.Acquire stream) m ≡ (left, with_canvas x) =
    stepped v.machine left client (call.Acquire stream) (with_canvas x) is
    (canvas_is (step v.machine client (call.Acquire stream) m).1 x is.answer) in
    let owners = same_owners client stream (with_canvas x) v.owned (is_ok_code x.0.code) in
    let held : adding client (given_canvas (canvas_payload x.1)) v.held ≡ now =
    ap (λ o. adding client o v.held) (given_back x.1) ∙ sym (put ∙ ap (λ k. adding k x.1 v.held) one) in (
      m,
      ap (allowed client r m v) none ∙ rw room (ap (made client r v) same)
          ∙ λ i. (record v { machine = left; owned = owners i; held = held i }, sym told i),
    )
