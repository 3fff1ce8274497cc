-- What every turn keeps: one split over what a client may ask for, and over the frames of a tick.
use Rattle.std.proofs.Common.{◌≡◌, ℕ, Bool, true, false, cond, List, [], ◌∷◌, Option, Some, None, refl}
use Rattle.wf_image.specs.Bitmap.{Bitmap}
use Rattle.wf_image.specs.declared.canvas.Canvas.{Canvas}
use Rattle.wf_calls.specs.Requests.{call_of}
use Rattle.wf_calls.specs.declared.call.Call.{Call}
use Rattle.wf_calls.specs.declared.call.Call.TheVariants as call
use Rattle.wf_calls.specs.declared.code.Code.{Code}
use Rattle.wf_calls.specs.declared.request.Request.{Request}
use Rattle.wf_host.specs.Held.{canvas_of}
use Rattle.wf_host.specs.Made.{not_made}
use Rattle.wf_host.specs.declared.told.Told.{Told}
use Rattle.wf_model.specs.State.{State}
use Rattle.wf_model.specs.Step.{step}
use Rattle.wf_guard.specs.declared.clients.TheConstants.{OUTPUT}
use Rattle.wf_guard.specs.LiveStreams.{Turn, after_turn, after_turns, framed, is_of_frames}
use Rattle.wf_guard.specs.LiveStreams.Turn.{asks, frames}
use Rattle.wf_guard.specs.Policy.{refusal_of}
use Rattle.wf_guard.specs.Serving.{Asked, Served, allowed, discard, draw, drawn, given, lacks_place, made, plain, post, served, with_held}

-- a client asks for something, and where nothing changes the property holds
module _ (P : Served → Type 0) (v : Served) (client : ℕ) (here : P v) where
  pub request_keeps : (r : Request) (m : Bool)
      → (refusal_of client r v.owned ≡ None → lacks_place client r v.held ≡ false
      → P (made client r v (step v.machine client (call_of r) m)).0) → P (served client (plain r) m v).0
  request_keeps r m makes = by_refusal (refusal_of client r v.owned) refl
    where
      by_refusal : (o : Option Code) → refusal_of client r v.owned ≡ o → P (allowed client r m v o).0
      by_refusal (Some why) refused = here
      by_refusal None none = by_place (lacks_place client r v.held) refl
        where
          by_place : (b : Bool) → lacks_place client r v.held ≡ b
              → P (cond {A = Served × Told} b (v, not_made) (made client r v (step v.machine client (call_of r) m))).0
          by_place true lacks = here
          by_place false place = makes none place

  pub holder_keeps : (f : Canvas → Served × Told) → ((canvas : Canvas) → canvas_of client v.held ≡ Some canvas → P (f canvas).0)
      → P (with_held f v (canvas_of client v.held)).0
  holder_keeps f does = of_held (canvas_of client v.held) refl
    where
      of_held : (o : Option Canvas) → canvas_of client v.held ≡ o → P (with_held f v o).0
      of_held None none = here
      of_held (Some canvas) holds = does canvas holds

-- a property holds, and holds after whatever a client may ask for: after a request that is let through and has its place, and after what
-- is done with the write buffer that the client holds
pub record Keeps (P : Served → Type 0) (v : Served) (client : ℕ) (m : Bool) : Type 0 where
  pub here : P v
  pub makes : (r : Request) → refusal_of client r v.owned ≡ None → lacks_place client r v.held ≡ false
      → P (made client r v (step v.machine client (call_of r) m)).0
  pub posts : (canvas : Canvas) → canvas_of client v.held ≡ Some canvas → P (given client call.Post m v canvas).0
  pub discards : (canvas : Canvas) → canvas_of client v.held ≡ Some canvas → P (given client call.Discard m v canvas).0
  pub draws : (paint : Bitmap → Bitmap) (canvas : Canvas) → canvas_of client v.held ≡ Some canvas → P (drawn client paint v canvas).0

module _ (P : Served → Type 0) (v : Served) where
  pub asked_keeps : (client : ℕ) (m : Bool) → Keeps P v client m → (x : Asked) → P (served client x m v).0
  asked_keeps client m keeps (plain r) = request_keeps P v client keeps.here r m (keeps.makes r)
  asked_keeps client m keeps post = holder_keeps P v client keeps.here (given client call.Post m v) keeps.posts
  asked_keeps client m keeps discard = holder_keeps P v client keeps.here (given client call.Discard m v) keeps.discards
  asked_keeps client m keeps (draw paint) = holder_keeps P v client keeps.here (drawn client paint v) (keeps.draws paint)

  module _ (asked : (client : ℕ) (m : Bool) → Keeps P v client m)
      (begins : (c : Call) → is_of_frames c ≡ true → P (record v { machine = (step v.machine OUTPUT c false).0 })) where
    framed_keeps : (c : Call) → P (framed c v)
    framed_keeps c = by_test (is_of_frames c) refl
      where
        by_test : (b : Bool) → is_of_frames c ≡ b → P (cond b (record v { machine = (step v.machine OUTPUT c false).0 }) v)
        by_test true moves = begins c moves
        by_test false rests = (asked OUTPUT false).here

    pub turn_keeps : (t : Turn) → P (after_turn t v)
    turn_keeps (asks client x m) = asked_keeps client m (asked client m) x
    turn_keeps (frames c) = framed_keeps c

-- what every turn keeps, all turns keep
pub runs_keep : (P : Served → Type 0) → ((t : Turn) (v : Served) → P v → P (after_turn t v)) → (ts : List Turn) (v : Served) → P v
    → P (after_turns v ts)
runs_keep P each [] v here = here
runs_keep P each (t ∷ ts) v here = runs_keep P each ts (after_turn t v) (each t v here)

-- what every call of the machine keeps, every turn keeps
pub steps_keep : (Q : State → Type 0) → ((h : State) (client : ℕ) (c : Call) (m : Bool) → Q h → Q (step h client c m).0) → (t : Turn)
    (v : Served) → Q v.machine → Q (after_turn t v).machine
steps_keep Q each t v here =
    turn_keeps (λ w. Q w.machine) v (λ client m. record {
      here = here;
      makes = λ r none place. each v.machine client (call_of r) m here;
      posts = λ canvas is. each v.machine client (call.Post canvas) m here;
      discards = λ canvas is. each v.machine client (call.Discard canvas) m here;
      draws = λ paint canvas is. here;
    }) (λ c moves. each v.machine OUTPUT c false here) t
