-- A call that was made, with the end of the frame that it began, or without one.
use Rattle.std.proofs.Common.{◌≡◌, ◌∙◌, ℕ, ◌≤◌, Bool, true, false, List, [], ◌∷◌, ◌++◌, length, Option, Some, None, Result, subst}
use Rattle.std.proofs.Common.{sym, ap, refl}
use Rattle.std.proofs.lemmas.List.{append-nil}
use Rattle.std.specs.Prelude.{IsTrue, if◌then◌else◌}
use Rattle.wf_image.specs.declared.canvas.Canvas.{Canvas}
use Rattle.wf_io.specs.declared.writing.WriteStop.{WriteStop}
use Rattle.wf_calls.specs.declared.call.Call.{Call}
use Rattle.wf_calls.specs.declared.call.Call.TheVariants as call
use Rattle.wf_calls.specs.declared.call.Job.{Job}
use Rattle.wf_calls.specs.declared.reply.Reply.{Reply}
use Rattle.wf_calls.specs.Codes.{code_number, is_ok_code}
use Rattle.wf_desk.specs.History.{event}
use Rattle.wf_desk.specs.Pass.{IsOwn, Made}
use Rattle.wf_machine.specs.Object.{IsPaintable, MayAnswer, after, is_ready}
use Rattle.wf_wire.specs.declared.answering.TheConstants.{ANSWER_BYTES}
use Rattle.wf_wire.specs.declared.message.Message.{Message}
use Rattle.wf_wire.specs.Answers.{AreEnds, answer_bytes, begun, job_in, paintable, reply_bytes, shown_bytes}
use Rattle.wf_machine.specs.Histories.{Happening, PlainPass}
use Rattle.wf_model.specs.Picture.{painted_job}
use Rattle.wf_wire.specs.Asked.{is_show, moves_canvas}
use Rattle.wf_calls.specs.Replies.{canvas_payload, given_canvas}
use Rattle.wf_wire.specs.Grown.{Grew}
use Rattle.wf_wire.specs.Heard.{Called}
use Rattle.wf_wire.specs.Putting.{Writes}
use Rattle.wf_wire.proofs.Growing.{grew_more, grew_once}

-- an answer with which a canvas comes, or nothing, brings no frame
pub no_job : (ok : Bool) (given : Option Canvas) → None ≡ job_in ok (canvas_payload given)
no_job true None = refl
no_job false None = refl
no_job true (Some canvas) = refl
no_job false (Some canvas) = refl

-- and brings that canvas
pub given_again : (given : Option Canvas) → given ≡ given_canvas (canvas_payload given)
given_again None = refl
given_again (Some canvas) = refl

-- `reply` answers the call `c` of the message `m`, with the frame `job` or none
module _ (old middle : PlainPass) (m : Message) (c : Call) (held now : Option Canvas) (reply : Reply)
    (made : Made after MayAnswer (λ h. IsTrue (is_ready h c)) old c reply middle) (own : IsOwn after MayAnswer middle)
    (canvas : now ≡ (if moves_canvas m then given_canvas reply.payload else held))
    (ok : Bool) (ok_is : ok ≡ is_ok_code reply.code) (job : Option Job) (job_is : job ≡ job_in ok reply.payload)
    (n : ℕ) (n_is : n ≡ code_number reply.code) where
  begun_is : (found : Option Job) → job ≡ found → begun reply ≡ found
  begun_is found is = ap (λ (b : Bool). job_in b reply.payload) (sym ok_is) ∙ sym job_is ∙ is

  pub can_be_painted : (j : Job) → IsOwn after MayAnswer old → job ≡ Some j → IsPaintable j
  can_be_painted j before is =
      paintable j (is_ok_code reply.code) reply.payload (made.allowed before.object before.opening).paintable (begun_is (Some j) is)

  -- the answer, by what is shown
  bytes_are : (shows : Bool) (found : Option Job) → shows ≡ is_show m → job ≡ found
      → answer_bytes n reply.value ++ shown_bytes shows found ≡ reply_bytes m reply
  bytes_are shows found shows_is is =
      ap (λ (k : ℕ). answer_bytes k reply.value ++ shown_bytes shows found) n_is
      ∙ ap (λ (b : Bool). answer_bytes (code_number reply.code) reply.value ++ shown_bytes b found) shows_is
      ∙ ap (λ (o : Option Job). answer_bytes (code_number reply.code) reply.value ++ shown_bytes (is_show m) o) (sym (begun_is found is))

  module _ {K : Type 0} (took : K → List ℕ → Type 0) (from to : K) (result : Result ℕ WriteStop) where
    -- the frame was painted, put and ended
    pub frame_called : (new : PlainPass) (j : Job) (is : job ≡ Some j)
        (ended : (r : Reply)
        × Made after MayAnswer (λ h. IsTrue (is_ready h (call.End (painted_job j)))) middle (call.End (painted_job j)) r new)
        → IsOwn after MayAnswer new → (shows : Bool) → shows ≡ is_show m
        → Writes took from to (answer_bytes n reply.value ++ shown_bytes shows (Some j)) result
        → length (answer_bytes n reply.value ++ shown_bytes shows (Some j)) ≤ ANSWER_BYTES
        → Called took old new m c held now from to result
    frame_called new j is ended own_new shows shows_is writes few =
        let the_end : Happening = event old.client (call.End (painted_job j)) ended.0 in
        let second : Grew (the_end ∷ []) middle new =
        subst (λ (client : ℕ). Grew (event client (call.End (painted_job j)) ended.0 ∷ []) middle new) made.client
        (grew_once (call.End (painted_job j)) ended.0 middle new ended.1 own_new) in
        record {
          reply = reply;
          ends = the_end ∷ [];
          ended = subst (λ (o : Option Job). AreEnds old.client o (the_end ∷ [])) (sym (begun_is (Some j) is)) (ended.0, refl);
          grew = grew_more old middle new (event old.client c reply ∷ []) (the_end ∷ []) (grew_once c reply old middle made own) second;
          canvas = canvas;
          writes = subst (λ (bytes : List ℕ). Writes took from to bytes result) (bytes_are shows (Some j) shows_is is) writes;
          few = subst (λ (bytes : List ℕ). length bytes ≤ ANSWER_BYTES) (bytes_are shows (Some j) shows_is is) few;
        }

    -- no frame began
    pub bare_called : job ≡ None → Writes took from to (answer_bytes n reply.value) result
        → length (answer_bytes n reply.value) ≤ ANSWER_BYTES → Called took old middle m c held now from to result
    bare_called is writes few =
        let same : answer_bytes n reply.value ≡ reply_bytes m reply =
        sym (append-nil (answer_bytes n reply.value)) ∙ bytes_are (is_show m) None refl is in
        record {
          reply = reply;
          ends = [];
          ended = subst (λ (o : Option Job). AreEnds old.client o []) (sym (begun_is None is)) refl;
          grew = grew_once c reply old middle made own;
          canvas = canvas;
          writes = subst (λ (bytes : List ℕ). Writes took from to bytes result) same writes;
          few = subst (λ (bytes : List ℕ). length bytes ≤ ANSWER_BYTES) same few;
        }
