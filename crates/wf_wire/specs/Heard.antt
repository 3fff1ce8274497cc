-- What one message makes of a session.
use Rattle.std.specs.Prelude.{◌≡◌, ℕ, ◌≤◌, List, ◌∷◌, length, Option, Result, if◌then◌else◌}
use Rattle.wf_calls.specs.declared.call.Call.{Call}
use Rattle.wf_calls.specs.declared.reply.Reply.{Reply}
use Rattle.wf_desk.specs.History.{event}
use Rattle.wf_image.specs.declared.canvas.Canvas.{Canvas}
use Rattle.wf_io.specs.declared.writing.WriteStop.{WriteStop}
use Rattle.wf_wire.specs.declared.answering.TheConstants.{ANSWER_BYTES}
use Rattle.wf_wire.specs.declared.message.Message.{Message}
use Rattle.wf_wire.specs.Answers.{AreEnds, Answers, Closes, begun, reply_bytes}
use Rattle.wf_machine.specs.Histories.{Happening, PlainPass}
use Rattle.wf_wire.specs.Asked.{moves_canvas}
use Rattle.wf_calls.specs.Replies.{given_canvas}
use Rattle.wf_wire.specs.Grown.{Grew}
use Rattle.wf_wire.specs.Putting.{Writes}

module _ {K : Type 0} (took : K → List ℕ → Type 0) where
  -- the call of a message was made, with the end of a frame that it began, and this was put of the answer
  pub record Called (old new : PlainPass) (m : Message) (c : Call) (held now : Option Canvas) (before behind : K)
      (result : Result ℕ WriteStop) : Type 0 where
    pub reply : Reply
    pub ends : List Happening
    pub ended : AreEnds old.client (begun reply) ends
    pub grew : Grew (event old.client c reply ∷ ends) old new
    pub canvas : now ≡ (if moves_canvas m then given_canvas reply.payload else held)
    pub writes : Writes took before behind (reply_bytes m reply) result
    pub few : length (reply_bytes m reply) ≤ ANSWER_BYTES

  -- a message was answered; or its answer was cut, and its events were made all the same
  pub record Heard (old new : PlainPass) (m : Message) (held now : Option Canvas) (before behind : K) (result : Result ℕ WriteStop)
      : Type 0 where
    pub events : List Happening
    pub bytes : List ℕ
    pub grew : Grew events old new
    pub answers : Answers old.client m held events bytes now
    pub writes : Writes took before behind bytes result
    pub few : length bytes ≤ ANSWER_BYTES

-- a canvas that is held was discarded
pub record Discards (old new : PlainPass) (held : Option Canvas) : Type 0 where
  pub events : List Happening
  pub closes : Closes old.client held events
  pub grew : Grew events old new
