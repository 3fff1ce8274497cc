-- A message that was answered, by the call that it made or by none.
use Rattle.std.proofs.Common.{◌≡◌, ◌∙◌, ℕ, ◌≤◌, cond, List, [], ◌∷◌, length, Option, Some, None, Result, sym, ap, refl, subst}
use Rattle.wf_image.specs.declared.canvas.Canvas.{Canvas}
use Rattle.wf_io.specs.declared.writing.WriteStop.{WriteStop}
use Rattle.wf_calls.specs.declared.call.Call.{Call}
use Rattle.wf_desk.specs.History.{event}
use Rattle.wf_desk.specs.Pass.{IsOwn}
use Rattle.wf_machine.specs.Object.{MayAnswer, after}
use Rattle.wf_wire.specs.declared.answering.TheConstants.{ANSWER_BYTES}
use Rattle.wf_wire.specs.declared.message.Message.{Message}
use Rattle.wf_wire.specs.declared.message.Message.TheVariants as message
use Rattle.wf_wire.specs.Answers.{quiet_bytes, reply_bytes}
use Rattle.wf_wire.specs.Asked.{asked, lent, moves_canvas, quiet_canvas}
use Rattle.wf_calls.specs.Replies.{given_canvas}
use Rattle.wf_machine.specs.Histories.{PlainPass}
use Rattle.wf_wire.specs.Heard.{Called, Heard}
use Rattle.wf_wire.specs.Putting.{Writes}
use Rattle.wf_wire.proofs.Growing.{same_pass}

-- what is held while a call is made counts only where the call moves no canvas, and then it is what was held
kept_is : (m : Message) (held given : Option Canvas) → cond (moves_canvas m) given (lent m held) ≡ cond (moves_canvas m) given held
kept_is (message.Ask r) held given = refl
kept_is message.Post held given = refl
kept_is message.Discard held given = refl
kept_is (message.Paint paint) held given = refl

-- where no call is made, nothing was lent
nothing_lent : (m : Message) (held : Option Canvas) → asked held m ≡ None → lent m held ≡ held
nothing_lent (message.Ask r) held none = refl
nothing_lent message.Post None none = refl
nothing_lent message.Post (Some canvas) none = absurd cc
nothing_lent message.Discard None none = refl
nothing_lent message.Discard (Some canvas) none = absurd cc
nothing_lent (message.Paint paint) held none = refl

module _ {K : Type 0} (took : K → List ℕ → Type 0) (before now_put : K) (old new : PlainPass) (m : Message)
    (held middle now : Option Canvas) (lent_is : middle ≡ lent m held) (result : Result ℕ WriteStop) where
  -- by a call
  pub heard_call : (c : Call) → Some c ≡ asked held m → Called took old new m c middle now before now_put result
      → Heard took old new m held now before now_put result
  heard_call c asks called = record {
    events = event old.client c called.reply ∷ called.ends;
    bytes = reply_bytes m called.reply;
    grew = called.grew;
    answers = rw (sym asks) (record {
      reply = called.reply;
      ends = called.ends;
      events = refl;
      ended = called.ended;
      bytes_are = refl;
      canvas =
          called.canvas ∙ ap (cond (moves_canvas m) (given_canvas called.reply.payload)) lent_is
          ∙ kept_is m held (given_canvas called.reply.payload);
    });
    writes = called.writes;
    few = called.few;
  }

  -- by none
  pub heard_quietly : IsOwn after MayAnswer old → None ≡ asked held m → now ≡ quiet_canvas m middle
      → Writes took before now_put (quiet_bytes m middle) result → length (quiet_bytes m middle) ≤ ANSWER_BYTES
      → Heard took old old m held now before now_put result
  heard_quietly own none canvas writes few =
      let same : middle ≡ held = lent_is ∙ nothing_lent m held (sym none) in
      record {
        events = [];
        bytes = quiet_bytes m held;
        grew = same_pass old own;
        answers = rw (sym none) (record {
          events = refl;
          bytes_are = refl;
          canvas = subst (λ (h : Option Canvas). now ≡ quiet_canvas m h) same canvas;
        });
        writes = subst (λ (h : Option Canvas). Writes took before now_put (quiet_bytes m h) result) same writes;
        few = subst (λ (h : Option Canvas). length (quiet_bytes m h) ≤ ANSWER_BYTES) same few;
      }
