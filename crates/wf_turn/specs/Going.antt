-- The next call of a program, and what an answer leaves of it.
use Rattle.std.specs.Prelude.{◌≡◌, ℕ, ◌+◌, ◌≤◌, false, ◌&&◌, Some}
use Rattle.wf_calls.specs.declared.call.Call.{Call}
use Rattle.wf_calls.specs.declared.reply.Reply.{Reply}
use Rattle.wf_machine.specs.Object.{MayAnswer}
use Rattle.wf_model.specs.Frames.{is_running}
use Rattle.wf_model.specs.State.{State}
use Rattle.wf_turn.specs.declared.stage.Wanted.{Wanted}
use Rattle.wf_turn.specs.Program.{Program, issued, next, took, worked}
use Rattle.wf_turn.specs.Quota.{left}
use Rattle.wf_turn.specs.Ready.{IsFit, IsWork}

-- a call is the one that a program makes next; where that waits, no frame runs
pub record IsNextCall (h : State) (p : Program) (c : Call) : Type 0 where
  pub wanted : Wanted
  pub asks : next p ≡ Some wanted
  pub call : wanted.call ≡ c
  pub ready : (wanted.wait && is_running h) ≡ false

-- The program that handed the call out takes the answer as the one before it does. The Job that comes can be painted. Once it is,
-- the program can make its next call, and makes fewer than before.
pub record GoesOn (p : Program) (reply : Reply) : Type 0 where
  pub took_is : took (issued p) reply ≡ took p reply
  pub work : IsWork (took p reply)
  pub fit : IsFit (worked (took p reply))
  pub fewer : left (worked (took p reply)) + 1 ≤ left p

-- so it does after whatever the machine may answer
abbrev pub GoesOnAfter : Program → Wanted → Type 0
GoesOnAfter p w = (h : State) (client : ℕ) (reply : Reply) → MayAnswer h client w.call reply → GoesOn p reply
