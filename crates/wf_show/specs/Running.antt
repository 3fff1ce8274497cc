-- What playing a program makes of its pass.
use Rattle.std.specs.Prelude.{◌≡◌, ◌+◌, ◌≤◌, IsTrue, Some, length}
use Rattle.wf_desk.specs.History.{IsPrefix}
use Rattle.wf_desk.specs.Pass.{IsOwn}
use Rattle.wf_machine.specs.Histories.{PlainPass}
use Rattle.wf_machine.specs.Object.{MayAnswer, after, is_ready}
use Rattle.wf_model.specs.State.{State}
use Rattle.wf_turn.specs.declared.stage.Wanted.{Wanted}
use Rattle.wf_turn.specs.Program.{Program}
use Rattle.wf_turn.specs.Quota.{left}
use Rattle.wf_turn.specs.Ready.{IsFit}
use Rattle.wf_show.specs.Played.{IsPlayed, program_after}

-- the machine is ready for a call that a program wants, where that waits
abbrev pub IsReadyFor : Wanted → State → Type 0
IsReadyFor w h = IsTrue w.wait → IsTrue (is_ready h w.call)

-- A program was played through its pass. The pass has seen a legal history, which begins with what it had seen, and in that its
-- client's events are the program's calls, one after another, and what the program now is comes from their answers.
pub record Runs (p now : Program) (old new : PlainPass) : Type 0 where
  pub desk : new.desk ≡ old.desk
  pub client : new.client ≡ old.client
  pub opening : new.opening ≡ old.opening
  pub goes_on : IsPrefix old.seen new.seen
  pub count : length new.mine + new.left ≡ length old.mine + old.left
  pub own : IsOwn after MayAnswer new
  pub played : (h : State) → new.opening ≡ Some h → IsPlayed new.client h p new.seen
  pub program : now ≡ program_after new.client p new.seen

-- so far, and the program can go on within what is left to the pass
pub record RunsSoFar (p now : Program) (old new : PlainPass) : Type 0 where
  pub runs : Runs p now old new
  pub fit : IsFit now
  pub room : left now ≤ new.left
  pub fewer : new.left ≤ old.left
