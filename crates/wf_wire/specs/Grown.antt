-- What the events of a session make of its pass.
use Rattle.std.specs.Prelude.{◌≡◌, ◌+◌, List, [], ◌∷◌, ◌++◌, length, Some, IsTrue}
use Rattle.wf_desk.specs.History.{IsPrefix, replay}
use Rattle.wf_desk.specs.Pass.{IsOwn}
use Rattle.wf_machine.specs.Object.{MayAnswer, after, is_ready}
use Rattle.wf_model.specs.State.{State}
use Rattle.wf_machine.specs.Histories.{Happening, PlainPass}

-- These events stand in a history `seen` in this order, all after `from`, and the machine is ready for the call of each: no frame runs
-- that it would begin beside. `h` is the machine before the history.
abbrev pub AreReady : State → List Happening → List Happening → List Happening → Type 0
AreReady h from seen [] = IsPrefix from seen
AreReady h from seen (e ∷ es) =
    (before : List Happening) × IsPrefix from before × IsTrue (is_ready (replay after h before) e.call)
    × AreReady h (before ++ e ∷ []) seen es

-- A pass made these events, each where the machine was ready for it; others may have made more.
pub record Grew (es : List Happening) (old new : PlainPass) : Type 0 where
  pub desk : new.desk ≡ old.desk
  pub client : new.client ≡ old.client
  pub opening : new.opening ≡ old.opening
  pub left : new.left + length es ≡ old.left
  pub mine : new.mine ≡ old.mine ++ es
  pub ready : (h : State) → old.opening ≡ Some h → AreReady h old.seen new.seen es
  pub own : IsOwn after MayAnswer new
