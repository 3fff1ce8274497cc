-- A serial order of a script that was made, which no want of memory marks, has three events and eighteen for each round.
use Rattle.std.proofs.Common.{◌≡◌, ◌∙◌, ℕ, ◌≤◌, List, sym, ap, subst}
use Rattle.wf_calls.specs.declared.order.Turn.{Turn}
use Rattle.wf_script.specs.Generator.{made}
use Rattle.wf_turn.specs.MadePlay.{IsMadePlay}
use Rattle.wf_turn.specs.Play.{IsComplete, marks, serial_order}
use Rattle.wf_turn.proofs.MadeScriptsPlayed.{made_plays}
use Rattle.wf_play.specs.Big.{IsMadeOrder}

pub made_order : (size : ℕ) (order : List Turn) → 1 ≤ size → size ≤ 1000 → IsComplete (made size) order
    → order ≡ serial_order (made size) (marks order) → IsMadeOrder size order
made_order size order some few complete serial = record {
  complete = complete;
  serial = serial;
  counted = λ none.
      subst (λ (ts : List Turn). IsMadePlay size ts) (sym (serial ∙ ap (λ (ms : List ℕ). serial_order (made size) ms) none))
      (made_plays size some few);
}
