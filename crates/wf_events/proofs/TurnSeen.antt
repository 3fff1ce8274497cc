-- What a turn's log has is what two looks at the machine tell.
use Rattle.std.proofs.Common.{◌≡◌, ◌∙◌, ℕ, ◌+◌, ◌≤◌, true, false, List, map, length, subst, arith}
use Rattle.wf_calls.specs.declared.order.Turn.{Turn}
use Rattle.wf_turn.specs.Turns.{Show, tick_line}
use Rattle.wf_events.specs.declared.happening.Happening.{Happening}
use Rattle.wf_events.specs.declared.log.Queue.{Queue}
use Rattle.wf_events.specs.declared.watch.Look.{Look}
use Rattle.wf_events.specs.Inside.{Logs, Taken, seen}
use Rattle.wf_events.specs.Log.{ends_tick}
use Rattle.wf_events.specs.Queue.{AreTold, IsFlushed}
use Rattle.wf_events.specs.Watching.{IsLook, happened}
use Rattle.wf_events.proofs.StepSeen.{looks_seen}
use Rattle.wf_events.proofs.TurnsLogged.{goes_on, is_ended}

module _ (show now : Show) (t : Turn) (old middle : Queue) (one other : Look) (found : List Happening) (place : ℕ)
    (taken : Taken show now t) (first : IsLook show.state one) (second : IsLook now.state other) (found_is : found ≡ happened one other)
    (place_is : place ≡ show.turns) (told : AreTold old middle (map (λ e. (place, e)) found))
    (most : middle.lost ≤ old.lost + length found) (few : length found ≤ 13) where
  are : found ≡ seen show.state now.state
  are = found_is ∙ looks_seen show.state now.state one other first second

  told_here : AreTold old middle (map (λ e. (show.turns, e)) found)
  told_here = subst (λ n. AreTold old middle (map (λ e. (n, e)) found)) place_is told

  -- the stretch goes on
  pub logs_on : ends_tick (tick_line show.programs) (tick_line now.programs) ≡ false → Logs show now t old middle
  logs_on on =
      record {
        taken = taken;
        settled = first.lifetime;
        queued = goes_on show now old middle found are told_here on;
        most = omega (arith, most, few);
      }

  -- or it ends
  pub logs_end : (new : Queue) → ends_tick (tick_line show.programs) (tick_line now.programs) ≡ true → IsFlushed middle new
      → new.lost ≡ 0 → Logs show now t old new
  logs_end new ends flushed none =
      record {
        taken = taken;
        settled = first.lifetime;
        queued = is_ended show now old middle found are told_here new ends flushed;
        most = omega (arith, none);
      }
