-- What is seen of a machine, and what happened between two looks at it.
use Rattle.std.specs.Prelude.{◌≡◌, ℕ, ◌+◌, ◌-◌, Bool, true, false, not, ◌&&◌, ◌||◌, List, [], ◌∷◌, ◌++◌, map, length, Option, Some, None}
use Rattle.std.specs.Prelude.{is_none, is_some, option_map}
use Rattle.wf_calls.specs.declared.display.Transition.{Transition}
use Rattle.wf_calls.specs.declared.display.Transition.TheVariants as transition
use Rattle.wf_model.specs.declared.display.Pipeline.{Pipeline}
use Rattle.wf_model.specs.Names.{kept}
use Rattle.wf_model.specs.State.{State}
use Rattle.wf_events.specs.declared.happening.Happening.{Happening}
use Rattle.wf_events.specs.declared.watch.Look.{Look}
use Rattle.wf_events.specs.declared.watch.Waiting.{Waiting}
use Rattle.wf_events.specs.Happenings.{apart, attach_if, bind_if, released}

-- when the request of a pipeline shows, if it has one, and whether a binding waits there
abbrev pub waiting_at : Pipeline → Waiting
waiting_at x = record { request = option_map (λ r. r.transition) x.request; pending = is_some x.pending }

abbrev pub was_for_now : Option Transition → Bool
was_for_now None = false
was_for_now (Some transition.Now) = true
was_for_now (Some transition.Vsync) = false

-- A request for now is gone only where a commit took it, and a binding that waits is gone only where it became current, or where a
-- commit with a request for now replaced it.
abbrev pub is_bound : Waiting → Waiting → Bool
is_bound before after = was_for_now before.request && is_none after.request || before.pending && not after.pending

-- what happened between two elements of the same number, from a number on
abbrev pub between_from : {A : Type 0} → (ℕ → A → A → List Happening) → ℕ → List A → List A → List Happening
between_from f n [] others = []
between_from f n (x ∷ xs) [] = []
between_from f n (x ∷ xs) (y ∷ ys) = f n x y ++ between_from f (n + 1) xs ys

abbrev pub bound_at : ℕ → Waiting → Waiting → List Happening
bound_at l before after = bind_if (is_bound before after) l

abbrev pub attached_at : ℕ → Bool → Bool → List Happening
attached_at p before after = attach_if (apart before after) p after

-- what happened between two looks
abbrev pub happened : Look → Look → List Happening
happened before after =
    between_from bound_at 1 before.waiting.items after.waiting.items
    ++ between_from attached_at 1 before.attached.items after.attached.items
    ++ released (before.streams - after.streams)

-- what is seen of a machine, which keeps no stream without a name
pub record IsLook (h : State) (look : Look) : Type 0 where
  pub waiting : look.waiting.items ≡ map waiting_at h.display.pipelines
  pub attached : look.attached.items ≡ map (λ p. p.attached) h.display.ports
  pub streams : look.streams ≡ length h.streams
  pub lifetime : h.streams ≡ kept h
