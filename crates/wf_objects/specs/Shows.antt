-- What contexts show to those who compose them.
use Rattle.std.specs.Prelude.{ℕ, Bool, option_map, Option, Result, Ok}
use Rattle.wf_words.specs.Refusals.{◌>>=◌, found_or}
use Rattle.wf_words.specs.Keyed.{at_key}
use Rattle.wf_calls.specs.declared.code.Code.{Code}
use Rattle.wf_calls.specs.declared.code.Code.TheVariants as code
use Rattle.wf_model.specs.Objects.{Context, CoreState}
use Rattle.wf_model.specs.Frames.{next_context}
use Rattle.wf_scene.specs.declared.Scene.{Scene}
use Rattle.wf_objects.specs.Owners.{of_device}

-- what a context shows: its target, whether it is active, and its committed scene
pub record Shown : Type 0 where
  pub target : ℕ
  pub active : Bool
  pub scene : Scene

abbrev pub shown_of : Context → Shown
shown_of c = record { target = c.target; active = c.active; scene = c.committed }

-- what a context of a device shows
abbrev pub shown_context : ℕ → ℕ → CoreState → Result Shown Code
shown_context d handle core = do
  _ ← found_or code.BadDevice (at_key (λ x. x.handle) d core.devices)
  c ← found_or code.BadHandle (of_device d handle core.contexts)
  Ok (shown_of c)

-- its handle, and what it shows
abbrev pub next_of : Context → ℕ × Shown
next_of c = (c.handle, shown_of c)

-- contexts stand by rising handle, so the first active one above a handle is the one with the least handle
abbrev pub next_shown : ℕ → CoreState → Option (ℕ × Shown)
next_shown after core = option_map next_of (next_context after core.contexts)
