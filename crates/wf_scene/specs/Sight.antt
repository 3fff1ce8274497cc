-- What stands behind handles of sources and masks.
use Rattle.std.specs.Prelude.{ℕ, Option}
use Rattle.wf_scene.specs.declared.look.Seen.{Seen}

-- what a handle shows: none where it is no live source, or no live mask
pub record Sight : Type 0 where
  pub source : ℕ → Option Seen
  pub mask : ℕ → Option Seen
