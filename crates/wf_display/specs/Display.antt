-- What holds of the objects of the display by themselves.
use Rattle.std.specs.Prelude.{◌≡◌, ℕ, ◌≤◌, ◌&&◌, false, length, IsTrue}
use Rattle.std.specs.List.{list_all, AllByRecursion}
use Rattle.wf_pixel.specs.Choice.{has_sides, is_coordinate}
use Rattle.wf_scene.specs.declared.style.Style.{Style}
use Rattle.wf_model.specs.declared.display.Pipeline.{Pipeline}
use Rattle.wf_model.specs.declared.display.Port.{Port}
use Rattle.wf_model.specs.State.{DisplayState}
use Rattle.wf_calls.specs.declared.TheConstants.{MOST_PIPELINES}

-- a number of a mode of a port
abbrev pub IsMode : ℕ → Port → Type 0
IsMode mode p = (1 ≤ mode) × (mode ≤ length p.modes.items)

-- a port has modes, whose sides are in their range; one of them is cached, and one is committed
pub record IsPort (p : Port) : Type 0 where
  pub sides : IsTrue (list_all has_sides p.modes.items)
  pub cached : IsMode p.cached.mode p
  pub committed : IsMode p.committed.mode p

-- the place of what a pipeline shows is in the range of coordinates, and no mask applies
pub record IsStyle (s : Style) : Type 0 where
  pub placed : IsTrue (is_coordinate s.dest.x && is_coordinate s.dest.y)
  pub unmasked : s.transparency.mask ≡ false

pub record IsPipeline (x : Pipeline) : Type 0 where
  pub cached : IsStyle x.cached
  pub committed : IsStyle x.committed

pub record IsDisplay (d : DisplayState) : Type 0 where
  pub ports : AllByRecursion IsPort d.ports
  pub pipelines : AllByRecursion IsPipeline d.pipelines
  pub few_ports : length d.ports ≤ 4
  pub few_pipelines : length d.pipelines ≤ MOST_PIPELINES
