-- How the objects of the display are kept.
use Rattle.std.specs.Prelude.{◌≡◌}
use Rattle.std.specs.Vec.{vec_capacity}
use Rattle.wf_display.specs.declared.display.Display.TheInside.{Inside}
use Rattle.wf_display.specs.Display.{IsDisplay}
use Rattle.wf_model.specs.State.{DisplayState}
use Rattle.wf_model.specs.declared.TheConstants.{MOST_SOURCES}

-- what the fields stand for
abbrev pub display_of : Inside → DisplayState
display_of i =
    record {
      ports = i.ports.items;
      pipelines = i.pipelines.items;
      sources = i.sources.items;
      register = i.register;
    }

-- there is room for all sources that may live
pub record IsSound (i : Inside) : Type 0 where
  pub display : IsDisplay (display_of i)
  pub room : vec_capacity i.sources ≡ MOST_SOURCES
