-- What the machine is made of, and what holds of it.
use Rattle.std.specs.Prelude.{◌≡◌, ◌≤◌, length, map, option_map, IfSome}
use Rattle.wf_stream.specs.Names.{AreCounted}
use Rattle.wf_stream.specs.Streams.{IsNumbered, held}
use Rattle.wf_model.specs.Counting.{CountsNames}
use Rattle.wf_model.specs.Kept.{modes_of}
use Rattle.wf_model.specs.State.{State}
use Rattle.wf_objects.specs.Fits.{Fits}
use Rattle.wf_display.specs.Fits.{Fits as Shows}
use Rattle.wf_machine.specs.declared.parts.Parts.TheInside.{Inside}
use Rattle.wf_machine.specs.Fitting.{AllFit, AreNumbered, AreOnce, FrameFits, PortsFit, contents_of}
use Rattle.wf_machine.specs.Ports.{running_of, sizes_of}
use Rattle.wf_stream.specs.declared.TheConstants.{MOST_BYTES}

abbrev pub state_of : Inside → State
state_of m =
    record {
      made = m.store.made;
      numbered = m.store.numbered;
      begun = m.begun;
      streams = m.store.streams;
      core = m.core;
      display = m.display;
      frame = option_map running_of m.frame;
    }

-- what holds of the parts beside one another
pub record Holds (m : Inside) : Type 0 where
  pub fits : Fits m.core m.store
  pub shows : Shows m.display m.store
  pub numbered : IsNumbered 0 m.store.streams m.store.numbered
  pub few : length m.ports.items ≤ 4
  pub modes : map sizes_of m.ports.items ≡ modes_of m.display
  pub ports : PortsFit m.frame 1 m.ports.items
  pub small : (held m.store.streams).bytes ≤ MOST_BYTES
  pub streams : AllFit (contents_of (option_map running_of m.frame)) m.store.streams
  pub frame : IfSome m.frame (FrameFits (map sizes_of m.ports.items) m.store.streams)
  pub once : AreOnce (contents_of (option_map running_of m.frame))
  pub known : AreNumbered m.store.numbered (contents_of (option_map running_of m.frame))

-- and each stream has a count, which is the number of its names
pub record IsSound (m : Inside) : Type 0 where
  pub holds : Holds m
  pub counted : AreCounted m.store
  pub counts : CountsNames m.store (state_of m)
