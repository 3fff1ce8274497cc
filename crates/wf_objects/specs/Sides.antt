-- What the calls of composition see of the objects and of the store, and what an answer leaves.
use Rattle.std.specs.Prelude.{Bool, true, false, List}
use Rattle.wf_life.specs.declared.Kind.{Kind}
use Rattle.wf_life.specs.declared.Kind.TheVariants as kind
use Rattle.wf_life.specs.Handles.{Live, live_count}
use Rattle.wf_stream.specs.Streams.{StoreView}
use Rattle.wf_model.specs.Composition.{CoreSide}
use Rattle.wf_model.specs.Objects.{CoreState}
use Rattle.wf_model.specs.Sides as sides

-- what a call sees of these objects and this store
abbrev pub core_side_of : CoreState → StoreView → CoreSide
core_side_of core store =
    record {
      made = store.made;
      streams = store.streams;
      core = core;
      display_sources = live_count kind.DisplaySource store.others;
    }

-- the kinds of objects that composition makes
abbrev pub is_of_composition : Kind → Bool
is_of_composition kind.Device = true
is_of_composition kind.Context = true
is_of_composition kind.Element = true
is_of_composition kind.Source = true
is_of_composition kind.Mask = true
is_of_composition _ = false

-- the live handles that stand beside those of composition
abbrev pub beside : List Live → List Live
beside others = sides.beside is_of_composition others

-- a call of composition made or took handles of its own at most, and names of streams
abbrev pub KeepsRest : StoreView → StoreView → Type 0
KeepsRest old new = sides.KeepsRest is_of_composition old new
