-- What the calls of the display see of the objects and of the store, and what they leave of the store.
use Rattle.std.specs.Prelude.{◌+◌, List}
use Rattle.wf_life.specs.declared.Kind.TheVariants as kind
use Rattle.wf_life.specs.Handles.{Live, live_count, same_kind}
use Rattle.wf_stream.specs.Streams.{StoreView}
use Rattle.wf_model.specs.DisplaySides.{DisplaySide}
use Rattle.wf_model.specs.Sides as sides
use Rattle.wf_model.specs.State.{DisplayState}

-- what a call sees of these objects and this store
abbrev pub display_side_of : DisplayState → StoreView → DisplaySide
display_side_of d store =
    record {
      made = store.made;
      streams = store.streams;
      display = d;
      composition_sources = live_count kind.Source store.others + live_count kind.Mask store.others;
    }

-- the live handles that stand beside those of the display
abbrev pub beside : List Live → List Live
beside others = sides.beside (λ k. same_kind k kind.DisplaySource) others

-- beside the names of streams a call of the display made or took a handle at most
abbrev pub KeepsRest : StoreView → StoreView → Type 0
KeepsRest old new = sides.KeepsRest (λ k. same_kind k kind.DisplaySource) old new
