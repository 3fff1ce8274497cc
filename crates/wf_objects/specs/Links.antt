-- Sources and masks as one kind of thing: links from a context to a stream, of pixels or of alphas.
use Rattle.std.specs.Prelude.{Bool, true, false, List}
use Rattle.wf_life.specs.declared.Kind.{Kind}
use Rattle.wf_life.specs.declared.Kind.TheVariants as kind
use Rattle.wf_life.specs.Handles.{Live}
use Rattle.wf_model.specs.Objects.{CoreState, Source}

-- the kind of a link that is a source, or a mask
abbrev pub link_kind : Bool → Kind
link_kind false = kind.Source
link_kind true = kind.Mask

-- the live handle of a link, under whose key the store has the number of its stream
abbrev pub link_live : Bool → Source → Live
link_live mask s = record { handle = s.handle; kind = link_kind mask; key = s.stream }

-- the sources, or the masks
abbrev pub links : Bool → CoreState → List Source
links false core = core.sources
links true core = core.masks

-- the objects with other sources, or other masks
abbrev pub with_links : Bool → List Source → CoreState → CoreState
with_links false xs core = record core { sources = xs }
with_links true xs core = record core { masks = xs }
