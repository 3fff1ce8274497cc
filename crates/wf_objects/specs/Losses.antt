-- What a destruction takes from the store.
use Rattle.std.specs.Prelude.{◌≡◌, ℕ, not, ◌==◌, [], filter}
use Rattle.wf_life.specs.declared.Kind.TheVariants as kind
use Rattle.wf_life.specs.Handles.{live_count}
use Rattle.wf_stream.specs.Streams.{StoreView}
use Rattle.wf_model.specs.Objects.{CoreState}
use Rattle.wf_model.specs.Core.{without_device, without_those_of}
use Rattle.wf_objects.specs.Sides.{beside}

-- handles of composition's objects, and names of streams
pub record Loses (old new : StoreView) : Type 0 where
  pub rest : record new { others = []; streams = []; counts = [] } ≡ record old { others = []; streams = []; counts = [] }
  pub others : beside new.others ≡ beside old.others
  pub display : live_count kind.DisplaySource new.others ≡ live_count kind.DisplaySource old.others

-- the objects without the sources and masks of a context
abbrev pub but_links : ℕ → CoreState → CoreState
but_links handle core = record core { sources = without_those_of handle core.sources; masks = without_those_of handle core.masks }

-- the objects without a context alone
abbrev pub but_context : ℕ → CoreState → CoreState
but_context handle core = record core { contexts = filter (λ c. not (c.handle == handle)) core.contexts }

-- the objects without the contexts of a device and all that is theirs
abbrev pub but_contexts_of : ℕ → CoreState → CoreState
but_contexts_of d core = record (without_device d core) { devices = core.devices }
