-- The store before the first call.
use Rattle.std.specs.Prelude.{List, length}
use Rattle.wf_stream.specs.Streams.{StoreView, empty, one_name_each}
use Rattle.wf_calls.specs.declared.ports.Modes.{Modes}
use Rattle.wf_model.specs.State.{screens}

-- nothing but the screens of ports with these modes, each with one name
abbrev pub with_screens : List Modes → StoreView
with_screens modes = record empty { numbered = length modes; streams = screens modes; counts = one_name_each (screens modes) }
