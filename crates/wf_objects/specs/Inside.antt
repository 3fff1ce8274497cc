-- How the objects of composition are kept.
use Rattle.std.specs.Prelude.{◌≡◌, ◌≤◌, length}
use Rattle.std.specs.List.{AllByRecursion}
use Rattle.std.specs.Vec.{vec_capacity}
use Rattle.wf_objects.specs.declared.objects.Objects.TheInside.{Inside}
use Rattle.wf_model.specs.Objects.{Context, CoreState}
use Rattle.wf_objects.specs.Tracks.{AreTracked}
use Rattle.wf_scene.specs.declared.TheConstants.{MOST_INSERTED}
use Rattle.wf_model.specs.declared.TheConstants.{MOST_CONTEXTS, MOST_DEVICES, MOST_SOURCES}

-- what the fields stand for
abbrev pub tables_of : Inside → CoreState
tables_of c =
    record {
      devices = c.devices.items;
      contexts = c.contexts.items;
      sources = c.sources.items;
      masks = c.masks.items;
    }

-- a context's committed scene has 32 layers at most
abbrev pub HasFewLayers : Context → Type 0
HasFewLayers c = length c.committed.layers.items ≤ MOST_INSERTED

-- there is room for all objects that may live, committed scenes are short, and the members are what devices and contexts have
pub record IsKept (c : Inside) : Type 0 where
  pub devices : vec_capacity c.devices ≡ MOST_DEVICES
  pub contexts : vec_capacity c.contexts ≡ MOST_CONTEXTS
  pub sources : vec_capacity c.sources ≡ MOST_SOURCES
  pub masks : vec_capacity c.masks ≡ MOST_SOURCES
  pub layers : AllByRecursion HasFewLayers c.contexts.items
  pub tracked : AreTracked c.members c.linked (tables_of c)
