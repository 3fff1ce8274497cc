-- The objects of composition: devices, contexts, sources and masks. Elements stand in a context's cached scene.
use Rattle.std.specs.Prelude.{ℕ, Bool, List, [], Option}
use Rattle.wf_scene.specs.Cached.{CachedScene}
use Rattle.wf_scene.specs.declared.Scene.{Scene}
use Rattle.wf_calls.specs.declared.code.Code.{Code}

-- a device, and the code that its register holds, if there is one
pub record Device : Type 0 where
  pub handle : ℕ
  pub register : Option Code

-- a context: its device, its port or 0, the number of the stream that it draws into, whether it is active, and its cached
-- and its committed scene
pub record Context : Type 0 where
  pub handle : ℕ
  pub device : ℕ
  pub port : ℕ
  pub target : ℕ
  pub active : Bool
  pub cached : CachedScene
  pub committed : Scene

-- a source or a mask: its context, and the number of the stream that it shows
pub record Source : Type 0 where
  pub handle : ℕ
  pub context : ℕ
  pub stream : ℕ

-- each list by rising handle
pub record CoreState : Type 0 where
  pub devices : List Device
  pub contexts : List Context
  pub sources : List Source
  pub masks : List Source

abbrev pub no_objects : CoreState
no_objects = record { devices = []; contexts = []; sources = []; masks = [] }
