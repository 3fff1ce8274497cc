-- The calls of composition: for each the refusals in their order, and then the effect and the value.
use Rattle.std.specs.Prelude.{ℕ, ◌+◌, ◌*◌, Bool, true, false, not, ◌&&◌, ◌||◌, ◌==◌, nat_le, ℤ, List, [], ◌∷◌, ◌++◌, length, filter, find}
use Rattle.std.specs.Prelude.{Option, None, Some, Result, Ok, Err, if◌then◌else◌}
use Rattle.std.specs.List.{list_any}
use Rattle.wf_words.specs.Refusals.{◌>>=◌}
use Rattle.wf_words.specs.Whole.{count_of}
use Rattle.wf_pixel.specs.declared.Format.{Format}
use Rattle.wf_pixel.specs.declared.Format.TheVariants.{Rgba8Pre, Rgbx8}
use Rattle.wf_pixel.specs.declared.Size.{Size}
use Rattle.wf_pixel.specs.declared.Rotation.TheVariants.{R0}
use Rattle.wf_pixel.specs.Choice.{is_a8, black}
use Rattle.wf_life.specs.Handles.{is_full}
use Rattle.wf_stream.specs.Streams.{KeptStream, stream_at}
use Rattle.wf_scene.specs.declared.attributes.ElementAttr.{ElementAttr}
use Rattle.wf_scene.specs.declared.attributes.ElementAttr.TheVariants as element
use Rattle.wf_scene.specs.declared.attributes.ContextAttr.{ContextAttr}
use Rattle.wf_scene.specs.declared.attributes.Refused.{Refused}
use Rattle.wf_scene.specs.declared.attributes.Refused.TheVariants as refused
use Rattle.wf_scene.specs.declared.look.Fault.{Fault}
use Rattle.wf_scene.specs.declared.Scene.{Scene}
use Rattle.wf_scene.specs.Values.{component, is_count}
use Rattle.wf_scene.specs.Cached as cached
use Rattle.wf_scene.specs.Consistent.{consistent}
use Rattle.wf_calls.specs.declared.code.Code.{Code}
use Rattle.wf_calls.specs.declared.code.Code.TheVariants as code
use Rattle.wf_calls.specs.declared.reply.Refusal.{Refusal}
use Rattle.wf_calls.specs.Codes.{code_number}
use Rattle.wf_model.specs.Objects.{Context, CoreState, Device, Source}
use Rattle.wf_model.specs.Outcome.{Outcome, refuse, found}
use Rattle.wf_model.specs.Composition.{CoreSide, device, context, element_context, is_of_device, live_stream, sight_of, created}
use Rattle.wf_model.specs.Composition.{change_context, with_cached, change_register}
use Rattle.wf_scene.specs.declared.TheConstants.{MOST_ELEMENTS}
use Rattle.wf_model.specs.declared.TheConstants.{MOST_CONTEXTS, MOST_DEVICES, MOST_SOURCES}

-- the last two refusals of a creation: its own limit or that of all handles, and want of memory
abbrev pub room : Bool → Bool → CoreSide → Result (Unit {0}) Refusal
room at_limit memory_refused w = do
  _ ← refuse code.Limit (at_limit || is_full w.made)
  refuse code.OutOfMemory memory_refused

-- the refusal of a cached scene, by its code
abbrev pub refusal_code : Refused → Code
refusal_code refused.BadAttribute = code.BadAttribute
refusal_code refused.IllegalArgument = code.IllegalArgument
refusal_code refused.Limit = code.Limit

abbrev pub by_scene : {A : Type 0} → Result A Refused → Result A Refusal
by_scene (Ok x) = Ok x
by_scene (Err r) = Err (record { code = refusal_code r; value = 0 })

-- devices

abbrev pub device_new : Bool → CoreSide → Outcome CoreSide
device_new memory_refused w = do
  _ ← room (nat_le MOST_DEVICES (length w.core.devices)) memory_refused w
  let new : Device = record { handle = w.made + 1; register = None } in
      Ok (created (record w.core { devices = w.core.devices ++ new ∷ [] }) w)

-- the number of a register, 0 for an empty one
abbrev pub register_number : Option Code → ℕ
register_number None = 0
register_number (Some code) = code_number code

abbrev pub get_error : ℕ → CoreSide → Outcome CoreSide
get_error d w = do
  x ← device d w
  Ok (record w { core = change_register d (λ _. None) w.core }, register_number x.register)

-- contexts

-- nothing but an opaque black background
abbrev pub blank_scene : Size → Scene
blank_scene size = record { size = size; turn = R0; background = black; layers = record { items = [] } }

-- an inactive context of a port, or of none by 0, whose target is a stream
abbrev pub new_context : ℕ → ℕ → ℕ → KeptStream → Context
new_context handle d port target =
    record {
      handle = handle;
      device = d;
      port = port;
      target = target.number;
      active = false;
      cached = cached.empty target.buffers.size (not (port == 0));
      committed = blank_scene target.buffers.size;
    }

abbrev pub contexts_full : CoreSide → Bool
contexts_full w = nat_le MOST_CONTEXTS (length w.core.contexts)

-- a port that has a context
abbrev pub has_port : ℕ → CoreSide → Bool
has_port port w = list_any (λ c. c.port == port) w.core.contexts

-- the context of a port's screen, whose stream is given where the port was declared
abbrev pub screen_context : ℕ → ℤ → Option ℕ → Bool → CoreSide → Outcome CoreSide
screen_context d port screen memory_refused w = do
  _ ← device d w
  number ← found code.IllegalArgument screen
  target ← found code.IllegalArgument (stream_at number w.streams)
  _ ← refuse code.InUse (has_port (count_of port) w)
  _ ← room (contexts_full w) memory_refused w
  let new : Context = new_context (w.made + 1) d (count_of port) target in
      Ok (created (record w.core { contexts = w.core.contexts ++ new ∷ [] }) w)

-- a format of pixels that a context may draw: premultiplied, or without an alpha of their own
abbrev pub is_drawable : Format → Bool
is_drawable Rgba8Pre = true
is_drawable Rgbx8 = true
is_drawable _ = false

-- a stream into which a context draws
abbrev pub has_target : ℕ → CoreSide → Bool
has_target stream w = list_any (λ c. c.target == stream) w.core.contexts

-- an off-screen context, which draws into the stream of a live handle
abbrev pub stream_context : ℕ → ℕ → Bool → CoreSide → Outcome CoreSide
stream_context d handle memory_refused w = do
  _ ← device d w
  target ← live_stream handle w.streams
  _ ← refuse code.Unsupported (not (is_drawable target.buffers.format))
  _ ← refuse code.InUse (has_target target.number w)
  _ ← room (contexts_full w) memory_refused w
  let new : Context = new_context (w.made + 1) d 0 target in
      Ok (created (record w.core { contexts = w.core.contexts ++ new ∷ [] }) w)

abbrev pub context_set : ℕ → ℕ → ContextAttr → List ℤ → CoreSide → Outcome CoreSide
context_set d handle attr value w = do
  _ ← device d w
  c ← context d handle w
  scene ← by_scene (cached.set_context attr value c.cached)
  Ok (record w { core = change_context handle (with_cached scene) w.core }, 0)

abbrev pub context_get : ℕ → ℕ → ContextAttr → ℤ → CoreSide → Outcome CoreSide
context_get d handle attr index w = do
  _ ← device d w
  c ← context d handle w
  n ← by_scene (cached.get_context attr index c.cached)
  Ok (w, n)

-- the fault of a commit, told as one number
abbrev pub fault_as_refusal : {A : Type 0} → Result A Fault → Result A Refusal
fault_as_refusal (Ok x) = Ok x
fault_as_refusal (Err f) = Err (record { code = code.Inconsistency; value = f.place * 16 + f.rule })

abbrev pub with_committed : Scene → Context → Context
with_committed scene c = record c { committed = scene }

-- the cached scene becomes the committed one, or nothing changes
abbrev pub commit : ℕ → ℕ → CoreSide → Outcome CoreSide
commit d handle w = do
  _ ← device d w
  c ← context d handle w
  scene ← fault_as_refusal (consistent (sight_of w) c.cached)
  Ok (record w { core = change_context handle (with_committed scene) w.core }, 0)

abbrev pub with_active : Bool → Context → Context
with_active active c = record c { active = active }

-- a context becomes active or inactive, which it may be already
abbrev pub set_active : Bool → ℕ → ℕ → CoreSide → Outcome CoreSide
set_active active d handle w = do
  _ ← device d w
  _ ← context d handle w
  Ok (record w { core = change_context handle (with_active active) w.core }, 0)

abbrev pub activate : ℕ → ℕ → CoreSide → Outcome CoreSide
activate d handle w = set_active true d handle w

abbrev pub deactivate : ℕ → ℕ → CoreSide → Outcome CoreSide
deactivate d handle w = set_active false d handle w

-- sources and masks

-- how many sources and masks are live, of both interfaces
abbrev pub sources_full : CoreSide → Bool
sources_full w = nat_le MOST_SOURCES (length w.core.sources + length w.core.masks + w.display_sources)

abbrev pub new_source : ℕ → ℕ → KeptStream → Source
new_source handle owner s = record { handle = handle; context = owner; stream = s.number }

abbrev pub source_new : ℕ → ℕ → ℕ → Bool → CoreSide → Outcome CoreSide
source_new d owner handle memory_refused w = do
  _ ← device d w
  _ ← context d owner w
  s ← live_stream handle w.streams
  _ ← refuse code.Unsupported (is_a8 s.buffers.format)
  _ ← room (sources_full w) memory_refused w
  Ok (created (record w.core { sources = w.core.sources ++ new_source (w.made + 1) owner s ∷ [] }) w)

abbrev pub mask_new : ℕ → ℕ → ℕ → Bool → CoreSide → Outcome CoreSide
mask_new d owner handle memory_refused w = do
  _ ← device d w
  _ ← context d owner w
  s ← live_stream handle w.streams
  _ ← refuse code.Unsupported (not (is_a8 s.buffers.format))
  _ ← room (sources_full w) memory_refused w
  Ok (created (record w.core { masks = w.core.masks ++ new_source (w.made + 1) owner s ∷ [] }) w)

-- elements

abbrev pub element_new : ℕ → ℕ → Bool → CoreSide → Outcome CoreSide
element_new d owner memory_refused w = do
  _ ← device d w
  c ← context d owner w
  _ ← room (nat_le MOST_ELEMENTS (length c.cached.elements)) memory_refused w
  Ok (created (change_context owner (with_cached (cached.add (w.made + 1) c.cached)) w.core) w)

-- a value names none, or a source or a mask of the device, and then one of the context; it is compared as a whole number
abbrev pub checked_source : ℕ → ℕ → ℤ → List Source → CoreSide → Result (Unit {0}) Refusal
checked_source d owner z sources w =
    if is_count 0 z then Ok tt
    else (do
      x ← found code.BadHandle (find (λ s. is_count s.handle z && is_of_device d w.core s.context) sources)
      refuse code.IllegalArgument (not (x.context == owner)))

-- what an attribute is set to may be linked to the context's element
abbrev pub linked : ElementAttr → ℕ → ℕ → ℤ → CoreSide → Result (Unit {0}) Refusal
linked element.Source d owner z w = checked_source d owner z w.core.sources w
linked element.Mask d owner z w = checked_source d owner z w.core.masks w
linked _ d owner z w = Ok tt

abbrev pub element_set : ℕ → ℕ → ElementAttr → List ℤ → CoreSide → Outcome CoreSide
element_set d handle attr value w = do
  _ ← device d w
  c ← element_context d handle w
  _ ← linked attr d c.handle (component value 0) w
  scene ← by_scene (cached.set handle attr value c.cached)
  Ok (record w { core = change_context c.handle (with_cached scene) w.core }, 0)

abbrev pub element_get : ℕ → ℕ → ElementAttr → ℤ → CoreSide → Outcome CoreSide
element_get d handle attr index w = do
  _ ← device d w
  c ← element_context d handle w
  n ← by_scene (cached.get handle attr index c.cached)
  Ok (w, n)

-- the handle is 0 or a live element of the device
abbrev pub is_element_or_0 : ℕ → ℕ → CoreSide → Bool
is_element_or_0 d handle w =
    (handle == 0) || list_any (λ c. (c.device == d) && cached.has_element handle c.cached) w.core.contexts

abbrev pub element_insert : ℕ → ℕ → ℕ → CoreSide → Outcome CoreSide
element_insert d handle base w = do
  _ ← device d w
  c ← element_context d handle w
  _ ← refuse code.BadHandle (not (is_element_or_0 d base w))
  scene ← by_scene (cached.insert handle base c.cached)
  Ok (record w { core = change_context c.handle (with_cached scene) w.core }, 0)

abbrev pub element_remove : ℕ → ℕ → CoreSide → Outcome CoreSide
element_remove d handle w = do
  _ ← device d w
  c ← element_context d handle w
  scene ← by_scene (cached.remove handle c.cached)
  Ok (record w { core = change_context c.handle (with_cached scene) w.core }, 0)

abbrev pub element_above : ℕ → ℕ → CoreSide → Outcome CoreSide
element_above d handle w = do
  _ ← device d w
  c ← element_context d handle w
  n ← by_scene (cached.above handle c.cached)
  Ok (w, n)

abbrev pub element_below : ℕ → ℕ → CoreSide → Outcome CoreSide
element_below d handle w = do
  _ ← device d w
  c ← element_context d handle w
  n ← by_scene (cached.below handle c.cached)
  Ok (w, n)

-- destruction: what is destroyed is refused from the next call on

-- the objects without an element
abbrev pub element_destroy : ℕ → ℕ → CoreSide → Outcome CoreSide
element_destroy d handle w = do
  _ ← device d w
  c ← element_context d handle w
  Ok (record w { core = change_context c.handle (with_cached (cached.forget handle c.cached)) w.core }, 0)

-- a live source or mask of a device
abbrev pub owned_source : ℕ → ℕ → List Source → CoreSide → Result Source Refusal
owned_source d handle sources w =
    found code.BadHandle (find (λ s. (s.handle == handle) && is_of_device d w.core s.context) sources)

abbrev pub without_source : ℕ → List Source → List Source
without_source handle sources = filter (λ s. not (s.handle == handle)) sources

abbrev pub source_destroy : ℕ → ℕ → CoreSide → Outcome CoreSide
source_destroy d handle w = do
  _ ← device d w
  _ ← owned_source d handle w.core.sources w
  Ok (record w { core = record w.core { sources = without_source handle w.core.sources } }, 0)

abbrev pub mask_destroy : ℕ → ℕ → CoreSide → Outcome CoreSide
mask_destroy d handle w = do
  _ ← device d w
  _ ← owned_source d handle w.core.masks w
  Ok (record w { core = record w.core { masks = without_source handle w.core.masks } }, 0)

-- sources or masks but those of a context
abbrev pub without_those_of : ℕ → List Source → List Source
without_those_of context sources = filter (λ s. not (s.context == context)) sources

-- the objects without a context and all that is its: its elements are in its cached scene
abbrev pub without_context : ℕ → CoreState → CoreState
without_context handle core =
    record core {
      contexts = filter (λ c. not (c.handle == handle)) core.contexts;
      sources = without_those_of handle core.sources;
      masks = without_those_of handle core.masks;
    }

abbrev pub context_destroy : ℕ → ℕ → CoreSide → Outcome CoreSide
context_destroy d handle w = do
  _ ← device d w
  _ ← context d handle w
  Ok (record w { core = without_context handle w.core }, 0)

-- the objects without a device, its contexts and all that is theirs
abbrev pub without_device : ℕ → CoreState → CoreState
without_device d core =
    record {
      devices = filter (λ x. not (x.handle == d)) core.devices;
      contexts = filter (λ c. not (c.device == d)) core.contexts;
      sources = filter (λ s. not (is_of_device d core s.context)) core.sources;
      masks = filter (λ m. not (is_of_device d core m.context)) core.masks;
    }

abbrev pub device_destroy : ℕ → CoreSide → Outcome CoreSide
device_destroy d w = do
  _ ← device d w
  Ok (record w { core = without_device d w.core }, 0)
