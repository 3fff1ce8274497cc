-- The one table of calls by who answers them. What else sets one call apart from others follows from it.
use Rattle.std.specs.Prelude.{◌≡◌, ℕ, Bool, true, false, Some, None, refl}
use Rattle.wf_calls.specs.declared.call.Call.{Call}
use Rattle.wf_calls.specs.declared.call.Call.TheVariants as call
use Rattle.wf_calls.specs.declared.part.Part.{Part}
use Rattle.wf_calls.specs.declared.part.Part.TheVariants as part

abbrev pub part_of : Call → Part
-- tools/calls writes what stands from here on, from crates/calls.table
part_of (call.StreamNew width height format buffers) = part.Streams
part_of (call.StreamQueue width height format depth) = part.Streams
part_of (call.StreamDestroy stream) = part.Streams
part_of (call.Acquire stream) = part.Buffers
part_of (call.Post canvas) = part.Buffers
part_of (call.Discard canvas) = part.Buffers
part_of (call.Stat what) = part.Streams
part_of call.DeviceNew = part.Composition 0
part_of (call.DeviceDestroy device) = part.Composition device
part_of (call.GetError device) = part.Composition device
part_of (call.ScreenContext device port) = part.Composition device
part_of (call.StreamContext device stream) = part.Composition device
part_of (call.ContextDestroy device context) = part.Composition device
part_of (call.ElementNew device context) = part.Composition device
part_of (call.ElementDestroy device element) = part.Composition device
part_of (call.SourceNew device context stream) = part.Composition device
part_of (call.SourceDestroy device source) = part.Composition device
part_of (call.MaskNew device context stream) = part.Composition device
part_of (call.MaskDestroy device mask) = part.Composition device
part_of (call.ElementSet device element attr value) = part.Composition device
part_of (call.ElementGet device element attr index) = part.Composition device
part_of (call.ElementInsert device element below) = part.Composition device
part_of (call.ElementRemove device element) = part.Composition device
part_of (call.ElementAbove device element) = part.Composition device
part_of (call.ElementBelow device element) = part.Composition device
part_of (call.ContextSet device context attr value) = part.Composition device
part_of (call.ContextGet device context attr index) = part.Composition device
part_of (call.Commit device context) = part.Composition device
part_of (call.Activate device context) = part.Composition device
part_of (call.Deactivate device context) = part.Composition device
part_of (call.PortSet port attr value) = part.Display
part_of (call.PortGet port attr index) = part.Display
part_of (call.Attach port on) = part.Display
part_of (call.PipeSet pipe attr value) = part.Display
part_of (call.PipeGet pipe attr index) = part.Display
part_of (call.PipeBindPort pipe port) = part.Display
part_of (call.DisplaySource pipe stream) = part.Display
part_of (call.DisplaySourceDestroy source) = part.Display
part_of (call.PipeBindSource pipe source transition) = part.Display
part_of call.CommitDevice = part.Display
part_of (call.CommitPort port) = part.Display
part_of (call.CommitPipe pipe) = part.Display
part_of call.DisplayError = part.Display
part_of (call.BeginNext after) = part.Begin None
part_of (call.BeginPort port) = part.Begin None
part_of (call.BeginContext device context) = part.Begin (Some device)
part_of (call.End job) = part.End

-- tools/calls writes what stands up to here

-- a call of composition
abbrev pub is_of_core : Part → Bool
is_of_core part.Streams = false
is_of_core part.Buffers = false
is_of_core (part.Composition d) = true
is_of_core part.Display = false
is_of_core (part.Begin d) = false
is_of_core part.End = false

-- the device that a call of composition names, or 0, which no device has
abbrev pub device_in : Part → ℕ
device_in part.Streams = 0
device_in part.Buffers = 0
device_in (part.Composition d) = d
device_in part.Display = 0
device_in (part.Begin d) = 0
device_in part.End = 0

abbrev pub device_of : Call → ℕ
device_of call = device_in (part_of call)

-- a call that begins a frame
abbrev pub begins : Part → Bool
begins part.Streams = false
begins part.Buffers = false
begins (part.Composition d) = false
begins part.Display = false
begins (part.Begin d) = true
begins part.End = false

abbrev pub is_begin : Call → Bool
is_begin call = begins (part_of call)

-- a call that may bring a write buffer or a Job, or take one
abbrev pub carries : Part → Bool
carries part.Streams = false
carries part.Buffers = true
carries (part.Composition d) = false
carries part.Display = false
carries (part.Begin d) = true
carries part.End = true

-- which error register takes the refusal of a call: that of a device, the display's, or none
pub data Register : Type 0 where
  of_device : ℕ → Register
  of_display : Register
  no_register : Register

abbrev pub recorded_by : Part → Register
recorded_by part.Streams = no_register
recorded_by part.Buffers = no_register
recorded_by (part.Composition d) = of_device d
recorded_by part.Display = of_display
recorded_by (part.Begin None) = no_register
recorded_by (part.Begin (Some d)) = of_device d
recorded_by part.End = no_register

abbrev pub register_of : Call → Register
register_of call = recorded_by (part_of call)

-- a call of composition is one of the device that it names
pub of_core : (p : Part) → is_of_core p ≡ true → p ≡ part.Composition (device_in p)
of_core part.Streams is = absurd cc
of_core part.Buffers is = absurd cc
of_core (part.Composition d) is = refl
of_core part.Display is = absurd cc
of_core (part.Begin d) is = absurd cc
of_core part.End is = absurd cc
