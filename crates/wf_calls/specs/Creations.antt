-- The calls that make an object. tools/calls writes this file.
use Rattle.std.specs.Prelude.{◌≡◌, Bool, true, false, refl}
use Rattle.wf_calls.specs.declared.call.Call.{Call}
use Rattle.wf_calls.specs.declared.call.Call.TheVariants as call
use Rattle.wf_calls.specs.Parts.{carries, part_of}

-- a creation, which answers a new handle, and alone takes memory
abbrev pub is_creation : Call → Bool
is_creation (call.StreamNew width height format buffers) = true
is_creation (call.StreamQueue width height format depth) = true
is_creation (call.StreamDestroy stream) = false
is_creation (call.Acquire stream) = false
is_creation (call.Post canvas) = false
is_creation (call.Discard canvas) = false
is_creation (call.Stat what) = false
is_creation call.DeviceNew = true
is_creation (call.DeviceDestroy device) = false
is_creation (call.GetError device) = false
is_creation (call.ScreenContext device port) = true
is_creation (call.StreamContext device stream) = true
is_creation (call.ContextDestroy device context) = false
is_creation (call.ElementNew device context) = true
is_creation (call.ElementDestroy device element) = false
is_creation (call.SourceNew device context stream) = true
is_creation (call.SourceDestroy device source) = false
is_creation (call.MaskNew device context stream) = true
is_creation (call.MaskDestroy device mask) = false
is_creation (call.ElementSet device element attr value) = false
is_creation (call.ElementGet device element attr index) = false
is_creation (call.ElementInsert device element below) = false
is_creation (call.ElementRemove device element) = false
is_creation (call.ElementAbove device element) = false
is_creation (call.ElementBelow device element) = false
is_creation (call.ContextSet device context attr value) = false
is_creation (call.ContextGet device context attr index) = false
is_creation (call.Commit device context) = false
is_creation (call.Activate device context) = false
is_creation (call.Deactivate device context) = false
is_creation (call.PortSet port attr value) = false
is_creation (call.PortGet port attr index) = false
is_creation (call.Attach port on) = false
is_creation (call.PipeSet pipe attr value) = false
is_creation (call.PipeGet pipe attr index) = false
is_creation (call.PipeBindPort pipe port) = false
is_creation (call.DisplaySource pipe stream) = true
is_creation (call.DisplaySourceDestroy source) = false
is_creation (call.PipeBindSource pipe source transition) = false
is_creation call.CommitDevice = false
is_creation (call.CommitPort port) = false
is_creation (call.CommitPipe pipe) = false
is_creation call.DisplayError = false
is_creation (call.BeginNext after) = false
is_creation (call.BeginPort port) = false
is_creation (call.BeginContext device context) = false
is_creation (call.End job) = false

-- nothing goes with a creation or comes with its answer
pub creations_carry_nothing : (c : Call) → is_creation c ≡ true → carries (part_of c) ≡ false
creations_carry_nothing (call.StreamNew width height format buffers) made = refl
creations_carry_nothing (call.StreamQueue width height format depth) made = refl
creations_carry_nothing call.DeviceNew made = refl
creations_carry_nothing (call.ScreenContext device port) made = refl
creations_carry_nothing (call.StreamContext device stream) made = refl
creations_carry_nothing (call.ElementNew device context) made = refl
creations_carry_nothing (call.SourceNew device context stream) made = refl
creations_carry_nothing (call.MaskNew device context stream) made = refl
creations_carry_nothing (call.DisplaySource pipe stream) made = refl
creations_carry_nothing _ made = absurd cc
