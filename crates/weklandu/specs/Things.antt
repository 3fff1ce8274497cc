-- What a call leaves of the things that handles lead to.
use Rattle.std.specs.Prelude.{◌≡◌, ◌⊎◌, ℕ, zero, suc, Bool, true, false, List, Option, Some, None}
use Rattle.wf_calls.specs.Codes.{code_number}
use Rattle.wf_calls.specs.declared.call.Job.{Job}
use Rattle.wf_calls.specs.declared.code.Code.TheVariants as code
use Rattle.wf_host.specs.Held.{holds}
use Rattle.wf_host.specs.Made.{Hosted, not_made}
use Rattle.wf_host.specs.Reading.{Reads, Writes}
use Rattle.wf_host.specs.declared.order.Order.{Order}
use Rattle.wf_host.specs.declared.order.Order.TheVariants as order
use Rattle.wf_host.specs.declared.told.Told.{Told}
use Rattle.wf_host.specs.declared.told.TheConstants.{NOT_MADE}
use Rattle.weklandu.specs.declared.thing.Extent.{Extent}
use Rattle.weklandu.specs.declared.thing.Thing.{Thing}
use Rattle.weklandu.specs.declared.thing.Thing.TheVariants as thing

-- a machine before and after, with what is answered, where a thing is a machine; any other is as it was, and what is answered says so
abbrev pub AtMachine : {R : Type 0} → (R → Type 0) → (Hosted → Hosted → R → Type 0) → Thing → Thing → R → Type 0
AtMachine No P (thing.Machine old) new r = (now : Hosted) × (new ≡ thing.Machine now) × P old now r
AtMachine No P (thing.Frame f) new r = (new ≡ thing.Frame f) × No r

-- the same of a handle, where one may be closed
abbrev pub OfMachine : {R : Type 0} → (R → Type 0) → (Hosted → Hosted → R → Type 0) → Option Thing → Option Thing → R → Type 0
OfMachine No P (Some old) new r = (now : Thing) × (new ≡ Some now) × AtMachine No P old now r
OfMachine No P None new r = (new ≡ None) × No r

-- and of a place for frames
abbrev pub AtFrame : {R : Type 0} → (R → Type 0) → (Option Job → Option Job → R → Type 0) → Thing → Thing → R → Type 0
AtFrame No P (thing.Frame old) new r = (now : Option Job) × (new ≡ thing.Frame now) × P old now r
AtFrame No P (thing.Machine h) new r = (new ≡ thing.Machine h) × No r

abbrev pub OfFrame : {R : Type 0} → (R → Type 0) → (Option Job → Option Job → R → Type 0) → Option Thing → Option Thing → R → Type 0
OfFrame No P (Some old) new r = (now : Thing) × (new ≡ Some now) × AtFrame No P old now r
OfFrame No P None new r = (new ≡ None) × No r

-- and of both
abbrev pub AtBoth : (Hosted → Hosted → Option Job → Option Job → Told → Type 0) → Thing → Thing → Thing → Thing → Told → Type 0
AtBoth P (thing.Machine old) new (thing.Frame job) after t =
    (m : Hosted) × (f : Option Job) × (new ≡ thing.Machine m) × (after ≡ thing.Frame f) × P old m job f t
AtBoth P old new before after t = (new ≡ old) × (after ≡ before) × (t ≡ not_made)

abbrev pub OfBoth : (Hosted → Hosted → Option Job → Option Job → Told → Type 0) → Option Thing → Option Thing → Option Thing → Option Thing
    → Told → Type 0
OfBoth P (Some old) new (Some before) after t =
    (now : Thing) × (then : Thing) × (new ≡ Some now) × (after ≡ Some then) × AtBoth P old now before then t
OfBoth P old new before after t = (new ≡ old) × (after ≡ before) × (t ≡ not_made)

-- what says that no call was made
abbrev pub IsNone : Told → Type 0
IsNone t = t ≡ not_made

abbrev pub IsNoCode : ℕ → Type 0
IsNoCode n = n ≡ NOT_MADE

-- the number that tells whether something was done
abbrev pub told_done : Bool → ℕ
told_done true = code_number code.Ok
told_done false = NOT_MADE

-- 1 for what is so, and 0
abbrev pub bit_of : Bool → ℕ
bit_of true = 1
bit_of false = 0

-- whether a canvas of a stream is held
abbrev pub TellsHeld : ℕ → Hosted → Hosted → ℕ → Type 0
TellsHeld stream old new r = (new ≡ old) × (r ≡ bit_of (holds stream old.canvases))

-- pixels are written into the canvas of a stream
abbrev pub WritesTold : ℕ → List ℕ → ℕ → Hosted → Hosted → ℕ → Type 0
WritesTold stream pixels stride old new n = (done : Bool) × Writes stream pixels stride old new done × (n ≡ told_done done)

-- the order of bytes that a number names
abbrev pub order_of : ℕ → Option Order
order_of zero = Some order.Rgba
order_of (suc zero) = Some order.Bgra
order_of (suc (suc n)) = None

-- the picture of a frame is copied out in this order, or nothing is where there is none of that number
abbrev pub ReadsIn : Option Order → ℕ → List ℕ → List ℕ → Option Job → Option Job → ℕ → Type 0
ReadsIn (Some o) stride out left job now n = (done : Bool) × Reads job stride o out left done × (now ≡ job) × (n ≡ told_done done)
ReadsIn None stride out left job now n = (left ≡ out) × (now ≡ job) × (n ≡ NOT_MADE)

-- the sides of the picture of a frame, or zeros
abbrev pub extent_of : Option Job → Extent
extent_of (Some job) = record { w = job.image.size.w; h = job.image.size.h }
extent_of None = record { w = 0; h = 0 }

abbrev pub Measures : Option Job → Option Job → Extent → Type 0
Measures job now e = (now ≡ job) × (e ≡ extent_of job)

-- a thing is opened behind a closed handle, or there is no memory; an open one is as it was
abbrev pub OpensOne : Thing → Option Thing → Option Thing → ℕ → Type 0
OpensOne first (Some x) new n = (new ≡ Some x) × (n ≡ NOT_MADE)
OpensOne first None new n =
    ((new ≡ Some first) × (n ≡ code_number code.Ok)) ⊎ ((new ≡ None) × (n ≡ code_number code.OutOfMemory))

-- a machine is opened, where its ports may be declared
abbrev pub Opens : Bool → Hosted → Option Thing → Option Thing → ℕ → Type 0
Opens true first old new n = OpensOne (thing.Machine first) old new n
Opens false first (Some x) new n = (new ≡ Some x) × (n ≡ NOT_MADE)
Opens false first None new n = (new ≡ None) × (n ≡ code_number code.IllegalArgument)
