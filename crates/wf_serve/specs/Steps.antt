-- What the functions that hear a message leave, answer and show, kind by kind.
use Rattle.std.specs.Prelude.{◌≡◌, ℕ, ◌==◌, ◌&&◌, Bool, true, false, nat_le, List, [], ◌++◌, length, drop, set, Option, Some, None}
use Rattle.wf_calls.specs.declared.call.Call.{Call}
use Rattle.wf_calls.specs.declared.code.Code.{Code}
use Rattle.wf_calls.specs.declared.code.Code.TheVariants as code
use Rattle.wf_guard.specs.LiveStreams.{destroyed_by}
use Rattle.wf_guard.specs.Policy.{left_by}
use Rattle.wf_guard.specs.Serving.{Served, Serves, refused_by}
use Rattle.wf_guard.specs.Serving.Asked.{discard}
use Rattle.wf_guard.specs.declared.clients.TheConstants.{MANAGER, OUTPUT}
use Rattle.wf_host.specs.declared.told.Told.{Told}
use Rattle.wf_wire.specs.declared.message.Message.{Message}
use Rattle.wf_serve.specs.AnswerBytes.{answer_bytes, answer_to}
use Rattle.wf_serve.specs.Bodies.{message_in, word_at}
use Rattle.wf_serve.specs.Drawing.{Puts, asked_of}
use Rattle.wf_serve.specs.Heard.{begin_in, done, left_shown, one, rectangle_in, shot_bytes, sized, told_by, waited}
use Rattle.wf_serve.specs.Ticks.{Framed, framed, ticked}
use Rattle.wf_serve.specs.declared.kind.Kind.{Kind}
use Rattle.wf_serve.specs.declared.kind.Kind.TheVariants as kind
use Rattle.wf_serve.specs.declared.kind.TheConstants.{LEFT, TICK}

-- nothing changed, and it is refused by a code
abbrev pub IsRefused : Code → Served → Served → Told → Type 0
IsRefused why old new t = (new ≡ old) × (t ≡ refused_by why)

-- a message of a call or of a paint
abbrev pub Asks : ℕ → Option Message → Served → Served → Told → Type 0
Asks client None old new t = IsRefused code.IllegalArgument old new t
Asks client (Some m) old new t = Serves client (asked_of m) old new t

-- a frame begins, is painted and ends at once
abbrev pub BeginsOne : ℕ → ℕ → Call → Served → Served → List ℕ → Type 0
BeginsOne client number c old new ans =
    let x : Framed = framed client c old.machine in
    (new ≡ record old { machine = x.now }) × (ans ≡ answer_bytes (answer_to client number x.told (shot_bytes c x.frame)))

-- pixels are put
abbrev pub PutsIf : Bool → ℕ → List ℕ → Served → Served → Told → Type 0
PutsIf false client body old new t = IsRefused code.IllegalArgument old new t
PutsIf true client body old new t = Puts client (rectangle_in body) (drop 32 body) old new t

-- a client is gone: what it holds is given back, what it made is destroyed, and it waits no more; the window manager is told
abbrev pub HasLeft : ℕ → Served → Served → Type 0
HasLeft k old new = (middle : Served) × (t : Told) × Serves k discard old middle t
    × (new ≡ record middle {
      machine = destroyed_by k middle.owned middle.machine;
      owned = left_by k middle.owned;
      waiting = set middle.waiting k false;
      shown = left_shown k middle.shown;
    })

-- the window manager is told, where the body is a client's number
abbrev pub LeavesIf : Bool → ℕ → ℕ → List ℕ → Served → Served → List ℕ → Type 0
LeavesIf false client number body old new ans = (new ≡ old) × (ans ≡ one client number (refused_by code.IllegalArgument))
LeavesIf true client number body old new ans =
    HasLeft (word_at body 0) old new
    × (ans ≡ answer_bytes (answer_to MANAGER LEFT (record { code = 0; value = word_at body 0 }) []) ++ one client number done)

abbrev pub Leaves : ℕ → ℕ → List ℕ → Served → Served → List ℕ → Type 0
Leaves client number body old new ans = LeavesIf (length body == 8 && nat_le (word_at body 0) OUTPUT) client number body old new ans

-- a tick has no body
abbrev pub TicksIf : Bool → ℕ → Served → Served → List ℕ → List ℕ → Type 0
TicksIf false client old new ans fs = (new ≡ old) × (ans ≡ one client TICK (refused_by code.IllegalArgument)) × (fs ≡ [])
TicksIf true client old new ans fs = (new ≡ (ticked old).now) × (ans ≡ (ticked old).answers) × (fs ≡ (ticked old).frames)

-- a message of a call or of a paint with its answer
abbrev pub Calls : Option Call → ℕ → ℕ → Option Message → Served → Served → List ℕ → Type 0
Calls (Some c) client number m old new ans = BeginsOne client number c old new ans
Calls None client number m old new ans = (t : Told) × Asks client m old new t × (ans ≡ one client number t)

-- one answer, and nothing is shown
abbrev pub One : ℕ → ℕ → (Told → Type 0) → List ℕ → List ℕ → Type 0
One client number Does ans fs = (t : Told) × Does t × (ans ≡ one client number t) × (fs ≡ [])

-- a message of a kind
abbrev pub HearsKind : Kind → ℕ → ℕ → List ℕ → Served → Served → List ℕ → List ℕ → Type 0
HearsKind kind.Refused client number body old new ans fs = One client number (IsRefused code.Unsupported old new) ans fs
HearsKind kind.Call client number body old new ans fs =
    Calls (begin_in (message_in number body)) client number (message_in number body) old new ans × (fs ≡ [])
HearsKind kind.Put client number body old new ans fs = One client number (PutsIf (nat_le 32 (length body)) client body old new) ans fs
HearsKind kind.Size client number body old new ans fs = (new ≡ old) × (ans ≡ sized client body old) × (fs ≡ [])
HearsKind kind.Wait client number body old new ans fs = ((new, ans) ≡ waited client body old) × (fs ≡ [])
HearsKind kind.Tell client number body old new ans fs = (new ≡ old) × (ans ≡ told_by client body) × (fs ≡ [])
HearsKind kind.Gone client number body old new ans fs = Leaves client number body old new ans × (fs ≡ [])
HearsKind kind.Tick client number body old new ans fs = TicksIf (length body == 0) client old new ans fs
