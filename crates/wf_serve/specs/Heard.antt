-- What a message leaves, what is answered to it, and what is shown.
use Rattle.std.specs.Prelude.{◌≡◌, ℕ, ◌+◌, ◌==◌, ◌&&◌, ◌||◌, not, Bool, true, false, nat_le, List, [], ◌++◌, length, drop, find, set}
use Rattle.std.specs.Prelude.{◌*◌, ◌%◌, ◌^◌, nat_lt, map}
use Rattle.std.specs.Prelude.{get_or, Option, Some, None, if◌then◌else◌}
use Rattle.std.specs.Int.{cast_unsigned, w64}
use Rattle.wf_calls.specs.Parts.{is_begin}
use Rattle.wf_calls.specs.Requests.{call_of}
use Rattle.wf_calls.specs.declared.call.Call.{Call}
use Rattle.wf_calls.specs.declared.call.Call.TheVariants as call
use Rattle.wf_calls.specs.declared.call.Job.{Job}
use Rattle.wf_calls.specs.declared.code.Code.TheVariants as code
use Rattle.wf_guard.specs.LiveStreams.{destroyed_by}
use Rattle.wf_guard.specs.Policy.{left_by}
use Rattle.wf_guard.specs.Serving.{Served, refused_by, served}
use Rattle.wf_guard.specs.Serving.Asked.{discard}
use Rattle.wf_guard.specs.declared.clients.TheConstants.{MANAGER, OUTPUT}
use Rattle.wf_guard.specs.declared.owners.Owned.{Owned}
use Rattle.wf_guard.specs.declared.screen.Screen.{Screen}
use Rattle.wf_host.specs.Made.{not_made}
use Rattle.wf_host.specs.declared.told.Told.{Told}
use Rattle.wf_wire.specs.Answers.{image_bytes}
use Rattle.wf_wire.specs.declared.message.Message.{Message}
use Rattle.wf_wire.specs.declared.message.Message.TheVariants as message
use Rattle.wf_serve.specs.AnswerBytes.{answer_bytes, answer_to}
use Rattle.wf_serve.specs.Bodies.{message_in, word_at}
use Rattle.wf_serve.specs.Drawing.{asked_of, put_by}
use Rattle.wf_serve.specs.Kinds.{kind_of}
use Rattle.wf_serve.specs.Pictures.{forgotten}
use Rattle.wf_serve.specs.Ticks.{Framed, framed, ticked}
use Rattle.wf_serve.specs.declared.hearing.TheConstants.{MOST_TOLD}
use Rattle.wf_serve.specs.declared.kind.Kind.{Kind}
use Rattle.wf_serve.specs.declared.kind.Kind.TheVariants as kind
use Rattle.wf_serve.specs.declared.kind.TheConstants.{LEFT, SIZE, TELL, TICK, TOLD, WAIT}
use Rattle.wf_serve.specs.declared.pixels.Rectangle.{Rectangle}

abbrev pub done : Told
done = record { code = 0; value = 0 }

-- one answer, to who sent the message
abbrev pub one : ℕ → ℕ → Told → List ℕ
one client number t = answer_bytes (answer_to client number t [])

-- the call by which a message begins a frame, where it does
abbrev pub begin_in : Option Message → Option Call
begin_in (Some (message.Ask r)) = if is_begin (call_of r) then Some (call_of r) else None
begin_in m = None

-- the picture of a port's frame, as it comes with the answer: its sides and its pixels
abbrev pub shot_bytes : Call → Option Job → List ℕ
shot_bytes (call.BeginPort port) (Some job) = image_bytes job.image
shot_bytes c frame = []

-- the rectangle that a body names, before its pixels
abbrev pub rectangle_in : List ℕ → Rectangle
rectangle_in body = record { x = word_at body 0; y = word_at body 1; w = word_at body 2; h = word_at body 3 }

-- the width of a stream times 65536, and its height
abbrev pub size_told : Owned → Told
size_told o =
    record { code = 0; value = cast_unsigned w64 o.width % 65536 * 65536 + cast_unsigned w64 o.height % 65536 }

-- a body that is the handle of a stream
abbrev pub is_handle : List ℕ → Bool
is_handle body = length body == 8 && nat_lt (word_at body 0) (2 ^ 32)

abbrev pub sized : ℕ → List ℕ → Served → List ℕ
sized client body v = if is_handle body then of_stream (word_at body 0) else one client SIZE (refused_by code.IllegalArgument)
  where
    of_owned : Option Owned → List ℕ
    of_owned None = one client SIZE (refused_by code.BadHandle)
    of_owned (Some o) = one client SIZE (size_told o)

    of_stream : ℕ → List ℕ
    of_stream stream = of_owned (find (λ o. (o.stream == stream) && ((client == MANAGER) || (o.client == client))) v.owned)

-- a client waits for the next tick, unless it does already; it is answered then
abbrev pub waited : ℕ → List ℕ → Served → Served × List ℕ
waited client body v =
    if not (length body == 0) then (v, one client WAIT (refused_by code.IllegalArgument))
    else if get_or v.waiting client false then (v, one client WAIT not_made)
    else (record v { waiting = set v.waiting client true }, [])

-- the window manager and the output tell every client something, and apps the window manager
abbrev pub may_tell : ℕ → ℕ → Bool
may_tell client to = (client == MANAGER) || ((client == OUTPUT) || (to == MANAGER))

-- a client is told so many bytes at most, with the eight of its number
abbrev pub tells : ℕ → ℕ → Bool
tells to count = nat_le count (8 + MOST_TOLD) && nat_le to OUTPUT

abbrev pub told_to : ℕ → ℕ → List ℕ → List ℕ
told_to client to body =
    if tells to (length body) then (if may_tell client to then
    answer_bytes (answer_to to TOLD (record { code = 0; value = client }) (drop 8 body)) ++ one client TELL done
    else one client TELL (refused_by code.Unsupported))
    else one client TELL (refused_by code.IllegalArgument)

abbrev pub told_by : ℕ → List ℕ → List ℕ
told_by client body =
    if nat_le 8 (length body) then told_to client (word_at body 0) body else one client TELL (refused_by code.IllegalArgument)

-- the next output has seen no picture
abbrev pub left_shown : ℕ → List Screen → List Screen
left_shown k shown = if k == OUTPUT then map forgotten shown else shown

-- what a message leaves, what is answered, and what is shown
pub record Heard : Type 0 where
  pub now : Served
  pub answers : List ℕ
  pub frames : List ℕ

-- nothing is shown
abbrev pub quietly : Served → List ℕ → Heard
quietly v ans = record { now = v; answers = ans; frames = [] }

-- one answer, to who sent the message
abbrev pub answered : ℕ → ℕ → Served × Told → Heard
answered client number x = quietly x.0 (one client number x.1)

-- a message of a call or of a paint, where memory is refused to a creation or not
abbrev pub asks : ℕ → Option Message → Bool → Served → Served × Told
asks client None refuses v = (v, refused_by code.IllegalArgument)
asks client (Some m) refuses v = served client (asked_of m) refuses v

-- a frame begins, is painted and ends at once; the answer comes with its picture where it is a port's
abbrev pub begins : ℕ → ℕ → Call → Served → Heard
begins client number c v =
    let x : Framed = framed client c v.machine in
    quietly (record v { machine = x.now }) (answer_bytes (answer_to client number x.told (shot_bytes c x.frame)))

abbrev pub calls : Option Call → ℕ → ℕ → Option Message → Bool → Served → Heard
calls (Some c) client number m refuses v = begins client number c v
calls None client number m refuses v = answered client number (asks client m refuses v)

-- pixels are put, where the body names a rectangle before them
abbrev pub puts : ℕ → List ℕ → Served → Served × Told
puts client body v =
    if nat_le 32 (length body) then put_by client (rectangle_in body) (drop 32 body) v else (v, refused_by code.IllegalArgument)

-- a client is gone: what it holds is given back, what it made is destroyed, and it waits no more
abbrev pub left : ℕ → Bool → Served → Served
left k refuses v =
    let x : Served = (served k discard refuses v).0 in
    record x {
      machine = destroyed_by k x.owned x.machine;
      owned = left_by k x.owned;
      waiting = set x.waiting k false;
      shown = left_shown k x.shown;
    }

-- the window manager is told
abbrev pub leaves : ℕ → ℕ → List ℕ → Bool → Served → Heard
leaves client number body refuses v =
    if length body == 8 && nat_le (word_at body 0) OUTPUT
    then quietly (left (word_at body 0) refuses v)
    (answer_bytes (answer_to MANAGER LEFT (record { code = 0; value = word_at body 0 }) []) ++ one client number done)
    else quietly v (one client number (refused_by code.IllegalArgument))

-- a tick has no body
abbrev pub ticks : ℕ → List ℕ → Served → Heard
ticks client body v =
    if length body == 0
    then record { now = (ticked v).now; answers = (ticked v).answers; frames = (ticked v).frames }
    else quietly v (one client TICK (refused_by code.IllegalArgument))

-- a message of a kind
abbrev pub heard_as : Kind → ℕ → ℕ → List ℕ → Bool → Served → Heard
heard_as kind.Refused client number body refuses v = answered client number (v, refused_by code.Unsupported)
heard_as kind.Call client number body refuses v =
    calls (begin_in (message_in number body)) client number (message_in number body) refuses v
heard_as kind.Put client number body refuses v = answered client number (puts client body v)
heard_as kind.Size client number body refuses v = quietly v (sized client body v)
heard_as kind.Wait client number body refuses v = quietly (waited client body v).0 (waited client body v).1
heard_as kind.Tell client number body refuses v = quietly v (told_by client body)
heard_as kind.Gone client number body refuses v = leaves client number body refuses v
heard_as kind.Tick client number body refuses v = ticks client body v

-- a message of a client, by its number and its body, where memory is refused to the creation that it asks for or not
abbrev pub heard : ℕ → ℕ → List ℕ → Bool → Served → Heard
heard client number body refuses v = heard_as (kind_of client number) client number body refuses v

-- a message was heard so, where memory was refused or not
pub record Hears (client number : ℕ) (body : List ℕ) (old new : Served) (ans fs : List ℕ) : Type 0 where
  pub refuses : Bool
  pub is : heard client number body refuses old ≡ record { now = new; answers = ans; frames = fs }
