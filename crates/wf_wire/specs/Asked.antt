-- What a message asks of a desk, by the canvas that the session holds, and what becomes of that canvas.
use Rattle.std.specs.Prelude.{Bool, true, false, ◌&&◌, Option, Some, None, is_some, option_map, if◌then◌else◌}
use Rattle.wf_calls.specs.declared.call.Call.{Call}
use Rattle.wf_calls.specs.declared.call.Call.TheVariants as call
use Rattle.wf_calls.specs.declared.reply.Reply.{Reply}
use Rattle.wf_calls.specs.declared.request.Request.{Request}
use Rattle.wf_calls.specs.declared.request.Request.TheVariants as request
use Rattle.wf_calls.specs.Replies.{given_canvas}
use Rattle.wf_calls.specs.Requests.{call_of}
use Rattle.wf_image.specs.declared.canvas.Canvas.{Canvas}
use Rattle.wf_image.specs.Paints.{painted_canvas}
use Rattle.wf_wire.specs.declared.asking.Wanted.{Wanted}
use Rattle.wf_wire.specs.declared.asking.Wanted.TheVariants as wanted
use Rattle.wf_wire.specs.declared.message.Message.{Message}
use Rattle.wf_wire.specs.declared.message.Message.TheVariants as message

abbrev pub is_acquire : Request → Bool
is_acquire (request.Acquire stream) = true
is_acquire _ = false

-- a port is shown
abbrev pub is_show : Message → Bool
is_show (message.Ask (request.BeginPort port)) = true
is_show _ = false

-- the call that a message makes: none where it wants a canvas that is not held, or to hold a second one, and none for a paint
abbrev pub asked : Option Canvas → Message → Option Call
asked held (message.Ask r) = if is_some held && is_acquire r then None else Some (call_of r)
asked held message.Post = option_map call.Post held
asked held message.Discard = option_map call.Discard held
asked held (message.Paint paint) = None

-- the call that is wanted of a desk
abbrev pub wanted_call : Wanted → Call
wanted_call (wanted.Small small) = small
wanted_call (wanted.Frame r) = call_of r

-- the canvas that stays while the call is made
abbrev pub lent : Message → Option Canvas → Option Canvas
lent message.Post held = None
lent message.Discard held = None
lent _ held = held

-- what comes with the answer takes the place of the canvas that was held
abbrev pub moves_canvas : Message → Bool
moves_canvas (message.Ask r) = is_acquire r
moves_canvas _ = true

-- the canvas that is held after the answer to the call
abbrev pub held_after : Message → Option Canvas → Reply → Option Canvas
held_after m held reply = if moves_canvas m then given_canvas reply.payload else held

-- and after a message that makes no call
abbrev pub quiet_canvas : Message → Option Canvas → Option Canvas
quiet_canvas (message.Paint paint) held = option_map (painted_canvas paint) held
quiet_canvas _ held = held
