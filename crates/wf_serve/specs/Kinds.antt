-- The kinds of messages, by who sends them and by their numbers.
use Rattle.std.specs.Prelude.{ℕ, Bool, true, false, not, ◌&&◌, ◌||◌, ◌==◌, nat_le, nat_lt, if◌then◌else◌}
use Rattle.wf_guard.specs.declared.clients.TheConstants.{BROKER, MANAGER, OUTPUT}
use Rattle.wf_serve.specs.declared.kind.Kind.{Kind}
use Rattle.wf_serve.specs.declared.kind.Kind.TheVariants as kind
use Rattle.wf_serve.specs.declared.kind.TheConstants.{FIRST_PAINT, GONE, LAST_OF_STREAMS, PUT, SIZE, TELL, TICK, WAIT}

-- an app sends messages of streams and canvases, paints, and those that are no calls
abbrev pub is_of_apps : ℕ → Bool
is_of_apps number = nat_le number LAST_OF_STREAMS || nat_le FIRST_PAINT number

-- the broker says who is gone, the output ticks and tells, the window manager sends all others, and apps those of their own streams
abbrev pub may_send : ℕ → ℕ → Bool
may_send client number =
    if client == BROKER then number == GONE
    else if client == OUTPUT then (number == TICK) || (number == TELL)
    else nat_lt client OUTPUT
    && (not (number == GONE) && (not (number == TICK) && (nat_le number SIZE && ((client == MANAGER) || is_of_apps number))))

abbrev pub kind_in : ℕ → Kind
kind_in number =
    if number == GONE then kind.Gone
    else if number == PUT then kind.Put
    else if number == TICK then kind.Tick
    else if number == WAIT then kind.Wait
    else if number == TELL then kind.Tell
    else if number == SIZE then kind.Size
    else kind.Call

abbrev pub kind_of : ℕ → ℕ → Kind
kind_of client number = if may_send client number then kind_in number else kind.Refused

abbrev pub is_tick : Kind → Bool
is_tick kind.Tick = true
is_tick _ = false
