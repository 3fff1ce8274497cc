-- The requests that the policy tells apart.
use Rattle.std.specs.Prelude.{ℕ, ℤ, Bool, true, false, Option, Some, None, if◌then◌else◌}
use Rattle.wf_pixel.specs.declared.Format.{Format}
use Rattle.wf_stream.specs.Buffers.{buffer_bytes}
use Rattle.wf_calls.specs.declared.request.Request.{Request}
use Rattle.wf_calls.specs.declared.request.Request.TheVariants as request
use Rattle.wf_model.specs.Streams.{may_make, new_buffers}

-- a request for a new stream
abbrev pub makes_stream : Request → Bool
makes_stream (request.StreamNew width height format buffers) = true
makes_stream (request.StreamQueue width height format depth) = true
makes_stream _ = false

-- the stream that a request names which an app may ask for only of its own
abbrev pub named_stream : Request → Option ℕ
named_stream (request.StreamDestroy stream) = Some stream
named_stream (request.Acquire stream) = Some stream
named_stream _ = None

-- the requests that an app may ask for
abbrev pub is_for_apps : Request → Bool
is_for_apps (request.StreamNew width height format buffers) = true
is_for_apps (request.StreamQueue width height format depth) = true
is_for_apps (request.StreamDestroy stream) = true
is_for_apps (request.Acquire stream) = true
is_for_apps _ = false

-- the bytes of all buffers of a stream of these numbers; none where one is out of its range, since the machine refuses it
abbrev pub stream_bytes : Bool → ℤ → ℤ → Format → ℤ → ℕ
stream_bytes queue width height format count =
    if may_make queue width height count then buffer_bytes (new_buffers queue width height format count) else 0

-- the bytes that a request asks for
abbrev pub asked_bytes : Request → ℕ
asked_bytes (request.StreamNew width height format buffers) = stream_bytes false width height format buffers
asked_bytes (request.StreamQueue width height format depth) = stream_bytes true width height format depth
asked_bytes _ = 0
