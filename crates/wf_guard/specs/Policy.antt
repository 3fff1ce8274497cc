-- The policy: what a client may ask for, by who it is and by who made which live stream.
use Rattle.std.specs.Prelude.{ℕ, ℤ, ◌+◌, ◌≤◌, Bool, not, ◌&&◌, ◌||◌, ◌==◌, nat_le, nat_lt, List, [], ◌∷◌, ◌++◌, filter, length, count_by}
use Rattle.std.specs.Prelude.{sum_by, Option, Some, None, if◌then◌else◌}
use Rattle.std.specs.List.{list_any}
use Rattle.wf_calls.specs.Parts.{is_begin}
use Rattle.wf_calls.specs.Requests.{call_of}
use Rattle.wf_calls.specs.declared.code.Code.{Code}
use Rattle.wf_calls.specs.declared.code.Code.TheVariants as code
use Rattle.wf_calls.specs.declared.request.Request.{Request}
use Rattle.wf_calls.specs.declared.request.Request.TheVariants as request
use Rattle.wf_stream.specs.declared.TheConstants.{MOST_STREAMS}
use Rattle.wf_guard.specs.Requests.{asked_bytes, is_for_apps, makes_stream, named_stream}
use Rattle.wf_guard.specs.declared.clients.TheConstants.{APP_BYTES, APP_STREAMS, MANAGER, MANAGER_BYTES, MANAGER_STREAMS}
use Rattle.wf_guard.specs.declared.owners.Owned.{Owned}

-- whether a client made a live stream
abbrev pub owns : ℕ → ℕ → List Owned → Bool
owns client stream owned = list_any (λ o. (o.client == client) && (o.stream == stream)) owned

-- the window manager may name every stream, and an app its own
abbrev pub may_name : ℕ → ℕ → List Owned → Bool
may_name client stream owned = (client == MANAGER) || owns client stream owned

-- how many live streams a client may have
abbrev pub share : ℕ → ℕ
share client = if client == MANAGER then MANAGER_STREAMS else APP_STREAMS

-- how many bytes their buffers may take
abbrev pub share_bytes : ℕ → ℕ
share_bytes client = if client == MANAGER then MANAGER_BYTES else APP_BYTES

-- how many live streams a client has
abbrev pub owned_streams : ℕ → List Owned → ℕ
owned_streams client owned = count_by (λ o. o.client == client) owned

-- how many bytes their buffers take
abbrev pub owned_bytes : ℕ → List Owned → ℕ
owned_bytes client owned = sum_by (λ o. if o.client == client then o.bytes else 0) owned

-- it has as many, or all clients together have as many as there may be, or with these bytes it would have more
abbrev pub lacks_share : ℕ → ℕ → List Owned → Bool
lacks_share client bytes owned =
    nat_le MOST_STREAMS (length owned) || nat_le (share client) (owned_streams client owned)
    || nat_lt (share_bytes client) (owned_bytes client owned + bytes)

-- a client's live streams, and what their buffers take, are in its share
pub record KeepsShare (client : ℕ) (owned : List Owned) : Type 0 where
  pub streams : owned_streams client owned ≤ share client
  pub bytes : owned_bytes client owned ≤ share_bytes client

-- why a request is refused before the machine sees it, if it is: frames begin by ticks, and by messages of their own; an app asks for
-- streams alone; a new stream has to be in its client's share; and a foreign stream is as one that is not there
abbrev pub refusal_of : ℕ → Request → List Owned → Option Code
refusal_of client r owned =
    if is_begin (call_of r) || not ((client == MANAGER) || is_for_apps r) then Some code.Unsupported
    else if makes_stream r then (if lacks_share client (asked_bytes r) owned then Some code.Limit else None)
    else of_named (named_stream r)
  where
    of_named : Option ℕ → Option Code
    of_named None = None
    of_named (Some stream) = if may_name client stream owned then None else Some code.BadHandle

-- the makers of the streams that are left without this one
abbrev pub forgotten : ℕ → List Owned → List Owned
forgotten stream owned = filter (λ o. not (o.stream == stream)) owned

-- and without those that a client made
abbrev pub left_by : ℕ → List Owned → List Owned
left_by client owned = filter (λ o. not (o.client == client)) owned

-- a new stream with its maker, its sides and its bytes
abbrev pub made_by : ℕ → ℕ → ℤ → ℤ → ℕ → Owned
made_by client value width height bytes =
    record { stream = value; client = client; width = width; height = height; bytes = bytes }

-- the makers after a request that was carried out, with the value that it was answered
abbrev pub owned_after : ℕ → Request → ℕ → List Owned → List Owned
owned_after client (request.StreamNew width height format buffers) value owned =
    owned ++ made_by client value width height (asked_bytes (request.StreamNew width height format buffers)) ∷ []
owned_after client (request.StreamQueue width height format depth) value owned =
    owned ++ made_by client value width height (asked_bytes (request.StreamQueue width height format depth)) ∷ []
owned_after client (request.StreamDestroy stream) value owned = forgotten stream owned
owned_after client _ value owned = owned
