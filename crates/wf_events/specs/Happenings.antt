-- What happens at the display in one call: from the state before it, the call, its answer and the state after it.
use Rattle.std.specs.Prelude.{ℕ, ◌+◌, Bool, true, false, not, ◌&&◌, ◌==◌, List, [], ◌∷◌, ◌++◌, map, filter, length, Option, Some, None}
use Rattle.std.specs.Prelude.{is_some, if◌then◌else◌}
use Rattle.wf_words.specs.Keyed.{is_in, nth}
use Rattle.wf_words.specs.Whole.{count_of}
use Rattle.wf_scene.specs.Values.{flag_of}
use Rattle.wf_stream.specs.Streams.{KeptStream}
use Rattle.wf_calls.specs.declared.call.Call.{Call}
use Rattle.wf_calls.specs.declared.call.Call.TheVariants as call
use Rattle.wf_calls.specs.declared.display.Transition.{Transition}
use Rattle.wf_calls.specs.declared.display.Transition.TheVariants as transition
use Rattle.wf_calls.specs.declared.reply.Payload.{Payload}
use Rattle.wf_calls.specs.declared.reply.Payload.TheVariants as payload
use Rattle.wf_calls.specs.declared.reply.Reply.{Reply}
use Rattle.wf_calls.specs.Codes.{is_ok_code}
use Rattle.wf_model.specs.declared.display.Extent.{Extent}
use Rattle.wf_model.specs.declared.display.Extent.TheVariants as extent
use Rattle.wf_model.specs.declared.display.Pipeline.{Pipeline}
use Rattle.wf_model.specs.declared.display.Port.{Port}
use Rattle.wf_model.specs.declared.display.Request.{Request}
use Rattle.wf_model.specs.DisplayCommits.{takes_pipeline}
use Rattle.wf_model.specs.State.{State}
use Rattle.wf_events.specs.declared.happening.Happening.{Happening}
use Rattle.wf_events.specs.declared.happening.Happening.TheVariants as happening

-- bindings

-- a request that shows at its commit
abbrev pub is_for_now : Option Request → Bool
is_for_now None = false
is_for_now (Some r) = of r.transition
  where
    of : Transition → Bool
    of transition.Now = true
    of transition.Vsync = false

-- a commit binds a pipeline that it takes and that has a request for now
abbrev pub binds_at_commit : Extent → ℕ → Pipeline → Bool
binds_at_commit e l x = takes_pipeline e l x && is_for_now x.request

-- a port's frame binds a pipeline that is committed to it and at which something waits
abbrev pub binds_at_begin : ℕ → ℕ → Pipeline → Bool
binds_at_begin p l x = (x.committed_port == p) && is_some x.pending

abbrev pub bind_if : Bool → ℕ → List Happening
bind_if true l = happening.Bind l ∷ []
bind_if false l = []

-- the pipelines that pass a test of their number and themselves, from a number on, by rising number
abbrev pub bindings : (ℕ → Pipeline → Bool) → ℕ → List Pipeline → List Happening
bindings p l [] = []
bindings p l (x ∷ xs) = bind_if (p l x) l ++ bindings p (l + 1) xs

-- which of them a call binds that was carried out
abbrev pub bound_by : Call → Payload → List Pipeline → List Happening
bound_by call.CommitDevice given xs = bindings (binds_at_commit extent.Device) 1 xs
bound_by (call.CommitPort p) given xs = bindings (binds_at_commit (extent.Port (count_of p))) 1 xs
bound_by (call.CommitPipe l) given xs = bindings (binds_at_commit (extent.Pipeline (count_of l))) 1 xs
bound_by (call.BeginPort p) (payload.Job job) xs = bindings (binds_at_begin (count_of p)) 1 xs
bound_by _ _ xs = []

-- attachments

abbrev pub attach_if : Bool → ℕ → Bool → List Happening
attach_if true p on = happening.Attach p on ∷ []
attach_if false p on = []

abbrev pub apart : Bool → Bool → Bool
apart one other = if one then not other else other

-- a port whose attachment a call changed that was carried out
abbrev pub attached_by : Call → List Port → List Happening
attached_by (call.Attach p on) ports = of_port (nth (count_of p) ports) (flag_of on)
  where
    of_port : Option Port → Option Bool → List Happening
    of_port (Some x) (Some wanted) = attach_if (apart x.attached wanted) (count_of p) wanted
    of_port _ _ = []
attached_by _ ports = []

-- releases

-- how many streams are there no more
abbrev pub gone : List KeptStream → List KeptStream → ℕ
gone before after = length (filter (λ s. not (is_in s.number (map (λ t. t.number) after))) before)

abbrev pub released : ℕ → List Happening
released n = if n == 0 then [] else happening.Released n ∷ []

-- what a call that was carried out binds and attaches
abbrev pub carried : State → Call → Reply → List Happening
carried h c reply = bound_by c reply.payload h.display.pipelines ++ attached_by c h.display.ports

-- what happens in a call, by the state that it leaves and its answer
abbrev pub happen : State → Call → State × Reply → List Happening
happen h c done = (if is_ok_code done.1.code then carried h c done.1 else []) ++ released (gone h.streams done.0.streams)
