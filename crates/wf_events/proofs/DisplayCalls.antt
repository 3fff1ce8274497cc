-- What the calls of the display bind and attach, seen in what they leave.
use Rattle.std.proofs.Common.{◌≡◌, ◌∙◌, ℕ, ◌-◌, Bool, List, [], set, Option, Some, None, refl, sym, ap}
use Rattle.std.specs.Prelude.{ℤ, Ok, Err}
use Rattle.wf_words.specs.Keyed.{nth}
use Rattle.wf_words.specs.Refusals.{◌>>=◌}
use Rattle.wf_words.specs.Whole.{count_of}
use Rattle.wf_scene.specs.Values.{flag_of}
use Rattle.wf_scene.specs.declared.look.Fault.{Fault}
use Rattle.wf_calls.specs.declared.call.Call.{Call}
use Rattle.wf_calls.specs.declared.call.Call.TheVariants as call
use Rattle.wf_calls.specs.declared.code.Code.TheVariants as code
use Rattle.wf_calls.specs.declared.display.PipeAttr.{PipeAttr}
use Rattle.wf_calls.specs.declared.display.PortAttr.{PortAttr}
use Rattle.wf_calls.specs.declared.display.Transition.{Transition}
use Rattle.wf_calls.specs.declared.reply.Payload.TheVariants as payload
use Rattle.wf_model.specs.declared.display.Extent.{Extent}
use Rattle.wf_model.specs.declared.display.Extent.TheVariants as extent
use Rattle.wf_model.specs.declared.display.Pipeline.{Pipeline}
use Rattle.wf_model.specs.declared.display.Port.{Port}
use Rattle.wf_model.specs.Calls.{display_call}
use Rattle.wf_model.specs.DisplayCommits.{commit_display, fault_from}
use Rattle.wf_model.specs.DisplaySides.{DisplaySide, pipeline, port, with_port}
use Rattle.wf_model.specs.Outcome.{Keeps, Outcome, found, keeps_behind}
use Rattle.wf_model.specs.Pipelines.{may_bind, named_port, pipe_bind_port, pipe_bind_source, pipe_set, pipeline_styled, with_cached}
use Rattle.wf_model.specs.Pipelines.{with_port_of, with_request}
use Rattle.wf_model.specs.Ports.{attach, port_set, port_styled, with_attached, with_style}
use Rattle.wf_model.specs.State.{DisplayState}
use Rattle.wf_events.specs.Happenings.{attached_by, bindings, binds_at_commit, bound_by}
use Rattle.wf_events.specs.Watching.{between_from}
use Rattle.wf_events.proofs.Differences.{attached_of, bound_of, commits_attach, commits_bind, nothing_between, one_changed}
use Rattle.wf_events.proofs.Differences.{replaced_is_unbound, self_attached, self_bound}

-- what a call that was carried out binds and attaches is seen between what it found and what it left
pub record Tells (c : Call) (before after : DisplayState) : Type 0 where
  pub bound : bound_by c payload.Nothing before.pipelines ≡ between_from bound_of 1 before.pipelines after.pipelines
  pub attached : attached_by c before.ports ≡ between_from attached_of 1 before.ports after.ports

-- no pipeline is bound, and no port attached

pub unbound : (xs : List Pipeline) → [] ≡ between_from bound_of 1 xs xs
unbound xs = sym (nothing_between bound_of self_bound 1 xs)

pub unattached : (xs : List Port) → [] ≡ between_from attached_of 1 xs xs
unattached xs = sym (nothing_between attached_of self_attached 1 xs)

-- a call on a port, or on a pipeline, that is there

module _ (c : Call) (d : DisplayState) (silent : bound_by c payload.Nothing d.pipelines ≡ []) where
  port_tells : (k : ℕ) (x y : Port) → nth k d.ports ≡ Some x → attached_by c d.ports ≡ attached_of k x y
      → Tells c d (record d { ports = set d.ports (k - 1) y })
  port_tells k x y at is =
      record {
        bound = silent ∙ unbound d.pipelines;
        attached = is ∙ sym (one_changed attached_of self_attached k d.ports x y at);
      }

module _ (c : Call) (d : DisplayState) (silent : bound_by c payload.Nothing d.pipelines ≡ []) (still : attached_by c d.ports ≡ []) where
  pipe_tells : (k : ℕ) (x y : Pipeline) → nth k d.pipelines ≡ Some x → bound_of k x y ≡ []
      → Tells c d (record d { pipelines = set d.pipelines (k - 1) y })
  pipe_tells k x y at is =
      record {
        bound = silent ∙ sym is ∙ sym (one_changed bound_of self_bound k d.pipelines x y at);
        attached = still ∙ unattached d.ports;
      }

-- what is found, with where it was
found_tells : {A : Type 0} (c : Call) (d : DisplayState) (o : Option A) (f : A → Outcome DisplayState)
    → ((x : A) → o ≡ Some x → Keeps (Tells c d) (f x)) → Keeps (Tells c d) (found code.BadHandle o >>= f)
found_tells c d None f keeps = tt
found_tells c d (Some x) f keeps = keeps x refl

port_set_tells : (p : ℤ) (attr : PortAttr) (value : List ℤ) (d : DisplayState)
    → Keeps (Tells (call.PortSet p attr value) d) (port_set p attr value d)
port_set_tells p attr value d =
    let c = call.PortSet p attr value in
    found_tells c d (nth (count_of p) d.ports) _
    (λ x is. keeps_behind (Tells c d) (port_styled attr value x) _
    (λ style. port_tells c d refl (count_of p) x (with_style style x) is (sym (self_attached (count_of p) x))))

attach_tells : (p on : ℤ) (d : DisplayState) → Keeps (Tells (call.Attach p on) d) (attach p on d)
attach_tells p on d = found_tells (call.Attach p on) d (nth (count_of p) d.ports) _ (λ x is. of_flag x is (flag_of on) refl)
  where
    of_flag : (x : Port) → nth (count_of p) d.ports ≡ Some x → (o : Option Bool) → flag_of on ≡ o
        → Keeps (Tells (call.Attach p on) d)
        (found code.IllegalArgument (flag_of on) >>= (λ attached. Ok (with_port p (with_attached attached x) d, 0)))
    of_flag x is None flag = rw flag tt
    of_flag x is (Some wanted) flag = rw flag
        (port_tells (call.Attach p on) d refl (count_of p) x (with_attached wanted x) is (rw (is, flag) refl))

pipe_set_tells : (l : ℤ) (attr : PipeAttr) (value : List ℤ) (d : DisplayState)
    → Keeps (Tells (call.PipeSet l attr value) d) (pipe_set l attr value d)
pipe_set_tells l attr value d =
    let c = call.PipeSet l attr value in
    found_tells c d (nth (count_of l) d.pipelines) _
    (λ x is. keeps_behind (Tells c d) (pipeline_styled attr value x.cached) _
    (λ style. pipe_tells c d refl refl (count_of l) x (with_cached style x) is (self_bound (count_of l) x)))

pipe_bind_port_tells : (l p : ℤ) (d : DisplayState) → Keeps (Tells (call.PipeBindPort l p) d) (pipe_bind_port l p d)
pipe_bind_port_tells l p d =
    let c = call.PipeBindPort l p in
    found_tells c d (nth (count_of l) d.pipelines) _
    (λ x is. keeps_behind (Tells c d) (named_port p d) _
    (λ n. pipe_tells c d refl refl (count_of l) x (with_port_of n x) is (self_bound (count_of l) x)))

pipe_bind_source_tells : (l : ℤ) (handle : ℕ) (t : Transition) (d : DisplayState)
    → Keeps (Tells (call.PipeBindSource l handle t) d) (pipe_bind_source l handle t d)
pipe_bind_source_tells l handle t d =
    let c = call.PipeBindSource l handle t in
    found_tells c d (nth (count_of l) d.pipelines) _
    (λ x is. keeps_behind (Tells c d) (may_bind l handle d) _
    (λ _. pipe_tells c d refl refl (count_of l) x (with_request handle t x) is
    (replaced_is_unbound (count_of l) x (record { source = handle; transition = t }))))

-- a commit

module _ (c : Call) (e : Extent) (w : DisplaySide)
    (binds : bound_by c payload.Nothing w.display.pipelines ≡ bindings (binds_at_commit e) 1 w.display.pipelines)
    (still : attached_by c w.display.ports ≡ []) where
  commit_tells : Keeps (λ (x : DisplaySide). Tells c w.display x.display) (commit_display e w)
  commit_tells = of_fault (fault_from e w.streams w.display.sources 1 w.display.pipelines) refl
    where
      of_fault : (o : Option Fault) → fault_from e w.streams w.display.sources 1 w.display.pipelines ≡ o
          → Keeps (λ (x : DisplaySide). Tells c w.display x.display) (commit_display e w)
      of_fault None is = rw is (record {
        bound = binds ∙ sym (commits_bind e w.display.sources 1 w.display.pipelines);
        attached = still ∙ sym (commits_attach e 1 w.display.ports);
      })
      of_fault (Some f) is = rw is tt

-- what a call that sees the objects alone leaves of all that a call sees
seen_tells : (c : Call) (w : DisplaySide) (o : Outcome DisplayState) → Keeps (Tells c w.display) o
    → Keeps (λ (x : DisplaySide). Tells c w.display x.display) (o >>= (λ x. Ok (record w { display = x.0 }, x.1)))
seen_tells c w (Ok x) keeps = keeps
seen_tells c w (Err r) keeps = tt

still_tells : (c : Call) (d : DisplayState) → bound_by c payload.Nothing d.pipelines ≡ [] → attached_by c d.ports ≡ []
    → (e : DisplayState) → e.pipelines ≡ d.pipelines → e.ports ≡ d.ports → Tells c d e
still_tells c d silent still e pipelines ports =
    record {
      bound = silent ∙ unbound d.pipelines ∙ ap (between_from bound_of 1 d.pipelines) (sym pipelines);
      attached = still ∙ unattached d.ports ∙ ap (between_from attached_of 1 d.ports) (sym ports);
    }

-- each call
pub call_tells : (m : Bool) (c : Call) (w : DisplaySide) → Keeps (λ (x : DisplaySide). Tells c w.display x.display) (display_call m c w)
call_tells m (call.PortSet p attr value) w =
    seen_tells (call.PortSet p attr value) w (port_set p attr value w.display) (port_set_tells p attr value w.display)
call_tells m (call.Attach p on) w = seen_tells (call.Attach p on) w (attach p on w.display) (attach_tells p on w.display)
call_tells m (call.PipeSet l attr value) w =
    seen_tells (call.PipeSet l attr value) w (pipe_set l attr value w.display) (pipe_set_tells l attr value w.display)
call_tells m (call.PipeBindPort l p) w =
    seen_tells (call.PipeBindPort l p) w (pipe_bind_port l p w.display) (pipe_bind_port_tells l p w.display)
call_tells m (call.PipeBindSource l handle t) w =
    seen_tells (call.PipeBindSource l handle t) w (pipe_bind_source l handle t w.display) (pipe_bind_source_tells l handle t w.display)
call_tells m call.CommitDevice w = commit_tells call.CommitDevice extent.Device w refl refl
call_tells m (call.CommitPort p) w =
    keeps_behind (λ (x : DisplaySide). Tells (call.CommitPort p) w.display x.display) (port p w.display) _
    (λ x. commit_tells (call.CommitPort p) (extent.Port (count_of p)) w refl refl)
call_tells m (call.CommitPipe l) w =
    keeps_behind (λ (x : DisplaySide). Tells (call.CommitPipe l) w.display x.display) (pipeline l w.display) _
    (λ x. commit_tells (call.CommitPipe l) (extent.Pipeline (count_of l)) w refl refl)
call_tells m call.DisplayError w = still_tells call.DisplayError w.display refl refl _ refl refl
call_tells m (call.PortGet p attr index) w = search (keeps_behind, seen_tells, still_tells) depth 12
call_tells m (call.PipeGet l attr index) w = search (keeps_behind, seen_tells, still_tells) depth 12
call_tells m (call.DisplaySource l handle) w = search (keeps_behind, still_tells) depth 12
call_tells m (call.DisplaySourceDestroy handle) w = search (keeps_behind, seen_tells, still_tells) depth 12
call_tells m _ w = record { bound = unbound w.display.pipelines; attached = unattached w.display.ports }
