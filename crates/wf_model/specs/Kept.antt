-- What calls of the display leave of the ports: their modes always, and all of them where a pipeline alone is committed.
use Rattle.std.proofs.Common.{◌≡◌, ◌∙◌, ℕ, zero, suc, ◌+◌, ◌-◌, Bool, true, false, cond, List, [], ◌∷◌, map, set, slice_get, Option, Some}
use Rattle.std.proofs.Common.{None}
use Rattle.std.proofs.Common.{Ok, Err, refl, sym, ap, arith}
use Rattle.std.specs.Prelude.{ℤ}
use Rattle.wf_words.specs.Keyed.{nth}
use Rattle.wf_words.specs.Refusals.{◌>>=◌}
use Rattle.wf_words.specs.Whole.{count_of}
use Rattle.wf_pixel.specs.declared.Size.{Size}
use Rattle.wf_scene.specs.Values.{flag_of}
use Rattle.wf_scene.specs.declared.look.Fault.{Fault}
use Rattle.wf_calls.specs.declared.call.Call.{Call}
use Rattle.wf_calls.specs.declared.call.Call.TheVariants as call
use Rattle.wf_calls.specs.declared.code.Code.TheVariants as code
use Rattle.wf_calls.specs.declared.display.PortAttr.{PortAttr}
use Rattle.wf_model.specs.declared.display.Extent.{Extent}
use Rattle.wf_model.specs.declared.display.Extent.TheVariants as extent
use Rattle.wf_model.specs.declared.display.Port.{Port}
use Rattle.wf_model.specs.Numbered.{each_from}
use Rattle.wf_model.specs.Outcome.{Leaves, Outcome, behind, found}
use Rattle.wf_model.specs.DisplaySides.{DisplaySide, display_answer, pipeline, port}
use Rattle.wf_model.specs.Ports.{attach, port_set, port_styled, with_attached, with_style}
use Rattle.wf_model.specs.DisplayCommits.{commit_display, commit_pipe, committed_port, fault_from, takes_port}
use Rattle.wf_model.specs.Calls.{display_call}
use Rattle.wf_model.specs.State.{DisplayState}

-- the modes of each port
abbrev pub modes_of : DisplayState → List (List Size)
modes_of d = map (λ (p : Port). p.modes.items) d.ports

-- what such a call sees of them
abbrev pub modes_in : DisplaySide → List (List Size)
modes_in w = modes_of w.display

-- another port of the same modes
another_port : (n : ℕ) (ports : List Port) (x y : Port) → nth n ports ≡ Some x → y.modes ≡ x.modes
    → map (λ (p : Port). p.modes.items) (set ports (n - 1) y) ≡ map (λ (p : Port). p.modes.items) ports
another_port zero ports x y at same = absurd cc
another_port (suc n) ports x y at same =
    let here : suc n - 1 ≡ n = omega arith in
    ap (λ i. map (λ (p : Port). p.modes.items) (set ports i y)) here ∙ at_place ports n at
  where
    at_place : (ps : List Port) (i : ℕ) → slice_get ps i ≡ Some x
        → map (λ (p : Port). p.modes.items) (set ps i y) ≡ map (λ (p : Port). p.modes.items) ps
    at_place [] i at = absurd cc
    at_place (p ∷ ps) zero at =
        let is : p ≡ x = cc in
        ap (λ m. m.items ∷ map (λ (q : Port). q.modes.items) ps) (same ∙ ap (λ (q : Port). q.modes) (sym is))
    at_place (p ∷ ps) (suc i) at = ap (λ ms. p.modes.items ∷ ms) (at_place ps i at)

style_keeps : (p : ℤ) (attr : PortAttr) (value : List ℤ) (d : DisplayState)
    → Leaves modes_of (modes_of d) (port_set p attr value d)
style_keeps p attr value d = of_port (nth (count_of p) d.ports) refl
  where
    of_port : (o : Option Port) → nth (count_of p) d.ports ≡ o → Leaves modes_of (modes_of d) (port_set p attr value d)
    of_port None is = rw is tt
    of_port (Some x) is = rw is (behind modes_of (modes_of d) (port_styled attr value x) _
        (λ style. another_port (count_of p) d.ports x (with_style style x) is refl))

attached_keeps : (p on : ℤ) (d : DisplayState) → Leaves modes_of (modes_of d) (attach p on d)
attached_keeps p on d = of_port (nth (count_of p) d.ports) refl
  where
    of_port : (o : Option Port) → nth (count_of p) d.ports ≡ o → Leaves modes_of (modes_of d) (attach p on d)
    of_port None is = rw is tt
    of_port (Some x) is = rw is (behind modes_of (modes_of d) (found code.IllegalArgument (flag_of on)) _
        (λ attached. another_port (count_of p) d.ports x (with_attached attached x) is refl))

committed_keeps : (e : Extent) (n : ℕ) (ports : List Port)
    → map (λ (p : Port). p.modes.items) (each_from (λ k x. cond (takes_port e k) (committed_port x) x) n ports)
    ≡ map (λ (p : Port). p.modes.items) ports
committed_keeps e n [] = refl
committed_keeps e n (x ∷ ports) =
    ap (λ m. m ∷ map (λ (p : Port). p.modes.items) (each_from (λ k y. cond (takes_port e k) (committed_port y) y) (n + 1) ports))
    (one (takes_port e n)) ∙ ap (λ ms. x.modes.items ∷ ms) (committed_keeps e (n + 1) ports)
  where
    one : (b : Bool) → (cond b (committed_port x) x).modes.items ≡ x.modes.items
    one true = refl
    one false = refl

commit_keeps : (e : Extent) (w : DisplaySide) → Leaves modes_in (modes_in w) (commit_display e w)
commit_keeps e w = of_fault (fault_from e w.streams w.display.sources 1 w.display.pipelines) refl
  where
    of_fault : (o : Option Fault) → fault_from e w.streams w.display.sources 1 w.display.pipelines ≡ o
        → Leaves modes_in (modes_in w) (commit_display e w)
    of_fault None is = rw is (committed_keeps e 1 w.display.ports)
    of_fault (Some f) is = rw is tt

-- what a call that sees the objects alone leaves of the modes
seen_keeps : (w : DisplaySide) (o : Outcome DisplayState) → Leaves modes_of (modes_of w.display) o
    → Leaves modes_in (modes_in w) (o >>= (λ x. Ok (record w { display = x.0 }, x.1)))
seen_keeps w (Ok x) leaves = leaves
seen_keeps w (Err r) leaves = tt

-- no call changes the modes of a port
call_keeps : (m : Bool) (c : Call) (w : DisplaySide) → Leaves modes_in (modes_in w) (display_call m c w)
call_keeps m (call.PortSet p attr value) w = seen_keeps w (port_set p attr value w.display) (style_keeps p attr value w.display)
call_keeps m (call.Attach p on) w = seen_keeps w (attach p on w.display) (attached_keeps p on w.display)
call_keeps m call.CommitDevice w = commit_keeps extent.Device w
call_keeps m (call.CommitPort p) w = behind modes_in (modes_in w) (port p w.display) _ (λ x. commit_keeps (extent.Port (count_of p)) w)
call_keeps m (call.CommitPipe l) w =
    behind modes_in (modes_in w) (pipeline l w.display) _ (λ x. commit_keeps (extent.Pipeline (count_of l)) w)
call_keeps m call.DisplayError w = refl
call_keeps m _ w = search (behind, seen_keeps) depth 12

pub modes_stay : (m : Bool) (c : Call) (w : DisplaySide) → modes_in (display_answer w (display_call m c w)).0 ≡ modes_in w
modes_stay m c w = of_outcome (display_call m c w) (call_keeps m c w)
  where
    of_outcome : (o : Outcome DisplaySide) → Leaves modes_in (modes_in w) o → modes_in (display_answer w o).0 ≡ modes_in w
    of_outcome (Ok x) leaves = leaves
    of_outcome (Err r) leaves = refl

-- the commit of a pipeline leaves the ports, with all their attributes

untaken : (l n : ℕ) (ports : List Port)
    → each_from (λ k x. cond (takes_port (extent.Pipeline l) k) (committed_port x) x) n ports ≡ ports
untaken l n [] = refl
untaken l n (x ∷ ports) = ap (λ xs. x ∷ xs) (untaken l (n + 1) ports)

pub ports_stay : (l : ℤ) (w : DisplaySide) → Leaves (λ (x : DisplaySide). x.display.ports) w.display.ports (commit_pipe l w)
ports_stay l w = behind (λ (x : DisplaySide). x.display.ports) w.display.ports (pipeline l w.display) _ (λ x. of_fault
    (fault_from (extent.Pipeline (count_of l)) w.streams w.display.sources 1 w.display.pipelines) refl)
  where
    of_fault : (o : Option Fault) → fault_from (extent.Pipeline (count_of l)) w.streams w.display.sources 1 w.display.pipelines ≡ o
        → Leaves (λ (x : DisplaySide). x.display.ports) w.display.ports (commit_display (extent.Pipeline (count_of l)) w)
    of_fault None is = rw is (untaken (count_of l) 1 w.display.ports)
    of_fault (Some f) is = rw is tt
