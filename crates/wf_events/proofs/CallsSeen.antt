-- What a call binds and attaches is seen in the display that it leaves.
use Rattle.std.proofs.Common.{◌≡◌, ◌∙◌, Bool, true, false, cond, List, [], ◌++◌, Some, None, refl, sym, ap, subst}
use Rattle.std.specs.Prelude.{Ok, Err}
use Rattle.wf_words.specs.Whole.{count_of}
use Rattle.wf_calls.specs.declared.call.Call.{Call}
use Rattle.wf_calls.specs.declared.call.Call.TheVariants as call
use Rattle.wf_calls.specs.declared.code.Code.{Code}
use Rattle.wf_calls.specs.declared.part.Part.{Part}
use Rattle.wf_calls.specs.declared.part.Part.TheVariants as part
use Rattle.wf_calls.specs.declared.reply.Payload.{Payload}
use Rattle.wf_calls.specs.declared.reply.Payload.TheVariants as payload
use Rattle.wf_calls.specs.declared.reply.Reply.{Reply}
use Rattle.wf_calls.specs.Codes.{is_ok_code}
use Rattle.wf_calls.specs.Parts.{Register, is_begin, no_register, of_device, of_display, part_of}
use Rattle.wf_calls.specs.Replies.{bare}
use Rattle.wf_model.specs.declared.display.Pipeline.{Pipeline}
use Rattle.wf_model.specs.declared.display.Port.{Port}
use Rattle.wf_model.specs.Beginnings.{by_begin, composed_is, next_is, port_is}
use Rattle.wf_model.specs.Calls.{begin_call, display_call}
use Rattle.wf_model.specs.Composing.{display_side, displayed}
use Rattle.wf_model.specs.DisplaySides.{DisplaySide, offer_display}
use Rattle.wf_model.specs.Effects.{Effect, IsHonest, acquires, begins, composes, display_is_honest, displays, effect, ends, makes, refuses}
use Rattle.wf_model.specs.Effects.{returns, tells, unnames}
use Rattle.wf_model.specs.Frames.{Beginning, start}
use Rattle.wf_model.specs.Outcome.{Keeps, Outcome}
use Rattle.wf_model.specs.Registers.{offered}
use Rattle.wf_model.specs.State.{DisplayState, State}
use Rattle.wf_model.specs.Step.{act, act_of}
use Rattle.wf_events.specs.declared.happening.Happening.{Happening}
use Rattle.wf_events.specs.Happenings.{attached_by, bound_by, carried}
use Rattle.wf_events.specs.Watching.{between_from}
use Rattle.wf_events.proofs.Differences.{attached_of, begins_bind, bound_of}
use Rattle.wf_events.proofs.DisplayCalls.{Tells, call_tells, unattached, unbound}

-- what was bound and attached between two states of the display
abbrev pub changes : DisplayState → DisplayState → List Happening
changes before after =
    between_from bound_of 1 before.pipelines after.pipelines ++ between_from attached_of 1 before.ports after.ports

-- what a call bound and attached, by its answer
abbrev pub told_by : State → Call → Reply → List Happening
told_by h c reply = cond (is_ok_code reply.code) (carried h c reply) []

abbrev IsSeen : State → Call → State × Reply → Type 0
IsSeen h c x = told_by h c x.1 ≡ changes h.display x.0.display

no_changes : (d : DisplayState) → [] ≡ changes d d
no_changes d = λ i. unbound d.pipelines i ++ unattached d.ports i

-- the same pipelines and ports

module _ (h : State) where
  unchanged : (d : DisplayState) → d.pipelines ≡ h.display.pipelines → d.ports ≡ h.display.ports → [] ≡ changes h.display d
  unchanged d pipelines ports =
      no_changes h.display
      ∙ (λ i. between_from bound_of 1 h.display.pipelines (sym pipelines i) ++ between_from attached_of 1 h.display.ports (sym ports i))

  offered_display : (register : Register) (code : Code) → [] ≡ changes h.display (offered register code h).display
  offered_display (of_device d) code = no_changes h.display
  offered_display of_display code = no_changes h.display
  offered_display no_register code = no_changes h.display

-- a call that binds and attaches nothing

either : (b : Bool) (es : List Happening) → es ≡ [] → cond b es [] ≡ []
either true es is = is
either false es is = refl

-- calls of the display, and those that begin frames
abbrev watched : Part → Bool
watched part.Display = true
watched (part.Begin d) = true
watched _ = false

record IsQuiet (c : Call) : Type 0 where
  silent : (given : Payload) (xs : List Pipeline) → bound_by c given xs ≡ []
  still : (xs : List Port) → attached_by c xs ≡ []
  leaves : (m : Bool) (w : DisplaySide) → display_call m c w ≡ Ok (w, 0)
  begins_none : (h : State) → begin_call c h ≡ Ok None

quiet : (c : Call) → watched (part_of c) ≡ false → IsQuiet c
quiet (call.PortSet p attr value) is = absurd cc
quiet (call.PortGet p attr index) is = absurd cc
quiet (call.Attach p on) is = absurd cc
quiet (call.PipeSet l attr value) is = absurd cc
quiet (call.PipeGet l attr index) is = absurd cc
quiet (call.PipeBindPort l p) is = absurd cc
quiet (call.DisplaySource l handle) is = absurd cc
quiet (call.DisplaySourceDestroy handle) is = absurd cc
quiet (call.PipeBindSource l handle t) is = absurd cc
quiet call.CommitDevice is = absurd cc
quiet (call.CommitPort p) is = absurd cc
quiet (call.CommitPipe l) is = absurd cc
quiet call.DisplayError is = absurd cc
quiet (call.BeginNext after) is = absurd cc
quiet (call.BeginPort p) is = absurd cc
quiet (call.BeginContext d c) is = absurd cc
quiet _ is =
    record {
      silent = λ given xs. refl;
      still = λ xs. refl;
      leaves = λ m w. refl;
      begins_none = λ h. refl;
    }

abbrev side_of : DisplaySide → Outcome DisplaySide → DisplaySide
side_of w (Ok x) = x.0
side_of w (Err r) = w

module _ (h : State) (c : Call) (calm : IsQuiet c) where
  tells_nothing : (reply : Reply) → told_by h c reply ≡ []
  tells_nothing reply =
      either (is_ok_code reply.code) (carried h c reply)
      (λ i. calm.silent reply.payload h.display.pipelines i ++ calm.still h.display.ports i)

  same_display : (x : State × Reply) → x.0.display ≡ h.display → IsSeen h c x
  same_display x same = tells_nothing x.1 ∙ no_changes h.display ∙ ap (changes h.display) (sym same)

  quiet_seen : (x : State × Reply) → Effect h c x → IsSeen h c x
  quiet_seen x (refuses honest left) =
      tells_nothing x.1 ∙ offered_display h _ x.1.code ∙ ap (λ (s : State). changes h.display s.display) (sym left)
  quiet_seen x (composes m w value does is) = same_display x (ap (λ (y : State × Reply). y.0.display) is)
  quiet_seen x (displays m w value does is) =
      let side : w ≡ display_side h = ap (side_of w) (sym does ∙ calm.leaves m (display_side h)) in
      same_display x (ap (λ (y : State × Reply). y.0.display) is ∙ ap (λ (v : DisplaySide). v.display) side)
  quiet_seen x (makes new is) = same_display x (ap (λ (y : State × Reply). y.0.display) is)
  quiet_seen x (unnames handle is) = same_display x (ap (λ (y : State × Reply). y.0.display) is)
  quiet_seen x (acquires handle s at is) = same_display x (ap (λ (y : State × Reply). y.0.display) is)
  quiet_seen x (returns canvas f way out is) = same_display x (ap (λ (y : State × Reply). y.0.display) is)
  quiet_seen x (begins b free begun is) =
      absurd (let no : Ok None ≡ Ok (Some b) = sym (calm.begins_none h) ∙ begun in cc)
  quiet_seen x (ends job f call_is runs own is) = same_display x (ap (λ (y : State × Reply). y.0.display) is)
  quiet_seen x (tells value is) = same_display x (ap (λ (y : State × Reply). y.0.display) is)

-- a call of the display

display_seen : (h : State) (c : Call) (m : Bool) → IsSeen h c (displayed (display_call m c) h)
display_seen h c m =
    of_outcome (display_call m c (display_side h)) (call_tells m c (display_side h)) (display_is_honest m c (display_side h))
  where
    of_outcome : (o : Outcome DisplaySide) → Keeps (λ (x : DisplaySide). Tells c h.display x.display) o → IsHonest o
        → IsSeen h c (displayed (λ _. o) h)
    of_outcome (Ok x) keeps honest = λ i. keeps.bound i ++ keeps.attached i
    of_outcome (Err r) keeps honest = ap (λ b. cond b (carried h c (bare (record { code = r.code; value = r.value }))) []) honest
        ∙ unchanged h (offer_display r.code h.display) refl refl

-- a call that begins a frame

record IsBegin (c : Call) : Type 0 where
  silent : (xs : List Pipeline) → bound_by c payload.Nothing xs ≡ []
  still : (xs : List Port) → attached_by c xs ≡ []

is_of_begin : (c : Call) → is_begin c ≡ true → IsBegin c
is_of_begin (call.BeginNext after) begin = record { silent = λ xs. refl; still = λ xs. refl }
is_of_begin (call.BeginPort p) begin = record { silent = λ xs. refl; still = λ xs. refl }
is_of_begin (call.BeginContext d c) begin = record { silent = λ xs. refl; still = λ xs. refl }
is_of_begin _ begin = absurd cc

start_seen : (h : State) (c : Call) (b : Beginning) → begin_call c h ≡ Ok (Some b) → IsSeen h c (start b h)
start_seen h (call.BeginNext after) b begun =
    no_changes h.display ∙ ap (λ (x : Beginning). changes h.display x.display) (sym (next_is after h b begun).own.is)
start_seen h (call.BeginPort p) b begun =
    (λ i. sym (begins_bind (count_of p) 1 h.display.pipelines) i ++ unattached h.display.ports i)
    ∙ ap (λ (x : Beginning). changes h.display x.display) (sym (port_is p h b begun).is)
start_seen h (call.BeginContext d c) b begun =
    no_changes h.display ∙ ap (λ (x : Beginning). changes h.display x.display) (sym (composed_is d c h b begun).own.is)
start_seen h _ b begun = absurd cc

begin_seen : (h : State) (c : Call) (m : Bool) → is_begin c ≡ true → IsSeen h c (act h c m)
begin_seen h c m begin =
    by_begin (IsSeen h c) h c m begin
    (λ register code a.
    either (is_ok_code a.code) (carried h c (bare a))
    (λ i. (is_of_begin c begin).silent h.display.pipelines i ++ (is_of_begin c begin).still h.display.ports i)
    ∙ offered_display h register code)
    (start_seen h c)

acts_at_display : (h : State) (c : Call) (m : Bool) → part_of c ≡ part.Display → act h c m ≡ displayed (display_call m c) h
unfolding act
acts_at_display h c m is = ap (λ p. act_of p h c m) is

-- each call
pub call_seen : (h : State) (c : Call) (m : Bool) → told_by h c (act h c m).1 ≡ changes h.display (act h c m).0.display
call_seen h c m = of_part (part_of c) refl
  where
    calm : watched (part_of c) ≡ false → IsSeen h c (act h c m)
    calm is = quiet_seen h c (quiet c is) (act h c m) (effect h c m)

    of_part : (p : Part) → part_of c ≡ p → IsSeen h c (act h c m)
    of_part part.Streams is = calm (ap watched is)
    of_part part.Buffers is = calm (ap watched is)
    of_part (part.Composition d) is = calm (ap watched is)
    of_part part.Display is = subst (IsSeen h c) (sym (acts_at_display h c m is)) (display_seen h c m)
    of_part (part.Begin d) is = begin_seen h c m (rw is refl)
    of_part part.End is = calm (ap watched is)
