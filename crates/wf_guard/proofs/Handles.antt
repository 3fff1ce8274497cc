-- The handles of live streams rise in every state that turns lead to, and none is above the number of objects that were made.
use Rattle.std.proofs.Common.{◌≡◌, ◌∙◌, ℕ, ◌+◌, ◌≤◌, Bool, true, false, not, ◌==◌, ◌||◌, [], ◌∷◌, ◌++◌, Option, Ok, refl, sym, ap, subst}
use Rattle.std.proofs.Common.{arith}
use Rattle.wf_words.specs.Refusals.{◌>>=◌}
use Rattle.wf_words.specs.Rising.{RisesTo, rises_to_filter, rises_to_higher, rises_to_more}
use Rattle.wf_life.specs.Handles.{is_full}
use Rattle.wf_stream.specs.Buffers.{Buffers}
use Rattle.wf_stream.specs.Streams.{has_no_room}
use Rattle.wf_calls.specs.Codes.{is_ok_code}
use Rattle.wf_calls.specs.Parts.{Register, no_register, of_device, of_display, register_of}
use Rattle.wf_calls.specs.declared.call.Call.{Call}
use Rattle.wf_calls.specs.declared.call.Call.TheVariants as call
use Rattle.wf_calls.specs.declared.code.Code.{Code}
use Rattle.wf_calls.specs.declared.code.Code.TheVariants as code
use Rattle.wf_calls.specs.declared.ports.Ports.{Ports}
use Rattle.wf_calls.specs.declared.reply.Reply.{Reply}
use Rattle.wf_model.specs.Calls.{core_call, display_call}
use Rattle.wf_model.specs.Composing.{core_side, display_side, screen_of}
use Rattle.wf_model.specs.Composition.{CoreSide}
use Rattle.wf_model.specs.DisplaySides.{DisplaySide}
use Rattle.wf_model.specs.Effects.{Effect, acquires, begins, composes, displays, effect, ends, makes, refuses, returns, tells, unnames}
use Rattle.wf_model.specs.Outcome.{Keeps, keeps_behind, refuse}
use Rattle.wf_model.specs.Registers.{offered}
use Rattle.wf_model.specs.State.{State}
use Rattle.wf_model.specs.Step.{act, step}
use Rattle.wf_model.specs.Streams.{may_make, new_buffers, stream_made, stream_step}
use Rattle.wf_guard.specs.declared.form.Form.{Form}
use Rattle.wf_guard.specs.LiveStreams.{Turn, after_turn, live_handles, lives_if, opened}
use Rattle.wf_guard.specs.Serving.{Served}
use Rattle.wf_guard.proofs.Lives.{step_lives}
use Rattle.wf_guard.proofs.OwnersTrue.{always_true}
use Rattle.wf_guard.proofs.Turns.{steps_keep}

-- no call takes an object back from the number of those that were made

one_higher : (n : ℕ) → n ≤ n + 1
one_higher n = omega arith

unchanged : (n : ℕ) → n ≤ n
unchanged n = omega arith

abbrev CoreMade : ℕ → CoreSide → Type 0
CoreMade n w = n ≤ w.made

core_made : (screen : Option ℕ) (m : Bool) (c : Call) (w : CoreSide) → Keeps (CoreMade w.made) (core_call screen m c w)
core_made screen m call.DeviceNew w = search (keeps_behind, one_higher) depth 12
core_made screen m _ w = search (keeps_behind, one_higher, unchanged) depth 12

abbrev DisplayMade : ℕ → DisplaySide → Type 0
DisplayMade n w = n ≤ w.made

display_made : (m : Bool) (c : Call) (w : DisplaySide) → Keeps (DisplayMade w.made) (display_call m c w)
display_made m call.DisplayError w = omega arith
display_made m (call.DisplaySource pipe stream) w = search (keeps_behind, one_higher) depth 12
display_made m _ w = search (keeps_behind, unchanged) depth 12

offered_made : (register : Register) (refused : Code) (h : State) → (offered register refused h).made ≡ h.made
offered_made (of_device d) refused h = refl
offered_made of_display refused h = refl
offered_made no_register refused h = refl

effect_made : (h : State) (c : Call) (x : State × Reply) → Effect h c x → h.made ≤ x.0.made
effect_made h c x (refuses honest left) =
    let same = ap (λ (s : State). s.made) left ∙ offered_made (register_of c) x.1.code h in omega (arith, same)
effect_made h c x (composes m w value does is) =
    let more : h.made ≤ w.made = subst (Keeps (CoreMade h.made)) does (core_made (screen_of c h) m c (core_side h)) in
    let same = ap (λ (y : State × Reply). y.0.made) is in
    omega (arith, same)
effect_made h c x (displays m w value does is) =
    let more : h.made ≤ w.made = subst (Keeps (DisplayMade h.made)) does (display_made m c (display_side h)) in
    let same = ap (λ (y : State × Reply). y.0.made) is in
    omega (arith, same)
effect_made h c x (makes new is) = let same = ap (λ (y : State × Reply). y.0.made) is in omega (arith, same)
effect_made h c x (unnames handle is) = let same = ap (λ (y : State × Reply). y.0.made) is in omega (arith, same)
effect_made h c x (acquires handle s at is) = let same = ap (λ (y : State × Reply). y.0.made) is in omega (arith, same)
effect_made h c x (returns canvas f way out is) = let same = ap (λ (y : State × Reply). y.0.made) is in omega (arith, same)
effect_made h c x (begins b free begun is) = let same = ap (λ (y : State × Reply). y.0.made) is in omega (arith, same)
effect_made h c x (ends job f call_is runs own is) = let same = ap (λ (y : State × Reply). y.0.made) is in omega (arith, same)
effect_made h c x (tells value is) = let same = ap (λ (y : State × Reply). y.0.made) is in omega (arith, same)

step_made : (h : State) (client : ℕ) (c : Call) (m : Bool) → h.made ≤ (step h client c m).0.made
unfolding step
step_made h client c m = effect_made h c (act h c m) (effect h c m)

-- a new stream has the next handle

record IsNext (h : State) (x : State × Reply) : Type 0 where
  value : x.1.value ≡ h.made + 1
  made : x.0.made ≡ h.made + 1

module _ (h : State) (new : Buffers) where
  next : (wrong full lacking : Bool)
      → let x : State × Reply = stream_step h (refuse code.IllegalArgument wrong >>= (λ _. refuse code.Limit full >>= (λ _.
      refuse code.OutOfMemory lacking >>= (λ _. Ok (stream_made new h))))) in
      is_ok_code x.1.code ≡ true → IsNext h x
  next true full lacking ok = absurd cc
  next false true lacking ok = absurd cc
  next false false true ok = absurd cc
  next false false false ok = record { value = refl; made = refl }

-- the handles rise

abbrev pub HandlesRise : State → Type 0
HandlesRise h = RisesTo (λ n. n) 0 (live_handles h.streams) h.made

module _ (h : State) (client : ℕ) (m : Bool) (rise : HandlesRise h) where
  abbrev after : Call → State × Reply
  after c = step h client c m

  higher : (c : Call) → RisesTo (λ n. n) 0 (live_handles h.streams) (after c).0.made
  higher c = rises_to_higher (λ n. n) 0 h.made (after c).0.made (live_handles h.streams) (step_made h client c m) rise

  one_more : (c : Call) → IsNext h (after c) → RisesTo (λ n. n) 0 (live_handles h.streams ++ (after c).1.value ∷ []) (after c).0.made
  one_more c is =
      rises_to_more (λ n. n) 0 h.made (after c).0.made (live_handles h.streams) (after c).1.value (omega (arith, is.value))
      (omega (arith, is.value, is.made)) rise

  lives_rise : (c : Call) (b : Bool) → is_ok_code (after c).1.code ≡ b
      → RisesTo (λ n. n) 0 (lives_if b c (after c).1.value (live_handles h.streams)) (after c).0.made
  unfolding step act
  lives_rise c false refused = higher c
  lives_rise (call.StreamNew width height format buffers) true ok =
      let new : Buffers = new_buffers false width height format buffers in
      let got = next h new (not (may_make false width height buffers)) (has_no_room new h.streams || is_full h.made) m ok in
      one_more (call.StreamNew width height format buffers) (record { value = got.value; made = got.made })
  lives_rise (call.StreamQueue width height format depth) true ok =
      let new : Buffers = new_buffers true width height format depth in
      let got = next h new (not (may_make true width height depth)) (has_no_room new h.streams || is_full h.made) m ok in
      one_more (call.StreamQueue width height format depth) (record { value = got.value; made = got.made })
  lives_rise (call.StreamDestroy stream) true ok =
      rises_to_filter (λ n. n) (λ n. not (n == stream)) 0 (after (call.StreamDestroy stream)).0.made (live_handles h.streams)
      (higher (call.StreamDestroy stream))
  lives_rise c true ok = higher c

  handles_rise : (c : Call) → HandlesRise (after c).0
  handles_rise c =
      subst (λ ns. RisesTo (λ n. n) 0 ns (after c).0.made) (sym (step_lives h client c m))
      (lives_rise c (is_ok_code (after c).1.code) refl)

-- over runs

pub turn_rises : (t : Turn) (v : Served) → HandlesRise v.machine → HandlesRise (after_turn t v).machine
turn_rises = steps_keep HandlesRise (λ h client c m rise. handles_rise h client m rise c)

pub open_handles_rise : (form : Form) (ports : Ports) → HandlesRise (opened form ports).machine
open_handles_rise form ports = subst (λ ns. RisesTo (λ n. n) 0 ns 0) (always_true form ports []) (omega arith)
