-- The handles of contexts rise in every state that calls lead to, so the first active one above a number is the least one.
use Rattle.std.proofs.Common.{◌≡◌, ℕ, zero, suc, ◌+◌, ◌<◌, ◌≤◌, Bool, true, false, ◌&&◌, cond, List, [], ◌∷◌, ◌++◌, Option, Some, None}
use Rattle.std.proofs.Common.{find, nat_lt}
use Rattle.std.proofs.Common.{refl, sym, ap, subst, arith, ◌∙◌}
use Rattle.std.specs.List.{AllByRecursion}
use Rattle.std.specs.Prelude.{unwrap_or}
use Rattle.std.proofs.lemmas.Bool.{and_from, lt-ltb}
use Rattle.wf_words.specs.Rising.{RisesTo, low_under, rises_to_change, rises_to_filter, rises_to_higher, rises_to_more}
use Rattle.wf_calls.specs.Parts.{Register, of_device, of_display, no_register, register_of}
use Rattle.wf_calls.specs.declared.call.Call.{Call}
use Rattle.wf_calls.specs.declared.call.Call.TheVariants as call
use Rattle.wf_calls.specs.declared.code.Code.{Code}
use Rattle.wf_calls.specs.declared.ports.Ports.{Ports}
use Rattle.wf_calls.specs.declared.reply.Reply.{Reply}
use Rattle.wf_model.specs.Composing.{core_side, display_side, screen_of}
use Rattle.wf_model.specs.Composition.{CoreSide}
use Rattle.wf_model.specs.Calls.{core_call, display_call}
use Rattle.wf_model.specs.DisplaySides.{DisplaySide}
use Rattle.wf_model.specs.Effects.{Effect, begins, composes, displays, acquires, effect, ends, makes, refuses, returns, tells, unnames}
use Rattle.wf_model.specs.Frames.{next_context}
use Rattle.wf_model.specs.Objects.{Context}
use Rattle.wf_model.specs.Outcome.{Keeps, keeps_behind}
use Rattle.wf_model.specs.Reached.{Called, ContextsRise, IsNoEarlier, after_calls}
use Rattle.wf_model.specs.Registers.{offered}
use Rattle.wf_model.specs.State.{State, opening}
use Rattle.wf_model.specs.Step.{act, step}

abbrev handle : Context → ℕ
handle c = c.handle

-- the calls of composition

abbrev CoreRises : CoreSide → Type 0
CoreRises w = RisesTo handle 0 w.core.contexts w.made

-- one object more
one_made : (n : ℕ) (cs : List Context) → RisesTo handle 0 cs n → RisesTo handle 0 cs (n + 1)
one_made n cs rises = rises_to_higher handle 0 n (n + 1) cs (omega arith) rises

one_more : (n : ℕ) (cs : List Context) (c : Context) → c.handle ≡ n + 1 → RisesTo handle 0 cs n → RisesTo handle 0 (cs ++ c ∷ []) (n + 1)
one_more n cs c is rises = rises_to_more handle 0 n (n + 1) cs c (omega (arith, is)) (omega (arith, is)) rises

core_rises : (screen : Option ℕ) (m : Bool) (c : Call) (w : CoreSide) → CoreRises w → Keeps CoreRises (core_call screen m c w)
core_rises screen m call.DeviceNew w rises = search (keeps_behind, one_made) depth 12
core_rises screen m _ w rises = search (keeps_behind, one_more, one_made, rises_to_change, rises_to_filter) depth 12

-- the calls of the display

abbrev HasMade : ℕ → DisplaySide → Type 0
HasMade n w = n ≤ w.made

one_higher : (n : ℕ) → n ≤ n + 1
one_higher n = omega arith

unchanged : (n : ℕ) → n ≤ n
unchanged n = omega arith

display_made : (m : Bool) (c : Call) (w : DisplaySide) → Keeps (HasMade w.made) (display_call m c w)
display_made m call.DisplayError w = omega arith
display_made m (call.DisplaySource pipe stream) w = search (keeps_behind, one_higher) depth 12
display_made m _ w = search (keeps_behind, unchanged) depth 12

-- every call

offered_rises : (register : Register) (refused : Code) (h : State) → ContextsRise h → ContextsRise (offered register refused h)
offered_rises (of_device d) refused h rises = rises
offered_rises of_display refused h rises = rises
offered_rises no_register refused h rises = rises

effect_rises : (h : State) (c : Call) (x : State × Reply) → Effect h c x → ContextsRise h → ContextsRise x.0
effect_rises h c x (refuses honest left) rises = subst ContextsRise (sym left) (offered_rises (register_of c) x.1.code h rises)
effect_rises h c x (composes m w value does is) rises =
    subst (λ y. ContextsRise y.0) (sym is) (subst (Keeps CoreRises) does (core_rises (screen_of c h) m c (core_side h) rises))
effect_rises h c x (displays m w value does is) rises =
    let more : h.made ≤ w.made = subst (Keeps (HasMade h.made)) does (display_made m c (display_side h)) in
    subst (λ y. ContextsRise y.0) (sym is) (rises_to_higher handle 0 h.made w.made h.core.contexts more rises)
effect_rises h c x (makes new is) rises = subst (λ y. ContextsRise y.0) (sym is) (one_made h.made h.core.contexts rises)
effect_rises h c x (unnames stream is) rises = subst (λ y. ContextsRise y.0) (sym is) rises
effect_rises h c x (acquires stream s at is) rises = subst (λ y. ContextsRise y.0) (sym is) rises
effect_rises h c x (returns canvas f way out is) rises = subst (λ y. ContextsRise y.0) (sym is) rises
effect_rises h c x (begins b free begun is) rises = subst (λ y. ContextsRise y.0) (sym is) rises
effect_rises h c x (ends job f call_is runs own is) rises = subst (λ y. ContextsRise y.0) (sym is) rises
effect_rises h c x (tells value is) rises = subst (λ y. ContextsRise y.0) (sym is) rises

step_rises : (h : State) (client : ℕ) (c : Call) (m : Bool) → ContextsRise h → ContextsRise (step h client c m).0
unfolding step
step_rises h client c m rises = effect_rises h c (act h c m) (effect h c m) rises

all_rise : (calls : List Called) (h : State) → ContextsRise h → ContextsRise (after_calls h calls)
all_rise [] h rises = rises
all_rise (c ∷ rest) h rises = all_rise rest (step h c.0 c.1.0 c.1.1).0 (step_rises h c.0 c.1.0 c.1.1 rises)

pub contexts_rise : (ports : Ports) (calls : List Called) → ContextsRise (after_calls (opening ports) calls)
contexts_rise ports calls = all_rise calls (opening ports) (omega arith)

-- the least handle

none_earlier : (after n low high : ℕ) (cs : List Context) → n ≤ low → RisesTo handle low cs high → AllByRecursion (IsNoEarlier after n) cs
none_earlier after n low high [] under rises = tt
none_earlier after n low high (c ∷ cs) under rises = (
  λ active above. omega (arith, under, rises.0),
  none_earlier after n c.handle high cs (omega (arith, under, rises.0)) rises.1,
)

pub next_is_least : (after low high : ℕ) (c : Context) (cs : List Context) → RisesTo handle low cs high
    → next_context after cs ≡ Some c → AllByRecursion (IsNoEarlier after c.handle) cs
next_is_least after low high c [] rises is = absurd cc
next_is_least after low high c (x ∷ cs) rises is =
    of_test (next_is_least after x.handle high c cs rises.1) (x.active && nat_lt after x.handle) refl
  where
    of_test : (next_context after cs ≡ Some c → AllByRecursion (IsNoEarlier after c.handle) cs) → (b : Bool)
        → (x.active && nat_lt after x.handle) ≡ b → AllByRecursion (IsNoEarlier after c.handle) (x ∷ cs)
    of_test later true passes =
        let found : Some x ≡ Some c = rw passes at is in
        let same : x.handle ≡ c.handle = ap (λ o. handle (unwrap_or o c)) found in (
          λ active above. omega (arith, same),
          none_earlier after c.handle x.handle high cs (omega (arith, same)) rises.1,
        )
    of_test later false fails = (
      λ active above. absurd (let no : true ≡ false =
          sym (and_from x.active (nat_lt after x.handle) active (lt-ltb after x.handle above)) ∙ fails in cc),
      later (rw fails at is),
    )
