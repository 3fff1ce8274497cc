-- The states that calls lead to, and which context of such a state comes next.
use Rattle.std.specs.Prelude.{ℕ, ◌<◌, ◌≤◌, Bool, List, [], ◌∷◌, IsTrue}
use Rattle.wf_words.specs.Rising.{RisesTo}
use Rattle.wf_calls.specs.declared.call.Call.{Call}
use Rattle.wf_model.specs.Objects.{Context}
use Rattle.wf_model.specs.State.{State}
use Rattle.wf_model.specs.Step.{step}

-- a call of a client, and whether memory is refused to it
abbrev pub Called : Type 0
Called = ℕ × (Call × Bool)

-- what calls leave, one after another
abbrev pub after_calls : State → List Called → State
after_calls h [] = h
after_calls h (c ∷ rest) = after_calls (step h c.0 c.1.0 c.1.1).0 rest

-- the handles of the contexts rise, and none is above the number of objects that were made
abbrev pub ContextsRise : State → Type 0
ContextsRise h = RisesTo (λ c. c.handle) 0 h.core.contexts h.made

-- a context is active, and has a handle above a number: then that handle is at least another one
abbrev pub IsNoEarlier : ℕ → ℕ → Context → Type 0
IsNoEarlier after handle c = IsTrue c.active → after < c.handle → handle ≤ c.handle
