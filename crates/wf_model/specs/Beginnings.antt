-- What is known of a frame that begins: which context or port it is of, and that no other ran.
use Rattle.std.proofs.Common.{◌≡◌, ℕ, Bool, true, false, Option, Some, None, refl}
use Rattle.std.specs.Prelude.{ℤ, Result, Ok, Err}
use Rattle.wf_words.specs.Refusals.{◌>>=◌}
use Rattle.wf_words.specs.Whole.{count_of}
use Rattle.wf_scene.specs.declared.Scene.{Scene}
use Rattle.wf_stream.specs.Buffers.{Buffers}
use Rattle.wf_stream.specs.Streams.{buffers_at}
use Rattle.wf_calls.specs.Replies.{bare}
use Rattle.wf_calls.specs.Parts.{Register, is_begin, no_register, of_device}
use Rattle.wf_calls.specs.declared.call.Call.{Call}
use Rattle.wf_calls.specs.declared.call.Call.TheVariants as call
use Rattle.wf_calls.specs.declared.code.Code.{Code}
use Rattle.wf_calls.specs.declared.code.Code.TheVariants as code
use Rattle.wf_calls.specs.declared.reply.Answer.{Answer}
use Rattle.wf_calls.specs.declared.reply.Refusal.{Refusal}
use Rattle.wf_calls.specs.declared.reply.Reply.{Reply}
use Rattle.wf_model.specs.Display.{begun_display, port_scene}
use Rattle.wf_model.specs.DisplaySides.{port}
use Rattle.wf_model.specs.Composing.{core_side}
use Rattle.wf_model.specs.Composition.{context, device}
use Rattle.wf_model.specs.Frames.{Beginning, all_begun, begin_composed, begin_context, begin_lit, begin_next, begin_port, begin_shown}
use Rattle.wf_model.specs.Frames.{context_beginning, is_running}
use Rattle.wf_model.specs.Frames.{next_context}
use Rattle.wf_model.specs.Frames.{port_beginning, start, started, target_ready}
use Rattle.wf_model.specs.Calls.{begin_call}
use Rattle.wf_model.specs.Objects.{Context, Device}
use Rattle.wf_model.specs.Outcome.{refuse}
use Rattle.wf_model.specs.Registers.{offered}
use Rattle.wf_model.specs.State.{DisplayState, Port, State}
use Rattle.wf_model.specs.Step.{act}

by_beginning : (P : State × Reply → Type 0) (register : Register) (h : State) (r : Result (Option Beginning) Refusal)
    → ((code : Code) (a : Answer) → P (offered register code h, bare a)) → ((a : Answer) → P (h, bare a))
    → ((b : Beginning) → r ≡ Ok (Some b) → P (start b h)) → P (started register h r)
by_beginning P recorder h (Ok None) refused none begun = none _
by_beginning P recorder h (Ok (Some b)) refused none begun = begun b refl
by_beginning P recorder h (Err r) refused none begun = refused r.code _

-- what holds of a bare answer, whatever a register took, and of each frame that may begin, holds of what a call that begins
-- frames does
pub by_begin : (P : State × Reply → Type 0) (h : State) (c : Call) (m : Bool) → is_begin c ≡ true
    → ((register : Register) (code : Code) (a : Answer) → P (offered register code h, bare a))
    → ((b : Beginning) → begin_call c h ≡ Ok (Some b) → P (start b h)) → P (act h c m)
unfolding act
by_begin P h (call.BeginNext after) m begin none begun =
    by_beginning P no_register h (begin_next after h) (none no_register) (none no_register code.Ok) begun
by_begin P h (call.BeginPort port) m begin none begun =
    by_beginning P no_register h (begin_port port h) (none no_register) (none no_register code.Ok) begun
by_begin P h (call.BeginContext d c) m begin none begun =
    by_beginning P (of_device d) h (begin_composed d c h) (none (of_device d)) (none no_register code.Ok) begun
by_begin P h _ m begin none begun = absurd cc

-- no frame runs where one begins
not_running : {A : Type 0} (b : Bool) (f : Unit {0} → Result A Refusal) (x : A) → (refuse code.Busy b >>= f) ≡ Ok x → b ≡ false
not_running true f x is = absurd cc
not_running false f x is = refl

pub next_free : (after : ℕ) (h : State) (b : Beginning) → begin_next after h ≡ Ok (Some b) → is_running h ≡ false
next_free after h b is = not_running (is_running h) (λ _. begin_shown (next_context after h.core.contexts) h) (Some b) is

-- the context of a device with a handle
abbrev pub context_of : ℕ → ℕ → State → Result Context Refusal
context_of d handle h = context d handle (core_side h)

-- a frame of a context
pub record IsOfContext (c : Context) (h : State) (b : Beginning) : Type 0 where
  pub buffers : Buffers
  pub at : buffers_at c.target h.streams ≡ Some buffers
  pub is : b ≡ context_beginning c.handle c.target c.committed buffers h

of_context : (value : ℕ) (c : Context) (h : State) (b : Beginning) → begin_context value c.handle c.target c.committed h ≡ Ok (Some b)
    → IsOfContext c h b
of_context value c h b is = of_target (buffers_at c.target h.streams) refl
  where
    of_ready : (s : Buffers) (r : Result (Unit {0}) Refusal)
        → (r >>= (λ _. Ok (Some (context_beginning c.handle c.target c.committed s h)))) ≡ Ok (Some b)
        → b ≡ context_beginning c.handle c.target c.committed s h
    of_ready s (Ok done) same = cc
    of_ready s (Err r) same = absurd cc

    of_target : (o : Option Buffers) → buffers_at c.target h.streams ≡ o → IsOfContext c h b
    of_target None at = absurd (let no : Ok None ≡ Ok (Some b) = rw at at is in cc)
    of_target (Some s) at =
        record { buffers = s; at = at; is = of_ready s (target_ready value c.target c.committed s h) (rw at at is) }

-- a frame of the active context that comes next
pub record IsNext (after : ℕ) (h : State) (b : Beginning) : Type 0 where
  pub context : Context
  pub next : next_context after h.core.contexts ≡ Some context
  pub own : IsOfContext context h b

pub next_is : (after : ℕ) (h : State) (b : Beginning) → begin_next after h ≡ Ok (Some b) → IsNext after h b
next_is after h b is = of_running (is_running h) is
  where
    of_shown : (o : Option Context) → next_context after h.core.contexts ≡ o → begin_shown o h ≡ Ok (Some b) → IsNext after h b
    of_shown None next begun = absurd cc
    of_shown (Some c) next begun = record { context = c; next = next; own = of_context c.handle c h b begun }

    of_running : (r : Bool) → (refuse code.Busy r >>= (λ _. begin_shown (next_context after h.core.contexts) h)) ≡ Ok (Some b)
        → IsNext after h b
    of_running true begun = absurd cc
    of_running false begun = of_shown (next_context after h.core.contexts) refl begun

-- a frame that a client composes
pub record IsComposed (d handle : ℕ) (h : State) (b : Beginning) : Type 0 where
  pub context : Context
  pub found : context_of d handle h ≡ Ok context
  pub inactive : context.active ≡ false
  pub free : is_running h ≡ false
  pub own : IsOfContext context h b

pub composed_is : (d handle : ℕ) (h : State) (b : Beginning) → begin_composed d handle h ≡ Ok (Some b) → IsComposed d handle h b
composed_is d handle h b is = of_device_at (device d (core_side h)) is
  where
    begins : Context → Result (Option Beginning) Refusal
    begins c = refuse code.Busy (is_running h) >>= (λ _. begin_context 0 c.handle c.target c.committed h)

    of_active : (c : Context) → context_of d handle h ≡ Ok c → (active : Bool) → c.active ≡ active
        → (refuse code.Unsupported active >>= (λ _. begins c)) ≡ Ok (Some b) → IsComposed d handle h b
    of_active c found true active begun = absurd cc
    of_active c found false active begun =
        let free = not_running (is_running h) (λ _. begin_context 0 c.handle c.target c.committed h) (Some b) begun in
        record {
          context = c;
          found = found;
          inactive = active;
          free = free;
          own = of_context 0 c h b (rw free at begun);
        }

    of_found : (r : Result Context Refusal) → context_of d handle h ≡ r
        → (r >>= (λ c. refuse code.Unsupported c.active >>= (λ _. begins c))) ≡ Ok (Some b) → IsComposed d handle h b
    of_found (Ok c) found begun = of_active c found c.active refl begun
    of_found (Err r) found begun = absurd cc

    of_device_at : (r : Result Device Refusal)
        → (r >>= (λ _. context_of d handle h >>= (λ c. refuse code.Unsupported c.active >>= (λ _. begins c)))) ≡ Ok (Some b)
        → IsComposed d handle h b
    of_device_at (Ok x) begun = of_found (context_of d handle h) refl begun
    of_device_at (Err r) begun = absurd cc

-- a frame of a port, which finds what waits at its pipelines there
pub record IsOfPort (port : ℤ) (h : State) (b : Beginning) : Type 0 where
  pub scene : Scene
  pub shows : port_scene (count_of port) (begun_display (count_of port) h.display) ≡ Some scene
  pub free : is_running h ≡ false
  pub is : b ≡ port_beginning port (begun_display (count_of port) h.display) scene

pub port_is : (number : ℤ) (h : State) (b : Beginning) → begin_port number h ≡ Ok (Some b) → IsOfPort number h b
port_is number h b is = of_port (port number h.display) is
  where
    display : DisplayState
    display = begun_display (count_of number) h.display

    lit : Option Scene → Result (Option Beginning) Refusal
    lit o = begin_lit number display o h

    of_limit : (s : Scene) (r : Result (Unit {0}) Refusal) → (r >>= (λ _. Ok (Some (port_beginning number display s)))) ≡ Ok (Some b)
        → b ≡ port_beginning number display s
    of_limit s (Ok done) same = cc
    of_limit s (Err r) same = absurd cc

    of_scene : is_running h ≡ false → (o : Option Scene) → port_scene (count_of number) display ≡ o → lit o ≡ Ok (Some b)
        → IsOfPort number h b
    of_scene free None shows begun = absurd cc
    of_scene free (Some s) shows begun =
        record { scene = s; shows = shows; free = free; is = of_limit s (refuse code.Limit (all_begun h)) begun }

    of_running : (r : Bool) → is_running h ≡ r → (refuse code.Busy r >>= (λ _. lit (port_scene (count_of number) display))) ≡ Ok (Some b)
        → IsOfPort number h b
    of_running true runs begun = absurd cc
    of_running false free begun = of_scene free (port_scene (count_of number) display) refl begun

    of_port : (r : Result Port Refusal)
        → (r >>= (λ _. refuse code.Busy (is_running h) >>= (λ _. lit (port_scene (count_of number) display)))) ≡ Ok (Some b)
        → IsOfPort number h b
    of_port (Err r) begun = absurd cc
    of_port (Ok p) begun = of_running (is_running h) refl begun
