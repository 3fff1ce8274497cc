-- What a call of composition sees, how it finds and changes objects, and what it answers.
use Rattle.std.proofs.Common.{◌≡◌, ◌∙◌, refl, sym, ap}
use Rattle.std.specs.Prelude.{ℕ, ◌+◌, Bool, not, ◌&&◌, ◌==◌, List, find, option_map, Option, Some, None, Result, Ok, Err}
use Rattle.std.specs.List.{list_any}
use Rattle.wf_words.specs.Keyed.{at_key, change}
use Rattle.wf_words.specs.Rising.{found_above}
use Rattle.wf_stream.specs.Streams.{IsNumbered, KeptStream, number_of, rises_streams, stream_at, stream_of}
use Rattle.wf_scene.specs.declared.look.Seen.{Seen}
use Rattle.wf_scene.specs.Cached.{CachedScene, has_element}
use Rattle.wf_scene.specs.Sight.{Sight}
use Rattle.wf_calls.specs.declared.code.Code.{Code}
use Rattle.wf_calls.specs.declared.code.Code.TheVariants as code
use Rattle.wf_calls.specs.declared.reply.Refusal.{Refusal}
use Rattle.wf_calls.specs.declared.reply.Answer.{Answer}
use Rattle.wf_calls.specs.Replies.{done, refused}
use Rattle.wf_model.specs.Objects.{Context, CoreState, Device, Source}
use Rattle.wf_model.specs.Outcome.{Outcome, found}

-- what a call of composition sees: how many objects were made, the streams, the objects of composition, and how many
-- sources the display has
pub record CoreSide : Type 0 where
  pub made : ℕ
  pub streams : List KeptStream
  pub core : CoreState
  pub display_sources : ℕ

-- objects and their owners

abbrev pub device : ℕ → CoreSide → Result Device Refusal
device d w = found code.BadDevice (at_key (λ x. x.handle) d w.core.devices)

-- the context of a device with a handle
abbrev pub context : ℕ → ℕ → CoreSide → Result Context Refusal
context d handle w = found code.BadHandle (find (λ c. (c.handle == handle) && (c.device == d)) w.core.contexts)

-- the context of a device in which an element lives
abbrev pub element_context : ℕ → ℕ → CoreSide → Result Context Refusal
element_context d handle w =
    found code.BadHandle (find (λ c. (c.device == d) && has_element handle c.cached) w.core.contexts)

-- a context is one of a device
abbrev pub is_of_device : ℕ → CoreState → ℕ → Bool
is_of_device d core handle = list_any (λ c. (c.handle == handle) && (c.device == d)) core.contexts

-- the stream of a live handle
abbrev pub live_stream : ℕ → List KeptStream → Result KeptStream Refusal
live_stream handle streams = found code.BadHandle (stream_of handle streams)

-- the stream of a live handle is that of its number
pub by_handle : (handle n high : ℕ) (streams : List KeptStream) → IsNumbered 0 streams high → Some n ≡ number_of handle streams
    → stream_at n streams ≡ stream_of handle streams
by_handle handle n high streams rising is = of_stream (stream_of handle streams) refl is
  where
    of_stream : (o : Option KeptStream) → stream_of handle streams ≡ o → Some n ≡ option_map (λ s. s.number) o
        → stream_at n streams ≡ o
    of_stream None at same = absurd cc
    of_stream (Some s) at same =
        let here : s.number ≡ n = cc in
        let found = found_above (λ x. x.number) (λ x. (x.handle == handle) && not (handle == 0)) 0 streams s
        (rises_streams 0 high streams rising) at in
        ap (λ m. stream_at m streams) (sym here) ∙ found.1

-- what a source or a mask shows

abbrev pub seen_stream : Option KeptStream → Option Seen
seen_stream None = None
seen_stream (Some s) = Some (record { stream = s.number; size = s.buffers.size; format = s.buffers.format })

abbrev pub seen_source : List KeptStream → Option Source → Option Seen
seen_source streams None = None
seen_source streams (Some x) = seen_stream (stream_at x.stream streams)

abbrev pub seen : List Source → List KeptStream → ℕ → Option Seen
seen sources streams handle = seen_source streams (at_key (λ x. x.handle) handle sources)

abbrev pub sight_of : CoreSide → Sight
sight_of w = record { source = seen w.core.sources w.streams; mask = seen w.core.masks w.streams }

-- changes

-- one more object, whose handle is answered
abbrev pub created : CoreState → CoreSide → CoreSide × ℕ
created core w = (record w { made = w.made + 1; core = core }, w.made + 1)

-- the objects with one context changed
abbrev pub change_context : ℕ → (Context → Context) → CoreState → CoreState
change_context handle f core = record core { contexts = change (λ c. c.handle) handle f core.contexts }

abbrev pub with_cached : CachedScene → Context → Context
with_cached scene c = record c { cached = scene }

-- the objects with the register of a device changed
abbrev pub change_register : ℕ → (Option Code → Option Code) → CoreState → CoreState
change_register d f core =
    record core { devices = change (λ x. x.handle) d (λ x. record x { register = f x.register }) core.devices }

-- an empty register takes a code, and a full one stays
abbrev pub recorded : Code → Option Code → Option Code
recorded new None = Some new
recorded new (Some old) = Some old

-- the objects with a code offered to the register of a device
abbrev pub offer : ℕ → Code → CoreState → CoreState
offer d code core = change_register d (recorded code) core

-- what a call of a device leaves and answers: its effect with the value, or the refusal, which the device's register
-- takes where the device is live and its register is empty
abbrev pub core_answer : ℕ → CoreSide → Outcome CoreSide → CoreSide × Answer
core_answer d w (Ok x) = (x.0, done x.1)
core_answer d w (Err r) = (record w { core = offer d r.code w.core }, refused r)
