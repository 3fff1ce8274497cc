-- What a call of the display sees, and what it answers.
use Rattle.std.specs.Prelude.{ℕ, ◌-◌, ℤ, List, set, Option, Some, None, is_some, Result, Ok, Err}
use Rattle.std.specs.Prelude.{if◌then◌else◌}
use Rattle.wf_words.specs.Keyed.{at_key, nth}
use Rattle.wf_words.specs.Refusals.{◌>>=◌}
use Rattle.wf_words.specs.Whole.{count_of}
use Rattle.wf_stream.specs.Streams.{KeptStream}
use Rattle.wf_calls.specs.declared.code.Code.{Code}
use Rattle.wf_calls.specs.declared.code.Code.TheVariants as code
use Rattle.wf_calls.specs.declared.reply.Answer.{Answer}
use Rattle.wf_calls.specs.declared.reply.Refusal.{Refusal}
use Rattle.wf_calls.specs.Replies.{done, refused}
use Rattle.wf_model.specs.Composition.{recorded}
use Rattle.wf_model.specs.Outcome.{Outcome, found}
use Rattle.wf_model.specs.State.{DisplaySource, DisplayState, Pipeline, Port}

-- what a call of the display sees: how many objects were made, the streams, the objects of the display, and how many sources
-- and masks composition has
pub record DisplaySide : Type 0 where
  pub made : ℕ
  pub streams : List KeptStream
  pub display : DisplayState
  pub composition_sources : ℕ

-- ports, pipelines and sources

abbrev pub port : ℤ → DisplayState → Result Port Refusal
port p d = found code.BadHandle (nth (count_of p) d.ports)

-- the screen of a port, which is the stream of its number, or none where it was not declared
abbrev pub screen_at : ℕ → DisplayState → Option ℕ
screen_at p d = if is_some (nth p d.ports) then Some p else None

abbrev pub pipeline : ℤ → DisplayState → Result Pipeline Refusal
pipeline l d = found code.BadHandle (nth (count_of l) d.pipelines)

abbrev pub source_at : ℕ → List DisplaySource → Option DisplaySource
source_at handle sources = at_key (λ s. s.handle) handle sources

-- the objects with another port, or another pipeline, of a number
abbrev pub with_port : ℤ → Port → DisplayState → DisplayState
with_port p x d = record d { ports = set d.ports (count_of p - 1) x }

abbrev pub with_pipeline : ℤ → Pipeline → DisplayState → DisplayState
with_pipeline l x d = record d { pipelines = set d.pipelines (count_of l - 1) x }

-- answers

-- what a call that sees the objects of the display alone leaves of all that a call sees
abbrev pub on_display : (DisplayState → Outcome DisplayState) → DisplaySide → Outcome DisplaySide
on_display call w = do
  x ← call w.display
  Ok (record w { display = x.0 }, x.1)

-- the objects with a code offered to the register
abbrev pub offer_display : Code → DisplayState → DisplayState
offer_display code d = record d { register = recorded code d.register }

-- what a call leaves and answers: its effect with the value, or the refusal, which the register takes where it is empty
abbrev pub display_answer : DisplaySide → Outcome DisplaySide → DisplaySide × Answer
display_answer w (Ok x) = (x.0, done x.1)
display_answer w (Err r) = (record w { display = offer_display r.code w.display }, refused r)
