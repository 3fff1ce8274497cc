-- The stream of a screen, and the streams that contexts draw into.
use Rattle.std.specs.Prelude.{◌≡◌, ℕ, false, List, Option, Result, IsSomeAnd}
use Rattle.wf_pixel.specs.Choice.{is_a8}
use Rattle.wf_words.specs.Refusals.{◌>>=◌}
use Rattle.wf_stream.specs.Streams.{KeptStream, buffers_at, stream_at}
use Rattle.wf_scene.specs.declared.look.Seen.{Seen}
use Rattle.wf_calls.specs.declared.code.Code.TheVariants as code
use Rattle.wf_calls.specs.declared.reply.Refusal.{Refusal}
use Rattle.wf_model.specs.Outcome.{found}
use Rattle.wf_model.specs.Composition.{seen_stream}

-- what the stream of a screen shows, or the refusal of a port that was not declared
abbrev pub screen_seen : Option ℕ → List KeptStream → Result Seen Refusal
screen_seen screen streams = do
  number ← found code.IllegalArgument screen
  found code.IllegalArgument (seen_stream (stream_at number streams))

-- a context may draw into what is seen: it is kept and one of pixels, of the size that is seen
abbrev pub IsTarget : Seen → List KeptStream → Type 0
IsTarget seen streams = IsSomeAnd (buffers_at seen.stream streams) (λ b. (b.size ≡ seen.size) × (is_a8 b.format ≡ false))
