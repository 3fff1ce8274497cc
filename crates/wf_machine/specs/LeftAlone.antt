-- What every call but the end of a frame leaves alone: the running frame, and the images that are away in it.
use Rattle.std.specs.Prelude.{◌≡◌, ℕ, Bool, true, false, Some, IsSomeAnd, IsTrue}
use Rattle.wf_words.specs.Keyed.{is_in}
use Rattle.wf_stream.specs.Streams.{KeptStream, stream_at}
use Rattle.wf_calls.specs.declared.call.Call.{Call}
use Rattle.wf_calls.specs.declared.part.Part.{Part}
use Rattle.wf_calls.specs.declared.part.Part.TheVariants as part
use Rattle.wf_calls.specs.Parts.{part_of}
use Rattle.wf_model.specs.Names.{frame_names}
use Rattle.wf_model.specs.State.{Running, State}

-- a call that ends a frame
abbrev pub ends_frame : Call → Bool
ends_frame c = is_end (part_of c)
  where
    is_end : Part → Bool
    is_end part.Streams = false
    is_end part.Buffers = false
    is_end (part.Composition d) = false
    is_end part.Display = false
    is_end (part.Begin d) = false
    is_end part.End = true

-- the running frame goes on, and each stream that it names is kept, with its read buffer where it was
pub record IsLeftAlone (f : Running) (h now : State) : Type 0 where
  pub running : now.frame ≡ Some f
  pub read : (n : ℕ) (s : KeptStream) → IsTrue (is_in n (frame_names (Some f))) → stream_at n h.streams ≡ Some s
      → IsSomeAnd (stream_at n now.streams) (λ t. t.buffers.read ≡ s.buffers.read)
