-- The stream of a screen is one of pixels, of the size that is seen.
use Rattle.std.proofs.Common.{◌≡◌, ℕ, Bool, true, false, List, Option, Some, None, Ok, Err, refl, sym, ap, ◌∙◌}
use Rattle.std.specs.Prelude.{ℤ, IfSome, IsSomeAnd}
use Rattle.wf_words.specs.Whole.{count_of}
use Rattle.wf_pixel.specs.Choice.{is_a8}
use Rattle.wf_stream.specs.Streams.{KeptStream, StoreView, buffers_at, stream_at, has_number}
use Rattle.wf_scene.specs.declared.look.Seen.{Seen}
use Rattle.wf_calls.specs.Replies.{refusal}
use Rattle.wf_calls.specs.declared.code.Code.TheVariants as code
use Rattle.wf_model.specs.Objects.{CoreState}
use Rattle.wf_model.specs.Outcome.{found}
use Rattle.wf_model.specs.Composition.{device, seen_stream}
use Rattle.wf_model.specs.Core.{has_port, screen_context}
use Rattle.wf_objects.specs.Owners.{live_device, passed}
use Rattle.wf_objects.specs.Sides.{core_side_of}
use Rattle.wf_core.specs.Screens.{screen_seen}
use Rattle.wf_model.specs.Fitting.{IsOfPixels}

-- the stream of a screen that is seen
pub record Screen (screen : Option ℕ) (streams : List KeptStream) (seen : Seen) : Type 0 where
  pub number : ℕ
  pub stream : KeptStream
  pub given : screen ≡ Some number
  pub kept : stream_at number streams ≡ Some stream
  pub is : seen ≡ record { stream = stream.number; size = stream.buffers.size; format = stream.buffers.format }

pub screen_is : (screen : Option ℕ) (streams : List KeptStream) (seen : Seen) → Ok seen ≡ screen_seen screen streams
    → Screen screen streams seen
screen_is None streams seen is = absurd cc
screen_is (Some n) streams seen is = of_stream (stream_at n streams) refl is
  where
    of_stream : (o : Option KeptStream) → stream_at n streams ≡ o → Ok seen ≡ found code.IllegalArgument (seen_stream o)
        → Screen (Some n) streams seen
    of_stream None at same = absurd cc
    of_stream (Some t) at same =
        let told : Seen = record { stream = t.number; size = t.buffers.size; format = t.buffers.format } in
        let here : seen ≡ told = cc in
        record { number = n; stream = t; given = refl; kept = at; is = here }

-- it is one of pixels, of the size that is seen
pub screen_kept : (screen : Option ℕ) (streams : List KeptStream) (seen : Seen) → Screen screen streams seen
    → IfSome screen (IsOfPixels streams) → IsSomeAnd (buffers_at seen.stream streams) (λ b. (b.size ≡ seen.size) × (is_a8 b.format ≡ false))
screen_kept screen streams seen s pixels =
    let of_pixels : is_a8 s.stream.buffers.format ≡ false = rw (s.given, s.kept) at pixels in
    let number : seen.stream ≡ s.number = ap (λ y. y.stream) s.is ∙ has_number s.number streams s.stream s.kept in
    rw (number, s.kept) (ap (λ y. y.size) (sym s.is), of_pixels)

-- of a port that has a context already
module _ (d : ℕ) (port : ℤ) (screen : Option ℕ) (core : CoreState) (store : StoreView) (seen : Seen)
    (live : Ok tt ≡ live_device d (core_side_of core store)) (s : Screen screen store.streams seen)
    (used : has_port (count_of port) (core_side_of core store) ≡ true) where
  pub port_used : (m : Bool) → screen_context d port screen m (core_side_of core store) ≡ Err (refusal code.InUse)
  port_used m = passed (device d (core_side_of core store)) _ live ∙ rw (s.given, s.kept, used) refl
