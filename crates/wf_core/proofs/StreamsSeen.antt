-- What streams show, by their numbers and by their handles; and new links to them, and contexts that draw into them.
use Rattle.std.proofs.Common.{◌≡◌, ℕ, ◌<◌, length, Bool, true, false, List, option_map, Option, Some, None, Ok, Err}
use Rattle.wf_calls.specs.declared.code.Code.TheVariants as code
use Rattle.wf_calls.specs.Replies.{refusal}
use Rattle.std.proofs.Common.{IfSome, refl, sym, ap, ◌∙◌}
use Rattle.std.specs.Prelude.{IsSomeAnd}
use Rattle.wf_pixel.specs.declared.Format.{Format}
use Rattle.wf_pixel.specs.declared.Format.TheVariants.{Rgba8, Rgba8Pre, Rgbx8, A8}
use Rattle.wf_pixel.specs.Choice.{is_a8}
use Rattle.wf_pixel.specs.declared.Size.{Size}
use Rattle.wf_stream.specs.Buffers.{Buffers}
use Rattle.wf_stream.specs.Streams.{KeptStream, StoreView, buffers_at, stream_at, stream_of}
use Rattle.wf_stream.specs.Streams.{has_number}
use Rattle.wf_scene.specs.declared.look.Seen.{Seen}
use Rattle.wf_model.specs.Objects.{CoreState}
use Rattle.wf_model.specs.Composition.{device, seen_stream}
use Rattle.wf_core.specs.Links.{is_unfit, link_new}
use Rattle.wf_model.specs.Core.{has_target, is_drawable, stream_context}
use Rattle.wf_objects.specs.Does.{context_made, link_made}
use Rattle.wf_objects.specs.Owners.{live_device, owned_context, passed, past_context}
use Rattle.wf_model.specs.Outcome.{at_place}
use Rattle.wf_objects.specs.Sides.{core_side_of}

-- the stream of a number shows what its buffers are for
pub seen_number : (n : ℕ) (streams : List KeptStream) (b : Buffers) (size : Size) (format : Format) → Some b ≡ buffers_at n streams
    → size ≡ b.size → format ≡ b.format
    → Some (record { stream = n; size = size; format = format }) ≡ seen_stream (stream_at n streams)
seen_number n streams b size format is size-is format-is = of_stream (stream_at n streams) refl is
  where
    of_stream : (o : Option KeptStream) → stream_at n streams ≡ o → Some b ≡ option_map (λ s. s.buffers) o
        → Some (record { stream = n; size = size; format = format }) ≡ seen_stream o
    of_stream None at same = absurd cc
    of_stream (Some s) at same =
        let here : b ≡ s.buffers = cc in
        let number : s.number ≡ n = has_number n streams s at in
        let shown : ℕ → Size → Format → Option Seen = λ m z f. Some (record { stream = m; size = z; format = f }) in
        ap (λ m. shown m size format) (sym number) ∙ ap (λ z. shown s.number z format) (size-is
        ∙ ap (λ x. x.size) here) ∙ ap (λ f. shown s.number s.buffers.size f) (format-is
        ∙ ap (λ x. x.format) here)

-- the stream that is seen
pub behind : (o : Option KeptStream) (seen : Seen) → seen_stream o ≡ Some seen → (s : KeptStream) × (o ≡ Some s)
    × (seen ≡ record { stream = s.number; size = s.buffers.size; format = s.buffers.format })
behind None seen is = absurd cc
behind (Some s) seen is = (s, refl, cc)

-- what is seen by a number is seen by the number that it tells
pub seen_again : (n : ℕ) (streams : List KeptStream) (o : Option Seen) → o ≡ seen_stream (stream_at n streams)
    → IfSome o (λ seen. seen_stream (stream_at seen.stream streams) ≡ Some seen)
seen_again n streams None is = tt
seen_again n streams (Some seen) is =
    let s = behind (stream_at n streams) seen (sym is) in
    let number : seen.stream ≡ n = ap (λ y. y.stream) s.2 ∙ has_number n streams s.0 s.1 in
    ap (λ m. seen_stream (stream_at m streams)) number ∙ sym is

-- a new link to the stream that is seen
module _ (mask : Bool) (d h n place : ℕ) (core : CoreState) (store : StoreView) (seen : Seen)
    (at : at_place (Ok place) core.contexts ≡ owned_context d h (core_side_of core store)) (less : place < length core.contexts)
    (sees : Some seen ≡ seen_stream (stream_of n store.streams)) (fit : is_unfit mask seen.format ≡ false) where
  pub link_is : (m : Bool) → link_new mask d h n m (core_side_of core store) ≡ link_made mask h seen.stream m (core_side_of core store)
  link_is m =
      let w = core_side_of core store in
      let s = behind (stream_of n store.streams) seen (sym sees) in
      let unfit : is_unfit mask s.0.buffers.format ≡ false = ap (λ y. is_unfit mask y.format) (sym s.2) ∙ fit in
      past_context d h place core store _ at less
      ∙ rw (s.1, unfit) (ap (λ number. link_made mask h number m w) (ap (λ y. y.stream) (sym s.2)))

drawn_pixels : (f : Format) → is_drawable f ≡ true → is_a8 f ≡ false
drawn_pixels Rgba8 is = absurd cc
drawn_pixels Rgba8Pre is = refl
drawn_pixels Rgbx8 is = refl
drawn_pixels A8 is = absurd cc

-- a stream that is seen, and into which a context may draw, is kept and one of pixels, of the size that is seen
pub drawable_kept : (streams : List KeptStream) (seen : Seen) → seen_stream (stream_at seen.stream streams) ≡ Some seen
    → is_drawable seen.format ≡ true
    → IsSomeAnd (buffers_at seen.stream streams) (λ b. (b.size ≡ seen.size) × (is_a8 b.format ≡ false))
drawable_kept streams seen is drawable =
    let s = behind (stream_at seen.stream streams) seen is in
    let pixels : is_a8 s.0.buffers.format ≡ false =
    drawn_pixels s.0.buffers.format (ap (λ y. is_drawable y.format) (sym s.2) ∙ drawable) in
    rw s.1 (ap (λ y. y.size) (sym s.2), pixels)

-- a new context that draws into the stream that is seen
module _ (d n : ℕ) (core : CoreState) (store : StoreView) (seen : Seen) (live : Ok tt ≡ live_device d (core_side_of core store))
    (sees : Some seen ≡ seen_stream (stream_of n store.streams)) (fit : is_drawable seen.format ≡ true)
    (unused : has_target seen.stream (core_side_of core store) ≡ false) where
  pub context_is : (m : Bool) → stream_context d n m (core_side_of core store) ≡ context_made d 0 seen m (core_side_of core store)
  context_is m =
      let w = core_side_of core store in
      let s = behind (stream_of n store.streams) seen (sym sees) in
      let drawable : is_drawable s.0.buffers.format ≡ true = ap (λ y. is_drawable y.format) (sym s.2) ∙ fit in
      let free : has_target s.0.number w ≡ false = ap (λ y. has_target y.stream w) (sym s.2) ∙ unused in
      passed (device d w) _ live ∙ rw (s.1, drawable, free) (ap (λ y. context_made d 0 y m w) (sym s.2))

-- into which a context draws already
module _ (d n : ℕ) (core : CoreState) (store : StoreView) (seen : Seen) (live : Ok tt ≡ live_device d (core_side_of core store))
    (sees : Some seen ≡ seen_stream (stream_of n store.streams)) (fit : is_drawable seen.format ≡ true)
    (used : has_target seen.stream (core_side_of core store) ≡ true) where
  pub target_used : (m : Bool) → stream_context d n m (core_side_of core store) ≡ Err (refusal code.InUse)
  target_used m =
      let w = core_side_of core store in
      let s = behind (stream_of n store.streams) seen (sym sees) in
      let drawable : is_drawable s.0.buffers.format ≡ true = ap (λ y. is_drawable y.format) (sym s.2) ∙ fit in
      let taken : has_target s.0.number w ≡ true = ap (λ y. has_target y.stream w) (sym s.2) ∙ used in
      passed (device d w) _ live ∙ rw (s.1, drawable, taken) refl
