-- The calls on sources and masks, as calls on links.
use Rattle.std.specs.Prelude.{ℕ, Bool, true, false, not, Ok}
use Rattle.wf_words.specs.Refusals.{◌>>=◌}
use Rattle.wf_pixel.specs.declared.Format.{Format}
use Rattle.wf_pixel.specs.Choice.{is_a8}
use Rattle.wf_calls.specs.declared.code.Code.TheVariants as code
use Rattle.wf_model.specs.Outcome.{Outcome, refuse}
use Rattle.wf_model.specs.Composition.{CoreSide, context, device, live_stream}
use Rattle.wf_model.specs.Core.{owned_source, without_source}
use Rattle.wf_objects.specs.Does.{link_made}
use Rattle.wf_objects.specs.Links.{links, with_links}

-- a format that is not for a source, or not for a mask
abbrev pub is_unfit : Bool → Format → Bool
is_unfit false format = is_a8 format
is_unfit true format = not (is_a8 format)

-- `source_new`, or `mask_new`
abbrev pub link_new : Bool → ℕ → ℕ → ℕ → Bool → CoreSide → Outcome CoreSide
link_new mask d owner handle m w = do
  _ ← device d w
  _ ← context d owner w
  s ← live_stream handle w.streams
  _ ← refuse code.Unsupported (is_unfit mask s.buffers.format)
  link_made mask owner s.number m w

-- `source_destroy`, or `mask_destroy`
abbrev pub link_destroy : Bool → ℕ → ℕ → CoreSide → Outcome CoreSide
link_destroy mask d handle w = do
  _ ← device d w
  _ ← owned_source d handle (links mask w.core) w
  Ok (record w { core = with_links mask (without_source handle (links mask w.core)) w.core }, 0)
