-- A call that was carried out or refused, and what is answered.
use Rattle.std.proofs.Common.{◌≡◌, ℕ, Bool, Ok, Err, refl, ap, ◌∙◌}
use Rattle.wf_stream.specs.Streams.{StoreView}
use Rattle.wf_calls.specs.Replies.{bare, done, refused}
use Rattle.wf_calls.specs.declared.reply.Refusal.{Refusal}
use Rattle.wf_model.specs.Objects.{CoreState}
use Rattle.wf_model.specs.Outcome.{Outcome}
use Rattle.wf_model.specs.Composition.{CoreSide, core_answer, offer}
use Rattle.wf_objects.specs.Does.{Does}
use Rattle.wf_objects.specs.Fits.{Fits}
use Rattle.wf_objects.specs.Sides.{core_side_of}
use Rattle.wf_core.specs.Steps.{Steps}

module _ (device : ℕ) (plain : Bool → CoreSide → Outcome CoreSide) (Keeps : StoreView → StoreView → Type 0) (core left : CoreState)
    (store now : StoreView) where
  pub carried_out : (n : ℕ) → Keeps store now → Does plain core left store now (Ok n)
      → Steps device plain Keeps core left store now (bare (done n))
  carried_out n keeps does =
      record {
        step = ap (core_answer device (core_side_of core store)) does.case;
        kept = keeps;
        names = does.names;
        fits = does.fits;
        bare = refl;
      }

  -- the register takes the refusal
  pub turned_down : (r : Refusal) (new : CoreState) → Keeps store now → new ≡ offer device r.code left → Fits new now
      → Does plain core left store now (Err r)
      → Steps device plain Keeps core new store now (bare (refused r))
  turned_down r new keeps is fits does =
      record {
        step = ap (core_answer device (core_side_of core store)) does.case ∙ rw (is, does.refused, does.untouched) refl;
        kept = keeps;
        names = rw is does.names;
        fits = fits;
        bare = refl;
      }
