-- A destruction does what the plain call does, before streams are dropped.
use Rattle.std.proofs.Common.{◌≡◌, ℕ, Bool, Ok, sym, ap, ◌∙◌}
use Rattle.wf_life.specs.declared.Kind.TheVariants as kind
use Rattle.wf_life.specs.Handles.{live_count}
use Rattle.wf_stream.specs.Names.{Recounts}
use Rattle.wf_stream.specs.Streams.{StoreView}
use Rattle.wf_model.specs.Names.{core_names}
use Rattle.wf_model.specs.Objects.{CoreState}
use Rattle.wf_model.specs.Outcome.{Outcome}
use Rattle.wf_model.specs.Composition.{CoreSide}
use Rattle.wf_objects.specs.Does.{Does}
use Rattle.wf_objects.specs.Fits.{Fits}
use Rattle.wf_objects.specs.Losses.{Loses}
use Rattle.wf_objects.specs.Sides.{core_side_of}

module _ (plain : Bool → CoreSide → Outcome CoreSide) (core left gone : CoreState) (store now : StoreView) where
  pub destroys : left ≡ gone → Loses store now → Recounts (core_names core) (core_names left) store now → Fits left now
      → ((m : Bool) → plain m (core_side_of core store) ≡ Ok (record (core_side_of core store) { core = gone }, 0))
      → Does plain core left store now (Ok 0)
  destroys is loses names fits does =
      let of : ℕ → CoreState → ℕ → Outcome CoreSide = λ made k count. (let both : CoreSide
      × ℕ = (record { made = made; streams = store.streams; core = k; display_sources = count }, 0) in Ok both) in
      record {
        case = does _ ∙ ap (λ k. of store.made k (live_count kind.DisplaySource store.others)) (sym is)
            ∙ ap (λ (v : StoreView). of v.made left (live_count kind.DisplaySource store.others)) (sym loses.rest)
            ∙ ap (of now.made left) (sym loses.display);
        refused = tt;
        untouched = tt;
        kept = record { numbered = ap (λ (v : StoreView). v.numbered) loses.rest; others = loses.others };
        names = names;
        fits = fits;
      }
