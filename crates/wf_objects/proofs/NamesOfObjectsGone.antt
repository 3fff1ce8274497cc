-- Names that end with an object that leaves, behind its handle; and names that begin with a new one.
use Rattle.std.proofs.Common.{◌≡◌, ℕ, ◌+◌, ◌<◌, List, [], ap, ◌∙◌, arith}
use Rattle.wf_life.specs.declared.Kind.TheVariants as kind
use Rattle.wf_life.specs.Handles.{live_count}
use Rattle.wf_stream.specs.Counts.{times}
use Rattle.wf_stream.specs.Streams.{StoreView}
use Rattle.wf_stream.specs.Names.{NamesFit, Recounts, but_names}
use Rattle.wf_model.specs.Names.{core_names}
use Rattle.wf_model.specs.Objects.{CoreState}
use Rattle.wf_objects.specs.Fits.{Fits}
use Rattle.wf_objects.specs.Losses.{Loses}
use Rattle.wf_objects.specs.Named.{handles_kept, renamed_fits}
use Rattle.wf_stream.specs.Renames.{Renames, fewer_fit, from_same, named_again, told_by}
use Rattle.wf_objects.specs.Sides.{beside}

-- a store that has other handles, but the same streams
module _ (core left : CoreState) (store mid : StoreView) (streams : mid.streams ≡ store.streams) (counts : mid.counts ≡ store.counts) where
  module _ (ended : List ℕ) (fit : NamesFit (core_names core) store)
      (leaves : (n : ℕ) → 0 < n → times n (core_names left) + times n ended ≡ times n (core_names core)) where
    -- what ends is counted
    pub ended_fit : NamesFit ended mid
    ended_fit = fewer_fit (core_names core) ended store mid streams counts (λ n some. (let a = leaves n some in omega (arith, a))) fit

    module _ (now : StoreView) (change : Renames ended [] mid now) where
      -- the names of the objects became those that are left
      pub ended_names : Recounts (core_names core) (core_names left) store now
      ended_names = from_same mid now (core_names core) (core_names left) (told_by mid now ended [] change.names (core_names core)
          (core_names left) (λ n some. (let a = leaves n some in omega (arith, a)))) store streams counts

      pub ended_fits : Fits left mid → Fits left now
      ended_fits fits =
          renamed_fits left mid now ended [] ended_fit.counted change
          (named_again store now (core_names core) (core_names left) fit ended_names) fits

      pub ended_loses : Loses store mid → Loses store now
      ended_loses loses =
          record {
            rest = ap (λ (w : StoreView). record w { others = [] }) change.rest ∙ loses.rest;
            others = ap (λ (w : StoreView). beside w.others) change.rest ∙ loses.others;
            display = ap (λ (w : StoreView). live_count kind.DisplaySource w.others) change.rest ∙ loses.display;
          }

  module _ (began : List ℕ) (now : StoreView) (change : Recounts [] began mid now)
      (comes : (n : ℕ) → 0 < n → times n (core_names left) ≡ times n (core_names core) + times n began) where
    pub begun_names : Recounts (core_names core) (core_names left) store now
    begun_names = from_same mid now (core_names core) (core_names left) (told_by mid now [] began change (core_names core) (core_names left)
        (λ n some. (let a = comes n some in omega (arith, a)))) store streams counts

-- objects fit where names began
pub begun_fits : (left : CoreState) (mid now : StoreView) → now.streams ≡ mid.streams → but_names now ≡ but_names mid → Fits left mid
    → Fits left now
begun_fits left mid now streams rest fits =
    let made : now.made ≡ mid.made = ap (λ w. w.made) rest in
    record {
      handles = handles_kept left mid now (ap (λ w. w.others) rest) (omega (arith, made)) fits.handles;
      streams = rw streams fits.streams;
    }
