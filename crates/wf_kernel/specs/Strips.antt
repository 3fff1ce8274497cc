-- Pieces of rows in which the same layers count.
use Rattle.std.specs.Prelude.{◌≡◌, ℕ, ◌+◌, ◌<◌, ◌≤◌, List, length, slice_index_or, IfSome}
use Rattle.wf_kernel.specs.declared.strips.Strip.{Strip}
use Rattle.wf_kernel.specs.Bound.{Bound}
use Rattle.wf_kernel.specs.Hiding.{IsCover, IsBeside}

-- in the rows of a strip, its base hides all that is below it, and the layers from `top` on show nothing
pub record IsStrip (layers : List Bound) (w : ℕ) (s : Strip) : Type 0 where
  pub within : s.first + s.width ≤ w
  pub some : (y : ℕ) → s.from ≤ y → y < s.bottom → 1 ≤ s.width
  pub top : s.top ≤ length layers
  pub base : IfSome s.base (λ j. j < s.top)
  pub cover : IfSome s.base (λ j. (d : Bound) (y : ℕ) → s.from ≤ y → y < s.bottom → IsCover (slice_index_or layers j d) s.first s.width y)
  pub beside : (i : ℕ) (d : Bound) (y : ℕ) → s.top ≤ i → i < length layers → s.from ≤ y → y < s.bottom
      → IsBeside (slice_index_or layers i d) s.first s.width y

-- a part of a strip
pub record IsCut (old new : Strip) : Type 0 where
  pub first : new.first ≡ old.first
  pub from : new.from ≡ old.from
  pub some : 1 ≤ new.width
  pub width : new.width ≤ old.width
  pub rows : new.from < new.bottom
  pub bottom : new.bottom ≤ old.bottom
