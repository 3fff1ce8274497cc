-- The pixels that a side covers.
use Rattle.std.specs.Prelude.{◌≡◌, ℕ, ◌+◌, ◌<◌, ◌≤◌, Option, None, Some}
use Rattle.wf_kernel.specs.declared.spans.Span.{Span}
use Rattle.wf_pixel.specs.declared.TheConstants.{MOST_SIDE}
use Rattle.wf_kernel.specs.declared.TheConstants.{FARTHEST}

-- the pixels of a row or a column that a side of w pixels covers, where `side` tells how far each pixel lies behind its start
pub record IsReach (side : ℕ → Option ℕ) (w : ℕ) (s : Span) : Type 0 where
  pub inside : s.skip + s.len ≤ w
  pub start_high : s.start ≤ FARTHEST
  pub w_high : w ≤ MOST_SIDE
  pub before : (j : ℕ) → j < s.start → side j ≡ None
  pub behind : (j : ℕ) → s.start + s.len ≤ j → side j ≡ None
  pub covered : (i : ℕ) → i < s.len → side (s.start + i) ≡ Some (s.skip + i)
