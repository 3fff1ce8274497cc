-- Rows that are split among workers.
use Rattle.std.specs.Prelude.{◌≡◌, ◌+◌, ◌≤◌}
use Rattle.wf_kernel.specs.declared.splitting.Band.{Band}
use Rattle.wf_pixel.specs.declared.TheConstants.{MOST_SIDE}

-- a band has rows of a target, and from 1 to 16 workers
pub record IsBand (band : Band) : Type 0 where
  pub some_rows : 1 ≤ band.rows
  pub within : band.first + band.rows ≤ MOST_SIDE
  pub some_workers : 1 ≤ band.workers
  pub few_workers : band.workers ≤ 16

-- two bands, one below the other, have the rows and the workers of a band
pub record AreShares (band upper lower : Band) : Type 0 where
  pub upper_first : upper.first ≡ band.first
  pub lower_first : lower.first ≡ band.first + upper.rows
  pub rows : upper.rows + lower.rows ≡ band.rows
  pub workers : upper.workers + lower.workers ≡ band.workers
