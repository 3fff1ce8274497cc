use Rattle.std.proofs.Common.{◌+◌, ◌-◌, ◌*◌}
use Rattle.wf_kernel.proofs.bands.+shares.Given as goal

abbrev pub decreases-paint_band : goal.decreases-paint_band
decreases-paint_band g l = 4 * l.band.workers

abbrev pub decreases-paint_shares : goal.decreases-paint_shares
decreases-paint_shares g l = 4 * (l.upper.workers + l.lower.workers) - 1

abbrev pub decreases-paint_shares-first : goal.decreases-paint_shares-first
decreases-paint_shares-first g l = 4 * l.upper.workers + 1

abbrev pub decreases-paint_shares-second : goal.decreases-paint_shares-second
decreases-paint_shares-second g l = 4 * l.lower.workers + 1
