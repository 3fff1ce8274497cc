use Rattle.std.proofs.Common.{ℕ, ◌*◌, ◌++◌, arith, ◌∙◌}
use Rattle.wf_kernel.proofs.Banded.{shares_bytes, shares_joined}
use Rattle.wf_kernel.proofs.bands.+shares.Goals as goal

pub paint_band-paint_shares-requires-clause-b : goal.paint_band-paint_shares-requires-clause-b
paint_band-paint_shares-requires-clause-b g t c κs within =
    let s : ℕ = 4 * c.args.width in
    let upper = c.split_band.result.0 in
    let lower = c.split_band.result.1 in
    let bytes = shares_bytes upper.rows lower.rows c.args.band.rows s c.split_band.ensures.shares.rows in
    omega (arith, c.split_at_mut-a.ensures.back_len, c.requires.count)

pub paint_band-returns : goal.paint_band-returns
paint_band-returns g t c =
    (λ i. c.paint_shares.ensures.upper i ++ c.paint_shares.ensures.lower i)
    ∙ shares_joined c.args.width c.args.layers.now c.args.background c.args.band c.split_band.result.0 c.split_band.result.1
    c.split_band.ensures.shares
