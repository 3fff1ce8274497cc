use Rattle.std.proofs.Common.{◌≡◌, ℕ, ◌+◌, ◌-◌, ◌*◌, ◌<◌, ◌≤◌, List, length, get_or, refl, ap, ◌∙◌, arith, below_more}
use Rattle.std.specs.Simd.Lanes.{put_chunk}
use Rattle.std.proofs.lemmas.Simd.{length-chunk, get_or-chunk}
use Rattle.wf_row.proofs.Tiles.{pixel_put, column_ends, Holds}
use Rattle.wf_row.proofs.columns.gather_columns.Goals as goal

pub loop-j-preserved : goal.loop-j-preserved
loop-j-preserved c =
    let n : ℕ = length c.args.rows.now in
    let i : ℕ = c.loop-i.i in
    let j : ℕ = c.loop-j.j in
    let src : List ℕ = c.args.src.now in
    let out : List ℕ = c.loop-j.out in
    let piece : List ℕ = c.load_pixel-pixel.result in
    let from : ℕ → ℕ → ℕ = λ a b. 4 * (c.args.column + b + get_or c.args.rows.now a 0 * c.args.stride) in
    let at : ℕ = 4 * (c.args.column + get_or c.args.rows.now i 0 * c.args.stride + j) in
    let low : i < n = c.loop-i-test.true in
    let inside = c.requires.within i 0 low in
    let end : n * j + n ≤ n * 8 = column_ends n j 8 c.loop-j-test.true in
    let room : 4 * (n * j + i) + 4 * 1 ≤ length out = omega (arith, c.loop-j.auto.out, c.loop-i.auto.out) in
    let len : length piece ≡ 4 * 1 = ap length c.load_pixel-pixel.ensures.value ∙ length-chunk at 4 src (omega arith) in (
      λ a b before eight. pixel_put n 1 i j a b (from a b) src out piece len (omega arith) (omega arith) room
          (λ is. absurd (omega (arith, is.1))) (λ _. c.loop-j.invariant.0 a b before eight),
      below_more (λ b. Holds n src (put_chunk (4 * (n * j + i)) out piece) (from i b) i b) j
          (λ b before. pixel_put n 1 i j i b (from i b) src out piece len (omega arith) low room
          (λ is. absurd (omega (arith, is.0))) (λ _. c.loop-j.invariant.1 b before))
          (pixel_put n 1 i j i j (from i j) src out piece len (omega arith) low room
          (λ _ k less.
          let place : 4 * (i - i) + k ≡ k = omega arith in
          let there : at + k ≡ from i j + k = omega arith in
          ap (λ (x : ℕ). get_or piece x 0) place ∙ ap (λ (xs : List ℕ). get_or xs k 0) c.load_pixel-pixel.ensures.value
          ∙ get_or-chunk at 4 src k 0 less ∙ ap (λ (x : ℕ). get_or src x 0) there)
          (λ not. absurd (not (refl, omega arith, omega arith)))),
    )
