use Rattle.std.proofs.Common.{◌≡◌, ℕ, ◌+◌, ◌*◌, ◌<◌, ◌≤◌, List, length, get_or, ◌∙◌, arith}
use Rattle.std.specs.Simd.Lanes.{chunk}
use Rattle.wf_row.specs.Gather.{turned_lanes}
use Rattle.wf_row.proofs.Tiles.{PutsTile, tile_pixels, tile_put, tile_written}
use Rattle.wf_row.proofs.columns.put_tile.Goals as goal

-- the tile that was written
tile : (c : goal.After-out-4-1)
    → PutsTile (length c.args.rows.now) c.args.i c.args.j c.args.src.now
    (λ a b. 4 * (c.args.column + b + get_or c.args.rows.now a 0 * c.args.stride)) c.args.out.now
    (tile_written (length c.args.rows.now) c.args.i c.args.j c.args.out.now c.turn_lanes-columns.result.0 c.turn_lanes-columns.result.1
    c.turn_lanes-columns.result.2 c.turn_lanes-columns.result.3)
tile c =
    let n : ℕ = length c.args.rows.now in
    let i : ℕ = c.args.i in
    let j : ℕ = c.args.j in
    let src : List ℕ = c.args.src.now in
    let rows : List ℕ = c.args.rows.now in
    let room : (m : ℕ) → m < 4 → 4 * (c.args.column + j + get_or rows (i + m) 0 * c.args.stride) + 16 ≤ length src = λ m less.
    let inside = c.requires.within (i + m) 0 (omega arith) in
    omega arith in
    let row : ℕ → List ℕ = λ a. chunk (4 * (c.args.column + j + get_or rows a 0 * c.args.stride)) 16 src in
    let lanes : (q : ℕ) → turned_lanes q c.load_four.result c.load_four-2.result c.load_four-3.result c.load_four-4.result
    ≡ turned_lanes q (row i) (row (i + 1)) (row (i + 2)) (row (i + 3)) = λ q t. turned_lanes q (c.load_four.ensures.value t)
    (c.load_four-2.ensures.value t) (c.load_four-3.ensures.value t) (c.load_four-4.ensures.value t) in
    let turned = c.turn_lanes-columns.ensures in
    let pixels = λ (q b : ℕ) (piece : List ℕ). tile_pixels c.args.column c.args.stride i j q b src rows piece in
    tile_put n i j src (λ a b. 4 * (c.args.column + b + get_or rows a 0 * c.args.stride)) c.args.out.now
    c.turn_lanes-columns.result.0 c.turn_lanes-columns.result.1 c.turn_lanes-columns.result.2 c.turn_lanes-columns.result.3
    c.requires.out c.requires.i c.requires.j
    (pixels 0 j _ (omega arith) (omega arith) room (turned.first ∙ lanes 0))
    (pixels 1 (j + 1) _ (omega arith) (omega arith) room (turned.second ∙ lanes 1))
    (pixels 2 (j + 2) _ (omega arith) (omega arith) room (turned.third ∙ lanes 2))
    (pixels 3 (j + 3) _ (omega arith) (omega arith) room (turned.fourth ∙ lanes 3))

pub returns-clause-tile : goal.returns-clause-tile
returns-clause-tile c = (tile c).fresh

pub returns-clause-beside : goal.returns-clause-beside
returns-clause-beside c = (tile c).stays
