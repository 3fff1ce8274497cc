use Rattle.std.proofs.Common.{◌≡◌, ℕ, ◌+◌, ◌-◌, ◌*◌, List, length, ap, sym, ◌∙◌, arith}
use Rattle.std.specs.Simd.Lanes.{chunk}
use Rattle.wf_pixel.specs.declared.Size.{Size}
use Rattle.wf_kernel.proofs.Gathered.{part_drawn}
use Rattle.wf_kernel.proofs.lines.row_part.Goals as goal

pub returns-clause-value : goal.returns-clause-value
returns-clause-value c =
    let image = c.args.image.now in
    let at : ℕ = 4 * (c.args.y * c.size-size.result.w + c.args.x) in
    let at_is : at ≡ 4 * (c.args.y * image.size.w + c.args.x) =
    ap (λ (s : Size). 4 * (c.args.y * s.w + c.args.x)) c.size-size.ensures.size in
    ap (λ (bytes : List ℕ). chunk at (at + 4 * c.args.n - at) bytes) c.bytes.ensures.value
    ∙ part_drawn image c.args.x c.args.y c.args.n at (at + 4 * c.args.n - at) c.requires.colours
    (ap (λ (l : List ℕ). length l) (sym c.bytes.ensures.value) ∙ c.bytes.ensures.len) c.requires.x c.requires.y at_is (omega arith)
