use Rattle.std.proofs.Common.{◌≡◌}
use Rattle.wf_image.specs.Bitmap.{pixel_bytes}
use Rattle.bench_pictures.proofs.pictures.rows_time.Given as goal

-- the target stays one for the scene
abbrev pub invariant-loop : goal.invariant-loop
invariant-loop g l = (l.target.size ≡ l.scene.size) × (pixel_bytes l.target.format ≡ 4)
