use Rattle.std.proofs.Common.{◌≡◌, ◌*◌, ◌≤◌, take}
use Rattle.wf_pixel.specs.declared.TheConstants.{MOST_SIDE}
use Rattle.wf_image.specs.Contents.{bytes_of, somes}
use Rattle.wf_image.proofs.contents.Contents.bytes.Given as goal

-- the bytes of the images so far
abbrev pub invariant-loop-place : goal.invariant-loop-place
invariant-loop-place l =
    record {
      bytes : l.bytes ≡ bytes_of (somes (take l.place-index l.place-items));
      most : l.bytes ≤ l.place-index * (4 * (MOST_SIDE * MOST_SIDE));
    }
