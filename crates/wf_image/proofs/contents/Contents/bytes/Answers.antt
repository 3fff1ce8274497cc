use Rattle.std.proofs.Common.{◌≡◌, ◌∙◌, ◌∷◌, [], ap, arith, length, zero-add}
use Rattle.wf_image.specs.Contents.{bytes_of, somes}
use Rattle.wf_image.proofs.Copied.{Place, bytes_more}
use Rattle.wf_image.proofs.contents.Contents.bytes.Goals as goal
use Rattle.wf_image.proofs.contents.Contents.bytes.Goals.{in-Some, in_default}

pub loop-place-preserved : goal.loop-place-preserved
loop-place-preserved c =
    let before = c.loop-place.invariant.bytes in
    let most = c.loop-place.invariant.most in
    let more = bytes_more c.as_slice-place-items.result.now c.loop-place.place-index c.place-item.result c.loop-place-test.true
    c.place-item.is in
    elim c.match-place.branch [
      | in-Some w ↦
          let one : bytes_of (somes (c.place-item.result ∷ [])) ≡ length w.in-Some.image.bytes =
          ap (λ (o : Place). bytes_of (somes (o ∷ []))) w.in-Some.is ∙ zero-add (length w.in-Some.image.bytes) in
          let len = w.len-bytes.ensures.value in
          let few = w.len-bytes.ensures.most in
          let now = w.bytes-is in
          record { bytes = omega arith; most = omega arith }
      | in_default w ↦
          let none : bytes_of (somes (c.place-item.result ∷ [])) ≡ 0 = ap (λ (o : Place). bytes_of (somes (o ∷ []))) w.in_default.is in
          let now = w.bytes-is in
          record { bytes = omega arith; most = omega arith }
    ]
