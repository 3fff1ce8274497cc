use Rattle.std.proofs.Common.{ℕ, Bool, ◌≡◌, ◌==◌, ap, arith, ◌∙◌, None, Some, [], ◌∷◌, cond, false}
use Rattle.std.specs.Prelude.{option_map, find}
use Rattle.std.proofs.lemmas.Bool.Decides.{nat_tests}
use Rattle.wf_image.specs.Bitmap.{Bitmap}
use Rattle.wf_image.specs.Contents.{somes}
use Rattle.wf_image.proofs.Places.{find_here, find_past}
use Rattle.wf_image.proofs.contents.find_in.Goals as goal
use Rattle.wf_image.proofs.contents.find_in.Goals.{in-Some+else-number-stream, in_default}

pub returns-then-number-stream-clause-some : goal.returns-then-number-stream-clause-some
returns-then-number-stream-clause-some c =
    ap (λ o. option_map (λ pair. pair.1) o) (find_here (λ pair. pair.0 == c.args.stream) c.args.pairs.now c.loop-at.at
    c.index-pairs-at.result (c.in-Some.number, c.in-Some.image) c.loop-at-test.true c.index-pairs-at.is c.loop-at.invariant c.in-Some.is
    (grind (arith, nat_tests, c.if-number-stream.true)))

pub loop-at-preserved : goal.loop-at-preserved
loop-at-preserved c =
    let p : ℕ × Bitmap → Bool = λ pair. pair.0 == c.args.stream in
    find_past p c.args.pairs.now c.loop-at.at c.index-pairs-at.result c.loop-at-test.true c.index-pairs-at.is c.loop-at.invariant
    (elim c.match-pairs-at.branch [
      | in-Some+else-number-stream w ↦
          let other : (w.in-Some.number == c.args.stream) ≡ false = grind (arith, nat_tests, w.if-number-stream.false) in
          ap (λ o. find p (somes (o ∷ []))) w.in-Some.is ∙ ap (λ b. cond b (Some (w.in-Some.number, w.in-Some.image)) None) other
      | in_default w ↦ ap (λ o. find p (somes (o ∷ []))) w.in_default.is
    ])
