use Rattle.std.proofs.Common.{ℕ, ◌-◌, ◌∙◌, List, length, subst, sym}
use Rattle.wf_image.specs.Copies.{AreKnown}
use Rattle.wf_image.proofs.Copied.{Place, known_places}
use Rattle.wf_image.proofs.contents.Contents.copy_from.Goals as goal

pub copy_places-copied-requires-clause-known : goal.copy_places-copied-requires-clause-known
copy_places-copied-requires-clause-known c =
    let old = c.self.inside.pairs.items in
    let n : ℕ = length c.as_slice-from.result.now in
    subst (λ (l : List Place). AreKnown c.args.same.now c.as_mut_slice.result.now l) (sym c.as_slice-from.ensures.value)
    (known_places c.args.same.now old c.other.inside.pairs.items c.as_mut_slice.result.now c.args.self.now c.args.other.now n
    (n - length old)
    c.self.invariant c.other.invariant c.self.view_is c.other.view_is c.requires.same
    (c.as_mut_slice.ensures.value ∙ c.set_len.ensures))
