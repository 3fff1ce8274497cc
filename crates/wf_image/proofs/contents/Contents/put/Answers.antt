use Rattle.std.proofs.Common.{◌≡◌, None, arith, ap, subst, sym, length, ◌∙◌, ◌++◌, ◌∷◌, []}
use Rattle.wf_image.specs.Contents.{image_of, somes}
use Rattle.wf_image.proofs.Apart.{places_with}
use Rattle.wf_image.proofs.Places.{length-somes, somes_put}
use Rattle.wf_image.proofs.contents.Contents.put.Goals as goal

pub push-requires : goal.push-requires
push-requires c =
    (omega arith, omega (arith, length-somes c.self.inside.pairs.items c.self.invariant.full, ap (λ l. length l) c.self.view_is))

pub returns : goal.returns
returns c =
    ap (λ l. somes l) c.push.ensures.items ∙ somes_put c.self.inside.pairs.items (c.args.stream, c.args.image)
    ∙ ap (λ l. l ++ (c.args.stream, c.args.image) ∷ []) c.self.view_is

pub invariant_of-self : goal.invariant_of-self
invariant_of-self c =
    places_with c.self.inside.pairs.items c.push.new.self.items c.args.stream c.args.image c.self.invariant
    (subst (λ l. image_of c.args.stream l ≡ None) (sym c.self.view_is) c.requires.apart) c.push.ensures.items
