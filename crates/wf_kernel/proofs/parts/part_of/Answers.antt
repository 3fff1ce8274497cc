use Rattle.std.proofs.Common.{◌≡◌, sym, ap, subst, ◌∙◌, rules}
use Rattle.wf_pixel.specs.declared.Size.{Size}
use Rattle.wf_kernel.specs.declared.parts.Part.{Part}
use Rattle.wf_kernel.specs.Parts.{covers_at}
use Rattle.wf_kernel.specs.PartOfTarget.{IsPart, holds, turned_part}
use Rattle.wf_kernel.proofs.Partly.{side_holds, turned_holds, turned_is}
use Rattle.wf_kernel.proofs.parts.part_of.Goals as goal

pub returns-clause-part : goal.returns-clause-part
returns-clause-part c =
    let scene = c.args.scene.now in
    let l = c.side_in-left in
    let t = c.side_in-top in
    let p : Part = record { left = l.result.0; right = l.result.1; top = t.result.0; bottom = t.result.1 } in
    let Is : Size → Type 0 = λ s. IsPart s.w s.h p → IsPart scene.size.w scene.size.h (turned_part scene.turn s p) in
    subst (IsPart scene.size.w scene.size.h) (sym c.turned_part.ensures)
    (subst Is (sym c.turned-space.ensures) (turned_is scene.turn scene.size p)
    (record { columns = l.ensures.order; right = l.ensures.within; rows = t.ensures.order; bottom = t.ensures.within }))

pub returns-clause-holds : goal.returns-clause-holds
returns-clause-holds c x y x_low y_low =
    let scene = c.args.scene.now in
    let a = c.args.area in
    let l = c.side_in-left in
    let t = c.side_in-top in
    let p : Part = record { left = l.result.0; right = l.result.1; top = t.result.0; bottom = t.result.1 } in
    let space : Size = c.turned-space.result in
    let columns : side_holds a.x a.w space.w p.left p.right = λ j low. let h = l.ensures.inside j low in search rules in
    let rows : side_holds a.y a.h space.h p.top p.bottom = λ j low. let h = t.ensures.inside j low in search rules in
    let Holds : Size → Type 0 = λ s. IsPart s.w s.h p → side_holds a.x a.w s.w p.left p.right → side_holds a.y a.h s.h p.top p.bottom
    → holds (turned_part scene.turn s p) x y ≡ covers_at scene a x y in
    ap (λ (q : Part). holds q x y) c.turned_part.ensures
    ∙ subst Holds (sym c.turned-space.ensures)
    (λ is columns rows. turned_holds scene.turn scene.size a p x y is columns rows x_low y_low)
    (record { columns = l.ensures.order; right = l.ensures.within; rows = t.ensures.order; bottom = t.ensures.within }) columns rows
