use Rattle.std.proofs.Common.{◌≡◌, ℕ, ◌-◌, ◌<◌, length, get_or, refl, sym, subst, ◌∙◌, arith}
use Rattle.std.proofs.lemmas.List.{get_or_default}
use Rattle.wf_kernel.specs.declared.strips.Strip.{Strip}
use Rattle.wf_kernel.specs.Bound.{Bound}
use Rattle.wf_kernel.specs.Hiding.{IsBeside}
use Rattle.wf_kernel.proofs.Cuts.{cut_strip, topped_strip, cut_more}
use Rattle.wf_kernel.proofs.strips.topped.Goals as goal

pub loop-left-preserved : goal.loop-left-preserved
loop-left-preserved c =
    let layers = c.args.layers.now in
    let s : Strip = c.loop-left.left in
    let t : Strip = c.in-Some.cut in
    let n : ℕ = s.top - 1 in
    let new : Strip = record { first = t.first; width = t.width; from = t.from; bottom = t.bottom; base = t.base; top = n } in
    let inv = c.loop-left.invariant in
    let none = c.in-Some.ensures.base ∙ inv.base in
    let top = c.in-Some.ensures.top in
    let top_in = inv.strip.top in
    let some = c.loop-left-test.true in
    let low : n < length layers = omega arith in
    record {
      strip = topped_strip layers c.args.width n t new (cut_strip layers c.args.width s t inv.strip c.in-Some.ensures.cut none top)
          (omega arith) refl refl refl refl none refl
          (λ d y a b.
          let at : get_or layers n d ≡ c.index-layers-i.result = get_or_default layers n d c.index-layers-i.result low
          ∙ sym c.index-layers-i.is in
          let P : Bound → Type 0 = λ l. IsBeside l t.first t.width y in
          subst P (sym at) (c.in-Some.ensures.beside y a b));
      cut = cut_more c.args.strip s t new inv.cut c.in-Some.ensures.cut refl refl refl refl;
      base = none;
    }
