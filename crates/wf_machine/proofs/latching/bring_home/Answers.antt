use Rattle.wf_machine.proofs.Common.{◌≡◌, ℕ, ◌++◌, [], ◌∷◌, sym, ap, subst, ◌∙◌, append-nil, returned, StoreView, change_stream}
use Rattle.wf_machine.proofs.Common.{brought_home, Bitmap, Awaits}
use Rattle.wf_machine.proofs.ImagesAreHome.{home_more, next_awaited, next_home, none_home, still_awaits}
use Rattle.wf_machine.proofs.latching.bring_home.Goals as goal

pub loop-number-init : goal.loop-number-init
loop-number-init c =
    let store = c.args.store.now in
    ([], sym (append-nil _), ap (λ streams. record store { streams = streams }) (none_home store.streams))

pub give_back-requires : goal.give_back-requires
give_back-requires c =
    let streams = c.args.store.now.streams in
    let home = c.loop-number.invariant.0 in
    let pair : ℕ × Bitmap = (c.in-Some.number, c.in-Some.image) in
    let is = next_home _ c.loop-number.contents _ home pair c.loop-number.invariant.1 c.in-Some.ensures.last in
    let awaited = next_awaited streams _ _ home pair is c.requires.awaited in
    subst (λ store. Awaits store.streams pair) (sym c.loop-number.invariant.2)
    (still_awaits pair home streams awaited.1 awaited.0)

pub loop-number-preserved : goal.loop-number-preserved
loop-number-preserved c =
    let before = c.args.store.now in
    let home = c.loop-number.invariant.0 in
    let pair : ℕ × Bitmap = (c.in-Some.number, c.in-Some.image) in
    let is = next_home _ c.loop-number.contents _ home pair c.loop-number.invariant.1 c.in-Some.ensures.last in
    let awaited = next_awaited before.streams _ _ home pair is c.requires.awaited in (
      pair ∷ home,
      is,
      c.give_back.ensures
          ∙ ap (λ (store : StoreView). record store { streams = change_stream c.in-Some.number (returned c.in-Some.image) store.streams })
          c.loop-number.invariant.2
          ∙ ap (λ streams. record before { streams = streams })
          (home_more c.in-Some.number c.in-Some.image home before.streams awaited.1),
    )

pub returns : goal.returns
returns c =
    let before = c.args.store.now in
    let is : c.args.contents.now ≡ c.loop-number.invariant.0 = c.loop-number.invariant.1
    ∙ ap (λ xs. xs ++ c.loop-number.invariant.0) c.in_default.ensures.none in
    c.loop-number.invariant.2 ∙ ap (λ xs. record before { streams = brought_home xs before.streams }) (sym is)
