use Rattle.std.proofs.Common.{ap, subst, ◌∙◌, ◌++◌, ◌∷◌, [], length, append_assoc, ◌≡◌}
use lib.ListN.{get_elem?}
use Rattle.wf_desk.specs.Ending.{hand_of}
use Rattle.wf_desk.specs.History.{events_of}
use Rattle.wf_desk.proofs.OneHistoryOfAllPasses.{all_read, middle, own_more, own_none}
use Rattle.wf_desk.proofs.board.Board.gather.Goals as goal

pub observer-seat-requires-after_bounds : goal.observer-seat-requires-after_bounds
observer-seat-requires-after_bounds g c κs within =
    let e = c.in-Some.ensures in let new = c.pop.new.self.items in
    all_read (λ k. k.desk ≡ c.args.self.now.table.shared.table_id) _ c.requires.desk (length new) c.in-Some.last
    (ap (λ l. get_elem? l (length new)) e.items ∙ middle new c.in-Some.last [])

pub take_in-requires-clause-place : goal.take_in-requires-clause-place
take_in-requires-clause-place g c κs within =
    let e = c.in-Some.ensures in let new = c.pop.new.self.items in (
      c.observer-seat.ensures.place.0,
      ap (λ k. k.desk) c.observer-seat.ensures.pass
          ∙ all_read (λ k. k.desk ≡ c.args.self.now.table.shared.table_id) _ c.requires.desk (length new) c.in-Some.last
          (ap (λ l. get_elem? l (length new)) e.items ∙ middle new c.in-Some.last []),
    )

pub take_in-requires-in-Some-pop-clause-place : goal.take_in-requires-in-Some-pop-clause-place
take_in-requires-in-Some-pop-clause-place g c κs within =
    let i = c.loop-pass.invariant in let e = c.in-Some-pop.ensures in let new = c.pop-in-loop-pass.new.self.items in (
      i.0,
      all_read (λ k. k.desk ≡ c.args.self.now.table.shared.table_id) _ c.requires.desk (length new) c.in-Some-pop.pass
          (ap (λ l. get_elem? l (length new)) (i.3.1 ∙ (ap (λ l. l ++ i.3.0) e.items ∙ append_assoc new (c.in-Some-pop.pass ∷ []) i.3.0))
          ∙ middle new c.in-Some-pop.pass i.3.0),
    )

pub loop-pass-init : goal.loop-pass-init
loop-pass-init g c =
    let t = c.take_in.ensures in let o = c.observer-seat.ensures in let e = c.in-Some.ensures in (
      t.place.0 ∙ o.place.0,
      t.place.1,
      t.place.2,
      (
        c.in-Some.last ∷ [],
        e.items,
        t.more.1 ∙ (λ i. o.place.3 i ++ hand_of (o.pass i) ∷ []),
        own_more c.in-Some.last [] (subst (λ k. k.mine ≡ events_of k.client k.seen) o.pass t.own) own_none,
      ),
    )

pub loop-pass-preserved : goal.loop-pass-preserved
loop-pass-preserved g c =
    let i = c.loop-pass.invariant in let e = c.in-Some-pop.ensures in let new = c.pop-in-loop-pass.new.self.items in
    let t = c.take_in-in-Some-pop.ensures in (
      t.place.0 ∙ i.0,
      t.place.1,
      t.place.2,
      (
        c.in-Some-pop.pass ∷ i.3.0,
        i.3.1 ∙ (ap (λ l. l ++ i.3.0) e.items ∙ append_assoc new (c.in-Some-pop.pass ∷ []) i.3.0),
        t.more.1 ∙ ap (λ l. l ++ hand_of c.in-Some-pop.pass ∷ []) i.3.2,
        own_more c.in-Some-pop.pass i.3.0 t.own i.3.3,
      ),
    )
