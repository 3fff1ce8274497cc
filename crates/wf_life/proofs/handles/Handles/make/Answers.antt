use Rattle.std.proofs.Common.{◌≡◌, ◌+◌, false, map, refl, sym, ap, ◌∙◌, arith}
use Rattle.std.proofs.lemmas.Bool.Decides.{nat_tests}
use Rattle.wf_life.specs.Handles.{Table, is_full}
use Rattle.wf_life.specs.Inside.{live_of}
use Rattle.wf_life.proofs.Tables.{live_made, rising_push, is_live_above, tally_more, tally_fits}
use Rattle.wf_life.proofs.handles.Handles.make.Goals as goal

pub overflow_add-self : goal.overflow_add-self
overflow_add-self c =
    rw c.place.ensures
    (omega (
      arith,
      tally_fits c.self.inside.counts c.self.inside.made (map live_of c.self.inside.live.entries) c.args.kind
          c.self.invariant.rising c.self.invariant.tally,
    ))

pub returns-clause-orderly : goal.returns-clause-orderly
returns-clause-orderly c =
    let es = c.self.inside.live.entries in
    rw (live_made c.self.inside.made _ es c.insert.new.self.entries c.self.invariant.rising c.in-Ok.ensures.entries)
    (rising_push 0 c.self.inside.made (map live_of es) _ c.self.invariant.rising (omega arith))

pub invariant_of-self-2 : goal.invariant_of-self-2
invariant_of-self-2 c =
    let es = c.self.inside.live.entries in
    let live-is = live_made c.self.inside.made _ es c.insert.new.self.entries c.self.invariant.rising c.in-Ok.ensures.entries in
    let left : is_full c.self.inside.made ≡ false = ap (λ (t : Table). is_full t.made) c.self.view_is ∙ sym c.full.ensures
    ∙ c.if-full.false in
    record {
      limit = grind (arith, nat_tests, left);
      rising = returns-clause-orderly c;
      tally = rw (live-is, c.place.ensures) (tally_more c.self.inside.counts (map live_of es) _ c.self.told c.self.invariant.tally);
    }

pub returns-clause-made : goal.returns-clause-made
returns-clause-made c =
    rw (
      ← c.self.view_is,
      live_made c.self.inside.made _ c.self.inside.live.entries c.insert.new.self.entries c.self.invariant.rising
          c.in-Ok.ensures.entries,
    ) refl

pub returns-clause-fresh : goal.returns-clause-fresh
returns-clause-fresh c =
    rw (← c.self.view_is) (is_live_above 0 c.self.inside.made (c.self.inside.made + 1) (map live_of c.self.inside.live.entries)
    c.self.invariant.rising (omega arith))
