use Rattle.std.proofs.Common.{map, refl, sym, arith}
use Rattle.wf_life.specs.Inside.{live_of}
use Rattle.wf_life.proofs.Tables.{remove_without, rising_without, tally_less, count_without, same_kind_self}
use Rattle.wf_life.proofs.handles.Handles.kill.Goals as goal

pub overflow_sub-self : goal.overflow_sub-self
overflow_sub-self c =
    let kind = c.in-Some.object.kind in
    let taken = count_without c.args.handle kind c.in-Some.object c.self.inside.live.entries (sym c.in-Some.ensures.value) in
    let one = rw (same_kind_self kind) at taken in
    rw c.place.ensures (omega (arith, one, c.self.invariant.tally kind))

pub returns-in-Some-clause-orderly : goal.returns-in-Some-clause-orderly
returns-in-Some-clause-orderly c =
    let es = c.self.inside.live.entries in
    rw (c.remove.ensures.entries, remove_without 0 c.self.inside.made c.args.handle es c.self.invariant.rising)
    (rising_without 0 c.self.inside.made c.args.handle (map live_of es) c.self.invariant.rising)

pub invariant_of-self : goal.invariant_of-self
invariant_of-self c = record {
  limit = c.self.invariant.limit;
  rising = returns-in-Some-clause-orderly c;
  tally = rw (c.remove.ensures.entries, c.place.ensures)
      (tally_less c.self.inside.counts c.args.handle c.in-Some.object c.self.inside.live.entries c.self.told (sym c.in-Some.ensures.value)
      c.self.invariant.tally);
}

pub returns-in-Some-clause-killed : goal.returns-in-Some-clause-killed
returns-in-Some-clause-killed c =
    rw (
      ← c.self.view_is,
      c.remove.ensures.entries,
      remove_without 0 c.self.inside.made c.args.handle c.self.inside.live.entries
          c.self.invariant.rising,
    ) refl

pub returns-in_default-clause-killed : goal.returns-in_default-clause-killed
returns-in_default-clause-killed c =
    rw (
      ← c.self.view_is,
      c.remove.ensures.entries,
      remove_without 0 c.self.inside.made c.args.handle c.self.inside.live.entries
          c.self.invariant.rising,
    ) refl
