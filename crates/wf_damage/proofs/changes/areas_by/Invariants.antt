use Rattle.std.proofs.Common.{◌≡◌, ◌*◌, ◌≤◌, ◌++◌, length, drop}
use Rattle.wf_damage.specs.Areas.{areas_between}
use Rattle.wf_damage.specs.Compared.{AreCompared}
use Rattle.wf_damage.proofs.changes.areas_by.Given as goal

-- what the places from the next one on give is left
abbrev pub invariant-loop-i : goal.invariant-loop-i
invariant-loop-i l =
    record {
      few : length l.list.items ≤ 2 * l.i;
      left : l.list.items ++ areas_between l.before l.now (drop l.i l.a) (drop l.i l.b) ≡ areas_between l.before l.now l.a l.b;
      compared : AreCompared l.before l.now l.compared;
    }
