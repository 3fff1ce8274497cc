use Rattle.std.proofs.Common.{◌≡◌, List, false, subst}
use Rattle.std.specs.Prelude.{All}
use Rattle.wf_pixel.specs.declared.Rect.{Rect}
use Rattle.wf_kernel.specs.Parts.{covers_at}
use Rattle.wf_damage.proofs.Agreement.{agreement}
use Rattle.wf_damage.proofs.changes.areas.Goals as goal

pub returns-clause-outside : goal.returns-clause-outside
returns-clause-outside c x y x_low y_low out =
    agreement c.args.old.now c.args.new.now c.args.before.now c.args.now.now x y x_low y_low
    (subst (λ (l : List Rect). All (λ area. covers_at c.args.new.now area x y ≡ false) l) c.areas_by.ensures.areas out)
