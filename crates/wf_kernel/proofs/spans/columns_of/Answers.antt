use Rattle.std.proofs.Common.{ℕ, pos, refl, arith, rules}
use Rattle.std.specs.Prelude.{Option}
use Rattle.wf_pixel.specs.Along.{along}
use Rattle.wf_kernel.specs.Spans.{IsReach}
use Rattle.wf_kernel.proofs.Reaches.{reach_none, reach_some}
use Rattle.wf_kernel.proofs.spans.columns_of.Goals as goal

pub returns-then-end-start-clause-reach : goal.returns-then-end-start-clause-reach
returns-then-end-start-clause-reach c =
    let side : ℕ → Option ℕ = λ j. along c.args.r.x c.args.r.w (pos j) in
    let all = c.reach_of-all.ensures in
    let reach : IsReach side c.args.r.w c.reach_of-all.result = search rules in
    reach_none side c.args.r.w c.args.left c.args.right c.reach_of-all.result _ reach (λ j a b d. omega arith) refl refl refl

pub returns-clause-reach : goal.returns-clause-reach
returns-clause-reach c =
    let side : ℕ → Option ℕ = λ j. along c.args.r.x c.args.r.w (pos j) in
    let all = c.reach_of-all.ensures in
    let reach : IsReach side c.args.r.w c.reach_of-all.result = search rules in
    reach_some side c.args.r.w c.args.left c.args.right c.max-start.result c.min-end.result c.reach_of-all.result _ reach
    (omega arith) (omega arith) (omega arith) (omega arith) (omega arith) (omega arith) (λ j a b. omega arith) (λ j a b. omega arith)
    refl refl refl
