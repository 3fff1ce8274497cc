use Rattle.std.proofs.Common.{◌∙◌, ◌<◌, length, set, ap, arith, length-set}
use Rattle.wf_serve.specs.Pictures.{forgotten}
use Rattle.wf_serve.proofs.Forgotten.{one_more}
use Rattle.wf_serve.proofs.screen.forget_all.Goals as goal

pub loop-n-preserved : goal.loop-n-preserved
loop-n-preserved c =
    let few : c.loop-n.n < length c.args.screens.now.items = omega (arith, c.loop-n-test.true, c.len-n-end.ensures) in record {
      so_far = ap (λ x. set c.loop-n.screens.items c.loop-n.n x) (c.forget.ensures ∙ ap forgotten c.index_mut.ensures.value)
          ∙ one_more forgotten c.loop-n.n c.args.screens.now.items c.loop-n.screens.items c.index_mut.result.now few
          c.loop-n.invariant.so_far;
      count = length-set c.loop-n.screens.items c.loop-n.n c.forget.new.screen ∙ c.loop-n.invariant.count;
    }
