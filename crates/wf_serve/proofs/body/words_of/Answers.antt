use Rattle.std.proofs.Common.{ap, arith, length}
use Rattle.wf_serve.proofs.Numbers.{length-words}
use Rattle.wf_serve.proofs.body.words_of.Goals as goal

pub push-requires : goal.push-requires
push-requires c = (
  omega arith,
  omega (
    arith,
    ap length c.loop-place.invariant,
    length-words c.loop-place.place c.args.body.now,
    c.loop-place-test.true,
    c.requires.most,
  ),
)
