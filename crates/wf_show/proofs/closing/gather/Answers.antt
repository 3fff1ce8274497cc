use Rattle.std.proofs.Common.{length, ap, arith}
use Rattle.std.proofs.lemmas.List.{length-append}
use Rattle.wf_show.proofs.PassesAtTheEnd.{length_passes}
use Rattle.wf_show.proofs.closing.gather.Goals as goal

pub push_reserved-requires-in-loop-player : goal.push_reserved-requires-in-loop-player
push_reserved-requires-in-loop-player c =
    let l = c.loop-player in
    let i = l.invariant in
    omega (
      arith,
      ap length i.4,
      length-append l.yielded l.player-iterator.rest.items,
      ap length c.in-Some.ensures.steps.0,
      ap length i.2,
      length_passes l.yielded,
      i.3,
      c.requires.seven,
    )
