use Rattle.wf_stream.specs.Renames.{same_names}
use Rattle.wf_machine.proofs.FrameNames.{may_end, next_ended, next_fits, next_left}
use Rattle.wf_machine.proofs.naming.end_contents.Goals as goal

pub loop-content-init : goal.loop-content-init
loop-content-init c = record { ends = same_names _; left = c.requires }

pub end_name-requires-clause-named : goal.end_name-requires-clause-named
end_name-requires-clause-named c =
    may_end _ _ (next_fits (λ x. x.stream) c.loop-content.content-index c.args.contents.now _ c.loop-content-test.true _
    c.loop-content.invariant.left)

pub loop-content-preserved : goal.loop-content-preserved
loop-content-preserved c =
    let so_far = c.loop-content.invariant in
    record {
      ends = next_ended (λ x. x.stream) c.loop-content.content-index c.args.contents.now _ c.loop-content-test.true _ _ _
          c.requires.counted so_far.ends
          (record { names = c.end_name.ensures.names; none = c.end_name.ensures.none; rest = c.end_name.ensures.rest });
      left = next_left (λ x. x.stream) c.loop-content.content-index c.args.contents.now _ c.loop-content-test.true _ so_far.left
          _ (record { names = c.end_name.ensures.names; none = c.end_name.ensures.none; rest = c.end_name.ensures.rest });
    }
