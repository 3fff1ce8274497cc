use Rattle.std.proofs.Common.{refl, ◌∙◌}
use Rattle.wf_stream.specs.Renames.{same_names}
use Rattle.wf_machine.proofs.FrameNames.{next_begun}
use Rattle.wf_machine.proofs.naming.begin_contents.Goals as goal

pub loop-content-init : goal.loop-content-init
loop-content-init c = record { begins = same_names _; streams = refl }

pub loop-content-preserved : goal.loop-content-preserved
loop-content-preserved c =
    let so_far = c.loop-content.invariant in
    record {
      begins = next_begun (λ x. x.stream) c.loop-content.content-index c.args.contents.now _ c.loop-content-test.true _ _ _
          c.requires.counted so_far.begins
          (record { names = c.begin_name.ensures.names; none = c.begin_name.ensures.none; rest = c.begin_name.ensures.rest });
      streams = c.begin_name.ensures.streams ∙ so_far.streams;
    }
