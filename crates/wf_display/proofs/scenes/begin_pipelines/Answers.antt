use Rattle.std.proofs.Common.{◌<◌, [], arith, length, refl}
use Rattle.wf_model.specs.Display.{begun_pipeline}
use Rattle.wf_words.specs.Places.{map_step}
use Rattle.wf_display.proofs.NameCounts.{begun_names}
use Rattle.wf_display.proofs.PipelineNames.{enough_room, new_kept, none_renamed, old_fit, one_renamed}
use Rattle.wf_display.proofs.scenes.begin_pipelines.Goals as goal

pub loop-place-init : goal.loop-place-init
loop-place-init c = record { pipelines = refl; renamed = none_renamed c.args.pipelines.now c.args.store.now }

pub rename-requires : goal.rename-requires
rename-requires c =
    let a = c.args in
    let place = c.loop-place.place in
    let xs = a.pipelines.now in
    let ys = c.loop-place.pipelines in
    let v = c.loop-place.store in
    let so_far = c.loop-place.invariant.renamed in
    let less : place < length ys = omega arith in
    let is = c.begun_pipeline-new.ensures in
    record {
      names = old_fit place xs ys a.store.now v so_far [] c.requires.names place _ c.begun_pipeline-new.result
          (λ k x. begun_pipeline a.number x) less is;
      kept = new_kept place xs ys a.store.now v so_far [] c.requires.names place _ c.begun_pipeline-new.result
          (λ k x. begun_pipeline a.number x) less is
          (λ k n x some there. (let named = begun_names a.number n x there in omega (arith, named)));
      room = enough_room place xs ys a.store.now v so_far c.requires.room (omega arith);
    }

pub loop-place-preserved : goal.loop-place-preserved
loop-place-preserved c =
    let a = c.args in
    let place = c.loop-place.place in
    let xs = a.pipelines.now in
    let ys = c.loop-place.pipelines in
    let less : place < length ys = omega arith in
    let is = c.begun_pipeline-new.ensures in
    record {
      pipelines = map_step (begun_pipeline a.number) xs ys place _ c.begun_pipeline-new.result (omega arith)
          c.loop-place.invariant.pipelines is;
      renamed = one_renamed place xs ys a.store.now c.loop-place.store c.loop-place.invariant.renamed [] c.requires.names place _
          c.begun_pipeline-new.result (λ k x. begun_pipeline a.number x) less is c.rename.new.store c.rename.ensures.names
          c.rename.ensures.rest c.rename.ensures.none;
    }
