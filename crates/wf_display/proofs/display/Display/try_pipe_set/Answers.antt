use Rattle.std.proofs.lemmas.Grind.{common_steps}
use Rattle.std.proofs.Common.{◌≡◌, ◌∙◌, ◌<◌, ◌≤◌, Err, Ok, length, length-set, refl, set, sym, ap, subst, arith}
use Rattle.std.proofs.Math.Facts.{to_z-of_z}
use Rattle.wf_model.specs.DisplaySides.{on_display}
use Rattle.wf_model.specs.Pipelines.{pipe_set, pipeline_styled, with_cached}
use Rattle.wf_words.specs.Each.{each_at, each_set}
use Rattle.wf_display.specs.Display.{IsPipeline}
use Rattle.wf_display.specs.Does.{Does}
use Rattle.wf_display.proofs.Styles.{style_sound}
use Rattle.wf_display.proofs.AttributesSet.{pipeline_is, pipeline_set, read_at, read_twice, refuses, stays}
use Rattle.wf_display.proofs.display.Display.try_pipe_set.Goals as goal
use Rattle.wf_calls.specs.declared.TheConstants.{MOST_PIPELINES}

pub returns : goal.returns
returns c =
    let a = c.args in
    let place = c.in_ok-place.place in
    let here = rw (to_z-of_z c.ranges.pipe) at c.in_ok-place.ensures.place in
    let pipelines = ap (λ d. d.pipelines) c.self.view_is in
    let x = c.index_mut.result.now in
    let at = read_at _ a.self.now.pipelines place x pipelines here.within c.index_mut.ensures.value in
    let same = read_twice _ a.self.now.pipelines place c.index.result.now x pipelines here.within c.index.ensures
    c.index_mut.ensures.value in
    let styled : pipeline_styled a.attr a.value x.cached ≡ Ok c.in-Ok.style =
    ap (λ q. pipeline_styled a.attr a.value q.cached) (sym same) ∙ sym (c.in-Ok.ensures) in
    let y = with_cached c.in-Ok.style x in
    subst (λ k. Does (λ _. on_display (pipe_set a.pipe a.attr a.value)) a.self.now
    (record k { pipelines = set k.pipelines place y }) a.store.now
    a.store.now (Ok 0)) (sym c.self.view_is)
    (pipeline_set a.self.now a.store.now c.requires a.pipe place x here at (pipe_set a.pipe a.attr a.value) y
    (rw (pipeline_is a.self.now a.store.now c.requires a.pipe place x here at, styled) refl) (λ shows. shows) refl)

pub invariant_of-self : goal.invariant_of-self
invariant_of-self c =
    let place = c.in_ok-place.place in
    let here = rw (to_z-of_z c.ranges.pipe) at c.in_ok-place.ensures.place in
    let mine = c.self.inside.pipelines.items in
    let same : mine ≡ c.args.self.now.pipelines = ap (λ d. d.pipelines) c.self.view_is in
    let less : place < length mine = omega (arith, here.within, ap length same) in
    let x = c.index_mut.result.now in
    let at = read_at mine mine place x refl less c.index_mut.ensures.value in
    let read = read_twice mine mine place c.index.result.now x refl less c.index.ensures c.index_mut.ensures.value in
    let styled : pipeline_styled c.args.attr c.args.value x.cached ≡ Ok c.in-Ok.style =
    ap (λ q. pipeline_styled c.args.attr c.args.value q.cached) (sym read) ∙ sym (c.in-Ok.ensures) in
    let is = each_at IsPipeline mine place x c.self.invariant.display.pipelines at in
    let y = with_cached c.in-Ok.style x in
    record {
      display = record {
        ports = c.self.invariant.display.ports;
        pipelines = each_set IsPipeline mine place y c.self.invariant.display.pipelines (record {
          cached = style_sound c.args.attr c.args.value x.cached c.in-Ok.style is.cached styled;
          committed = is.committed;
        });
        few_ports = c.self.invariant.display.few_ports;
        few_pipelines = subst (λ k. k ≤ MOST_PIPELINES) (sym (length-set mine place y)) c.self.invariant.display.few_pipelines;
      };
      room = c.self.invariant.room;
    }

pub returns-in-Err : goal.returns-in-Err
returns-in-Err c =
    let a = c.args in
    let place = c.in_ok-place.place in
    let here = rw (to_z-of_z c.ranges.pipe) at c.in_ok-place.ensures.place in
    let x = c.index.result.now in
    let at = read_at _ a.self.now.pipelines place x (ap (λ d. d.pipelines) c.self.view_is) here.within c.index.ensures in
    let styled : pipeline_styled a.attr a.value x.cached ≡ Err c.in-Err.refusal = sym c.in-Err.ensures in
    refuses (pipe_set a.pipe a.attr a.value) a.self.now a.store.now c.in-Err.refusal
    (rw (pipeline_is a.self.now a.store.now c.requires a.pipe place x here at, styled) refl) c.requires

pub returns-in_err-place : goal.returns-in_err-place
returns-in_err-place c = stays _ _ _ _ (grind (arith, common_steps)) c.requires
