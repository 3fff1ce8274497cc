use Rattle.std.proofs.Common.{◌≡◌, ◌∙◌, ◌++◌, ◌∷◌, [], None, ap, arith, length, map, replicate, subst, sym, take}
use Rattle.std.proofs.lemmas.List.{length-append, map-append, take_all, take_more}
use Rattle.wf_calls.specs.PortRules.{may_have}
use Rattle.std.specs.List.{list_all}
use Rattle.std.specs.Prelude.{List}
use Rattle.wf_model.specs.declared.display.DisplaySource.{DisplaySource}
use Rattle.wf_model.specs.declared.display.Pipeline.{Pipeline}
use Rattle.wf_model.specs.declared.display.Port.{Port}
use Rattle.wf_model.specs.State.{DisplayState, initial_pipeline, initial_port, opened_display}
use Rattle.wf_display.specs.Display.{IsDisplay}
use Rattle.wf_display.specs.Fits.{Fits}
use Rattle.wf_display.specs.Opening.{with_screens}
use Rattle.wf_display.proofs.DisplayOpened.{declared_of, first_of, may_at, more_screens, opened_fits, opened_holds}
use Rattle.wf_display.proofs.display.Display.new.Goals as goal
use Rattle.wf_display.proofs.display.Display.new.Goals.{In_ok-with_capacity}

pub loop-modes-preserved : goal.loop-modes-preserved
loop-modes-preserved c =
    let all = c.as_slice-modes-items.result.now in
    let i = c.loop-modes.modes-index in
    let m = c.modes-item.result in
    let so_far = c.loop-modes.invariant in
    let more = take_more all i m c.loop-modes-test.true ∙ ap (λ x. take i all ++ x ∷ []) (sym c.modes-item.is) in
    let declared = declared_of c.args.ports.now c.requires.declared in
    let may = may_at all i m c.loop-modes-test.true c.modes-item.is (ap (list_all may_have) c.as_slice-modes-items.ensures.value
    ∙ declared.1) in
    let first = first_of _ m _ c.as_slice-sizes.ensures.value may in
    record {
      opened = c.push_reserved.ensures.items ∙ ap (λ ps. ps ++ c.initial_port.result ∷ []) so_far.opened
          ∙ ap (λ p. map initial_port (take i all) ++ p ∷ []) c.initial_port.ensures
          ∙ sym (ap (map initial_port) more ∙ map-append initial_port (take i all) (m ∷ []));
      many = omega (
        arith,
        so_far.many,
        ap length c.push_reserved.ensures.items,
        length-append c.loop-modes.opened.items
            (c.initial_port.result ∷ []),
      );
      screens = more_screens c.loop-modes.store c.screen.new.self (take i all) m _ so_far.screens first.0 c.in_ok-screen.ensures.screen
          ∙ ap with_screens (sym more);
      room = omega (arith, so_far.room, c.push_reserved.ensures.capacity);
    }

-- the ports, the pipelines and the sources are those of the opened display
ports : (c : In_ok-with_capacity) → c.loop-modes.opened.items ≡ map initial_port c.args.ports.now.modes.items
ports c = c.loop-modes.invariant.opened
    ∙ ap (map initial_port) (take_all c.loop-modes.modes-index c.as_slice-modes-items.result.now c.loop-modes-test.false
    ∙ c.as_slice-modes-items.ensures.value)

pipelines : (c : In_ok-with_capacity) → c.in_ok-pipelines.pipelines.items ≡ replicate c.args.ports.now.pipes initial_pipeline
pipelines c = c.in_ok-pipelines.ensures.items_if_clones_equal (λ y is. is)
    ∙ ap (replicate c.args.ports.now.pipes) c.initial_pipeline.ensures

-- what holds of the opened display holds of what was made
holds : (P : DisplayState → Type 0) (c : In_ok-with_capacity) → P (opened_display c.args.ports.now)
    → P (record {
      ports = c.loop-modes.opened.items;
      pipelines = c.in_ok-pipelines.pipelines.items;
      sources = c.in_ok-with_capacity.field-0.items;
      register = None;
    })
holds P c opened =
    let declared = c.args.ports.now in
    let made : List Port → List Pipeline → List DisplaySource
    → DisplayState = λ ps xs ss. record { ports = ps; pipelines = xs; sources = ss; register = None } in
    subst (λ ps. P (made ps c.in_ok-pipelines.pipelines.items c.in_ok-with_capacity.field-0.items)) (sym (ports c))
    (subst (λ xs. P (made (map initial_port declared.modes.items) xs c.in_ok-with_capacity.field-0.items)) (sym (pipelines c))
    (subst (λ ss. P (made (map initial_port declared.modes.items) (replicate declared.pipes initial_pipeline) ss))
    (sym c.in_ok-with_capacity.ensures.items) opened))

pub invariant_of-result : goal.invariant_of-result
invariant_of-result c = record {
  display = holds IsDisplay c (opened_holds c.args.ports.now c.requires.declared);
  room = c.in_ok-with_capacity.ensures.exact;
}

pub returns-clause-fits : goal.returns-clause-fits
returns-clause-fits c =
    let whole = take_all c.loop-modes.modes-index c.as_slice-modes-items.result.now c.loop-modes-test.false
    ∙ c.as_slice-modes-items.ensures.value in
    holds (λ d. Fits d c.loop-modes.store) c
    (subst (λ v. Fits (opened_display c.args.ports.now) v) (sym (c.loop-modes.invariant.screens ∙ ap with_screens whole))
    (opened_fits c.args.ports.now))
