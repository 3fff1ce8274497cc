use Rattle.std.proofs.Common.{◌≡◌, ◌∙◌, ◌+◌, ◌<◌, get_or, length, subst, arith, length-set}
use Rattle.wf_io.specs.Bytes.{Puts}
use Rattle.wf_serve.specs.Pictures.{shown_bytes}
use Rattle.wf_serve.specs.Putting.{PutsFront}
use Rattle.wf_serve.specs.Ticks.{no_screen, of_port}
use Rattle.wf_serve.proofs.Elements.{same_element}
use Rattle.wf_serve.proofs.Puttings.{shows_cut}
use Rattle.wf_serve.proofs.Shown.{one_machine, one_put, one_screen}
use Rattle.wf_serve.proofs.showing.show.Goals as goal

pub loop-n-preserved : goal.loop-n-preserved
loop-n-preserved g c =
    let items = c.loop-n.screens.items in
    let few : c.loop-n.n < length items = omega (arith, c.loop-n.invariant.count, c.loop-n-test.true, c.requires.few) in
    let last : c.index_mut-screen.result.now ≡ get_or items c.loop-n.n no_screen =
    c.index_mut-screen.ensures.value
    ∙ same_element items c.from.result c.loop-n.n c.index_mut-screen.result.now no_screen c.from.ensures few in
    let form = c.loop-n.invariant.form in
    let before = c.loop-n.invariant in record {
      machine = one_machine c.args.pictures.now c.args.tick c.loop-n.n c.args.machine.now c.args.screens.now.items c.loop-n.machine items
          before.machine before.screens c.show_port.new.machine c.in-Ok.ensures.machine;
      free = c.in-Ok.ensures.frame;
      form = c.in-Ok.ensures.form ∙ form;
      screens = one_screen c.args.pictures.now c.args.tick c.loop-n.n c.args.machine.now c.args.screens.now.items c.loop-n.machine items
          before.machine before.screens c.from.result c.index_mut-screen.result.now c.show_port.new.screen c.from.ensures last
          c.in-Ok.ensures.screen;
      count = length-set items c.from.result c.show_port.new.screen ∙ before.count;
      put = one_put c.args.pictures.now c.args.tick c.loop-n.n c.args.machine.now c.args.screens.now.items c.loop-n.machine items
          before.machine before.screens g.K.Sink.took c.args.out.now c.loop-n.out c.show_port.new.out c.index_mut-screen.result.now last
          before.put
          (subst (λ f. Puts g.K.Sink.took c.loop-n.out c.show_port.new.out (shown_bytes f c.args.tick (c.loop-n.n + 1)
          (of_port (c.loop-n.n + 1) c.loop-n.machine).frame c.index_mut-screen.result.now)) form c.in-Ok.ensures.writes);
      later = omega (arith, before.later, c.in-Ok.ensures.cause.later);
    }

pub returns-in-Err-clause-writes : goal.returns-in-Err-clause-writes
returns-in-Err-clause-writes g c =
    let few : c.loop-n.n < length c.loop-n.screens.items = omega (arith, c.loop-n.invariant.count, c.loop-n-test.true, c.requires.few) in
    let last : c.index_mut-screen.result.now ≡ get_or c.loop-n.screens.items c.loop-n.n no_screen =
    c.index_mut-screen.ensures.value
    ∙ same_element c.loop-n.screens.items c.from.result c.loop-n.n c.index_mut-screen.result.now no_screen c.from.ensures few in
    shows_cut g.K.Sink.took c.args.out.now c.loop-n.out c.show_port.new.out c.args.pictures.now c.args.tick c.loop-n.n c.args.count
    c.args.machine.now c.args.screens.now.items c.loop-n.machine c.loop-n.screens.items c.loop-n-test.true c.loop-n.invariant.machine
    c.loop-n.invariant.screens c.loop-n.invariant.put
    (subst (λ f. PutsFront g.K.Sink.took c.loop-n.out c.show_port.new.out (shown_bytes f c.args.tick (c.loop-n.n + 1)
    (of_port (c.loop-n.n + 1) c.loop-n.machine).frame (get_or c.loop-n.screens.items c.loop-n.n no_screen))) c.loop-n.invariant.form
    (subst (λ l. PutsFront g.K.Sink.took c.loop-n.out c.show_port.new.out (shown_bytes c.loop-n.pictures c.args.tick (c.loop-n.n + 1)
    (of_port (c.loop-n.n + 1) c.loop-n.machine).frame l)) last c.in-Err.ensures.writes))
