use Rattle.std.proofs.Common.{◌∙◌, ◌++◌, ap, length, take, drop}
use Rattle.std.specs.Prelude.{slice_index_or}
use Rattle.wf_model.specs.State.{opening}
use Rattle.wf_show.proofs.Passes.{dealt, fresh_clock}
use Rattle.wf_show.proofs.players.Players.open.Goals as goal

pub players_of-requires-clause-passes : goal.players_of-requires-clause-passes
players_of-requires-clause-passes c =
    let s = c.args.script.now in
    let d = c.in_ok-desk.desk.id in
    let are = c.in_ok-desk.ensures.passes
    ∙ dealt d s c.in_ok-machine.machine c.quotas_of.result (c.in_ok-machine.ensures ∙ ap opening c.ports.ensures.ports)
    c.quotas_of.ensures.quotas in
    c.remove-pass.ensures.by_index.2 ∙ ap (λ xs. take 0 xs ++ drop 1 xs) are

pub returns : goal.returns
returns c =
    let s = c.args.script.now in
    let d = c.in_ok-desk.desk.id in
    let opened = c.in_ok-machine.ensures ∙ ap opening c.ports.ensures.ports in
    let are = c.in_ok-desk.ensures.passes ∙ dealt d s c.in_ok-machine.machine c.quotas_of.result opened c.quotas_of.ensures.quotas in
    let pass_is = c.remove-pass.ensures.value ∙ ap (λ xs. slice_index_or xs 0 c.remove-pass.result) are in
    record {
      opening_is = c.in_ok-desk.ensures.opening ∙ opened;
      eight = ap length (c.in_ok-desk.ensures.quotas ∙ c.quotas_of.ensures.quotas);
      clock =
          fresh_clock d s c.remove-pass.result c.in_ok-program.program pass_is c.in_ok-program.ensures.program c.in_ok-program.ensures.fit
          c.in_ok-program.ensures.left c.quotas_of.ensures.few;
      others = c.in_ok-others.ensures.fresh;
      seven = c.in_ok-others.ensures.seven;
      none = c.in_ok-ended.ensures.items;
      room = c.in_ok-ended.ensures.capacity;
      ticks = c.quotas_of.ensures.ticks;
    }
