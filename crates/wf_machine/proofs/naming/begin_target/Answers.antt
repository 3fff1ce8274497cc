use Rattle.std.proofs.Common.{[], sym, subst}
use Rattle.wf_stream.specs.Renames.{Renames, same_names}
use Rattle.wf_machine.specs.Naming.{drawn_names}
use Rattle.wf_machine.proofs.FrameNames.{more_begun}
use Rattle.wf_machine.proofs.naming.begin_target.Goals as goal

pub returns-in-Context-clause-begins : goal.returns-in-Context-clause-begins
returns-in-Context-clause-begins c =
    let first = c.begin_name.ensures in
    let second = c.begin_name-in-Context.ensures in
    subst (λ k. Renames [] (drawn_names k) c.args.store.now c.begin_name-in-Context.new.store) (sym c.in-Context.is)
    (more_begun _ _ _ _ _ c.requires.counted (record { names = first.names; none = first.none; rest = first.rest })
    (record { names = second.names; none = second.none; rest = second.rest }))

pub returns-in_default-clause-begins : goal.returns-in_default-clause-begins
returns-in_default-clause-begins c =
    subst (λ k. Renames [] (drawn_names k) c.args.store.now c.args.store.now) (sym c.in_default.is) (same_names _)
