use Rattle.std.proofs.Common.{sym, subst, ◌∙◌, length, ◌≤◌, ◌≡◌}
use Rattle.std.specs.List.{All}
use Rattle.wf_desk.specs.Desk.{length-fresh, AreInOrder-fresh, AreInOrder-all}
use Rattle.bench_desk.proofs.desk_time.Goals as goal

pub call_all-requires-clause-any : goal.call_all-requires-clause-any
call_all-requires-clause-any g c κs within =
    subst (λ l. 1 ≤ length l) (sym (c.deref_mut.ensures.value ∙ c.in-Ok.ensures.passes))
    (subst (λ n. 1 ≤ n) (sym (length-fresh _ _ _ _ 0 c.args.quotas.now)) c.requires.count.0)

pub call_all-requires-clause-desk : goal.call_all-requires-clause-desk
call_all-requires-clause-desk g c κs within =
    subst (λ l. All (λ k. k.desk ≡ c.in-Ok.desk.id) l) (sym (c.deref_mut.ensures.value ∙ c.in-Ok.ensures.passes))
    (AreInOrder-all _ 0 _ (AreInOrder-fresh _ _ _ _ 0 c.args.quotas.now))
