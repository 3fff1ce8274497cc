use Rattle.wf_machine.proofs.Common.{◌≡◌, sym, subst, ap, IfSome, away, AreAtHome}
use Rattle.wf_machine.proofs.StreamsLatched.{home_at}
use Rattle.wf_machine.proofs.parts.Parts.target_ready.Goals as goal

pub roomy-requires : goal.roomy-requires
roomy-requires c =
    let streams : c.self.inside.store.streams ≡ c.args.self.now.streams = ap (λ s. s.streams) c.self.view_is in
    λ named. subst (λ o. IfSome o (λ b. b.read ≡ away → ⊥)) (sym c.in-Some.ensures.value)
    (home_at _ c.self.inside.store.streams (subst AreAtHome (sym streams) c.requires.home))
