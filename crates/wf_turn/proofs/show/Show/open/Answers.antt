use Rattle.wf_turn.proofs.Common.{◌≡◌, ◌∙◌, [], ap, sym, subst, List}
use Rattle.wf_turn.proofs.Common.{may_declare, State, IsCast, Program, Show, opening_show}
use Rattle.std.specs.Bool.{IsTrue}
use Rattle.wf_model.specs.State.{opening}
use Rattle.wf_turn.proofs.ShowAtTheStart.{opening_cast}
use Rattle.wf_turn.proofs.show.Show.open.Goals as goal

module _ (c : goal.After-unasked) where
  show_is : record { state = c.in_ok-machine.machine; programs = c.in_ok-cast.cast; frames = []; turns = 0 }
      ≡ opening_show c.args.script.now
  show_is =
      let show : State → List Program → Show = λ h ps. record { state = h; programs = ps; frames = []; turns = 0 } in
      ap (λ h. show h c.in_ok-cast.cast) (c.in_ok-machine.ensures ∙ ap opening c.ports.ensures.ports)
      ∙ ap (show (opening c.args.script.now.ports)) c.in_ok-cast.ensures

pub returns-clause-opened : goal.returns-clause-opened
returns-clause-opened c = show_is c

pub returns-clause-cast : goal.returns-clause-cast
returns-clause-cast c =
    subst IsCast (sym (show_is c))
    (opening_cast _ (subst (λ ports. IsTrue (may_declare ports)) c.ports.ensures.ports c.ports.ensures.declared))
