use Rattle.std.proofs.Common.{ap, ◌∙◌, [], ◌∷◌, ◌++◌}
use Rattle.wf_desk.specs.declared.view.Stage.TheVariants.{Idle}
use Rattle.wf_desk.specs.History.{event}
use Rattle.wf_desk.specs.Plays.{at_stage, grown}
use Rattle.wf_desk.proofs.board.Board.make.Goals as goal

pub returns-clause-made : goal.returns-clause-made
returns-clause-made g c =
    let entered = c.enter-home.ensures in let done = c.finish.ensures in let before = c.enter-home.new.seat.me.0.seen in
    let e = event _ _ _ in
    let named = ap (λ m. m.0.key) entered.taken.1 in record {
      before = before;
      goes_on = entered.seen;
      is = done.made ∙ ap (λ m. (at_stage (grown m.0 e) Idle (before ++ e ∷ []), [])) entered.taken.1;
      at_is = done.at;
      mine = entered.mine;
      legal = λ k known. done.legal k (named ∙ known);
      holds = λ k known. tt;
      allowed = λ k known. done.may k (named ∙ known);
    }
