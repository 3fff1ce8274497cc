-- One call of a program through its pass.
use Rattle.std.proofs.Common.{◌≡◌, ◌∙◌, ◌≤◌, Bool, true, false, not, ◌&&◌, List, [], ◌∷◌, ◌++◌, Some, IsTrue, refl, sym, ap, subst}
use Rattle.std.proofs.Common.{arith, append-nil, append_assoc, length}
use Rattle.std.proofs.lemmas.List.{length-append}
use Rattle.wf_calls.specs.Parts.{is_begin}
use Rattle.wf_calls.specs.declared.reply.Reply.{Reply}
use Rattle.wf_desk.specs.History.{IsPrefix, event, events_of, replay}
use Rattle.wf_desk.specs.Pass.{IsOwn, Made}
use Rattle.wf_machine.specs.Object.{MayAnswer, after}
use Rattle.wf_model.specs.Frames.{is_running}
use Rattle.wf_model.specs.State.{State}
use Rattle.wf_turn.specs.declared.stage.Wanted.{Wanted}
use Rattle.wf_turn.specs.Going.{GoesOn, GoesOnAfter, IsNextCall}
use Rattle.wf_turn.specs.Program.{Program, next}
use Rattle.wf_turn.specs.Quota.{left}
use Rattle.wf_turn.specs.Ready.{IsFit}
use Rattle.wf_show.specs.Played.{IsPlayed, gone_on, program_after}
use Rattle.wf_machine.specs.Histories.{Happening, PlainPass}
use Rattle.wf_show.specs.Running.{IsReadyFor, RunsSoFar}
use Rattle.wf_show.proofs.Histories.{one_played, one_program, untouched}

-- where the machine is ready for a call, it may be made
may_be_made : (w : Wanted) (h : State) → (IsTrue w.wait → IsTrue (is_begin w.call)) → IsReadyFor w h → (w.wait && is_running h) ≡ false
may_be_made w h begins ready = of_wait w.wait refl
  where
    is_not : (b : Bool) → not b ≡ true → b ≡ false
    is_not true is = absurd cc
    is_not false is = refl

    of_wait : (b : Bool) → w.wait ≡ b → (b && is_running h) ≡ false
    of_wait false is = refl
    of_wait true is =
        let free : not (is_begin w.call && is_running h) ≡ true = ready is in
        is_not (is_running h) (subst (λ (b : Bool). not (b && is_running h) ≡ true) (begins is) free)

-- before the first call
pub starts : (p : Program) (pass : PlainPass) → pass.mine ≡ [] → IsFit p → left p ≤ pass.left → IsOwn after MayAnswer pass
    → RunsSoFar p p pass pass
starts p pass none fit room own =
    let nothing : events_of pass.client pass.seen ≡ [] = sym own.mine ∙ none in
    record {
      runs =
          record {
            desk = refl;
            client = refl;
            opening = refl;
            goes_on = ([], sym (append-nil pass.seen));
            count = refl;
            own = own;
            played = λ h is. (untouched pass.client h p pass.seen nothing).played;
            program = sym (untouched pass.client own.object p pass.seen nothing).program;
          };
      fit = fit;
      room = room;
      fewer = omega arith;
    }

-- a call that the program wants, as an event
module _ (p p1 : Program) (old pass new : PlainPass) (w : Wanted) (reply : Reply) (so_far : RunsSoFar p p1 old pass)
    (asks : next p1 ≡ Some w) (begins : IsTrue w.wait → IsTrue (is_begin w.call)) (goes : GoesOnAfter p1 w)
    (made : Made after MayAnswer (IsReadyFor w) pass w.call reply new) (own : IsOwn after MayAnswer new) where
  abbrev e : Happening
  e = event pass.client w.call reply

  pub gone : GoesOn p1 reply
  gone =
      let opened = so_far.runs.own in
      goes (replay after opened.object made.before) pass.client reply (made.allowed opened.object opened.opening)

  pub counted : events_of pass.client new.seen ≡ events_of pass.client pass.seen ++ e ∷ []
  counted =
      ap (λ c. events_of c new.seen) (sym made.client) ∙ sym own.mine ∙ made.mine
      ∙ ap (λ (l : List Happening). l ++ e ∷ []) so_far.runs.own.mine

  played : (h : State) → pass.opening ≡ Some h → IsPlayed pass.client h p new.seen
  played h opens =
      let runs = so_far.runs in
      let at : State = replay after h made.before in
      let next_call : IsNextCall at p1 w.call =
      record { wanted = w; asks = asks; call = refl; ready = may_be_made w at begins (made.holds h opens) } in
      one_played pass.client pass.seen made.before new.seen e refl made.goes_on made.seen counted h p (runs.played h opens)
      (subst (λ (q : Program). IsNextCall at q w.call) runs.program next_call)

  program_is : gone_on p1 reply ≡ program_after pass.client p new.seen
  program_is =
      let runs = so_far.runs in
      ap (λ (q : Program). gone_on q reply) runs.program
      ∙ sym (one_program pass.client pass.seen made.before new.seen e refl made.goes_on made.seen counted runs.own.object p)

  longer : IsPrefix old.seen new.seen
  longer =
      let first = so_far.runs.goes_on in
      let rest = made.goes_on in
      let last : List Happening = e ∷ [] in (
        first.0 ++ (rest.0 ++ last),
        made.seen ∙ ap (λ (l : List Happening). l ++ last) (rest.1 ∙ ap (λ (l : List Happening). l ++ rest.0) first.1)
            ∙ append_assoc (old.seen ++ first.0) rest.0 last
            ∙ append_assoc old.seen first.0 (rest.0 ++ last),
      )

  pub goes_once : RunsSoFar p (gone_on p1 reply) old new
  goes_once =
      let runs = so_far.runs in
      record {
        runs =
            record {
              desk = made.desk ∙ runs.desk;
              client = made.client ∙ runs.client;
              opening = made.opening ∙ runs.opening;
              goes_on = longer;
              count = omega (arith, runs.count, made.left, ap length made.mine, length-append pass.mine (e ∷ []));
              own = own;
              played = λ h is. subst (λ c. IsPlayed c h p new.seen) (sym made.client) (played h (sym made.opening ∙ is));
              program = program_is ∙ ap (λ c. program_after c p new.seen) (sym made.client);
            };
        fit = gone.fit;
        room = omega (arith, gone.fewer, so_far.room, made.left);
        fewer = omega (arith, so_far.fewer, made.left);
      }
