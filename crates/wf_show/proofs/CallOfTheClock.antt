-- One call of the clock.
use Rattle.std.proofs.Common.{◌≡◌, ◌∙◌, ℕ, Bool, List, [], ◌∷◌, ◌++◌, length, Some, refl, sym, ap, subst}
use Rattle.std.proofs.Common.{arith, IsTrue}
use Rattle.std.specs.Option.{IsSomeAnd}
use Rattle.std.proofs.lemmas.List.{length-append}
use Rattle.atomic_table.specs.Seated.{TableId}
use Rattle.wf_calls.specs.Parts.{is_begin}
use Rattle.wf_calls.specs.declared.reply.Reply.{Reply}
use Rattle.wf_desk.specs.History.{event, events_of}
use Rattle.wf_desk.specs.Pass.{IsOwn, Made}
use Rattle.wf_film.specs.Film.{Frame}
use Rattle.wf_machine.specs.Object.{IsPaintable, MayAnswer, after}
use Rattle.wf_script.specs.Script.{PlainScript}
use Rattle.wf_turn.specs.declared.stage.Wanted.{Wanted}
use Rattle.wf_turn.specs.Going.{GoesOn, GoesOnAfter}
use Rattle.wf_turn.specs.Playing.{frames_if}
use Rattle.wf_turn.specs.Program.{Program, in_setup, is_work, next, program, took, worked}
use Rattle.wf_turn.specs.Turns.{frames_of}
use Rattle.wf_turn.proofs.AnswersKeep.{same_client, same_script}
use Rattle.wf_turn.proofs.TurnOfAProgram.{still_paintable, work_frames}
use Rattle.wf_show.specs.declared.player.Player.{Player}
use Rattle.wf_show.specs.Clocks.{Advanced, Advances, IsClock, SetsUp, shown_to, start}
use Rattle.wf_show.specs.Played.{gone_on, program_after}
use Rattle.wf_machine.specs.Histories.{Happening, PlainPass}
use Rattle.wf_show.specs.Players.{first_pass}
use Rattle.wf_show.specs.Running.{IsReadyFor, RunsSoFar}
use Rattle.wf_show.specs.Shown.{frames_by}
use Rattle.wf_show.specs.Together.{IsSettingUp}
use Rattle.wf_show.proofs.FramesOfEvents.{one_frames, one_setting}
use Rattle.wf_show.proofs.Histories.{none_between}
use Rattle.wf_show.proofs.CallThroughAPass.{counted, goes_once, gone}

-- the call, before what came of it is taken
module _ (desk : TableId) (a : Player) (pass : PlainPass) (w : Wanted) (reply : Reply)
    (clock : IsClock desk a) (asks : next a.program ≡ Some w) (begins : IsTrue w.wait → IsTrue (is_begin w.call))
    (goes : GoesOnAfter a.program w) (made : Made after MayAnswer (IsReadyFor w) a.pass w.call reply pass)
    (own : IsOwn after MayAnswer pass)
  where
    pub gone_is : GoesOn a.program reply
    gone_is =
        gone (start a) a.program (first_pass desk a.program.script 0 clock.quota) a.pass pass w reply clock.so_far asks begins goes made own

module _ (desk : TableId) (a : Player) (pass : PlainPass) (now : Program) (w : Wanted) (reply : Reply) (painted : Bool)
    (clock : IsClock desk a) (asks : next a.program ≡ Some w) (begins : IsTrue w.wait → IsTrue (is_begin w.call))
    (goes : GoesOnAfter a.program w) (made : Made after MayAnswer (IsReadyFor w) a.pass w.call reply pass)
    (own : IsOwn after MayAnswer pass)
    (now_is : now ≡ gone_on a.program reply) (painted_is : painted ≡ is_work (took a.program reply)) where
  abbrev p : Program
  p = start a

  abbrev old : PlainPass
  old = first_pass desk a.program.script 0 clock.quota

  abbrev b : Player
  b = record { pass = pass; program = now }

  abbrev e : Happening
  e = event a.pass.client w.call reply

  zero_is : a.pass.client ≡ 0
  zero_is = clock.so_far.runs.client

  script_is : now.script ≡ a.program.script
  script_is = ap (λ q. q.script) now_is ∙ same_script a.program reply

  clock_goes : IsClock desk b
  clock_goes =
      let on : RunsSoFar p (gone_on a.program reply) old pass =
      goes_once p a.program old a.pass pass w reply clock.so_far asks begins goes made own in
      record {
        quota = clock.quota;
        most = clock.most;
        client = ap (λ q. q.client) now_is ∙ same_client a.program reply ∙ clock.client;
        so_far =
            subst (λ (s : PlainScript). RunsSoFar (program s 0) now (first_pass desk s 0 clock.quota) pass) (sym script_is)
            (subst (λ q. RunsSoFar p q old pass) (sym now_is) on);
      }

  counts : events_of a.pass.client pass.seen ≡ events_of a.pass.client a.pass.seen ++ e ∷ []
  counts = counted p a.program old a.pass pass w reply clock.so_far asks begins goes made own

  -- what the clock was comes from its events
  was : program_after a.pass.client p a.pass.seen ≡ a.program
  was = sym clock.so_far.runs.program

  frames_are : shown_to b ≡ shown_to a ++ frames_if pass.place painted now
  frames_are =
      let c : ℕ = a.pass.client in
      let q : Program = took a.program reply in
      let one : frames_by 0 c p pass.seen ≡ frames_by 0 c p a.pass.seen ++ frames_of (length made.before) (took
      (program_after c p a.pass.seen) reply)
      = one_frames c a.pass.seen made.before pass.seen e refl made.goes_on made.seen counts own.object p in
      let here : frames_by 0 0 p pass.seen
      ≡ frames_by 0 0 p a.pass.seen ++ frames_of (length made.before) (took (program_after c p a.pass.seen) reply) =
      subst (λ n. frames_by 0 n p pass.seen ≡ frames_by 0 n p a.pass.seen ++ frames_of (length made.before) (took
      (program_after c p a.pass.seen) reply)) zero_is one in
      ap (λ (s : PlainScript). frames_by 0 0 (program s 0) pass.seen) script_is ∙ here
      ∙ ap (λ (fs : List Frame). shown_to a ++ fs)
      (ap (λ r. frames_of (length made.before) (took r reply)) was ∙ work_frames (length made.before) q
      ∙ ap (λ x. frames_if (length made.before) x (worked q)) (sym painted_is) ∙ ap (frames_if (length made.before) painted) (sym now_is)
      ∙ ap (λ n. frames_if n painted now) (sym made.place))

  advanced : Advanced a b painted
  advanced =
      record {
        script = script_is;
        left = made.left;
        before = made.before;
        event = e;
        own = zero_is;
        goes_on = made.goes_on;
        between =
            subst (λ n. events_of n made.goes_on.0 ≡ []) zero_is
            (none_between a.pass.client a.pass.seen made.before pass.seen e refl made.goes_on made.seen counts);
        seen = made.seen;
        program = now_is;
        painted_is = painted_is;
        shows = frames_are;
        paintable = λ is. subst (λ q. IsSomeAnd q.job IsPaintable) (sym now_is)
            (still_paintable (took a.program reply) (gone_is desk a pass w reply clock asks begins goes made own).work
            (sym painted_is ∙ is));
        called =
            omega (arith, ap length made.mine, length-append a.pass.mine (e ∷ []));
      }

  sets_up : SetsUp a b
  sets_up inside so_far =
      let c : ℕ = a.pass.client in
      let on : IsSettingUp p pass.seen =
      one_setting c a.pass.seen made.before pass.seen e refl made.goes_on made.seen counts own.object p zero_is so_far
      (ap in_setup was ∙ inside) in
      subst (λ (s : PlainScript). IsSettingUp (program s 0) pass.seen) (sym script_is) on

  pub advances : Advances desk a b painted
  advances = record { clock = clock_goes; advanced = advanced; setting = sets_up }
