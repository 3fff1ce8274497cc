-- Players before their first calls, what they learn, and how they were played.
use Rattle.std.proofs.Common.{◌≡◌, ◌∙◌, ℕ, ◌+◌, ◌<◌, ◌≤◌, false, List, length, refl, sym, ap, subst, arith}
use Rattle.std.specs.Prelude.{All, slice_index_or}
use Rattle.atomic_table.specs.Seated.{TableId}
use Rattle.wf_desk.specs.History.{IsPrefix}
use Rattle.wf_desk.specs.Pass.{IsOwn}
use Rattle.wf_machine.specs.Object.{MayAnswer, after}
use Rattle.wf_model.specs.State.{opening}
use Rattle.wf_script.specs.Script.{PlainScript}
use Rattle.wf_turn.specs.Program.{Program, in_setup, program, taught}
use Rattle.wf_turn.specs.Quota.{left}
use Rattle.wf_turn.specs.Ready.{IsFit}
use Rattle.wf_turn.proofs.ProgramsStayFit.{fit_taught}
use Rattle.wf_show.specs.declared.player.Player.{Player}
use Rattle.wf_show.specs.Clocks.{IsClock, start}
use Rattle.wf_show.specs.Ends.{AllPlay}
use Rattle.wf_show.specs.Players.{AllPlayers, AllTold, AllWorked, AreFresh, IsFresh, IsTold, IsWaiting, first_pass}
use Rattle.wf_show.specs.Running.{RunsSoFar}
use Rattle.wf_machine.specs.Histories.{PlainPass}
use Rattle.wf_show.specs.Together.{IsSettingUp}
use Rattle.wf_show.proofs.CallThroughAPass.{starts}

-- the clock before its first call
first_own : (desk : TableId) (script : PlainScript) (client quota : ℕ) → IsOwn after MayAnswer (first_pass desk script client quota)
first_own desk script client quota =
    record {
      object = opening script.ports;
      opening = refl;
      legal = tt;
      mine = refl;
      last = λ some. absurd (omega (arith, some));
    }

pub first_clock : (desk : TableId) (clock : Player) → IsFresh desk clock.program.script 0 clock → IsClock desk clock
first_clock desk clock fresh =
    let s : PlainScript = clock.program.script in
    let first : PlainPass = first_pass desk s 0 fresh.quota in
    let begins : RunsSoFar (program s 0) (program s 0) first first =
    starts (program s 0) first refl (subst IsFit fresh.program fresh.fit) (subst (λ q. left q ≤ fresh.quota) fresh.program fresh.room)
    (first_own desk s 0 fresh.quota) in
    record {
      quota = fresh.quota;
      most = fresh.most;
      client = ap (λ (q : Program). q.client) fresh.program;
      so_far =
          subst (λ k. RunsSoFar (program s 0) clock.program first k) (sym fresh.pass)
          (subst (λ q. RunsSoFar (program s 0) q first first) (sym fresh.program) begins);
    }

pub first_setting : (desk : TableId) (clock : Player) → IsFresh desk clock.program.script 0 clock
    → IsSettingUp (start clock) clock.pass.seen
first_setting desk clock fresh = subst (λ (k : PlainPass). IsSettingUp (start clock) k.seen) (sym fresh.pass) tt

-- a player that was told waits still
told_waits : (desk : TableId) (script : PlainScript) (client : ℕ) (clock old new : Player) → IsFresh desk script client old
    → IsTold clock old new → IsWaiting desk new
told_waits desk script client clock old new fresh told =
    let pass_is : new.pass ≡ record (first_pass desk script client fresh.quota) { seen = new.pass.seen } =
    told.same ∙ ap (λ (k : PlainPass). record k { seen = new.pass.seen }) fresh.pass in
    record {
      of_desk = ap (λ (k : PlainPass). k.desk) pass_is;
      client = ap (λ (k : PlainPass). k.client) pass_is ∙ sym (ap (λ (q : Program). q.client) (told.program
          ∙ ap (taught clock.program) fresh.program));
      none = ap (λ (k : PlainPass). k.mine) pass_is;
      fit = subst IsFit (sym told.program) (fit_taught clock.program old.program fresh.fit);
      room =
          subst (λ n. left new.program ≤ n) (sym (ap (λ (k : PlainPass). k.left) pass_is))
          (subst (λ q. left q ≤ fresh.quota) (sym told.program) fresh.room);
    }

pub all_wait : (desk : TableId) (script : PlainScript) (clock : Player) (old new : List Player) → AreFresh desk script 1 old
    → AllTold clock old new → All (IsWaiting desk) new
all_wait desk script clock old new fresh told i d within =
    let less : i < length old = omega (arith, within, told.long) in
    told_waits desk script (1 + i) clock (slice_index_or old i d) (slice_index_or new i d) (fresh i d less) (told.told i d less)

all_players : (clock : Player) (old middle new : List Player) → AllTold clock old middle → AllWorked middle new → AllPlayers clock old new
all_players clock old middle new told worked i d within =
    record {
      middle = slice_index_or middle i d;
      told = told.told i d within;
      worked = worked i d (omega (arith, within, told.long));
    }

-- behind the setup the others were told, and played
pub all_play : (desk : TableId) (middle clock : Player) (old told new : List Player) → IsClock desk middle
    → IsSettingUp (start middle) middle.pass.seen → in_setup middle.program ≡ false → middle.program.script ≡ clock.program.script
    → IsPrefix middle.pass.seen clock.pass.seen → AllTold middle old told → AllWorked told new → AllPlay desk clock old new
all_play desk middle clock old told new is_clock setting over script goes_on all_told worked =
    record {
      middle = middle;
      is_clock = is_clock;
      script = script;
      setting = setting;
      over = over;
      goes_on = goes_on;
      players = all_players middle old told new all_told worked;
    }
