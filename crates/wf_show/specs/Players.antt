-- The players of a script: clients' programs, each with the pass by which it calls.
use Rattle.std.specs.Prelude.{◌≡◌, ℕ, ◌+◌, ◌<◌, ◌≤◌, List, [], Some, None, length, slice_index_or}
use Rattle.atomic_table.specs.Seated.{TableId}
use Rattle.wf_desk.specs.History.{IsPrefix}
use Rattle.wf_desk.specs.Pass.{IsOwn}
use Rattle.wf_machine.specs.Object.{MayAnswer, after}
use Rattle.wf_model.specs.State.{opening}
use Rattle.wf_script.specs.Script.{PlainScript}
use Rattle.wf_turn.specs.Program.{place_of, program, taught}
use Rattle.wf_turn.specs.Quota.{left}
use Rattle.wf_turn.specs.Ready.{IsFit}
use Rattle.wf_show.specs.declared.player.Player.{Player}
use Rattle.wf_show.specs.Running.{Runs}
use Rattle.wf_machine.specs.Histories.{PlainPass}

-- the pass of a client of a script before its first call
abbrev pub first_pass : TableId → PlainScript → ℕ → ℕ → PlainPass
first_pass desk script client quota =
    record { desk = desk; client = client; opening = Some (opening script.ports); left = quota; seen = []; mine = []; place = 0 }

-- a player before its first call, with as many calls as its program makes at most
pub record IsFresh (desk : TableId) (script : PlainScript) (client : ℕ) (p : Player) : Type 0 where
  pub quota : ℕ
  pub most : quota ≤ 655360
  pub pass : p.pass ≡ first_pass desk script client quota
  pub program : p.program ≡ program script client
  pub fit : IsFit p.program
  pub room : left p.program ≤ quota

-- the players of the clients from one on
abbrev pub AreFresh : TableId → PlainScript → ℕ → List Player → Type 0
AreFresh desk script client ps = (i : ℕ) (d : Player) → i < length ps → IsFresh desk script (client + i) (slice_index_or ps i d)

-- a player that has made no call, and can
pub record IsWaiting (desk : TableId) (p : Player) : Type 0 where
  pub of_desk : p.pass.desk ≡ desk
  pub client : p.pass.client ≡ p.program.client
  pub none : p.pass.mine ≡ []
  pub fit : IsFit p.program
  pub room : left p.program ≤ p.pass.left

-- it was told all that the clock has seen, and learned the setup's names
pub record IsTold (clock old new : Player) : Type 0 where
  pub same : new.pass ≡ record old.pass { seen = new.pass.seen }
  pub told : IsPrefix clock.pass.seen new.pass.seen
  pub own : IsOwn after MayAnswer new.pass
  pub program : new.program ≡ taught clock.program old.program

-- so are those before a place, and the others are as they were
pub record AreTold (clock : Player) (old new : List Player) (count : ℕ) : Type 0 where
  pub long : length new ≡ length old
  pub told : (i : ℕ) (d : Player) → i < count → IsTold clock (slice_index_or old i d) (slice_index_or new i d)
  pub rest : (i : ℕ) (d : Player) → count ≤ i → slice_index_or new i d ≡ slice_index_or old i d

abbrev pub AllTold : Player → List Player → List Player → Type 0
AllTold clock old new = AreTold clock old new (length old)

-- it was played to its end
pub record Worked (old new : Player) : Type 0 where
  pub runs : Runs old.program new.program old.pass new.pass
  pub through : place_of new.program ≡ None

abbrev pub AllWorked : List Player → List Player → Type 0
AllWorked old new = (i : ℕ) (d : Player) → i < length old → Worked (slice_index_or old i d) (slice_index_or new i d)

-- it was told of the setup, and then played to its end
pub record IsPlayer (clock old new : Player) : Type 0 where
  pub middle : Player
  pub told : IsTold clock old middle
  pub worked : Worked middle new

abbrev pub AllPlayers : Player → List Player → List Player → Type 0
AllPlayers clock old new = (i : ℕ) (d : Player) → i < length old → IsPlayer clock (slice_index_or old i d) (slice_index_or new i d)
