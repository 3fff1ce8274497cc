-- The players of a script before their first calls, and their passes at the end.
use Rattle.std.specs.Prelude.{◌≡◌, ℕ, ◌+◌, ◌<◌, ◌≤◌, List, [], ◌∷◌, length, map, slice_index_or, vec_capacity, IsTrue}
use Rattle.std.specs.List.{list_all, range_with_len}
use Rattle.atomic_table.specs.Seated.{TableId}
use Rattle.wf_model.specs.State.{opening}
use Rattle.wf_script.specs.Script.{PlainScript, may_tick}
use Rattle.wf_turn.specs.Quota.{quota}
use Rattle.wf_show.specs.declared.players.Players.{Players}
use Rattle.wf_show.specs.declared.player.Player.{Player}
use Rattle.wf_show.specs.Players.{AreFresh, IsFresh, first_pass}
use Rattle.wf_machine.specs.Histories.{PlainPass}

-- the passes of so many clients from one on, before their first calls
abbrev pub passes_from : TableId → PlainScript → ℕ → ℕ → List PlainPass
passes_from desk script client count =
    map (λ c. first_pass desk script c (quota script.lines c)) (range_with_len client count)

-- the desk, all players before their first calls, and room for their passes
pub record ArePlayers (script : PlainScript) (opened : Players) : Type 0 where
  pub opening_is : opened.desk.opening ≡ opening script.ports
  pub eight : length opened.desk.quotas ≡ 8
  pub clock : IsFresh opened.desk.id script 0 opened.clock
  pub others : AreFresh opened.desk.id script 1 opened.others.items
  pub seven : length opened.others.items ≡ 7
  pub none : opened.ended.items ≡ []
  pub room : 8 ≤ vec_capacity opened.ended
  pub ticks : IsTrue (list_all may_tick script.lines)

-- each player has the pass of its client, at the desk
pub record AreSeated (desk : TableId) (clock : Player) (others : List Player) : Type 0 where
  pub clock_desk : clock.pass.desk ≡ desk
  pub clock_client : clock.pass.client ≡ 0
  pub desks : (i : ℕ) (d : Player) → i < length others → (slice_index_or others i d).pass.desk ≡ desk
  pub clients : (i : ℕ) (d : Player) → i < length others → (slice_index_or others i d).pass.client ≡ 1 + i

-- the passes of players
abbrev pub passes_of : Player → List Player → List PlainPass
passes_of clock others = clock.pass ∷ map (λ (p : Player). p.pass) others
