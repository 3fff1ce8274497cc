-- The passes of all players at the end, and how many events there are.
use Rattle.std.proofs.Common.{◌≡◌, ◌∙◌, inl, inr, ℕ, zero, suc, ◌+◌, ◌*◌, ◌<◌, ◌≤◌, List, [], ◌∷◌, map, length, refl, sym, ap, subst, arith}
use Rattle.std.specs.Prelude.{slice_index_or}
use Rattle.atomic_table.specs.Seated.{TableId}
use Rattle.wf_desk.specs.Desk.{AreAll, AreAll-in_order, AreInOrder, IsClosing, Opened}
use Rattle.wf_desk.specs.History.{IsLegal, IsPrefix, events_of}
use Rattle.wf_calls.specs.Codes.{entry}
use Rattle.wf_calls.specs.declared.order.Turn.{Turn}
use Rattle.wf_machine.specs.Object.{MayAnswer, after}
use Rattle.wf_model.specs.State.{State, opening}
use Rattle.wf_script.specs.Script.{PlainScript}
use Rattle.wf_show.specs.declared.player.Player.{Player}
use Rattle.wf_show.specs.Opened.{AreSeated, passes_of}
use Rattle.wf_show.specs.Clocks.{IsClock}
use Rattle.wf_show.specs.Ends.{AreEnded, IsHistory}
use Rattle.wf_machine.specs.Histories.{Happening, PlainPass}
use Rattle.wf_show.specs.Players.{AreFresh, IsFresh, IsPlayer}
use Rattle.wf_show.specs.Shown.{order_of}
use Rattle.wf_show.proofs.HistoryIsAnOrder.{all_below}
use Rattle.wf_show.proofs.EventCounts.{few_events}

-- a player at the end, by what it was: it has the pass of its client, and made no more calls than that allowed
record IsEndedAs (desk : TableId) (client : ℕ) (p : Player) : Type 0 where
  pub desk_is : p.pass.desk ≡ desk
  pub client_is : p.pass.client ≡ client
  pub few : length p.pass.mine ≤ 655360

stays : (desk : TableId) (script : PlainScript) (client : ℕ) (p : Player) → IsFresh desk script client p → IsEndedAs desk client p
stays desk script client p fresh =
    record {
      desk_is = ap (λ (k : PlainPass). k.desk) fresh.pass;
      client_is = ap (λ (k : PlainPass). k.client) fresh.pass;
      few = omega (arith, ap (λ (k : PlainPass). length k.mine) fresh.pass);
    }

played : (desk : TableId) (script : PlainScript) (client : ℕ) (clock p q : Player) → IsFresh desk script client p → IsPlayer clock p q
    → IsEndedAs desk client q
played desk script client clock p q fresh play =
    let same = play.told.same in
    let runs = play.worked.runs in
    let count : length q.pass.mine + q.pass.left ≡ length p.pass.mine + p.pass.left =
    runs.count ∙ ap (λ (k : PlainPass). length k.mine + k.left) same in
    record {
      desk_is = runs.desk ∙ ap (λ (k : PlainPass). k.desk) same ∙ ap (λ (k : PlainPass). k.desk) fresh.pass;
      client_is = runs.client ∙ ap (λ (k : PlainPass). k.client) same ∙ ap (λ (k : PlainPass). k.client) fresh.pass;
      few = omega (arith, count, ap (λ (k : PlainPass). length k.mine + k.left) fresh.pass, fresh.most);
    }

module _ (desk : TableId) (clock : Player) (old new : List Player) (is_clock : IsClock desk clock) (script : PlainScript)
    (fresh : AreFresh desk script 1 old) (seven : length old ≡ 7) (as_many : length new ≡ 7) (ended : AreEnded desk clock old new) where
  each : (i : ℕ) (d : Player) → i < 7 → IsEndedAs desk (1 + i) (slice_index_or new i d)
  each i d within = of_ends ended
    where
      of_old : i < length old
      of_old = omega (arith, within, seven)

      of_ends : AreEnded desk clock old new → IsEndedAs desk (1 + i) (slice_index_or new i d)
      of_ends (inl all) =
          played desk script (1 + i) all.middle (slice_index_or old i d) (slice_index_or new i d) (fresh i d of_old)
          (all.players i d of_old)
      of_ends (inr alone) =
          subst (λ (ps : List Player). IsEndedAs desk (1 + i) (slice_index_or ps i d)) (sym alone.rest)
          (stays desk script (1 + i) (slice_index_or old i d) (fresh i d of_old))

  pub seated : AreSeated desk clock new
  seated =
      record {
        clock_desk = is_clock.so_far.runs.desk;
        clock_client = is_clock.so_far.runs.client;
        desks = λ i d within. (each i d (omega (arith, within, as_many))).desk_is;
        clients = λ i d within. (each i d (omega (arith, within, as_many))).client_is;
      }

  pub few_in_all : (history : List Happening) (of : PlainScript) → IsHistory of clock new history → length history ≤ 8 * 655360
  few_in_all history of behind =
      few_events 655360 history (all_below 8 history (λ c past. behind.no_other c (omega (arith, past)))) by_client
    where
      by_client : (c : ℕ) → c < 8 → length (events_of c history) ≤ 655360
      by_client zero within =
          let runs = is_clock.so_far.runs in
          omega (arith, runs.count, is_clock.most, ap length behind.mine)
      by_client (suc n) within =
          let same : 1 + n ≡ suc n = omega arith in
          let of_new : n < length new = omega (arith, within, as_many) in
          let mine : length (slice_index_or new n clock).pass.mine ≡ length (events_of (suc n) history) =
          ap length (behind.all_mine n clock of_new) ∙ ap (λ c. length (events_of c history)) same in
          omega (arith, mine, (each n clock (omega (arith, within))).few)

pub few_turns : (history : List Happening) → length (order_of history) ≡ length history
few_turns [] = refl
few_turns (e ∷ es) = ap suc (few_turns es)

-- the passes in the order of their clients
in_order : (desk : TableId) (first : ℕ) (ps : List Player)
    → ((i : ℕ) (d : Player) → i < length ps → (slice_index_or ps i d).pass.desk ≡ desk)
    → ((i : ℕ) (d : Player) → i < length ps → (slice_index_or ps i d).pass.client ≡ first + i)
    → AreInOrder desk first (map (λ (p : Player). p.pass) ps)
in_order desk first [] desks clients = tt
in_order desk first (p ∷ ps) desks clients = (
  desks 0 p (omega arith),
  clients 0 p (omega arith) ∙ omega arith,
  in_order desk (first + 1) ps (λ i d within. desks (suc i) d (omega (arith, within)))
      (λ i d within. clients (suc i) d (omega (arith, within)) ∙ omega arith),
)

pub length_passes : (ps : List Player) → length (map (λ (p : Player). p.pass) ps) ≡ length ps
length_passes [] = refl
length_passes (p ∷ ps) = ap suc (length_passes ps)

pub all_passes : (desk : TableId) (clock : Player) (others : List Player) (count : ℕ) → AreSeated desk clock others
    → length others ≡ 7 → count ≡ 8 → AreAll desk count (passes_of clock others)
all_passes desk clock others count seats seven eight =
    AreAll-in_order desk count (passes_of clock others) (omega (arith, length_passes others, seven, eight))
    (seats.clock_desk, seats.clock_client, in_order desk 1 others seats.desks seats.clients)

-- the pass of a player at its place
pass_at : (others : List Player) (i : ℕ) (d : Player)
    → slice_index_or (map (λ (p : Player). p.pass) others) i d.pass ≡ (slice_index_or others i d).pass
pass_at [] i d = refl
pass_at (p ∷ ps) zero d = refl
pass_at (p ∷ ps) (suc i) d = pass_at ps i d

-- the history behind all passes
module _ (script : PlainScript) (desk : Opened State) (clock : Player) (others : List Player) (object : State) (journal : List Turn)
    (opening_is : desk.opening ≡ opening script.ports) (eight : length desk.quotas ≡ 8) (seats : AreSeated desk.id clock others)
    (closing : IsClosing after MayAnswer entry desk (passes_of clock others) object journal) where
  behind_all : (i : ℕ) → i < length others → suc i < length (passes_of clock others)
  behind_all i within = omega (arith, within, length_passes others)

  pub history_is : IsHistory script clock others closing.history
  history_is =
      record {
        legal = subst (λ h. IsLegal after MayAnswer h closing.history) opening_is closing.legal;
        begins = closing.begins 0 clock.pass (omega arith);
        mine = closing.mine 0 clock.pass (omega arith) ∙ ap (λ c. events_of c closing.history) seats.clock_client;
        all_begin = λ i d within.
            subst (λ (k : PlainPass). IsPrefix k.seen closing.history) (pass_at others i d)
            (closing.begins (suc i) d.pass (behind_all i within));
        all_mine = λ i d within.
            subst (λ (k : PlainPass). k.mine ≡ events_of k.client closing.history) (pass_at others i d)
            (closing.mine (suc i) d.pass (behind_all i within))
            ∙ ap (λ c. events_of c closing.history) (seats.clients i d within);
        no_other = λ client past. closing.no_other client (omega (arith, past, eight));
      }
