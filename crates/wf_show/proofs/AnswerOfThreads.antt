-- What a play on threads answers, by how all programs were played and what was put.
use Rattle.std.proofs.Common.{◌≡◌, ◌∙◌, ◌⊎◌, inl, inr, ℕ, ◌<◌, ◌^◌, List, [], ◌++◌, length, take, drop, true, None, Ok, Err, sym, ap, subst}
use Rattle.std.proofs.Common.{arith}
use Rattle.std.proofs.Common.{append-nil}
use Rattle.std.specs.List.{list_all, AllByRecursion}
use Rattle.wf_calls.specs.Orders.{IsEntry}
use Rattle.wf_film.specs.Stands.{IsFilm, IsFrameIn, as_read}
use Rattle.atomic_table.specs.Seated.{TableId}
use Rattle.wf_calls.specs.declared.order.Turn.{Turn}
use Rattle.wf_desk.specs.History.{events_of}
use Rattle.wf_film.specs.declared.form.FilmForm.{FilmForm}
use Rattle.wf_film.specs.Film.{Writing, tail_bytes}
use Rattle.wf_io.specs.Bytes.{Puts, PutsPart}
use Rattle.wf_script.specs.Script.{PlainScript, may_tick}
use Rattle.wf_turn.specs.declared.player.PlayStop.{PlayStop}
use Rattle.wf_turn.specs.declared.player.PlayStop.TheVariants as stop
use Rattle.wf_turn.specs.Films.{CutsFrame, CutsJournal, CutsMagic, PlaysFilm}
use Rattle.wf_turn.specs.Play.{IsLegal, plain_film}
use Rattle.wf_turn.proofs.Ranges.{film_stands}
use Rattle.wf_turn.specs.Program.{Program, place_of}
use Rattle.wf_show.specs.declared.players.Players.{Players}
use Rattle.wf_show.specs.declared.player.Player.{Player}
use Rattle.wf_show.specs.Opened.{ArePlayers}
use Rattle.wf_show.specs.Clocks.{IsClock, shown_to}
use Rattle.wf_show.specs.Ends.{AllPlay, AreEnded, IsCut, IsFilmed, IsHistory, OthersThrough}
use Rattle.wf_machine.specs.Histories.{Happening, PlainPass}
use Rattle.wf_show.specs.Players.{AreFresh, IsFresh}
use Rattle.wf_show.specs.Shown.{order_of}
use Rattle.wf_show.proofs.HistoryIsAnOrder.{clock_apart, completes, each_front, shown_is, through_behind}
use Rattle.wf_show.proofs.FrontsAreLegal.{EachFront}
use Rattle.wf_show.proofs.PassesAtTheEnd.{few_in_all, few_turns}
use Rattle.wf_show.proofs.FilmOfThreads.{cut_frame, cut_journal, cut_magic, shown_all, whole}
use Rattle.wf_show.proofs.Passes.{written_back}

module _ (desk : TableId) (script : PlainScript) (ticks : list_all may_tick script.lines ≡ true) (clock : Player) (old new : List Player)
    (history : List Happening) (is_clock : IsClock desk clock) (script_is : clock.program.script ≡ script)
    (fresh : AreFresh desk script 1 old) (seven : length old ≡ 7) (as_many : length new ≡ 7)
    (behind : IsHistory script clock new history) where
  abbrev order : List Turn
  order = order_of history

  legal : AreEnded desk clock old new → IsLegal script order
  legal ended =
      (each_front desk script ticks clock old new history is_clock script_is fresh seven as_many behind ended history []
      (sym (append-nil history))).legal

  pub others_through : AreEnded desk clock old new → (written : ℕ) → OthersThrough script (Err (stop.WriteFault written order))
  others_through ended written = through_behind desk script ticks clock old new history is_clock script_is fresh seven as_many behind ended

  module _ {K : Type 0} (took : K → List ℕ → Type 0) (form : FilmForm) where
    pub whole_film : (a b c : K) (writer : Writing) → AllPlay desk clock old new → place_of clock.program ≡ None
        → IsFilmed took a b form writer clock → Puts took b c (tail_bytes order) → PlaysFilm took a c form script (Ok order)
    whole_film a b c writer all through filmed tail =
        let fronts = each_front desk script ticks clock old new history is_clock script_is fresh seven as_many behind (inl all) in
        let shown = shown_is desk script ticks clock old new history is_clock script_is fresh seven as_many behind in (
          whole took form script history fronts a b c writer clock filmed shown tail,
          completes desk script ticks clock old new history is_clock script_is fresh seven as_many behind all through,
        )

    pub whole_stands : (a b : K) (writer : Writing) → AllPlay desk clock old new → IsFilmed took a b form writer clock
        → AllByRecursion IsEntry order → length order < 2 ^ 32 → IsFilm (as_read (plain_film form script order))
    whole_stands a b writer all filmed values few =
        let fronts = each_front desk script ticks clock old new history is_clock script_is fresh seven as_many behind (inl all) in
        let shown = shown_is desk script ticks clock old new history is_clock script_is fresh seven as_many behind in
        film_stands form script order (legal (inl all))
        (subst (AllByRecursion (IsFrameIn form)) (sym (shown_all took form script history fronts (shown_to clock) shown)) filmed.each)
        values few

    pub cut_tail : (a b c : K) (writer : Writing) (written : ℕ) → AllPlay desk clock old new → place_of clock.program ≡ None
        → IsFilmed took a b form writer clock → PutsPart took b c writer.written (tail_bytes order) written
        → PlaysFilm took a c form script (Err (stop.WriteFault written order))
    cut_tail a b c writer written all through filmed part =
        let fronts = each_front desk script ticks clock old new history is_clock script_is fresh seven as_many behind (inl all) in
        let shown = shown_is desk script ticks clock old new history is_clock script_is fresh seven as_many behind in
        let complete = completes desk script ticks clock old new history is_clock script_is fresh seven as_many behind all through in
        record {
          legal = legal (inl all);
          cut = inr (inr (cut_journal took form script history fronts a b c writer clock written filmed shown complete part));
        }

    pub cut_head : (a b : K) (written : ℕ) (first : Player) → IsFresh desk script 0 first → AreEnded desk clock old new
        → IsCut took a b form written first clock → PlaysFilm took a b form script (Err (stop.WriteFault written order))
    cut_head a b written first new_one ended cut = record { legal = legal ended; cut = of_cut cut }
      where
        fronts : EachFront script history
        fronts = each_front desk script ticks clock old new history is_clock script_is fresh seven as_many behind ended

        of_cut : IsCut took a b form written first clock
            → CutsMagic took a b form script order written
            ⊎ (CutsFrame took a b form script order written ⊎ CutsJournal took a b form script order written)
        of_cut (inl magic) =
            let none : events_of 0 history ≡ [] =
            sym behind.mine ∙ ap (λ (p : Player). p.pass.mine) magic.1 ∙ ap (λ (k : PlainPass). k.mine) new_one.pass in
            inl (cut_magic took form script history fronts a b written magic.0 none)
        of_cut (inr late) =
            let apart = clock_apart desk script ticks clock old new history is_clock script_is fresh seven as_many behind in
            let first_script : first.program.script ≡ script = ap (λ (q : Program). q.script) new_one.program in
            let nothing : first.pass.seen ≡ [] = ap (λ (k : PlainPass). k.seen) new_one.pass in
            inr (inl (cut_frame took form script history fronts a b written first clock late first_script nothing apart.0 apart.1.0
            apart.1.1))

-- an order is that of the one history behind all players
abbrev pub Closed : Player → List Player → List Turn → Type 0
Closed clock others order = (h : List Happening) × (IsHistory clock.program.script clock others h × (order ≡ order_of h))

-- The desk is closed, behind players that were opened: the clock as it is now, and the others as they were lent to their threads and as
-- they came back.
pub record IsOver (script : PlainScript) (opened : Players) (clock : Player) (old new : List Player) (order : List Turn) : Type 0 where
  pub are_players : ArePlayers script opened
  pub is_clock : IsClock opened.desk.id clock
  pub same : clock.program.script ≡ opened.clock.program.script
  pub old_is : old ≡ opened.others.items
  pub as_many : length new ≡ length old
  pub closed : Closed clock new order

-- the others stand in their vector again when the desk is closed
pub is_over : (script : PlainScript) (opened : Players) (clock : Player) (old new : List Player) (order : List Turn)
    → ArePlayers script opened → IsClock opened.desk.id clock → clock.program.script ≡ opened.clock.program.script
    → old ≡ opened.others.items → length new ≡ length old → opened.others.len ≡ length opened.others.items
    → Closed clock (take opened.others.len (new ++ drop (length new) opened.others.items)) order
    → IsOver script opened clock old new order
is_over script opened clock old new order are_players is_clock same old_is as_many counted closed =
    record {
      are_players = are_players;
      is_clock = is_clock;
      same = same;
      old_is = old_is;
      as_many = as_many;
      closed =
          subst (λ ps. Closed clock ps order)
          (written_back opened.others.len opened.others.items new counted (as_many ∙ ap length old_is)) closed;
    }

-- the same behind a desk that is closed
module _ (script : PlainScript) (opened : Players) (clock : Player) (old new : List Player) (order : List Turn)
    (over : IsOver script opened clock old new order) where
  abbrev desk : TableId
  desk = opened.desk.id

  abbrev closed : Closed clock new order
  closed = over.closed

  fresh_old : AreFresh desk script 1 old
  fresh_old = subst (AreFresh desk script 1) (sym over.old_is) over.are_players.others

  seven_old : length old ≡ 7
  seven_old = ap length over.old_is ∙ over.are_players.seven

  of_script : clock.program.script ≡ script
  of_script = over.same ∙ ap (λ (q : Program). q.script) over.are_players.clock.program

  seven_new : length new ≡ 7
  seven_new = over.as_many ∙ seven_old

  behind : IsHistory script clock new closed.0
  behind = subst (λ s. IsHistory s clock new closed.0) of_script closed.1.0

  pub few_turns_in_all : AreEnded desk clock old new → length order < 2 ^ 32
  few_turns_in_all ended =
      omega (
        arith,
        ap length closed.1.1,
        few_turns closed.0,
        few_in_all desk clock old new over.is_clock script fresh_old seven_old seven_new ended closed.0 script behind,
      )

  pub ends_well : {K : Type 0} (took : K → List ℕ → Type 0) (form : FilmForm) (a b c : K) (writer : Writing)
      → AllPlay desk clock old new → place_of clock.program ≡ None → IsFilmed took a b form writer clock
      → Puts took b c (tail_bytes order) → PlaysFilm took a c form script (Ok order)
  ends_well took form a b c writer all through filmed tail =
      let put : Puts took b c (tail_bytes (order_of closed.0)) = subst (λ o. Puts took b c (tail_bytes o)) closed.1.1 tail in
      subst (λ o. PlaysFilm took a c form script (Ok o)) (sym closed.1.1)
      (whole_film desk script over.are_players.ticks clock old new closed.0 over.is_clock of_script fresh_old seven_old seven_new behind
      took form
      a b c writer all through filmed put)

  pub stands_well : {K : Type 0} (took : K → List ℕ → Type 0) (form : FilmForm) (a b : K) (writer : Writing)
      → AllPlay desk clock old new → IsFilmed took a b form writer clock → AllByRecursion IsEntry order
      → IsFilm (as_read (plain_film form script order))
  stands_well took form a b writer all filmed values =
      let few = few_turns_in_all (inl all) in
      subst (λ o. IsFilm (as_read (plain_film form script o))) (sym closed.1.1)
      (whole_stands desk script over.are_players.ticks clock old new closed.0 over.is_clock of_script fresh_old seven_old seven_new behind
      took form a b writer all filmed (subst (AllByRecursion IsEntry) closed.1.1 values)
      (subst (λ o. length o < 2 ^ 32) closed.1.1 few))

  pub ends_in_tail : {K : Type 0} (took : K → List ℕ → Type 0) (form : FilmForm) (a b c : K) (writer : Writing) (written : ℕ)
      → AllPlay desk clock old new → place_of clock.program ≡ None → IsFilmed took a b form writer clock
      → PutsPart took b c writer.written (tail_bytes order) written → (r : PlayStop) → r ≡ stop.WriteFault written order
      → PlaysFilm took a c form script (Err r)
  ends_in_tail took form a b c writer written all through filmed part r is =
      let put : PutsPart took b c writer.written (tail_bytes (order_of closed.0)) written =
      subst (λ o. PutsPart took b c writer.written (tail_bytes o) written) closed.1.1 part in
      subst (λ x. PlaysFilm took a c form script (Err x)) (sym is)
      (subst (λ o. PlaysFilm took a c form script (Err (stop.WriteFault written o))) (sym closed.1.1)
      (cut_tail desk script over.are_players.ticks clock old new closed.0 over.is_clock of_script fresh_old seven_old seven_new behind
      took form
      a b c writer written all through filmed put))

  pub ends_in_head : {K : Type 0} (took : K → List ℕ → Type 0) (form : FilmForm) (a b : K) (written : ℕ)
      → AreEnded desk clock old new → IsCut took a b form written opened.clock clock → (r : PlayStop) → r ≡ stop.WriteFault written order
      → PlaysFilm took a b form script (Err r)
  ends_in_head took form a b written ended cut r is =
      subst (λ x. PlaysFilm took a b form script (Err x)) (sym is)
      (subst (λ o. PlaysFilm took a b form script (Err (stop.WriteFault written o))) (sym closed.1.1)
      (cut_head desk script over.are_players.ticks clock old new closed.0 over.is_clock of_script fresh_old seven_old seven_new behind
      took form
      a b written opened.clock over.are_players.clock ended cut))

  pub ends_others : (written : ℕ) → AreEnded desk clock old new → (r : PlayStop) → r ≡ stop.WriteFault written order
      → OthersThrough script (Err r)
  ends_others written ended r is =
      subst (λ x. OthersThrough script (Err x)) (sym is)
      (subst (λ o. OthersThrough script (Err (stop.WriteFault written o))) (sym closed.1.1)
      (others_through desk script over.are_players.ticks clock old new closed.0 over.is_clock of_script fresh_old seven_old seven_new behind
      ended written))
