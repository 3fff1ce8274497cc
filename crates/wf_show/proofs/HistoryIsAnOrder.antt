-- From what each client knows, and the one history behind all, to an order of the script.
use Rattle.std.proofs.Common.{◌≡◌, ◌∙◌, inl, inr, ℕ, zero, suc, ◌+◌, ◌<◌, ◌≤◌, ◌==◌, Bool, true, false, not, cond, ◌&&◌, List, [], ◌∷◌}
use Rattle.std.proofs.Common.{◌++◌, map, length}
use Rattle.std.proofs.Common.{Option, Some, None, refl, sym, ap, subst, arith, append-nil, slice_get}
use Rattle.std.specs.Prelude.{nat_lt, slice_index_or}
use Rattle.std.specs.List.{list_all, range_with_len}
use Rattle.std.specs.Option.{unwrap_or}
use Rattle.std.proofs.lemmas.Bool.{eq-eqb, ltb-false, ltb-true}
use Rattle.std.proofs.lemmas.Option.{slice_get_within}
use Rattle.atomic_table.specs.Seated.{TableId}
use Rattle.wf_desk.specs.History.{IsLegal, IsPrefix, events_of, replay}
use Rattle.wf_film.specs.Film.{Frame}
use Rattle.wf_machine.specs.Object.{MayAnswer, after}
use Rattle.wf_model.specs.State.{State, opening}
use Rattle.wf_script.specs.Script.{PlainScript, may_tick}
use Rattle.wf_turn.specs.Play.{IsComplete, replay as replayed}
use Rattle.wf_turn.specs.Program.{Program, in_setup, place_of, program, taught}
use Rattle.wf_turn.specs.Turns.{Show, all_taught, is_setting_up, opening_show}
use Rattle.wf_show.specs.declared.player.Player.{Player}
use Rattle.wf_show.specs.Clocks.{IsClock, shown_to, start}
use Rattle.wf_show.specs.Ends.{AllPlay, AreEnded, IsAlone, IsHistory}
use Rattle.wf_show.specs.Played.{IsPlayed, program_after}
use Rattle.wf_machine.specs.Histories.{Happening, PlainPass}
use Rattle.wf_show.specs.Players.{AreFresh}
use Rattle.wf_show.specs.Shown.{frames_by, order_of}
use Rattle.wf_show.specs.Together.{AllBelow, IsSetup, IsSettingUp, IsTogether, program_in}
use Rattle.wf_show.proofs.FramesOfEvents.{frames_untouched, setting-append, setting_untouched}
use Rattle.wf_show.proofs.FrontsAreLegal.{EachFront, alone_fronts, setup_of, together_fronts}
use Rattle.wf_show.proofs.Histories.{events_of-append, nothing_more, played-append, program_after-append, untouched}
use Rattle.wf_show.proofs.MergedEventsAreLegal.{one_is}
use Rattle.wf_show.proofs.HistoryInParts.{frames_by-append}
use Rattle.wf_show.proofs.SetupEvents.{set_up, setup_replayed}
use Rattle.wf_show.proofs.FramesOfTheClock.{longer}
use Rattle.wf_show.proofs.OrderOfAHistory.{ended, is_order}

-- a client that no event is of is none of them
pub all_below : (n : ℕ) (es : List Happening) → ((c : ℕ) → n ≤ c → events_of c es ≡ []) → AllBelow n es
all_below n [] none = tt
all_below n (e ∷ es) none = (of_test (nat_lt e.client n) refl, all_below n es (λ c past. behind c past (e.client == c) refl (none c past)))
  where
    of_test : (b : Bool) → nat_lt e.client n ≡ b → e.client < n
    of_test true less = ltb-true e.client n less
    of_test false past =
        let here : (e.client == e.client) ≡ true = eq-eqb e.client e.client refl in
        let all = none e.client (ltb-false e.client n past) in
        absurd (let no : e ∷ events_of e.client es ≡ [] = rw here at all in cc)

    behind : (c : ℕ) → n ≤ c → (b : Bool) → (e.client == c) ≡ b → events_of c (e ∷ es) ≡ [] → events_of c es ≡ []
    behind c past true same all = absurd (let no : e ∷ events_of c es ≡ [] = rw same at all in cc)
    behind c past false other all = rw other at all

module _ (script : PlainScript) (history : List Happening) where
  abbrev h : State
  h = opening script.ports

  -- what a client knows begins the history, and has all events of the client
  record Knows (c : ℕ) (p : Program) (seen : List Happening) : Type 0 where
    pub begins : IsPrefix seen history
    pub all : events_of c seen ≡ events_of c history
    pub played : IsPlayed c h p seen

  record IsKnown (c : ℕ) (p : Program) (seen : List Happening) : Type 0 where
    pub nobody : (zs : List Happening) × ((history ≡ seen ++ zs) × (events_of c zs ≡ []))
    pub played : IsPlayed c h p history
    pub program : program_after c p history ≡ program_after c p seen
    pub frames : frames_by 0 c p history ≡ frames_by 0 c p seen

  known : (c : ℕ) (p : Program) (seen : List Happening) → Knows c p seen → IsKnown c p seen
  known c p seen know =
      let zs : List Happening = know.begins.0 in
      let is : history ≡ seen ++ zs = know.begins.1 in
      let none : events_of c zs ≡ [] =
      nothing_more (events_of c seen) (events_of c zs) (sym (events_of-append c seen zs) ∙ ap (events_of c) (sym is) ∙ sym know.all) in
      let q : Program = program_after c p seen in
      let rest = untouched c (replay after h seen) q zs none in
      record {
        nobody = (zs, (is, none));
        played = subst (IsPlayed c h p) (sym is) (played-append c h p seen zs know.played rest.played);
        program = ap (program_after c p) is ∙ program_after-append c p seen zs ∙ rest.program;
        frames =
            ap (frames_by 0 c p) is ∙ frames_by-append 0 c p seen zs
            ∙ ap (λ (fs : List Frame). frames_by 0 c p seen ++ fs) (frames_untouched (0 + length seen) c q zs none)
            ∙ append-nil (frames_by 0 c p seen);
      }

module _ (desk : TableId) (script : PlainScript) (ticks : list_all may_tick script.lines ≡ true) (clock : Player) (old new : List Player)
    (history : List Happening) (is_clock : IsClock desk clock) (script_is : clock.program.script ≡ script)
    (fresh : AreFresh desk script 1 old) (seven : length old ≡ 7) (as_many : length new ≡ 7)
    (behind : IsHistory script clock new history) where
  abbrev opens : State
  opens = opening script.ports

  abbrev first : Program
  first = program script 0

  -- a clock of the script, in the script's words
  record IsOwnClock (c : Player) : Type 0 where
    pub played : IsPlayed 0 opens first c.pass.seen
    pub program : c.program ≡ program_after 0 first c.pass.seen
    pub mine : c.pass.mine ≡ events_of 0 c.pass.seen

  own_clock : (c : Player) → IsClock desk c → c.program.script ≡ script → IsOwnClock c
  own_clock c is same =
      let runs = is.so_far.runs in
      let at : State = opening c.program.script.ports in
      let played : IsPlayed 0 at (start c) c.pass.seen =
      subst (λ n. IsPlayed n at (start c) c.pass.seen) runs.client (runs.played at runs.opening) in
      record {
        played = subst (λ (s : PlainScript). IsPlayed 0 (opening s.ports) (program s 0) c.pass.seen) same played;
        program =
            runs.program ∙ ap (λ n. program_after n (start c) c.pass.seen) runs.client
            ∙ ap (λ (s : PlainScript). program_after 0 (program s 0) c.pass.seen) same;
        mine = runs.own.mine ∙ ap (λ n. events_of n c.pass.seen) runs.client;
      }

  here : IsOwnClock clock
  here = own_clock clock is_clock script_is

  clock_known : IsKnown script history 0 first clock.pass.seen
  clock_known =
      known script history 0 first clock.pass.seen
      (record { begins = behind.begins; all = sym here.mine ∙ behind.mine; played = here.played })

  -- behind what the clock has seen, nothing is the clock's
  pub clock_apart : (zs : List Happening) × ((history ≡ clock.pass.seen ++ zs) × (events_of 0 zs ≡ []))
  clock_apart = clock_known.nobody

  -- what the clock shows is all that the history shows
  pub shown_is : frames_by 0 0 first history ≡ shown_to clock
  shown_is = clock_known.frames ∙ ap (λ (s : PlainScript). frames_by 0 0 (program s 0) clock.pass.seen) (sym script_is)

  -- there is no client beyond the eight
  pub eight : AllBelow 8 history
  eight = all_below 8 history (λ c past. behind.no_other c (omega (arith, past)))

  -- where the clock played its setup, and then all
  module _ (all : AllPlay desk clock old new) where
    abbrev setup : List Happening
    setup = all.middle.pass.seen

    middle_is : IsOwnClock all.middle
    middle_is = own_clock all.middle all.is_clock (all.script ∙ script_is)

    pub goes_on : IsPrefix setup history
    goes_on = longer setup clock.pass.seen history all.goes_on behind.begins

    abbrev rest : List Happening
    rest = goes_on.0

    -- a client that was told, and played to its end
    record IsOther (i : ℕ) (p : Player) : Type 0 where
      pub quiet : events_of (1 + i) setup ≡ []
      pub known : IsKnown script history (1 + i) (program_in script setup (suc i)) p.pass.seen
      pub through : place_of (program_after (1 + i) (program_in script setup (suc i)) p.pass.seen) ≡ None

    other : (i : ℕ) → i < 7 → IsOther i (slice_index_or new i clock)
    other i within =
        let was : Player = slice_index_or old i clock in
        let now : Player = slice_index_or new i clock in
        let of_old : i < length old = omega (arith, within, seven) in
        let of_new : i < length new = omega (arith, within, as_many) in
        let new_one = fresh i clock of_old in
        let play = all.players i clock of_old in
        let told = play.told in
        let mid : Player = play.middle in
        let runs = play.worked.runs in
        let mid_client : mid.pass.client ≡ 1 + i = ap (λ (k : PlainPass). k.client) told.same
        ∙ ap (λ (k : PlainPass). k.client) new_one.pass in
        let client : now.pass.client ≡ 1 + i = runs.client ∙ mid_client in
        let none : mid.pass.mine ≡ [] = ap (λ (k : PlainPass). k.mine) told.same ∙ ap (λ (k : PlainPass). k.mine) new_one.pass in
        let opened : now.pass.opening ≡ Some opens =
        runs.opening ∙ ap (λ (k : PlainPass). k.opening) told.same ∙ ap (λ (k : PlainPass). k.opening) new_one.pass in
        let begun : mid.program ≡ program_in script setup (suc i) =
        told.program ∙ ap (λ q. taught q was.program) middle_is.program
        ∙ ap (taught (program_after 0 first setup)) (new_one.program
        ∙ ap (program script) (let same : 1 + i ≡ suc i = omega arith in same)) in
        let nobody : events_of (1 + i) mid.pass.seen ≡ [] =
        ap (λ n. events_of n mid.pass.seen) (sym mid_client) ∙ sym told.own.mine ∙ none in
        let both : events_of (1 + i) setup ++ events_of (1 + i) told.told.0 ≡ [] =
        sym (events_of-append (1 + i) setup told.told.0) ∙ ap (events_of (1 + i)) (sym told.told.1) ∙ nobody in
        let p : Program = program_in script setup (suc i) in
        let played : IsPlayed (1 + i) opens p now.pass.seen =
        subst (λ q. IsPlayed (1 + i) opens q now.pass.seen) begun
        (subst (λ n. IsPlayed n opens mid.program now.pass.seen) client (runs.played opens opened)) in
        let mine : events_of (1 + i) now.pass.seen ≡ events_of (1 + i) history =
        ap (λ n. events_of n now.pass.seen) (sym client) ∙ sym runs.own.mine ∙ behind.all_mine i clock of_new in
        let program_is : now.program ≡ program_after (1 + i) p now.pass.seen =
        runs.program ∙ ap (λ n. program_after n mid.program now.pass.seen) client
        ∙ ap (λ q. program_after (1 + i) q now.pass.seen) begun in
        record {
          quiet = front_empty (events_of (1 + i) setup) (events_of (1 + i) told.told.0) both;
          known =
              known script history (1 + i) p now.pass.seen
              (record { begins = behind.all_begin i clock of_new; all = mine; played = played });
          through = ap place_of (sym program_is) ∙ play.worked.through;
        }
      where
        front_empty : (xs ys : List Happening) → xs ++ ys ≡ [] → xs ≡ []
        front_empty [] ys same = refl
        front_empty (x ∷ xs) ys same = absurd cc

    -- in the setup nobody but the clock has an event
    quiet : (c : ℕ) → 0 < c → events_of c setup ≡ []
    quiet zero some = absurd (omega (arith, some))
    quiet (suc n) some = of_test (nat_lt n 7) refl
      where
        same : 1 + n ≡ suc n
        same = omega arith

        of_test : (b : Bool) → nat_lt n 7 ≡ b → events_of (suc n) setup ≡ []
        of_test true less = ap (λ c. events_of c setup) (sym same) ∙ (other n (ltb-true n 7 less)).quiet
        of_test false past =
            let beyond : events_of (suc n) history ≡ [] = behind.no_other (suc n) (omega (arith, ltb-false n 7 past)) in
            front (events_of (suc n) setup) (events_of (suc n) rest)
            (sym (events_of-append (suc n) setup rest) ∙ ap (events_of (suc n)) (sym goes_on.1) ∙ beyond)
          where
            front : (xs ys : List Happening) → xs ++ ys ≡ [] → xs ≡ []
            front [] ys is = refl
            front (x ∷ xs) ys is = absurd cc

    setting_is : IsSettingUp first setup
    setting_is = subst (λ (s : PlainScript). IsSettingUp (program s 0) setup) (all.script ∙ script_is) all.setting

    pub together : IsTogether script setup rest
    together =
        record {
          ticks = ticks;
          legal = subst (IsLegal after MayAnswer opens) goes_on.1 behind.legal;
          eight = subst (AllBelow 8) goes_on.1 eight;
          setting = setup_of first setup quiet setting_is;
          over = ap in_setup (sym middle_is.program) ∙ all.over;
          played = λ client within. subst (IsPlayed client opens (program_in script setup client)) goes_on.1 (each client within);
        }
      where
        each : (client : ℕ) → client < 8 → IsPlayed client opens (program_in script setup client) history
        each zero within = clock_known.played
        each (suc n) within =
            let same : 1 + n ≡ suc n = omega arith in
            subst (λ c. IsPlayed c opens (program_in script setup (suc n)) history) same (other n (omega (arith, within))).known.played

    others_through : (n : ℕ) → n < 7 → place_of (program_after (suc n) (program_in script setup (suc n)) history) ≡ None
    others_through n within =
        let same : 1 + n ≡ suc n = omega arith in
        let one = other n within in
        ap (λ c. place_of (program_after c (program_in script setup (suc n)) history)) (sym same)
        ∙ ap place_of one.known.program ∙ one.through

    -- where the clock is through, the order is complete
    pub completes : place_of clock.program ≡ None → IsComplete script (order_of history)
    completes through =
        let on = is_order script setup rest together in
        subst (λ (es : List Happening). IsComplete script (order_of es)) (sym goes_on.1)
        (on.complete (λ client within. subst (λ (es : List Happening). place_of (program_after client
        (program_in script setup client) es) ≡ None)
        goes_on.1 (each client within)))
      where
        each : (client : ℕ) → client < 8 → place_of (program_after client (program_in script setup client) history) ≡ None
        each zero within = ap place_of (clock_known.program ∙ sym here.program) ∙ through
        each (suc n) within = others_through n (omega (arith, within))

    pub all_fronts : EachFront script history
    all_fronts = subst (EachFront script) (sym goes_on.1) (together_fronts script setup rest together)

    pub all_others : (show : Show) → replayed script (order_of history) ≡ Some show → (client : ℕ) (p : Program)
        → slice_get show.programs (suc client) ≡ Some p → place_of p ≡ None
    all_others show is client p at =
        let end = ended script setup rest together in
        let same : end.last ≡ show =
        ap (λ (o : Option Show). unwrap_or o show)
        (sym end.replayed ∙ ap (λ (es : List Happening). replayed script (order_of es)) (sym goes_on.1) ∙ is) in
        let there : slice_get end.last.programs (suc client) ≡ Some p = ap (λ (s : Show). slice_get s.programs (suc client)) same ∙ at in
        let within : suc client < 8 = omega (arith, end.eight, slice_get_within end.last.programs (suc client) p there) in
        let is_program : slice_get end.last.programs (suc client) ≡ Some (program_after (suc client) (program_in script setup
        (suc client)) history) =
        end.programs (suc client) within
        ∙ ap (λ (es : List Happening). Some (program_after (suc client) (program_in script setup (suc client)) es)) (sym goes_on.1) in
        ap place_of (one_is there is_program) ∙ others_through client (omega (arith, within))

  -- where the setup is not through
  module _ (alone : IsAlone desk clock old new) where
    nobody : (c : ℕ) → 0 < c → events_of c history ≡ []
    nobody zero some = absurd (omega (arith, some))
    nobody (suc n) some = of_test (nat_lt n 7) refl
      where
        same : 1 + n ≡ suc n
        same = omega arith

        of_test : (b : Bool) → nat_lt n 7 ≡ b → events_of (suc n) history ≡ []
        of_test true less =
            let of_new : n < length new = omega (arith, ltb-true n 7 less, as_many) in
            let of_old : n < length old = omega (arith, ltb-true n 7 less, seven) in
            ap (λ c. events_of c history) (sym same) ∙ sym (behind.all_mine n clock of_new)
            ∙ ap (λ (ps : List Player). (slice_index_or ps n clock).pass.mine) alone.rest
            ∙ ap (λ (k : PlainPass). k.mine) (fresh n clock of_old).pass
        of_test false past = behind.no_other (suc n) (omega (arith, ltb-false n 7 past))

    setting_all : IsSettingUp first history
    setting_all =
        let rest = clock_known.nobody in
        let so_far : IsSettingUp first clock.pass.seen =
        subst (λ (s : PlainScript). IsSettingUp (program s 0) clock.pass.seen) script_is alone.setting in
        subst (IsSettingUp first) (sym rest.1.0)
        (setting-append first clock.pass.seen rest.0 so_far
        (setting_untouched (program_after 0 first clock.pass.seen) rest.0 rest.1.1))

    setup_is : IsSetup first history
    setup_is = setup_of first history nobody setting_all

    pub alone_all : EachFront script history
    alone_all = alone_fronts script history setup_is clock_known.played behind.legal

    pub alone_sets_up : (show : Show) → replayed script (order_of history) ≡ Some show → is_setting_up show.programs ≡ true
    alone_sets_up show is =
        let others : List Program = map (program script) (range_with_len 1 7) in
        let last : Show = set_up (opening_show script) first others history in
        let same : last ≡ show =
        ap (λ (o : Option Show). unwrap_or o show)
        (sym (setup_replayed history (opening_show script) first others setup_is clock_known.played behind.legal) ∙ is) in
        let now : Program = program_after 0 first history in
        let inside : in_setup now ≡ true = ap in_setup (clock_known.program ∙ sym here.program) ∙ alone.inside in
        let kept : (b : Bool) → is_setting_up (cond b (all_taught (now ∷ others)) (now ∷ others)) ≡ in_setup now =
        λ b. elim b as (λ x. is_setting_up (cond x (all_taught (now ∷ others))
        (now ∷ others)) ≡ in_setup now) [ true ↦ refl | false ↦ refl ] in
        ap (λ (s : Show). is_setting_up s.programs) (sym same) ∙ kept (in_setup first && not (in_setup now)) ∙ inside

  pub each_front : AreEnded desk clock old new → EachFront script history
  each_front (inl all) = all_fronts all
  each_front (inr alone) = alone_all alone

  pub through_behind : AreEnded desk clock old new → (show : Show) → replayed script (order_of history) ≡ Some show
      → is_setting_up show.programs ≡ false → (client : ℕ) (p : Program) → slice_get show.programs (suc client) ≡ Some p
      → place_of p ≡ None
  through_behind (inl all) show is over client p at = all_others all show is client p at
  through_behind (inr alone) show is over client p at =
      absurd (let no : false ≡ true = sym over ∙ alone_sets_up alone show is in cc)
