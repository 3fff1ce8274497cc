-- Each front of the clients' history is a legal order, whose frames are those that the clock shows.
use Rattle.std.proofs.Common.{◌≡◌, ◌∙◌, ◌⊎◌, inl, inr, ℕ, zero, suc, ◌<◌, ◌==◌, Bool, true, false, List, [], ◌∷◌, ◌++◌, map, refl}
use Rattle.std.proofs.Common.{sym, ap, subst, arith, append_assoc}
use Rattle.std.specs.List.{range_with_len}
use Rattle.std.specs.Option.{is_some}
use Rattle.std.proofs.lemmas.Bool.{eq-eqb}
use Rattle.wf_desk.specs.History.{IsLegal, events_of}
use Rattle.wf_machine.specs.Object.{MayAnswer, after}
use Rattle.wf_model.specs.State.{State, opening}
use Rattle.wf_script.specs.Script.{PlainScript}
use Rattle.wf_turn.specs.Play.{IsLegal as IsLegalOrder, frames_after, replay}
use Rattle.wf_turn.specs.Program.{Program, program}
use Rattle.wf_turn.specs.Turns.{opening_show}
use Rattle.wf_show.specs.Played.{IsPlayed, gone_on}
use Rattle.wf_machine.specs.Histories.{Happening}
use Rattle.wf_show.specs.Shown.{frames_by, order_of}
use Rattle.wf_show.specs.Together.{AllBelow, IsSetup, IsSettingUp, IsTogether, program_in}
use Rattle.wf_show.proofs.HistoryInParts.{legal_parts, played_parts}
use Rattle.wf_show.proofs.SetupEvents.{setup_replayed}
use Rattle.wf_show.proofs.OrderOfAHistory.{is_order}

-- a front of the setup is a setup, and so is one without events of others
pub setup_front : (p : Program) (xs ys : List Happening) → IsSetup p (xs ++ ys) → IsSetup p xs
setup_front p [] ys setup = tt
setup_front p (x ∷ xs) ys setup = (setup.0, setup.1, setup_front (gone_on p x.reply) xs ys setup.2)

below_front : (n : ℕ) (xs ys : List Happening) → AllBelow n (xs ++ ys) → AllBelow n xs
below_front n [] ys all = tt
below_front n (x ∷ xs) ys all = (all.0, below_front n xs ys all.1)

pub setup_of : (p : Program) (es : List Happening) → ((c : ℕ) → 0 < c → events_of c es ≡ []) → IsSettingUp p es → IsSetup p es
setup_of p [] none setting = tt
setup_of p (e ∷ es) none setting = of_client e.client refl (λ each rest. setup_of (gone_on p e.reply) es each rest)
  where
    of_client : (c : ℕ) → e.client ≡ c → (((d : ℕ) → 0 < d → events_of d es ≡ []) → IsSettingUp (gone_on p e.reply) es
        → IsSetup (gone_on p e.reply) es)
        → IsSetup p (e ∷ es)
    of_client zero own rest_of =
        let here : (e.client == 0) ≡ true = eq-eqb e.client 0 own in
        let rest : IsSettingUp (gone_on p e.reply) es = rw here at setting.1 in
        (own, setting.0 here, rest_of others rest)
      where
        others : (c : ℕ) → 0 < c → events_of c es ≡ []
        others c some = (let all = none c some in later (e.client == c) refl all)
          where
            later : (b : Bool) → (e.client == c) ≡ b → events_of c (e ∷ es) ≡ [] → events_of c es ≡ []
            later true same all = absurd (let no : e ∷ events_of c es ≡ [] = rw same at all in cc)
            later false other all = rw other at all
    of_client (suc n) own rest_of =
        let here : (e.client == suc n) ≡ true = eq-eqb e.client (suc n) own in
        let all = none (suc n) (omega arith) in
        absurd (let no : e ∷ events_of (suc n) es ≡ [] = rw here at all in cc)

pub record IsFront (script : PlainScript) (xs : List Happening) : Type 0 where
  pub legal : IsLegalOrder script (order_of xs)
  pub frames : frames_after (replay script (order_of xs)) ≡ frames_by 0 0 (program script 0) xs

abbrev pub EachFront : PlainScript → List Happening → Type 0
EachFront script history = (xs ys : List Happening) → history ≡ xs ++ ys → IsFront script xs

-- of the setup alone
pub alone_front : (script : PlainScript) (xs : List Happening) → IsSetup (program script 0) xs
    → IsPlayed 0 (opening script.ports) (program script 0) xs → IsLegal after MayAnswer (opening script.ports) xs → IsFront script xs
alone_front script xs setup played legal =
    let reached =
    setup_replayed xs (opening_show script) (program script 0) (map (program script) (range_with_len 1 7)) setup played legal in
    record { legal = ap is_some reached; frames = ap frames_after reached }

pub alone_fronts : (script : PlainScript) (history : List Happening) → IsSetup (program script 0) history
    → IsPlayed 0 (opening script.ports) (program script 0) history → IsLegal after MayAnswer (opening script.ports) history
    → EachFront script history
alone_fronts script history setup played legal xs ys is =
    let h = opening script.ports in
    let p = program script 0 in
    alone_front script xs (setup_front p xs ys (subst (IsSetup p) is setup)) (played_parts 0 h p xs ys (subst (IsPlayed 0 h p) is played)).0
    (legal_parts h xs ys (subst (IsLegal after MayAnswer h) is legal)).0

-- of two lists that begin a third one, one begins the other
one_of_two : (xs ys vs ws : List Happening) → xs ++ ys ≡ vs ++ ws
    → ((zs : List Happening) × (vs ≡ xs ++ zs)) ⊎ ((zs : List Happening) × ((xs ≡ vs ++ zs) × (ws ≡ zs ++ ys)))
one_of_two [] ys vs ws same = inl (vs, refl)
one_of_two (x ∷ xs) ys [] ws same = inr (x ∷ xs, (refl, sym same))
one_of_two (x ∷ xs) ys (v ∷ vs) ws same = of_rest (one_of_two xs ys vs ws (let tails : xs ++ ys ≡ vs ++ ws = cc in tails))
  where
    heads : x ≡ v
    heads = cc

    of_rest : ((zs : List Happening) × (vs ≡ xs ++ zs)) ⊎ ((zs : List Happening) × ((xs ≡ vs ++ zs) × (ws ≡ zs ++ ys)))
        → ((zs : List Happening) × (v ∷ vs ≡ (x ∷ xs) ++ zs)) ⊎ ((zs : List Happening) × ((x ∷ xs ≡ (v ∷ vs) ++ zs) × (ws ≡ zs ++ ys)))
    of_rest (inl shorter) = inl (shorter.0, ap (λ (l : List Happening). v ∷ l) shorter.1 ∙ ap (λ y. y ∷ xs ++ shorter.0) (sym heads))
    of_rest (inr longer) =
        inr (longer.0, (ap (λ (l : List Happening). x ∷ l) longer.1.0 ∙ ap (λ y. y ∷ vs ++ longer.0) heads, longer.1.1))

-- of all together
module _ (script : PlainScript) (setup rest : List Happening) (whole : IsTogether script setup rest) where
  abbrev h : State
  h = opening script.ports

  shorter : (zs ys : List Happening) → rest ≡ zs ++ ys → IsTogether script setup zs
  shorter zs ys is =
      let all : setup ++ rest ≡ (setup ++ zs) ++ ys = ap (λ (l : List Happening). setup ++ l) is ∙ sym (append_assoc setup zs ys) in
      record {
        ticks = whole.ticks;
        legal = (legal_parts h (setup ++ zs) ys (subst (IsLegal after MayAnswer h) all whole.legal)).0;
        eight = below_front 8 (setup ++ zs) ys (subst (AllBelow 8) all whole.eight);
        setting = whole.setting;
        over = whole.over;
        played = λ client within.
            (let p = program_in script setup client in
            (played_parts client h p (setup ++ zs) ys (subst (IsPlayed client h p) all (whole.played client within))).0);
      }

  pub together_fronts : EachFront script (setup ++ rest)
  together_fronts xs ys is = of_parts (one_of_two xs ys setup rest (sym is))
    where
      of_parts : ((zs : List Happening) × (setup ≡ xs ++ zs)) ⊎ ((zs : List Happening) × ((xs ≡ setup ++ zs) × (rest ≡ zs ++ ys)))
          → IsFront script xs
      of_parts (inl part) =
          let p = program script 0 in
          let all : setup ++ rest ≡ xs ++ ys = is in
          alone_front script xs (setup_front p xs part.0 (subst (IsSetup p) part.1 whole.setting))
          (played_parts 0 h p xs ys (subst (IsPlayed 0 h p) all (whole.played 0 (omega arith)))).0
          (legal_parts h xs ys (subst (IsLegal after MayAnswer h) all whole.legal)).0
      of_parts (inr part) =
          let on = is_order script setup part.0 (shorter part.0 ys part.1.1) in
          subst (IsFront script) (sym part.1.0) (record { legal = on.legal; frames = on.frames })
