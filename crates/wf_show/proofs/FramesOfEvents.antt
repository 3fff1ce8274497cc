-- The frames of one event of a client more, and what its setup is.
use Rattle.std.proofs.Common.{◌≡◌, ◌∙◌, ℕ, ◌+◌, ◌==◌, Bool, true, false, cond, List, [], ◌∷◌, ◌++◌, length, refl, sym, ap, subst, arith}
use Rattle.std.proofs.Common.{append-nil}
use Rattle.std.proofs.lemmas.Bool.{eq-eqb}
use Rattle.wf_desk.specs.History.{IsPrefix, events_of}
use Rattle.wf_film.specs.Film.{Frame}
use Rattle.wf_model.specs.State.{State}
use Rattle.wf_turn.specs.Program.{Program, in_setup, took}
use Rattle.wf_turn.specs.Turns.{frames_of}
use Rattle.wf_show.specs.Played.{after_event, program_after}
use Rattle.wf_machine.specs.Histories.{Happening}
use Rattle.wf_show.specs.Shown.{frames_by, frames_in}
use Rattle.wf_show.specs.Together.{IsSettingUp}
use Rattle.wf_show.proofs.Histories.{none_between, reached}
use Rattle.wf_show.proofs.HistoryInParts.{frames_by-append}

-- a history without events of the client shows nothing of it, and is of no setup
pub frames_untouched : (begin c : ℕ) (p : Program) (xs : List Happening) → events_of c xs ≡ [] → frames_by begin c p xs ≡ []
frames_untouched begin c p [] none = refl
frames_untouched begin c p (x ∷ xs) none = of_client (x.client == c) refl (λ left. frames_untouched (begin + 1) c p xs left)
  where
    of_client : (b : Bool) → (x.client == c) ≡ b → (events_of c xs ≡ [] → frames_by (begin + 1) c p xs ≡ [])
        → frames_by begin c p (x ∷ xs) ≡ []
    of_client true own rest_of = absurd (let nothing : x ∷ events_of c xs ≡ [] = rw own at none in cc)
    of_client false other rest_of = rw other (rest_of (rw other at none))

pub setting_untouched : (p : Program) (xs : List Happening) → events_of 0 xs ≡ [] → IsSettingUp p xs
setting_untouched p [] none = tt
setting_untouched p (x ∷ xs) none = of_client (x.client == 0) refl (λ left. setting_untouched p xs left)
  where
    of_client : (b : Bool) → (x.client == 0) ≡ b → (events_of 0 xs ≡ [] → IsSettingUp p xs) → IsSettingUp p (x ∷ xs)
    of_client true own rest_of = absurd (let nothing : x ∷ events_of 0 xs ≡ [] = rw own at none in cc)
    of_client false other rest_of =
        (λ own. absurd (let apart : false ≡ true = sym other ∙ own in cc), rw other (rest_of (rw other at none)))

pub setting-append : (p : Program) (xs ys : List Happening) → IsSettingUp p xs → IsSettingUp (program_after 0 p xs) ys
    → IsSettingUp p (xs ++ ys)
setting-append p [] ys first rest = rest
setting-append p (x ∷ xs) ys first rest = (first.0, setting-append (after_event 0 p x) xs ys first.1 rest)

-- One event of the client more. Others may have made events before it.
module _ (c : ℕ) (old before new : List Happening) (e : Happening) (own : e.client ≡ c) (more : IsPrefix old before)
    (is : new ≡ before ++ e ∷ []) (counted : events_of c new ≡ events_of c old ++ e ∷ []) (h : State) (p : Program) where
  nobody : events_of c more.0 ≡ []
  nobody = none_between c old before new e own more is counted

  frames_before : (n : ℕ) → frames_by n c p before ≡ frames_by n c p old
  frames_before n =
      ap (frames_by n c p) more.1 ∙ frames_by-append n c p old more.0
      ∙ ap (λ (fs : List Frame). frames_by n c p old ++ fs)
      (frames_untouched (n + length old) c (program_after c p old) more.0 nobody)
      ∙ append-nil (frames_by n c p old)

  last_frames : (n : ℕ) (q : Program) → frames_by n c q (e ∷ []) ≡ frames_of n (took q e.reply)
  last_frames n q =
      append-nil (frames_in n c q e) ∙ ap (λ b. cond b (frames_of n (took q e.reply)) []) (eq-eqb e.client c own)

  pub one_frames : frames_by 0 c p new ≡ frames_by 0 c p old ++ frames_of (length before) (took (program_after c p old) e.reply)
  one_frames =
      let at : 0 + length before ≡ length before = omega arith in
      ap (frames_by 0 c p) is ∙ frames_by-append 0 c p before (e ∷ [])
      ∙ ap (λ (fs : List Frame). fs ++ frames_by (0 + length before) c (program_after c p before) (e ∷ [])) (frames_before 0)
      ∙ ap (λ (fs : List Frame). frames_by 0 c p old ++ fs)
      (last_frames (0 + length before) (program_after c p before) ∙ ap (λ n. frames_of n (took (program_after c p before) e.reply)) at
      ∙ ap (λ q. frames_of (length before) (took q e.reply)) (reached c old before new e own more is counted h p))

  pub one_setting : c ≡ 0 → IsSettingUp p old → in_setup (program_after c p old) ≡ true → IsSettingUp p new
  one_setting clock so_far inside =
      let none : events_of 0 more.0 ≡ [] = subst (λ n. events_of n more.0 ≡ []) clock nobody in
      let first : IsSettingUp p before =
      subst (IsSettingUp p) (sym more.1) (setting-append p old more.0 so_far (setting_untouched (program_after 0 p old) more.0 none)) in
      let here : in_setup (program_after 0 p before) ≡ true =
      subst (λ n. in_setup (program_after n p before) ≡ true) clock
      (ap in_setup (reached c old before new e own more is counted h p) ∙ inside) in
      subst (IsSettingUp p) (sym is) (setting-append p before (e ∷ []) first (λ mine. here, tt))
