-- One port more has shown its picture.
use Rattle.std.proofs.Common.{◌≡◌, ◌∙◌, ℕ, suc, ◌+◌, List, set, ap, subst, arith}
use Rattle.std.specs.Prelude.{get_or}
use Rattle.wf_guard.specs.declared.form.Form.{Form}
use Rattle.wf_guard.specs.declared.screen.Screen.{Screen}
use Rattle.wf_io.specs.Bytes.{Puts}
use Rattle.wf_io.specs.Parts.{puts_both}
use Rattle.wf_model.specs.State.{State}
use Rattle.wf_serve.specs.Pictures.{shown_bytes, shown_now}
use Rattle.wf_serve.specs.Ticks.{no_screen, of_port, shown}

module _ (f : Form) (tick n : ℕ) (h : State) (screens : List Screen) (now : State) (left : List Screen)
    (here : now ≡ (shown f tick n h screens).machine) (there : left ≡ (shown f tick n h screens).screens) where
  next : suc n ≡ n + 1
  next = omega arith

  pub one_machine : (new : State) → new ≡ (of_port (n + 1) now).now → new ≡ (shown f tick (n + 1) h screens).machine
  one_machine new is = is ∙ ap (λ s. (of_port (n + 1) s).now) here ∙ ap (λ k. (shown f tick k h screens).machine) next

  pub one_screen : (at : ℕ) (last new : Screen) → at ≡ n → last ≡ get_or left n no_screen
      → new ≡ shown_now (of_port (n + 1) now).frame last → set left at new ≡ (shown f tick (n + 1) h screens).screens
  one_screen at last new place was is =
      ap (λ i. set left i new) place ∙ ap (λ x. set left n x) (is ∙ ap (λ l. shown_now (of_port (n + 1) now).frame l) was)
      ∙ (λ i. set (there i) n (shown_now (of_port (n + 1) (here i)).frame (get_or (there i) n no_screen)))
      ∙ ap (λ k. (shown f tick k h screens).screens) next

  pub one_put : {K : Type 0} (took : K → List ℕ → Type 0) (a b c : K) (last : Screen) → last ≡ get_or left n no_screen
      → Puts took a b (shown f tick n h screens).put → Puts took b c (shown_bytes f tick (n + 1) (of_port (n + 1) now).frame last)
      → Puts took a c (shown f tick (n + 1) h screens).put
  one_put took a b c last was before put =
      subst (λ k. Puts took a c (shown f tick k h screens).put) next
      (puts_both took a b c (shown f tick n h screens).put _ before
      (subst (λ bytes. Puts took b c bytes)
      (ap (λ l. shown_bytes f tick (n + 1) (of_port (n + 1) now).frame l) was
      ∙ λ i. shown_bytes f tick (n + 1) (of_port (n + 1) (here i)).frame (get_or (there i) n no_screen)) put))
