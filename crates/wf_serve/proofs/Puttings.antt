-- Fronts of bytes that were put, and what is put behind what was put.
use Rattle.std.proofs.Common.{◌≡◌, ◌∙◌, ℕ, zero, suc, ◌+◌, ◌-◌, ◌<◌, List, [], ◌++◌, take, drop, append_assoc, refl, sym, ap, subst, arith}
use Rattle.std.proofs.lemmas.List.{append-nil, take-append-drop}
use Rattle.wf_io.specs.Bytes.{Puts, PutsPart}
use Rattle.std.specs.Prelude.{IfErr, OnOk, Result, Ok, Err}
use Rattle.wf_io.specs.declared.writing.WriteStop.{WriteStop}
use Rattle.wf_io.specs.Parts.{puts_both}
use Rattle.std.specs.Prelude.{get_or}
use Rattle.wf_guard.specs.declared.form.Form.{Form}
use Rattle.wf_guard.specs.declared.screen.Screen.{Screen}
use Rattle.wf_model.specs.State.{State}
use Rattle.wf_serve.specs.Pictures.{shown_bytes}
use Rattle.wf_serve.specs.Putting.{PutsFront, Writes}
use Rattle.wf_serve.specs.Ticks.{no_screen, of_port, shown}

module _ {K : Type 0} (took : K → List ℕ → Type 0) where
  pub nothing_put : (a : K) → Puts took a a []
  nothing_put a before t = subst (took a) (sym (append-nil before)) t

  pub part_front : (a b : K) (xs : List ℕ) (w : ℕ) → PutsPart took a b 0 xs w → PutsFront took a b xs
  part_front a b xs w part =
      record { front = take (w - 0) xs; rest = drop (w - 0) xs; parts = sym (take-append-drop (w - 0) xs); put = part.front }

  pub writes_so : (a b : K) (xs : List ℕ) (r : Result (Unit {0}) WriteStop) → OnOk r (Puts took a b xs)
      → IfErr r (λ stop. PutsPart took a b 0 xs stop.written) → Writes took a b xs r
  writes_so a b xs (Ok done) all part = all
  writes_so a b xs (Err stop) all part = part_front a b xs stop.written part

  pub whole_front : (a b : K) (xs : List ℕ) → Puts took a b xs → PutsFront took a b xs
  whole_front a b xs put = record { front = xs; rest = []; parts = sym (append-nil xs); put = put }

  pub no_front : (a : K) (xs : List ℕ) → PutsFront took a a xs
  no_front a xs = record { front = []; rest = xs; parts = refl; put = nothing_put a }

  pub first_front : (a b : K) (xs ys : List ℕ) → PutsFront took a b xs → PutsFront took a b (xs ++ ys)
  first_front a b xs ys cut =
      record {
        front = cut.front;
        rest = cut.rest ++ ys;
        parts = ap (λ l. l ++ ys) cut.parts ∙ append_assoc cut.front cut.rest ys;
        put = cut.put;
      }

  pub then_front : (a b c : K) (xs ys : List ℕ) → Puts took a b xs → PutsFront took b c ys → PutsFront took a c (xs ++ ys)
  then_front a b c xs ys first cut =
      record {
        front = xs ++ cut.front;
        rest = cut.rest;
        parts = ap (λ l. xs ++ l) cut.parts ∙ sym (append_assoc xs cut.front cut.rest);
        put = puts_both took a b c xs cut.front first cut.put;
      }

  pub writes_after : {E : Type 0} (a b c : K) (xs ys : List ℕ) (r : Result (Unit {0}) E) → Puts took a b xs → Writes took b c ys r
      → Writes took a c (xs ++ ys) r
  writes_after a b c xs ys (Ok done) first rest = puts_both took a b c xs ys first rest
  writes_after a b c xs ys (Err stop) first rest = then_front a b c xs ys first rest

  -- what the first ports put is a front of what more of them put
  pub shown_front : (a b : K) (f : Form) (tick n more : ℕ) (h : State) (screens : List Screen)
      → PutsFront took a b (shown f tick n h screens).put → PutsFront took a b (shown f tick (n + more) h screens).put
  shown_front a b f tick n zero h screens cut =
      let same : n ≡ n + 0 = omega arith in subst (λ k. PutsFront took a b (shown f tick k h screens).put) same cut
  shown_front a b f tick n (suc more) h screens cut =
      let same : suc (n + more) ≡ n + suc more = omega arith in
      subst (λ k. PutsFront took a b (shown f tick k h screens).put) same
      (first_front a b (shown f tick (n + more) h screens).put _ (shown_front a b f tick n more h screens cut))

  -- and where one more is cut, what was put is a front of what all put
  pub shows_cut : (a b c : K) (f : Form) (tick n count : ℕ) (h : State) (screens : List Screen) (now : State)
      (left : List Screen) → n < count → now ≡ (shown f tick n h screens).machine → left ≡ (shown f tick n h screens).screens
      → Puts took a b (shown f tick n h screens).put
      → PutsFront took b c (shown_bytes f tick (n + 1) (of_port (n + 1) now).frame (get_or left n no_screen))
      → PutsFront took a c (shown f tick count h screens).put
  shows_cut a b c f tick n count h screens now left more here there put cut =
      let all : suc n + (count - suc n) ≡ count = omega (arith, more) in
      subst (λ k. PutsFront took a c (shown f tick k h screens).put) all
      (shown_front a c f tick (suc n) (count - suc n) h screens
      (then_front a b c (shown f tick n h screens).put _ put
      (subst (λ l. PutsFront took b c
      (shown_bytes f tick (n + 1) (of_port (n + 1) (shown f tick n h screens).machine).frame (get_or l n no_screen))) there
      (subst (λ s. PutsFront took b c (shown_bytes f tick (n + 1) (of_port (n + 1) s).frame (get_or left n no_screen))) here cut))))
