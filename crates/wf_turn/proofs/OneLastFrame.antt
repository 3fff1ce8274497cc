-- At most one frame of an order is the last that ended into a stream, and it composed one image.
use Rattle.wf_turn.proofs.Common.{◌≡◌, ◌∙◌, ◌⊎◌, ◌<◌, ◌≤◌, ℕ, ◌+◌, Bool, true, false, List, [], ◌∷◌, ◌++◌, length, Option, Some, None, refl}
use Rattle.wf_turn.proofs.Common.{sym, ap}
use Rattle.wf_turn.proofs.Common.{subst, arith, nat_tests, Ok, Bitmap, Job, Turn, is_marked}
use Rattle.wf_turn.proofs.Common.{begin_call, State, step, PlainScript, Wanted, replay, replay_from, Program, next, plain}
use Rattle.wf_turn.proofs.Common.{waiting}
use Rattle.wf_turn.proofs.Common.{Show, inl, inr, opening_show, program_at, turn}
use Rattle.std.proofs.lemmas.Bool.{cases_lt}
use Rattle.std.specs.Prelude.{Result, Err}
use Rattle.wf_calls.specs.Codes.{code_number}
use Rattle.wf_calls.specs.declared.call.Call.TheVariants as call
use Rattle.wf_calls.specs.declared.code.Code.TheVariants as code
use Rattle.wf_calls.specs.declared.reply.Refusal.{Refusal}
use Rattle.wf_model.specs.Beginnings.{context_of}
use Rattle.wf_model.specs.Composing.{core_side}
use Rattle.wf_model.specs.Composition.{device}
use Rattle.wf_model.specs.Frames.{begin_context, begin_shown, context_beginning, is_running, next_context, target_ready}
use Rattle.wf_model.specs.Objects.{Context, Device}
use Rattle.wf_model.specs.Outcome.{refuse}
use Rattle.wf_stream.specs.Buffers.{Buffers}
use Rattle.wf_stream.specs.Streams.{buffers_at}
use Rattle.wf_turn.specs.Moments.{Asks, AsksContext, At, Composes, EndsInto, IsOfLastFrame, by_line, context_image, in_tick}
use Rattle.wf_turn.proofs.FrameThatEndedLast.{asked_is}
use Rattle.wf_turn.proofs.FramesCounted.{order_counts, step_begins}
use Rattle.wf_turn.proofs.Replays.{next_show, replay_on, replay_step, taken_turn, turn_of}
use Rattle.wf_words.specs.Refusals.{◌>>=◌}

-- two places of a list are one, or one stands before the other

cut_same : (xs ys xr yr : List Turn) (t u : Turn) → xs ++ t ∷ xr ≡ ys ++ u ∷ yr → length xs ≡ length ys → (xs ≡ ys) × (t ≡ u)
cut_same [] [] xr yr t u cut long = (refl, cc)
cut_same [] (y ∷ ys) xr yr t u cut long = absurd (omega (arith, long))
cut_same (x ∷ xs) [] xr yr t u cut long = absurd (omega (arith, long))
cut_same (x ∷ xs) (y ∷ ys) xr yr t u cut long =
    let first : x ≡ y = cc in
    let rest : xs ++ t ∷ xr ≡ ys ++ u ∷ yr = cc in
    let same = cut_same xs ys xr yr t u rest (omega (arith, long)) in
    (ap (λ z. z ∷ xs) first ∙ ap (λ zs. y ∷ zs) same.0, same.1)

cut_later : (xs ys xr yr : List Turn) (t u : Turn) → xs ++ t ∷ xr ≡ ys ++ u ∷ yr → length xs < length ys
    → (mid : List Turn) × (ys ≡ xs ++ t ∷ mid)
cut_later xs [] xr yr t u cut less = absurd (omega (arith, less))
cut_later [] (y ∷ ys) xr yr t u cut less = (let first : t ≡ y = cc in (ys, ap (λ z. z ∷ ys) (sym first)))
cut_later (x ∷ xs) (y ∷ ys) xr yr t u cut less =
    let first : x ≡ y = cc in
    let rest : xs ++ t ∷ xr ≡ ys ++ u ∷ yr = cc in
    let more = cut_later xs ys xr yr t u rest (omega (arith, less)) in
    (more.0, ap (λ z. z ∷ ys) (sym first) ∙ ap (λ zs. x ∷ zs) more.1)

-- a context whose target is kept begins a frame, or is refused
begins_some : (value : ℕ) (c : Context) (h : State) (b : Buffers) → buffers_at c.target h.streams ≡ Some b
    → begin_context value c.handle c.target c.committed h ≡ Ok None → ⊥
begins_some value c h b at none = of_ready (target_ready value c.target c.committed b h) (rw at at none)
  where
    of_ready : (r : Result (Unit {0}) Refusal)
        → (r >>= (λ _. Ok (Some (context_beginning c.handle c.target c.committed b h)))) ≡ Ok None → ⊥
    of_ready (Ok done) same = absurd cc
    of_ready (Err x) same = absurd cc

next_some : (above : ℕ) (c : Context) (h : State) (b : Buffers) → next_context above h.core.contexts ≡ Some c
    → buffers_at c.target h.streams ≡ Some b → begin_call (call.BeginNext above) h ≡ Ok None → ⊥
next_some above c h b found at none = of_running (is_running h) (rw found at none)
  where
    of_running : (r : Bool) → (refuse code.Busy r >>= (λ _. begin_shown (Some c) h)) ≡ Ok None → ⊥
    of_running true none = absurd cc
    of_running false none = begins_some c.handle c h b at none

line_some : (d handle : ℕ) (c : Context) (h : State) (b : Buffers) → context_of d handle h ≡ Ok c
    → buffers_at c.target h.streams ≡ Some b → begin_call (call.BeginContext d handle) h ≡ Ok None → ⊥
line_some d handle c h b found at none = of_device (device d (core_side h)) (rw found at none)
  where
    of_running : (r : Bool) → (refuse code.Busy r >>= (λ _. begin_context 0 c.handle c.target c.committed h)) ≡ Ok None → ⊥
    of_running true none = absurd cc
    of_running false none = begins_some 0 c h b at none

    of_active : (active : Bool)
        → (refuse code.Unsupported active
        >>= (λ _. refuse code.Busy (is_running h) >>= (λ _. begin_context 0 c.handle c.target c.committed h))) ≡ Ok None → ⊥
    of_active true none = absurd cc
    of_active false none = of_running (is_running h) none

    of_device : (r : Result Device Refusal)
        → (r >>= (λ _. refuse code.Unsupported c.active
        >>= (λ _. refuse code.Busy (is_running h) >>= (λ _. begin_context 0 c.handle c.target c.committed h)))) ≡ Ok None → ⊥
    of_device (Err r) none = absurd cc
    of_device (Ok x) none = of_active c.active none

-- an entry that tells of a context's Begin counts one frame more
module _ (show : Show) (t : Turn) (c : Context) (b : Buffers) (at : buffers_at c.target show.state.streams ≡ Some b) where
  abbrev CountsOne : Wanted → Type 0
  CountsOne w = code_number (step show.state t.client w.call (is_marked t)).1.code ≡ 0
      → (step show.state t.client w.call (is_marked t)).0.begun ≡ show.state.begun + 1

  asked_counts : AsksContext show t c → (p : Program) (w : Wanted) → program_at show t.client ≡ Some p → next p ≡ Some w → CountsOne w
  asked_counts (in_tick above asks found) p w own is =
      subst CountsOne (asked_is show t p w (waiting (call.BeginNext above)) own is asks)
      (step_begins show.state t.client (call.BeginNext above) (is_marked t) refl (next_some above c show.state b found at))
  asked_counts (by_line d handle wait asks found inactive) p w own is =
      subst CountsOne (asked_is show t p w (record { call = call.BeginContext d handle; wait = wait }) own is asks)
      (step_begins show.state t.client (call.BeginContext d handle) (is_marked t) refl (line_some d handle c show.state b found at))

composed_counts : (stream number : ℕ) (image : Bitmap) (show after : Show) (t : Turn) → next_show show t ≡ Some after
    → Composes stream number image show t → after.state.begun ≡ show.state.begun + 1
composed_counts stream number image show after t is composes =
    of_buffers (buffers_at composes.context.target show.state.streams) refl
  where
    of_buffers : (o : Option Buffers) → buffers_at composes.context.target show.state.streams ≡ o
        → after.state.begun ≡ show.state.begun + 1
    of_buffers None at = absurd (let no : None ≡ Some image = rw at at composes.shows in cc)
    of_buffers (Some b) at =
        let taken = taken_turn t (turn show t.client (is_marked t)) after is in
        let own = turn_of show t.client (is_marked t) (after, t) taken in
        let counts = asked_counts show t composes.context b at composes.asks own.program own.wanted own.stands own.asks in
        subst (λ (y : Show × Turn). y.1.code ≡ 0 → y.0.state.begun ≡ show.state.begun + 1) own.is counts composes.code

-- which context an entry tells of is one

asks_same : (show : Show) (t : Turn) (v w : Wanted) → Asks show t v → Asks show t w → v.call ≡ w.call
asks_same show t v w one other = ap (λ (x : Wanted). x.call) (asked_is show t other.program w v other.own other.next_is one)

contexts_same : (show : Show) (t : Turn) (c e : Context) → AsksContext show t c → AsksContext show t e → c ≡ e
contexts_same show t c e (in_tick above asks found) (in_tick over others there) =
    let both : call.BeginNext above ≡ call.BeginNext over =
    asks_same show t (waiting (call.BeginNext above)) (waiting (call.BeginNext over)) asks others in
    let same : above ≡ over = cc in
    let found_both : Some c ≡ Some e = sym found ∙ ap (λ k. next_context k show.state.core.contexts) same ∙ there in
    cc
contexts_same show t c e (by_line d handle wait asks found inactive) (by_line f key waits others there idle) =
    let both : call.BeginContext d handle ≡ call.BeginContext f key =
    asks_same show t (record { call = call.BeginContext d handle; wait = wait }) (record { call = call.BeginContext f key; wait = waits })
    asks others in
    let device_is : d ≡ f = cc in
    let handle_is : handle ≡ key = cc in
    let found_both : Ok c ≡ Ok e =
    sym found ∙ ap (λ k. context_of k handle show.state) device_is ∙ ap (λ k. context_of f k show.state) handle_is ∙ there in
    cc
contexts_same show t c e (in_tick above asks found) (by_line f key waits others there idle) =
    absurd (let no : call.BeginNext above ≡ call.BeginContext f key = asks_same show t (waiting (call.BeginNext above))
    (record { call = call.BeginContext f key; wait = waits }) asks others in cc)
contexts_same show t c e (by_line d handle wait asks found inactive) (in_tick over others there) =
    absurd (let no : call.BeginContext d handle ≡ call.BeginNext over = asks_same show t
    (record { call = call.BeginContext d handle; wait = wait }) (waiting (call.BeginNext over)) asks others in cc)

module _ (script : PlainScript) (order : List Turn) (stream : ℕ) where
  -- an entry that composes under a number stands behind no other one
  not_before : (number : ℕ) (i j : Bitmap) (a : At script order (Composes stream number i)) (b : At script order (Composes stream number j))
      → length a.earlier < length b.earlier → ⊥
  not_before number i j a b less =
      let more = cut_later a.earlier b.earlier a.later b.later a.entry b.entry (sym a.cut ∙ b.cut) less in
      of_after more.0 (sym (replay_on (opening_show script) a.moment a.earlier (a.entry ∷ more.0) a.reached)
      ∙ ap (replay script) (sym more.1) ∙ b.reached) (next_show a.moment a.entry) refl
    where
      of_after : (mid : List Turn) → replay_from a.moment (a.entry ∷ mid) ≡ Some b.moment → (o : Option Show)
          → next_show a.moment a.entry ≡ o → ⊥
      of_after mid reached None none =
          (let no : None ≡ Some b.moment = sym (replay_step a.moment a.entry mid None none) ∙ reached in cc)
      of_after mid reached (Some after) some =
          let one = composed_counts stream number i a.moment after a.entry some a.holds in
          let rest = order_counts after b.moment mid (sym (replay_step a.moment a.entry mid (Some after) some) ∙ reached) in
          grind (arith, nat_tests, one, rest, a.holds.numbered, b.holds.numbered)

  -- so two that compose under one number are one, with one image
  one_composed : (number : ℕ) (i j : Bitmap) → At script order (Composes stream number i) → At script order (Composes stream number j)
      → i ≡ j
  one_composed number i j a b = of_first (cases_lt (length a.earlier) (length b.earlier)) (cases_lt (length b.earlier) (length a.earlier))
    where
      of_place : length a.earlier ≡ length b.earlier → i ≡ j
      of_place long =
          let same = cut_same a.earlier b.earlier a.later b.later a.entry b.entry (sym a.cut ∙ b.cut) long in
          let both : Some a.moment ≡ Some b.moment = sym a.reached ∙ ap (replay script) same.0 ∙ b.reached in
          let moment : a.moment ≡ b.moment = cc in
          let here : Composes stream number i b.moment b.entry =
          subst (λ t. Composes stream number i b.moment t) same.1 (subst (λ s. Composes stream number i s a.entry) moment a.holds) in
          let context = contexts_same b.moment b.entry here.context b.holds.context here.asks b.holds.asks in
          let images : Some i ≡ Some j = sym here.shows ∙ ap (context_image b.moment.state) context ∙ b.holds.shows in
          cc

      of_first : (length a.earlier < length b.earlier) ⊎ (length b.earlier ≤ length a.earlier)
          → (length b.earlier < length a.earlier) ⊎ (length a.earlier ≤ length b.earlier) → i ≡ j
      of_first (inl less) other = absurd (not_before number i j a b less)
      of_first (inr most) (inl less) = absurd (not_before number j i b a less)
      of_first (inr most) (inr least) = of_place (omega (arith, most, least))

  -- the last frame that ended is one
  one_number : (i j : Bitmap) (a : IsOfLastFrame script order stream i) (b : IsOfLastFrame script order stream j) → a.number ≡ b.number
  one_number i j a b =
      let most = a.last b.number b.ended in
      let least = b.last a.number a.ended in
      let same = cut_same a.ended.earlier b.ended.earlier a.ended.later b.ended.later a.ended.entry b.ended.entry
      (sym a.ended.cut ∙ b.ended.cut) (omega (arith, most, least)) in
      let both : Some a.ended.moment ≡ Some b.ended.moment = sym a.ended.reached ∙ ap (replay script) same.0 ∙ b.ended.reached in
      let moment : a.ended.moment ≡ b.ended.moment = cc in
      let here : EndsInto stream a.number b.ended.moment b.ended.entry =
      subst (λ t. EndsInto stream a.number b.ended.moment t) same.1
      (subst (λ s. EndsInto stream a.number s a.ended.entry) moment a.ended.holds) in
      let calls : call.End here.job ≡ call.End b.ended.holds.job =
      asks_same b.ended.moment b.ended.entry (plain (call.End here.job)) (plain (call.End b.ended.holds.job)) here.asks
      b.ended.holds.asks in
      let jobs : here.job ≡ b.ended.holds.job = cc in
      sym here.numbered ∙ ap (λ (x : Job). x.number) jobs ∙ b.ended.holds.numbered

  pub one_image : (i j : Bitmap) → IsOfLastFrame script order stream i → IsOfLastFrame script order stream j → i ≡ j
  one_image i j a b =
      let other : At script order (Composes stream a.number j) =
      subst (λ m. At script order (Composes stream m j)) (sym (one_number i j a b)) b.begun in
      one_composed a.number i j a.begun other
