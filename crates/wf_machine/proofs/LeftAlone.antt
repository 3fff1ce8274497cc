-- Every call but the end of a frame leaves the running frame and its images alone.
use Rattle.wf_machine.proofs.Common.{◌≡◌, ◌∙◌, ℕ, ◌+◌, Bool, true, false, cond, ◌==◌, List, [], ◌∷◌, ◌++◌, map, filter, Option, Some, refl}
use Rattle.wf_machine.proofs.Common.{sym, ap, subst, IsSomeAnd, eqb-true, list_any-append, is_in, Canvas, Buffers, acquired, KeptStream}
use Rattle.wf_machine.proofs.Common.{change_stream, stream_at, unnamed, Call, Job, Code, Reply, is_ok_code, Effect, effect, is_running}
use Rattle.wf_machine.proofs.Common.{all_names, core_names, display_names, frame_names, own_names, settle_if, Register, no_register}
use Rattle.wf_machine.proofs.Common.{of_device, of_display, register_of, offered, Running, State, act, step}
use Rattle.std.proofs.Common.{flat_map}
use Rattle.std.proofs.Common.{inl, inr}
use Rattle.std.specs.Option.{is_some}
use Rattle.wf_words.specs.Found.{or_true}
use Rattle.wf_calls.specs.declared.call.Call.TheVariants as call
use Rattle.wf_machine.specs.LeftAlone.{IsLeftAlone, ends_frame}
use Rattle.wf_model.specs.Effects.{IsReturn}
use Rattle.wf_model.specs.Effects.Effect.{acquires, begins, composes, displays, ends, makes, refuses, returns, tells, unnames}

-- streams

-- a change that keeps the number and the read buffer of each stream
record KeepsRead (g : KeptStream → KeptStream) : Type 0 where
  number : (t : KeptStream) → (g t).number ≡ t.number
  read : (t : KeptStream) → (g t).buffers.read ≡ t.buffers.read

abbrev HasRead : KeptStream → Option KeptStream → Type 0
HasRead s o = IsSomeAnd o (λ t. t.buffers.read ≡ s.buffers.read)

module _ (n : ℕ) (s : KeptStream) where
  same_read : (ss : List KeptStream) → stream_at n ss ≡ Some s → HasRead s (stream_at n ss)
  same_read ss found = rw found refl

  mapped_read : (g : KeptStream → KeptStream) → KeepsRead g → (ss : List KeptStream) → stream_at n ss ≡ Some s
      → HasRead s (stream_at n (map g ss))
  mapped_read g keeps [] found = absurd cc
  mapped_read g keeps (t ∷ ss) found =
      elim (t.number == n) as (λ b. (t.number == n) ≡ b → cond b (Some t) (stream_at n ss) ≡ Some s
      → HasRead s (stream_at n (map g (t ∷ ss)))) [
        | true ↦ λ here same.
            let is : t ≡ s = cc in
            let at : ((g t).number == n) ≡ true = ap (λ k. k == n) (keeps.number t) ∙ here in
            rw at (keeps.read t ∙ ap (λ x. x.buffers.read) is)
        | false ↦ λ other rest.
            let past : ((g t).number == n) ≡ false = ap (λ k. k == n) (keeps.number t) ∙ other in
            rw past (mapped_read g keeps ss rest)
      ] refl found

  more_read : (new : KeptStream) (ss : List KeptStream) → stream_at n ss ≡ Some s → HasRead s (stream_at n (ss ++ new ∷ []))
  more_read new [] found = absurd cc
  more_read new (t ∷ ss) found =
      elim (t.number == n)
      as (λ b. cond b (Some t) (stream_at n ss) ≡ Some s → HasRead s (cond b (Some t) (stream_at n (ss ++ new ∷ [])))) [
        | true ↦ λ same. (let is : t ≡ s = cc in ap (λ x. x.buffers.read) is)
        | false ↦ λ rest. more_read new ss rest
      ] found

  -- a stream that something names is kept
  kept_read : (ns : List ℕ) → is_in n ns ≡ true → (o : KeptStream) (ss : List KeptStream) → HasRead o (stream_at n ss)
      → HasRead o (stream_at n (filter (λ t. is_in t.number ns) ss))
  kept_read ns named o [] has = has
  kept_read ns named o (t ∷ ss) has =
      elim (t.number == n)
      as (λ b. (t.number == n) ≡ b → HasRead o (cond b (Some t) (stream_at n ss))
      → HasRead o (stream_at n (filter (λ t. is_in t.number ns) (t ∷ ss)))) [
        | true ↦ λ here read.
            let stays : is_in t.number ns ≡ true = ap (λ k. is_in k ns) (eqb-true t.number n here) ∙ named in
            rw (stays, here) read
        | false ↦ λ other rest.
            elim (is_in t.number ns)
            as (λ b. HasRead o (stream_at n (cond b (t ∷ filter (λ t. is_in t.number ns) ss) (filter (λ t. is_in t.number ns) ss)))) [
              | true ↦ rw other (kept_read ns named o ss rest)
              | false ↦ kept_read ns named o ss rest
            ]
      ] refl has

unnamed_read : (handle : ℕ) → KeepsRead (unnamed handle)
unnamed_read handle =
    record {
      number = λ t. elim (t.handle == handle) as (λ b. (cond b (record t { handle = 0 }) t).number
          ≡ t.number) [ true ↦ refl | false ↦ refl ];
      read = λ t. elim (t.handle == handle) as (λ b. (cond b (record t { handle = 0 }) t).buffers.read ≡ t.buffers.read) [
        | true ↦ refl
        | false ↦ refl
      ];
    }

changed_read : (k : ℕ) (f : Buffers → Buffers) → ((b : Buffers) → (f b).read ≡ b.read)
    → KeepsRead (λ t. cond (t.number == k) (record t { buffers = f t.buffers }) t)
changed_read k f keeps =
    record {
      number = λ t. elim (t.number == k) as (λ b. (cond b (record t { buffers = f t.buffers }) t).number ≡ t.number) [
        | true ↦ refl
        | false ↦ refl
      ];
      read = λ t. elim (t.number == k) as (λ b. (cond b (record t { buffers = f t.buffers }) t).buffers.read ≡ t.buffers.read) [
        | true ↦ keeps t.buffers
        | false ↦ refl
      ];
    }

-- a write buffer that comes back leaves the read buffer alone
return_read : (canvas : Canvas) (f : Buffers → Buffers) → IsReturn canvas f → (b : Buffers) → (f b).read ≡ b.read
return_read canvas f (inl is) b = ap (λ g. (g b).read) is
return_read canvas f (inr is) b = ap (λ g. (g b).read) is

-- calls

module _ (h : State) (c : Call) (x : State × Reply) (f : Running) (runs : h.frame ≡ Some f) (still : ends_frame c ≡ false) where
  offered_leaves : (register : Register) (refused : Code) → ((offered register refused h).frame ≡ h.frame)
      × ((offered register refused h).streams ≡ h.streams)
  offered_leaves (of_device d) refused = (refl, refl)
  offered_leaves of_display refused = (refl, refl)
  offered_leaves no_register refused = (refl, refl)

  runs_not : is_running h ≡ false → {A : Type 0} → A
  runs_not free = absurd (let no : true ≡ false = ap is_some (sym runs) ∙ free in cc)

  ends_not : (job : Job) → c ≡ call.End job → {A : Type 0} → A
  ends_not job is = absurd (let no : true ≡ false = subst (λ d. ends_frame d ≡ false) is still in cc)

  frame_left : Effect h c x → x.0.frame ≡ h.frame
  frame_left (refuses honest left) = ap (λ s. s.frame) left ∙ (offered_leaves (register_of c) x.1.code).0
  frame_left (composes m w value does is) = ap (λ y. y.0.frame) is
  frame_left (displays m w value does is) = ap (λ y. y.0.frame) is
  frame_left (makes new is) = ap (λ y. y.0.frame) is
  frame_left (unnames handle is) = ap (λ y. y.0.frame) is
  frame_left (acquires handle s at is) = ap (λ y. y.0.frame) is
  frame_left (returns canvas g way out is) = ap (λ y. y.0.frame) is
  frame_left (begins b free begun is) = runs_not free
  frame_left (ends job g call_is at own is) = ends_not job call_is
  frame_left (tells value is) = ap (λ y. y.0.frame) is

  module _ (n : ℕ) (s : KeptStream) (found : stream_at n h.streams ≡ Some s) where
    abbrev Left : List KeptStream → Type 0
    Left ss = HasRead s (stream_at n ss)

    by_streams : (ss : List KeptStream) → x.0.streams ≡ ss → Left ss → Left x.0.streams
    by_streams ss is left = subst Left (sym is) left

    read_left : Effect h c x → Left x.0.streams
    read_left (refuses honest left) =
        by_streams h.streams (ap (λ t. t.streams) left ∙ (offered_leaves (register_of c) x.1.code).1)
        (same_read n s h.streams found)
    read_left (composes m w value does is) =
        by_streams h.streams (ap (λ y. y.0.streams) is) (same_read n s h.streams found)
    read_left (displays m w value does is) =
        by_streams h.streams (ap (λ y. y.0.streams) is) (same_read n s h.streams found)
    read_left (makes new is) =
        let made : KeptStream = record { number = h.numbered + 1; handle = h.made + 1; buffers = new } in
        by_streams (h.streams ++ made ∷ []) (ap (λ y. y.0.streams) is) (more_read n s made h.streams found)
    read_left (unnames handle is) =
        by_streams (map (unnamed handle) h.streams) (ap (λ y. y.0.streams) is)
        (mapped_read n s (unnamed handle) (unnamed_read handle) h.streams found)
    read_left (acquires handle t at is) =
        by_streams (change_stream t.number acquired h.streams) (ap (λ y. y.0.streams) is)
        (mapped_read n s (λ u. cond (u.number == t.number) (record u { buffers = acquired u.buffers }) u)
        (changed_read t.number acquired (λ b. refl)) h.streams found)
    read_left (returns canvas g way out is) =
        by_streams (change_stream canvas.stream g h.streams) (ap (λ y. y.0.streams) is)
        (mapped_read n s (λ u. cond (u.number == canvas.stream) (record u { buffers = g u.buffers }) u)
        (changed_read canvas.stream g (return_read canvas g way)) h.streams found)
    read_left (begins b free begun is) = runs_not free
    read_left (ends job g call_is at own is) = ends_not job call_is
    read_left (tells value is) = by_streams h.streams (ap (λ y. y.0.streams) is) (same_read n s h.streams found)

in_more : (n : ℕ) (xs ys : List ℕ) → is_in n ys ≡ true → is_in n (xs ++ ys) ≡ true
in_more n xs ys is = list_any-append (λ k. k == n) xs ys ∙ or_true (is_in n xs) (is_in n ys) is

-- what a call did, and what is settled behind it
module _ (h : State) (c : Call) (m : Bool) (f : Running) (still : ends_frame c ≡ false) (runs : h.frame ≡ Some f) where
  abbrev done : State × Reply
  done = act h c m

  now_runs : done.0.frame ≡ Some f
  now_runs = frame_left h c done f runs still (effect h c m) ∙ runs

  in_names : (n : ℕ) → is_in n (frame_names (Some f)) ≡ true → is_in n (all_names done.0) ≡ true
  in_names n named =
      let frame = frame_names done.0.frame in
      let here : is_in n frame ≡ true = ap (λ o. is_in n (frame_names o)) now_runs ∙ named in
      in_more n (flat_map own_names done.0.streams ++ core_names done.0.core ++ display_names done.0.display) frame here

  settled_read : (n : ℕ) (s : KeptStream) → is_in n (frame_names (Some f)) ≡ true → stream_at n h.streams ≡ Some s
      → HasRead s (stream_at n (settle_if (is_ok_code done.1.code) done.0).streams)
  settled_read n s named found =
      let left = read_left h c done f runs still n s found (effect h c m) in
      elim (is_ok_code done.1.code) as (λ b. HasRead s (stream_at n (settle_if b done.0).streams)) [
        | true ↦ kept_read n s (all_names done.0) (in_names n named) s done.0.streams left
        | false ↦ left
      ]

-- and so does the step
pub left_alone : (h : State) (client : ℕ) (c : Call) (m : Bool) (f : Running) → ends_frame c ≡ false → h.frame ≡ Some f
    → IsLeftAlone f h (step h client c m).0
unfolding step
left_alone h client c m f still runs = record { running = now_runs h c m f still runs; read = settled_read h c m f still runs }
