-- Who leaves is served as who destroys each stream that it made.
use Rattle.std.proofs.Common.{◌≡◌, ◌∙◌, ℕ, ◌<◌, Bool, true, false, ◌==◌, ◌&&◌, List, [], ◌∷◌, ◌++◌, Some, None}
use Rattle.std.proofs.Common.{refl, sym, ap, subst, arith}
use Rattle.std.proofs.lemmas.Bool.{eq-eqb}
use Rattle.std.proofs.lemmas.Bool.Decides.{nat_tests}
use Rattle.std.proofs.lemmas.List.Folds.{list_any-append}
use Rattle.wf_words.specs.Found.{or_true}
use Rattle.wf_words.specs.Rising.{Rises, all_stay}
use Rattle.wf_stream.specs.Streams.{KeptStream, stream_of}
use Rattle.wf_calls.specs.Codes.{is_ok_code}
use Rattle.wf_calls.specs.declared.call.Call.TheVariants as call
use Rattle.wf_calls.specs.declared.reply.Reply.{Reply}
use Rattle.wf_calls.specs.declared.request.Request.TheVariants as request
use Rattle.wf_model.specs.State.{State}
use Rattle.wf_model.specs.Step.{act, step}
use Rattle.wf_guard.specs.declared.owners.Owned.{Owned}
use Rattle.wf_guard.specs.LiveStreams.{after_turns, destroyed_by, destroying}
use Rattle.wf_guard.specs.LiveStreams.Turn.{asks}
use Rattle.wf_guard.specs.Policy.{forgotten, left_by, owns, refusal_of}
use Rattle.wf_guard.specs.Serving.{Served, plain, served}
use Rattle.wf_guard.proofs.Apart.{owned_rises, stream}
use Rattle.wf_guard.proofs.Payloads.{given, gives_none}
use Rattle.wf_guard.proofs.Sound.{IsSound, IsThere, owned_there, turn_sound}

-- lists of owners by rising streams

above : (low : ℕ) (pre : List Owned) (o : Owned) (os : List Owned) → Rises stream low (pre ++ o ∷ os) → low < o.stream
above low [] o os rises = rises.0
above low (p ∷ ps) o os rises = let later = above p.stream ps o os rises.1 in omega (arith, rises.0, later)

forgets_one : (low : ℕ) (pre : List Owned) (o : Owned) (os : List Owned) → Rises stream low (pre ++ o ∷ os)
    → forgotten o.stream (pre ++ o ∷ os) ≡ pre ++ os
forgets_one low [] o os rises =
    rw (eq-eqb o.stream o.stream refl) (all_stay stream o.stream o.stream os rises.1 (omega arith))
forgets_one low (p ∷ ps) o os rises =
    let later = above p.stream ps o os rises.1 in
    let other : (p.stream == o.stream) ≡ false = grind (arith, nat_tests) in
    rw other (ap (λ l. p ∷ l) (forgets_one p.stream ps o os rises.1))

owns_one : (k : ℕ) (pre : List Owned) (o : Owned) (os : List Owned) → (o.client == k) ≡ true → owns k o.stream (pre ++ o ∷ os) ≡ true
owns_one k pre o os its =
    list_any-append (λ (x : Owned). (x.client == k) && (x.stream == o.stream)) pre (o ∷ os)
    ∙ or_true (owns k o.stream pre) (owns k o.stream (o ∷ os)) (rw (its, eq-eqb o.stream o.stream refl) refl)

may_destroy : (k s : ℕ) (owned : List Owned) → owns k s owned ≡ true → refusal_of k (request.StreamDestroy s) owned ≡ None
may_destroy k s owned own = by_test (k == 0) refl
  where
    by_test : (b : Bool) → (k == 0) ≡ b → refusal_of k (request.StreamDestroy s) owned ≡ None
    by_test true is = rw is refl
    by_test false is = rw (is, own) refl

is_destroyed : (h : State) (k s : ℕ) (t : KeptStream) → stream_of s h.streams ≡ Some t
    → is_ok_code (step h k (call.StreamDestroy s) false).1.code ≡ true
unfolding step act
is_destroyed h k s t is = rw is refl

joined : (pre : List Owned) (o : Owned) (os : List Owned) → (pre ++ o ∷ []) ++ os ≡ pre ++ o ∷ os
joined [] o os = refl
joined (p ∷ ps) o os = ap (λ l. p ∷ l) (joined ps o os)

module _ (k : ℕ) where
  -- what is served after one of its streams was destroyed
  one_less : (u : Served) → IsSound u → (s : ℕ) → owns k s u.owned ≡ true
      → (served k (plain (request.StreamDestroy s)) false u).0
      ≡ record u { machine = (step u.machine k (call.StreamDestroy s) false).0; owned = forgotten s u.owned }
  one_less u sound s own =
      let x : State × Reply = step u.machine k (call.StreamDestroy s) false in
      let there : IsThere s u.machine.streams = owned_there k s u sound own in
      let ok : is_ok_code x.1.code ≡ true = is_destroyed u.machine k s there.stream there.found in
      let none : given x ≡ None = gives_none u.machine k (request.StreamDestroy s) false refl in
      rw (may_destroy k s u.owned own, ok, none) refl

  after : (pre os : List Owned) (u : Served) → IsSound u → u.owned ≡ pre ++ os
      → after_turns u (destroying k os) ≡ record u { machine = destroyed_by k os u.machine; owned = pre ++ left_by k os }
  after pre [] u sound is = ap (λ (l : List Owned). record u { owned = l }) is
  after pre (o ∷ os) u sound is = by_test (λ ps w known same. after ps os w known same) (o.client == k) refl
    where
      by_test : ((ps : List Owned) (w : Served) → IsSound w → w.owned ≡ ps ++ os
          → after_turns w (destroying k os) ≡ record w { machine = destroyed_by k os w.machine; owned = ps ++ left_by k os })
          → (b : Bool) → (o.client == k) ≡ b → after_turns u (destroying k (o ∷ os))
          ≡ record u { machine = destroyed_by k (o ∷ os) u.machine; owned = pre ++ left_by k (o ∷ os) }
      by_test rest true its =
          let now : State = (step u.machine k (call.StreamDestroy o.stream) false).0 in
          let own : owns k o.stream u.owned ≡ true = ap (owns k o.stream) is ∙ owns_one k pre o os its in
          let rises : Rises stream 0 (pre ++ o ∷ os) = subst (Rises stream 0) is (owned_rises u sound) in
          let same : (served k (plain (request.StreamDestroy o.stream)) false u).0 ≡ record u { machine = now; owned = pre ++ os } =
          one_less u sound o.stream own
          ∙ ap (λ (l : List Owned). record u { machine = now; owned = l }) (ap (forgotten o.stream) is ∙ forgets_one 0 pre o os rises) in
          let known : IsSound (record u { machine = now; owned = pre ++ os }) =
          subst IsSound same (turn_sound (asks k (plain (request.StreamDestroy o.stream)) false) u sound) in
          rw its (ap (λ (w : Served). after_turns w (destroying k os)) same
          ∙ rest pre (record u { machine = now; owned = pre ++ os }) known refl)
      by_test rest false other =
          rw other (rest (pre ++ o ∷ []) u sound (is ∙ sym (joined pre o os))
          ∙ ap (λ (l : List Owned). record u { machine = destroyed_by k os u.machine; owned = l }) (joined pre o (left_by k os)))

  pub leaving : (v : Served) → IsSound v
      → after_turns v (destroying k v.owned) ≡ record v { machine = destroyed_by k v.owned v.machine; owned = left_by k v.owned }
  leaving v sound = after [] v.owned v sound refl
