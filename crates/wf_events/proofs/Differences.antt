-- What happened between two looks is what the call bound and attached.
use Rattle.std.proofs.Common.{◌≡◌, ◌∙◌, ℕ, zero, suc, ◌+◌, ◌-◌, Bool, true, false, not, cond, ◌&&◌, ◌||◌, ◌==◌, List, [], ◌∷◌, ◌++◌, map}
use Rattle.std.proofs.Common.{set}
use Rattle.std.proofs.Common.{slice_get, Option, Some, None, refl, ap, arith}
use Rattle.std.specs.Prelude.{is_none, is_some, option_map}
use Rattle.std.proofs.lemmas.List.{append-nil}
use Rattle.wf_words.specs.Keyed.{nth}
use Rattle.wf_calls.specs.declared.display.Transition.{Transition}
use Rattle.wf_calls.specs.declared.display.Transition.TheVariants as transition
use Rattle.wf_model.specs.declared.display.DisplaySource.{DisplaySource}
use Rattle.wf_model.specs.declared.display.Extent.{Extent}
use Rattle.wf_model.specs.declared.display.Pipeline.{Pipeline}
use Rattle.wf_model.specs.declared.display.Port.{Port}
use Rattle.wf_model.specs.declared.display.Request.{Request}
use Rattle.wf_model.specs.Display.{begun_pipeline}
use Rattle.wf_model.specs.DisplayCommits.{bound_stream, committed_pipeline, committed_port, takes_pipeline, takes_port}
use Rattle.wf_model.specs.Numbered.{each_from}
use Rattle.wf_events.specs.declared.happening.Happening.{Happening}
use Rattle.wf_events.specs.Happenings.{apart, attach_if, bind_if, bindings, binds_at_begin, binds_at_commit, is_for_now}
use Rattle.wf_events.specs.Watching.{attached_at, between_from, bound_at, is_bound, waiting_at, was_for_now}

-- lists of which one element was changed, or none

module _ {A : Type 0} (f : ℕ → A → A → List Happening) (self : (n : ℕ) (x : A) → f n x x ≡ []) where
  pub nothing_between : (n : ℕ) (xs : List A) → between_from f n xs xs ≡ []
  nothing_between n [] = refl
  nothing_between n (x ∷ xs) = rw (self n x) (nothing_between (n + 1) xs)

  one_between : (n i : ℕ) (xs : List A) (x y : A) → slice_get xs i ≡ Some x → between_from f n xs (set xs i y) ≡ f (n + i) x y
  one_between n i [] x y at = absurd cc
  one_between n zero (z ∷ zs) x y at =
      let here : n ≡ n + 0 = omega arith in
      let is : z ≡ x = cc in
      ap (λ ys. f n z y ++ ys) (nothing_between (n + 1) zs) ∙ append-nil (f n z y) ∙ (λ i. f (here i) (is i) y)
  one_between n (suc i) (z ∷ zs) x y at =
      let there : n + 1 + i ≡ n + suc i = omega arith in
      ap (λ e. e ++ between_from f (n + 1) zs (set zs i y)) (self n z)
      ∙ one_between (n + 1) i zs x y at
      ∙ ap (λ k. f k x y) there

  -- numbers are counted from 1
  pub one_changed : (k : ℕ) (xs : List A) (x y : A) → nth k xs ≡ Some x → between_from f 1 xs (set xs (k - 1) y) ≡ f k x y
  one_changed zero xs x y at = absurd cc
  one_changed (suc k) xs x y at =
      let back : suc k - 1 ≡ k = omega arith in
      let on : 1 + k ≡ suc k = omega arith in
      ap (λ i. between_from f 1 xs (set xs i y)) back ∙ one_between 1 k xs x y at ∙ ap (λ n. f n x y) on

-- what is told of elements by what is seen of them
pub between_seen : {A B : Type 0} (f : ℕ → B → B → List Happening) (g : A → B) (n : ℕ) (xs ys : List A)
    → between_from f n (map g xs) (map g ys) ≡ between_from (λ k x y. f k (g x) (g y)) n xs ys
between_seen f g n [] ys = refl
between_seen f g n (x ∷ xs) [] = refl
between_seen f g n (x ∷ xs) (y ∷ ys) = ap (λ es. f n (g x) (g y) ++ es) (between_seen f g (n + 1) xs ys)

abbrev pub bound_of : ℕ → Pipeline → Pipeline → List Happening
bound_of l x y = bound_at l (waiting_at x) (waiting_at y)

abbrev pub attached_of : ℕ → Port → Port → List Happening
attached_of p x y = attached_at p x.attached y.attached

-- a request stays, and so does a binding that waits

request_stays : (r : Option Transition) → (was_for_now r && is_none r) ≡ false
request_stays None = refl
request_stays (Some transition.Now) = refl
request_stays (Some transition.Vsync) = refl

stays : (b : Bool) → (b && not b) ≡ false
stays true = refl
stays false = refl

and_false : (b : Bool) → (b && false) ≡ false
and_false true = refl
and_false false = refl

and_true : (b : Bool) → (b && true) ≡ b
and_true true = refl
and_true false = refl

not_bound : (x : Pipeline) → is_bound (waiting_at x) (waiting_at x) ≡ false
not_bound x =
    ap (λ (a : Bool). a || is_some x.pending && not (is_some x.pending)) (request_stays (option_map (λ r. r.transition) x.request))
    ∙ stays (is_some x.pending)

pub self_bound : (l : ℕ) (x : Pipeline) → bound_of l x x ≡ []
self_bound l x = ap (λ b. bind_if b l) (not_bound x)

pub self_attached : (p : ℕ) (x : Port) → attached_of p x x ≡ []
self_attached p x = ap (λ b. attach_if b p x.attached) (same x.attached)
  where
    same : (b : Bool) → apart b b ≡ false
    same true = refl
    same false = refl

-- another request takes the place of one
pub replaced_is_unbound : (l : ℕ) (x : Pipeline) (r : Request) → bound_of l x (record x { request = Some r }) ≡ []
replaced_is_unbound l x r =
    ap (λ b. bind_if b l)
    (ap (λ (a : Bool). a || is_some x.pending && not (is_some x.pending))
    (and_false (was_for_now (option_map (λ r. r.transition) x.request)))
    ∙ stays (is_some x.pending))

-- a commit that takes a pipeline or not

taken_is_bound : (sources : List DisplaySource) (x : Pipeline) (r : Option Request) → x.request ≡ r
    → is_bound (waiting_at x) (waiting_at (committed_pipeline sources x)) ≡ is_for_now x.request
taken_is_bound sources x None is = rw is (stays (is_some x.pending))
taken_is_bound sources x (Some r) is = by_transition r.transition refl
  where
    by_transition : (t : Transition) → r.transition ≡ t
        → is_bound (waiting_at x) (waiting_at (committed_pipeline sources x)) ≡ is_for_now x.request
    by_transition transition.Now at = rw (is, at) refl
    by_transition transition.Vsync at = rw (is, at) (and_false (is_some x.pending))

commit_binds : (b : Bool) (sources : List DisplaySource) (x : Pipeline)
    → is_bound (waiting_at x) (waiting_at (cond b (committed_pipeline sources x) x)) ≡ (b && is_for_now x.request)
commit_binds true sources x = taken_is_bound sources x x.request refl
commit_binds false sources x = not_bound x

pub commits_bind : (e : Extent) (sources : List DisplaySource) (l : ℕ) (xs : List Pipeline)
    → between_from bound_of l xs (each_from (λ n x. cond (takes_pipeline e n x) (committed_pipeline sources x) x) l xs)
    ≡ bindings (binds_at_commit e) l xs
commits_bind e sources l [] = refl
commits_bind e sources l (x ∷ xs) =
    ap (λ (b : Bool). bind_if b l ++ between_from bound_of (l + 1) xs
    (each_from (λ n x. cond (takes_pipeline e n x) (committed_pipeline sources x) x) (l + 1) xs))
    (commit_binds (takes_pipeline e l x) sources x)
    ∙ ap (λ (ys : List Happening). bind_if (binds_at_commit e l x) l ++ ys) (commits_bind e sources (l + 1) xs)

-- it attaches nothing
pub commits_attach : (e : Extent) (p : ℕ) (xs : List Port)
    → between_from attached_of p xs (each_from (λ n x. cond (takes_port e n) (committed_port x) x) p xs) ≡ []
commits_attach e p [] = refl
commits_attach e p (x ∷ xs) = rw (one (takes_port e p)) (commits_attach e (p + 1) xs)
  where
    one : (b : Bool) → attached_of p x (cond b (committed_port x) x) ≡ []
    one true = self_attached p x
    one false = self_attached p x

-- a frame of the port of a pipeline, or of another

begin_binds : (b : Bool) (x : Pipeline)
    → is_bound (waiting_at x) (waiting_at (cond b (record x { current = bound_stream x; pending = None }) x)) ≡ (b && is_some x.pending)
begin_binds true x =
    ap (λ (a : Bool). a || is_some x.pending && true) (request_stays (option_map (λ r. r.transition) x.request))
    ∙ and_true (is_some x.pending)
begin_binds false x = not_bound x

pub begins_bind : (p l : ℕ) (xs : List Pipeline) → between_from bound_of l xs (map (begun_pipeline p) xs) ≡ bindings (binds_at_begin p) l xs
begins_bind p l [] = refl
begins_bind p l (x ∷ xs) =
    ap (λ (b : Bool). bind_if b l ++ between_from bound_of (l + 1) xs (map (begun_pipeline p) xs)) (begin_binds (x.committed_port == p) x)
    ∙ ap (λ (ys : List Happening). bind_if (binds_at_begin p l x) l ++ ys) (begins_bind p (l + 1) xs)
