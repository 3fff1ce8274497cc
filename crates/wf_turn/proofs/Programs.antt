-- The eight programs of a show: one of them changed, and names handed on.
use Rattle.wf_turn.proofs.Common.{◌≡◌, ◌∙◌, ℕ, zero, suc, ◌+◌, Bool, true, false, not, cond, ◌&&◌, List, [], ◌∷◌, map, Some}
use Rattle.wf_turn.proofs.Common.{refl, sym, ap, subst, arith, set, slice_get, sum_by, IfSome, sum_by-cons, PlainScript}
use Rattle.wf_turn.proofs.Common.{frames_if, shown_by, Program, in_setup, taught, all_left, left, AreOf, IsFit, all_taught, inherited}
use Rattle.wf_turn.proofs.Common.{is_setting_up, get_map}
use Rattle.wf_turn.proofs.ProgramsStayFit.{fit_taught}

-- what is known of the program of a client
pub record IsOf (script : PlainScript) (client : ℕ) (p : Program) : Type 0 where
  pub script_is : p.script ≡ script
  pub client_is : p.client ≡ client
  pub fit : IsFit p

pub at_client : (script : PlainScript) (k : ℕ) (ps : List Program) (i : ℕ) (p : Program) → AreOf script k ps → slice_get ps i ≡ Some p
    → IsOf script (k + i) p
at_client script k [] i p are found = absurd cc
at_client script k (q ∷ ps) zero p are found =
    let same : q ≡ p = cc in
    subst (IsOf script (k + 0)) same (record { script_is = are.0; client_is = are.1 ∙ omega arith; fit = are.2 })
at_client script k (q ∷ ps) (suc i) p are found =
    let at : k + 1 + i ≡ k + suc i = omega arith in
    subst (λ n. IsOf script n p) at (at_client script (k + 1) ps i p are.3 found)

pub are_set : (script : PlainScript) (k : ℕ) (ps : List Program) (i : ℕ) (p q : Program) → AreOf script k ps → slice_get ps i ≡ Some p
    → q.script ≡ p.script → q.client ≡ p.client → IsFit q → AreOf script k (set ps i q)
are_set script k [] i p q are found script_is client_is fit = tt
are_set script k (r ∷ ps) zero p q are found script_is client_is fit =
    let same : p ≡ r = cc in
    (script_is ∙ ap (λ x. x.script) same ∙ are.0, client_is ∙ ap (λ x. x.client) same ∙ are.1, fit, are.3)
are_set script k (r ∷ ps) (suc i) p q are found script_is client_is fit =
    (are.0, are.1, are.2, are_set script (k + 1) ps i p q are.3 found script_is client_is fit)

are_mapped : (script : PlainScript) (clock : Program) (k : ℕ) (ps : List Program) → AreOf script k ps
    → AreOf script k (map (taught clock) ps)
are_mapped script clock k [] are = tt
are_mapped script clock k (p ∷ ps) are = (are.0, are.1, fit_taught clock p are.2, are_mapped script clock (k + 1) ps are.3)

are_taught : (script : PlainScript) (k : ℕ) (ps : List Program) → AreOf script k ps → AreOf script k (all_taught ps)
are_taught script k [] are = tt
are_taught script k (clock ∷ others) are = (are.0, are.1, are.2, are_mapped script clock (k + 1) others are.3)

pub are_inherited : (script : PlainScript) (before now : List Program) → AreOf script 0 now → AreOf script 0 (inherited before now)
are_inherited script before now are =
    elim (is_setting_up before && not (is_setting_up now))
    as (λ b. AreOf script 0 (cond b (all_taught now) now)) [ true ↦ are_taught script 0 now are | false ↦ are ]

-- what names do not change is the same of the programs that learned
module _ {A : Type 0} (f : Program → A) (same : (clock p : Program) → f (taught clock p) ≡ f p) where
  mapped_same : (clock : Program) (ps : List Program) → map f (map (taught clock) ps) ≡ map f ps
  mapped_same clock [] = refl
  mapped_same clock (p ∷ ps) = ap (λ x. x ∷ map f (map (taught clock) ps)) (same clock p)
      ∙ ap (λ xs. f p ∷ xs) (mapped_same clock ps)

  taught_same : (ps : List Program) → map f (all_taught ps) ≡ map f ps
  taught_same [] = refl
  taught_same (clock ∷ others) = ap (λ xs. f clock ∷ xs) (mapped_same clock others)

  pub inherited_same : (before now : List Program) → map f (inherited before now) ≡ map f now
  inherited_same before now =
      elim (is_setting_up before && not (is_setting_up now))
      as (λ b. map f (cond b (all_taught now) now) ≡ map f now) [ true ↦ taught_same now | false ↦ refl ]

sum_map : (ps : List Program) → all_left ps ≡ sum_by (λ n. n) (map left ps)
sum_map [] = refl
sum_map (p ∷ ps) = sum_by-cons left p ps ∙ ap (λ n. left p + n) (sum_map ps) ∙ sym (sum_by-cons (λ n. n) (left p) (map left ps))

pub left_inherited : (before now : List Program) → all_left (inherited before now) ≡ all_left now
left_inherited before now = sum_map (inherited before now)
    ∙ ap (λ ns. sum_by (λ n. n) ns) (inherited_same left (λ clock p. refl) before now) ∙ sym (sum_map now)

pub left_set : (ps : List Program) (i : ℕ) (p q : Program) → slice_get ps i ≡ Some p → all_left (set ps i q) + left p ≡ all_left ps + left q
left_set [] i p q found = absurd cc
left_set (r ∷ ps) zero p q found =
    let is : r ≡ p = cc in
    let same : left r ≡ left p = ap left is in
    omega (arith, same, sum_by-cons left q ps, sum_by-cons left r ps)
left_set (r ∷ ps) (suc i) p q found = omega (arith, left_set ps i p q found, sum_by-cons left r (set ps i q), sum_by-cons left r ps)

-- where the clock's setup is as it was, nothing is handed on
pub not_inherited : (before now : List Program) → is_setting_up now ≡ is_setting_up before → inherited before now ≡ now
not_inherited before now same =
    rw same (elim (is_setting_up before) as (λ b. cond (b && not b) (all_taught now) now ≡ now) [ true ↦ refl | false ↦ refl ])

pub setup_set : (ps : List Program) (i : ℕ) (p q : Program) → slice_get ps i ≡ Some p → in_setup q ≡ in_setup p
    → is_setting_up (set ps i q) ≡ is_setting_up ps
setup_set [] i p q found same = refl
setup_set (r ∷ ps) zero p q found same = (let is : p ≡ r = cc in same ∙ ap in_setup is)
setup_set (r ∷ ps) (suc i) p q found same = refl

-- the program of a client after names were handed on
pub inherited_get : (P : Program → Type 0) → ((clock p : Program) → P p → P (taught clock p))
    → (before now : List Program) (i : ℕ) (q : Program) → slice_get now i ≡ Some q → P q → IfSome (slice_get (inherited before now) i) P
inherited_get P keeps before now i q found holds =
    elim (is_setting_up before && not (is_setting_up now)) as (λ b. IfSome (slice_get (cond b (all_taught now) now) i) P) [
      | true ↦ taught_get now i q found holds
      | false ↦ rw found holds
    ]
  where
    mapped_get : (clock : Program) (ps : List Program) (j : ℕ) (r : Program) → slice_get ps j ≡ Some r → P r
        → IfSome (slice_get (map (taught clock) ps) j) P
    mapped_get clock ps j r found holds = rw (get_map (taught clock) ps j r found) (keeps clock r holds)

    taught_get : (ps : List Program) (j : ℕ) (r : Program) → slice_get ps j ≡ Some r → P r → IfSome (slice_get (all_taught ps) j) P
    taught_get [] j r found holds = absurd cc
    taught_get (clock ∷ others) zero r found holds = (let same : r ≡ clock = cc in subst P same holds)
    taught_get (clock ∷ others) (suc j) r found holds = mapped_get clock others j r found holds

pub shown_inherited : (begin : ℕ) (painted : Bool) (before now : List Program) (i : ℕ) (q : Program) → slice_get now i ≡ Some q
    → shown_by begin painted (inherited before now) i ≡ frames_if begin painted q
shown_inherited begin painted before now i q found =
    elim (is_setting_up before && not (is_setting_up now))
    as (λ b. shown_by begin painted (cond b (all_taught now) now) i ≡ frames_if begin painted q) [
      | true ↦ taught_shown now i q found
      | false ↦ rw found refl
    ]
  where
    taught_shown : (ps : List Program) (j : ℕ) (r : Program) → slice_get ps j ≡ Some r
        → shown_by begin painted (all_taught ps) j ≡ frames_if begin painted r
    taught_shown [] j r found = absurd cc
    taught_shown (clock ∷ others) zero r found = (let same : clock ≡ r = cc in ap (frames_if begin painted) same)
    taught_shown (clock ∷ others) (suc j) r found = rw (get_map (taught clock) others j r found) refl
