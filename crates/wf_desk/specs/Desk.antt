-- What a contract sees of a desk, and what is left when it is closed.
use Rattle.std.specs.Prelude.{◌≡◌, ◌⊎◌, ℕ, ◌+◌, ◌<◌, ◌≤◌, List, [], ◌∷◌, length, slice_index_or, All, Any, ⊤}
use Rattle.std.proofs.Common.{arith, refl, zero, suc}
use Rattle.atomic_table.specs.Seated.{TableId}
use Rattle.wf_desk.specs.declared.event.Event.{Event}
use Rattle.wf_desk.specs.History.{IsLegal, IsPrefix, events_of, replay, entries}
use Rattle.wf_desk.specs.Pass.{Known, fresh}

-- which desk it is, the object that it opened with, and how many calls each client has
pub record Opened (O : Type 0) : Type 0 where
  pub id : TableId
  pub opening : O
  pub quotas : List ℕ

module _ {O C R : Type 0} where
  -- all the passes of the desk, in any order
  pub record AreAll (desk : TableId) (count : ℕ) (passes : List (Known O C R)) : Type 0 where
    pub of_desk : All (λ (k : Known O C R). k.desk ≡ desk) passes
    pub each : (client : ℕ) → client < count → Any (λ (k : Known O C R). k.client ≡ client) passes

  -- passes of the desk, whose clients follow one another from one on
  abbrev pub AreInOrder : TableId → ℕ → List (Known O C R) → Type 0
  AreInOrder desk client [] = ⊤
  AreInOrder desk client (k ∷ ks) = (k.desk ≡ desk) × (k.client ≡ client) × AreInOrder desk (client + 1) ks

  pub AreInOrder-all : (desk : TableId) (first : ℕ) (ks : List (Known O C R)) → AreInOrder desk first ks
      → All (λ (k : Known O C R). k.desk ≡ desk) ks
  AreInOrder-all desk first [] order i d lt = absurd (omega arith)
  AreInOrder-all desk first (k ∷ ks) order zero d lt = order.0
  AreInOrder-all desk first (k ∷ ks) order (suc i) d lt = AreInOrder-all desk (first + 1) ks order.2 i d (omega arith)

  -- the pass of a client stands at the client's place
  each_in_order : (desk : TableId) (first : ℕ) (ks : List (Known O C R)) → AreInOrder desk first ks → (i : ℕ) → i < length ks
      → (k : Known O C R) × (slice_index_or ks i k ≡ k) × (k.client ≡ first + i)
  each_in_order desk first [] order i lt = absurd (omega arith)
  each_in_order desk first (k ∷ ks) order zero lt = let own = order.1 in (k, refl, omega arith)
  each_in_order desk first (k ∷ ks) order (suc i) lt =
      let h = each_in_order desk (first + 1) ks order.2 i (omega arith) in let own = h.2 in (h.0, h.1, omega arith)

  -- passes in the order of their clients, as many as there are clients, are all
  pub AreAll-in_order : (desk : TableId) (count : ℕ) (ks : List (Known O C R)) → length ks ≡ count → AreInOrder desk 0 ks
      → AreAll desk count ks
  AreAll-in_order desk count ks counted order = record {
    of_desk = AreInOrder-all desk 0 ks order;
    each = λ client lt. let at = each_in_order desk 0 ks order client (omega arith) in let own = at.2 in
        (client, at.0, omega arith, at.1, omega arith);
  }

-- a new desk has a pass for each quota, in order
module _ {O : Type 0} (C R : Type 0) where
  pub length-fresh : (desk : TableId) (opening : O) (client : ℕ) (quotas : List ℕ)
      → length (fresh {O = O} {C = C} {R = R} desk opening client quotas) ≡ length quotas
  length-fresh desk opening client [] = refl
  length-fresh desk opening client (quota ∷ quotas) = let h = length-fresh desk opening (client + 1) quotas in omega arith

  pub AreInOrder-fresh : (desk : TableId) (opening : O) (client : ℕ) (quotas : List ℕ)
      → AreInOrder desk client (fresh {O = O} {C = C} {R = R} desk opening client quotas)
  AreInOrder-fresh desk opening client [] = tt
  AreInOrder-fresh desk opening client (quota ∷ quotas) = (refl, refl, AreInOrder-fresh desk opening (client + 1) quotas)

module _ {O C R E : Type 0} (after : O → ℕ → C → R → O) (may : O → ℕ → C → R → Type 0) (entry : ℕ → R → E) where
  -- One history is behind all passes: it begins with what each has seen, and each pass knows all its client's events.
  -- It is what one pass has seen, or empty. The object is its replay, and the journal has its entries.
  pub record IsClosing (opened : Opened O) (passes : List (Known O C R)) (object : O) (journal : List E) : Type 0 where
    pub history : List (Event C R)
    pub legal : IsLegal after may opened.opening history
    pub begins : All (λ (k : Known O C R). IsPrefix k.seen history) passes
    pub mine : All (λ (k : Known O C R). k.mine ≡ events_of k.client history) passes
    pub no_other : (client : ℕ) → length opened.quotas ≤ client → events_of client history ≡ []
    pub whole : (history ≡ []) ⊎ Any (λ (k : Known O C R). k.seen ≡ history) passes
    pub object_is : object ≡ replay after opened.opening history
    pub journal_is : journal ≡ entries entry history
