-- The journal of a film: what is read stands at the front, what stands there is read, and reading goes on from entry to entry.
use Rattle.std.proofs.Common.{◌≡◌, ◌∙◌, ℕ, zero, suc, ◌+◌, ◌-◌, ◌^◌, ◌<◌, ◌≤◌, List, [], ◌∷◌, ◌++◌, length, Ok, Err, refl, sym, ap, subst}
use Rattle.std.proofs.Common.{append_assoc, arith}
use Rattle.std.proofs.lemmas.List.{append-nil}
use Rattle.std.specs.List.{flat_map, AllByRecursion}
use Rattle.byteorder.specs.Endian.{big_bytes}
use Rattle.wf_words.specs.Refusals.{◌>>=◌}
use Rattle.wf_calls.specs.declared.order.Turn.{Turn}
use Rattle.wf_calls.specs.Orders.{IsTurn}
use Rattle.wf_film.specs.declared.rule.Breach.{Breach}
use Rattle.wf_film.specs.Film.{turn_bytes}
use Rattle.wf_film.specs.Reading.{Read, byte_within, journal_at, number_at, turn_at, turns_at}
use Rattle.wf_film.proofs.FieldLaws.{four_come_back, number_again, number_takes, within_again, within_takes}
use Rattle.wf_film.proofs.Steps.{AreBytes, Takes, bind_ok, ok_is, takes_both}

-- an entry

pub turn_takes : (bytes : List ℕ) (x : Turn × List ℕ) → AreBytes bytes → turn_at bytes ≡ Ok x
    → Takes bytes (turn_bytes x.0) x.1 × IsTurn x.0
unfolding turn_at
turn_takes bytes x fits h =
    let client = bind_ok (byte_within 0 7 bytes) _ x h in
    let code = bind_ok (byte_within 0 12 client.0.1) _ x client.2 in
    let value = bind_ok (number_at 4 code.0.1) _ x code.2 in
    let client_is = within_takes 0 7 bytes client.0 fits client.1 in
    let code_is = within_takes 0 12 client.0.1 code.0 client_is.0.fits code.1 in
    let value_is = number_takes 4 four_come_back code.0.1 value.0 code_is.0.fits value.1 in
    let from_code = takes_both client.0.1 (code.0.0 ∷ []) code.0.1 (big_bytes 4 value.0.0) value.0.1 code_is.0 value_is.0 in
    let all = takes_both bytes (client.0.0 ∷ []) client.0.1 (code.0.0 ∷ big_bytes 4 value.0.0) value.0.1 client_is.0 from_code in
    let t : Turn = record { client = client.0.0; code = code.0.0; value = value.0.0 } in
    let made : Turn × List ℕ = (t, value.0.1) in
    subst (λ (y : Turn × List ℕ). Takes bytes (turn_bytes y.0) y.1 × IsTurn y.0) {x = made} (ok_is made x value.2)
    (all, record { client = client_is.2; code = code_is.2; value = value_is.1 })

pub turn_again : (t : Turn) (rest : List ℕ) → IsTurn t → turn_at (turn_bytes t ++ rest) ≡ Ok (t, rest)
unfolding turn_at
turn_again t rest is =
    rw (
      within_again 0 7 t.client (t.code ∷ (big_bytes 4 t.value ++ rest)) (omega arith) is.client,
      within_again 0 12 t.code (big_bytes 4 t.value ++ rest) (omega arith) is.code,
      number_again 4 t.value rest is.value,
    ) refl

-- entries

-- these entries stand at the front
pub record TurnsTake (bytes : List ℕ) (turns : List Turn) (rest : List ℕ) : Type 0 where
  pub takes : Takes bytes (flat_map turn_bytes turns) rest
  pub each : AllByRecursion IsTurn turns

pub turns_take : (n : ℕ) (bytes : List ℕ) (x : List Turn × List ℕ) → AreBytes bytes → turns_at n bytes ≡ Ok x
    → TurnsTake bytes x.0 x.1 × (length x.0 ≡ n)
unfolding turns_at
turns_take zero bytes x fits h =
    subst (λ (y : List Turn × List ℕ). TurnsTake bytes y.0 y.1 × (length y.0 ≡ 0)) (ok_is ([], bytes) x h)
    (record { takes = record { parts = refl; fits = fits }; each = tt }, refl)
turns_take (suc n) bytes x fits h =
    let first = bind_ok (turn_at bytes) _ x h in
    let others = bind_ok (turns_at n first.0.1) _ x first.2 in
    let first_is = turn_takes bytes first.0 fits first.1 in
    let others_are = turns_take n first.0.1 others.0 first_is.0.fits others.1 in
    let all = takes_both bytes (turn_bytes first.0.0) first.0.1 (flat_map turn_bytes others.0.0) others.0.1 first_is.0 others_are.0.takes in
    let made : List Turn × List ℕ = (first.0.0 ∷ others.0.0, others.0.1) in
    subst (λ (y : List Turn × List ℕ). TurnsTake bytes y.0 y.1 × (length y.0 ≡ suc n)) {x = made} (ok_is made x others.2)
    (record { takes = all; each = (first_is.1, others_are.0.each) }, ap suc others_are.1)

pub turns_again : (turns : List Turn) (rest : List ℕ) → AllByRecursion IsTurn turns
    → turns_at (length turns) (flat_map turn_bytes turns ++ rest) ≡ Ok (turns, rest)
unfolding turns_at
turns_again [] rest each = refl
turns_again (t ∷ turns) rest each =
    let regrouped : flat_map turn_bytes (t ∷ turns) ++ rest ≡ turn_bytes t ++ (flat_map turn_bytes turns ++ rest) =
    append_assoc (turn_bytes t) (flat_map turn_bytes turns) rest in
    ap (turns_at (suc (length turns))) regrouped
    ∙ rw (turn_again t (flat_map turn_bytes turns ++ rest) each.0, turns_again turns rest each.1) refl

-- the journal behind its tag
pub record JournalTakes (bytes : List ℕ) (order : List Turn) (rest : List ℕ) : Type 0 where
  pub takes : Takes bytes (big_bytes 4 (length order) ++ flat_map turn_bytes order) rest
  pub each : AllByRecursion IsTurn order
  pub few : length order < 2 ^ 32

pub journal_takes : (bytes : List ℕ) (x : List Turn × List ℕ) → AreBytes bytes → journal_at bytes ≡ Ok x → JournalTakes bytes x.0 x.1
unfolding journal_at
journal_takes bytes x fits h =
    let count = bind_ok (number_at 4 bytes) _ x h in
    let count_is = number_takes 4 four_come_back bytes count.0 fits count.1 in
    let turns_are = turns_take count.0.0 count.0.1 x count_is.0.fits count.2 in
    let all = takes_both bytes (big_bytes 4 count.0.0) count.0.1 (flat_map turn_bytes x.0) x.1 count_is.0 turns_are.0.takes in
    record {
      takes = subst (λ (n : ℕ). Takes bytes (big_bytes 4 n ++ flat_map turn_bytes x.0) x.1) (sym turns_are.1) all;
      each = turns_are.0.each;
      few = omega (arith, turns_are.1, count_is.1);
    }

pub journal_again : (order : List Turn) (rest : List ℕ) → AllByRecursion IsTurn order → length order < 2 ^ 32
    → journal_at (big_bytes 4 (length order) ++ (flat_map turn_bytes order ++ rest)) ≡ Ok (order, rest)
unfolding journal_at
journal_again order rest each few =
    rw (number_again 4 (length order) (flat_map turn_bytes order ++ rest) few, turns_again order rest each) refl

-- reading goes on from entry to entry

-- with entries before
abbrev pub with_front : List Turn → Read (List Turn) → Read (List Turn)
with_front front (Ok read) = Ok (front ++ read.0, read.1)
with_front front (Err broken) = Err broken

pub none_before : (read : Read (List Turn)) → with_front [] read ≡ read
none_before (Ok read) = refl
none_before (Err broken) = refl

-- one entry more
pub one_turn : (front : List Turn) (count i : ℕ) (bytes after : List ℕ) (t : Turn) → i < count → turn_at bytes ≡ Ok (t, after)
    → with_front front (turns_at (count - i) bytes) ≡ with_front (front ++ t ∷ []) (turns_at (count - (i + 1)) after)
unfolding turns_at
one_turn front count i bytes after t within read =
    let left : count - i ≡ suc (count - (i + 1)) = omega arith in
    rw (left, read) (of_others (turns_at (count - (i + 1)) after))
  where
    of_others : (r : Read (List Turn)) → with_front front (r >>= λ others. Ok (t ∷ others.0, others.1)) ≡ with_front (front ++ t ∷ []) r
    of_others (Ok x) = ap (λ (ts : List Turn). Ok (ts, x.1)) (simp append_assoc)
    of_others (Err e) = refl

-- an entry that breaks a rule
pub broken_turn : (front : List Turn) (count i : ℕ) (bytes : List ℕ) (e : Breach) → i < count → turn_at bytes ≡ Err e
    → with_front front (turns_at (count - i) bytes) ≡ Err e
unfolding turns_at
broken_turn front count i bytes e within broken =
    let left : count - i ≡ suc (count - (i + 1)) = omega arith in
    rw (left, broken) refl

-- no entry is left
pub no_more_turns : (front : List Turn) (count i : ℕ) (bytes : List ℕ) → count ≤ i
    → with_front front (turns_at (count - i) bytes) ≡ Ok (front, bytes)
unfolding turns_at
no_more_turns front count i bytes through =
    let left : count - i ≡ 0 = omega arith in
    rw left (ap (λ (ts : List Turn). Ok (ts, bytes)) (append-nil front))
