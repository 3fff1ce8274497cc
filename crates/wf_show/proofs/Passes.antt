-- The players of passes, one by one.
use Rattle.std.proofs.Common.{◌≡◌, ◌∙◌, ℕ, zero, suc, ◌+◌, ◌*◌, ◌<◌, ◌≤◌, ◌==◌, true, false, cond, List, [], ◌∷◌, ◌++◌, map, take, drop}
use Rattle.std.proofs.Common.{length, refl, ap, subst}
use Rattle.std.proofs.Common.{arith}
use Rattle.std.specs.Prelude.{slice_index_or}
use Rattle.std.specs.List.{range_with_len}
use Rattle.std.proofs.lemmas.List.Sums.{sum_by-cons}
use Rattle.atomic_table.specs.Seated.{TableId}
use Rattle.wf_calls.specs.declared.call.Call.{Call}
use Rattle.wf_calls.specs.declared.reply.Reply.{Reply}
use Rattle.wf_desk.specs.Pass.{fresh}
use Rattle.wf_model.specs.State.{State, opening}
use Rattle.wf_script.specs.declared.line.Line.{Line}
use Rattle.wf_script.specs.declared.line.Verb.{Verb}
use Rattle.wf_script.specs.declared.line.Verb.TheVariants as verb
use Rattle.wf_script.specs.Script.{PlainScript}
use Rattle.wf_turn.specs.Program.{Program, program}
use Rattle.wf_turn.specs.Quota.{left, line_quota, quota, quota_of}
use Rattle.wf_turn.specs.Ready.{IsFit}
use Rattle.wf_show.specs.declared.player.Player.{Player}
use Rattle.wf_show.specs.Opened.{passes_from}
use Rattle.wf_show.specs.Players.{AreFresh, IsFresh, first_pass}
use Rattle.wf_machine.specs.Histories.{PlainPass}
use Rattle.wf_script.specs.declared.TheConstants.{MOST_LINES}

-- a client makes so many events at most
least_40 : (v : Verb) → line_quota v ≤ 40
least_40 (verb.Paint p) = omega arith
least_40 (verb.Frame s p) = omega arith
least_40 (verb.Compose d c) = omega arith
least_40 (verb.TryCompose d c) = omega arith
least_40 verb.Tick = omega arith
least_40 _ = omega arith

pub few_quota : (client : ℕ) (lines : List Line) → quota lines client ≤ 40 * length lines
few_quota client [] = omega arith
few_quota client (l ∷ ls) =
    let this : quota_of client l ≤ 40 =
    elim (l.client == client) as (λ b. cond b (line_quota l.verb) 0 ≤ 40) [ true ↦ least_40 l.verb | false ↦ omega arith ] in
    omega (arith, this, few_quota client ls, sum_by-cons (quota_of client) l ls)

-- what stands behind a front of such a list
record StandsAt {A : Type 0} (f : ℕ → A) (first count n : ℕ) (x : A) : Type 0 where
  pub within : n < count
  pub is : x ≡ f (first + n)

stands_at : {A : Type 0} (f : ℕ → A) (first count : ℕ) (xs : List A) (x : A) (ys : List A)
    → xs ++ x ∷ ys ≡ map f (range_with_len first count) → StandsAt f first count (length xs) x
stands_at f first zero [] x ys same = absurd cc
stands_at f first zero (y ∷ xs) x ys same = absurd cc
stands_at f first (suc n) [] x ys same =
    let head : x ≡ f first = cc in
    let at : first ≡ first + 0 = omega arith in
    record { within = omega arith; is = head ∙ ap f at }
stands_at f first (suc n) (y ∷ xs) x ys same =
    let tails : xs ++ x ∷ ys ≡ map f (range_with_len (first + 1) n) = cc in
    let rest = stands_at f (first + 1) n xs x ys tails in
    let at : first + 1 + length xs ≡ first + length (y ∷ xs) = omega arith in
    record { within = omega (arith, rest.within); is = rest.is ∙ ap f at }

-- a vector after all of its elements were lent
pub written_back : {A : Type 0} (n : ℕ) (xs ys : List A) → n ≡ length xs → length ys ≡ length xs
    → take n (ys ++ drop (length ys) xs) ≡ ys
written_back n xs ys counted same = ap (λ k. take k (ys ++ drop (length ys) xs)) counted ∙ refilled xs ys same
  where
    refilled : {A : Type 0} (xs ys : List A) → length ys ≡ length xs → take (length xs) (ys ++ drop (length ys) xs) ≡ ys
    refilled [] [] same = refl
    refilled [] (y ∷ ys) same = absurd (omega (arith, same))
    refilled (x ∷ xs) [] same = absurd (omega (arith, same))
    refilled (x ∷ xs) (y ∷ ys) same = ap (λ zs. y ∷ zs) (refilled xs ys (omega (arith, same)))

pub map_more : {A B : Type 0} (f : A → B) (xs : List A) (x : A) → map f (xs ++ x ∷ []) ≡ map f xs ++ f x ∷ []
map_more f [] x = refl
map_more f (y ∷ xs) x = ap (λ ys. f y ∷ ys) (map_more f xs x)

module _ (desk : TableId) (script : PlainScript) where
  -- the passes of a new desk
  pub dealt : (o : State) (quotas : List ℕ) → o ≡ opening script.ports
      → quotas ≡ quota script.lines 0 ∷ quota script.lines 1 ∷ quota script.lines 2 ∷ quota script.lines 3
      ∷ quota script.lines 4 ∷ quota script.lines 5 ∷ quota script.lines 6 ∷ quota script.lines 7 ∷ []
      → fresh {O = State} {C = Call} {R = Reply} desk o 0 quotas ≡ first_pass desk script 0
      (quota script.lines 0) ∷ passes_from desk script 1 7
  dealt o quotas opened are = ap (λ h. fresh desk h 0 quotas) opened ∙ ap (fresh desk (opening script.ports) 0) are

  pub fresh_clock : (pass : PlainPass) (p : Program) → pass ≡ first_pass desk script 0 (quota script.lines 0) → p ≡ program script 0
      → IsFit p → left p ≤ quota script.lines 0 → length script.lines ≤ MOST_LINES
      → IsFresh desk script 0 (record { pass = pass; program = p })
  fresh_clock pass p pass_is is fit few lines =
      record {
        quota = quota script.lines 0;
        most = omega (arith, few_quota 0 script.lines, lines);
        pass = pass_is;
        program = is;
        fit = fit;
        room = few;
      }

  abbrev own_pass : ℕ → PlainPass
  own_pass c = first_pass desk script c (quota script.lines c)

  pub few_yielded : (done : List PlainPass) (k : PlainPass) (rest : List PlainPass) → done ++ k ∷ rest ≡ passes_from desk script 1 7
      → length done < 7
  few_yielded done k rest same = (stands_at own_pass 1 7 done k rest same).within

  pub fresh_one : (done : List PlainPass) (k : PlainPass) (rest : List PlainPass) (client : ℕ) (p : Program)
      → done ++ k ∷ rest ≡ passes_from desk script 1 7 → client ≡ 1 + length done → p ≡ program script client → IsFit p
      → left p ≤ quota script.lines client → length script.lines ≤ MOST_LINES
      → IsFresh desk script (1 + length done) (record { pass = k; program = p })
  fresh_one done k rest client p same at is fit few lines =
      let c : ℕ = 1 + length done in
      record {
        quota = quota script.lines c;
        most = omega (arith, few_quota c script.lines, lines);
        pass = (stands_at own_pass 1 7 done k rest same).is;
        program = is ∙ ap (program script) at;
        fit = fit;
        room = subst (λ n. left p ≤ quota script.lines n) at few;
      }

  pub one_more : (client : ℕ) (ps : List Player) (p : Player) → AreFresh desk script client ps
      → IsFresh desk script (client + length ps) p → AreFresh desk script client (ps ++ p ∷ [])
  one_more client [] p all one zero d within = one
  one_more client [] p all one (suc i) d within = absurd (omega (arith, within))
  one_more client (q ∷ ps) p all one zero d within = all 0 d (omega arith)
  one_more client (q ∷ ps) p all one (suc i) d within =
      let shift : client + 1 + i ≡ client + suc i = omega arith in
      let at : client + length (q ∷ ps) ≡ client + 1 + length ps = omega arith in
      subst (λ c. IsFresh desk script c (slice_index_or (ps ++ p ∷ []) i d)) shift
      (one_more (client + 1) ps p (λ j e less. subst (λ c. IsFresh desk script c (slice_index_or ps j e)) (shifted j) (all (suc j) e
      (omega (arith, less))))
      (subst (λ c. IsFresh desk script c p) at one) i d (omega (arith, within)))
    where
      shifted : (j : ℕ) → client + suc j ≡ client + 1 + j
      shifted j = omega arith
