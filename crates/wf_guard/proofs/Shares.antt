-- No client's live streams pass its share.
use Rattle.std.proofs.Common.{◌≡◌, ℕ, ◌+◌, ◌≤◌, Bool, true, false, cond, not, ◌==◌, ◌||◌, List, [], ◌∷◌, ◌++◌, filter, Option, Some, None}
use Rattle.std.proofs.Common.{refl, subst, arith}
use Rattle.std.proofs.lemmas.Bool.{leb-false, ltb-false, or_parts, eqb-true}
use Rattle.std.proofs.lemmas.List.Filters.{sum_by-filter_both}
use Rattle.std.proofs.lemmas.List.Sums.{sum_by_push}
use Rattle.std.specs.Prelude.{length, nat_le, sum_by}
use Rattle.wf_stream.specs.declared.TheConstants.{MOST_STREAMS}
use Rattle.wf_calls.specs.Codes.{is_ok_code}
use Rattle.wf_calls.specs.declared.code.Code.{Code}
use Rattle.wf_calls.specs.declared.code.Code.TheVariants as code
use Rattle.wf_calls.specs.declared.ports.Ports.{Ports}
use Rattle.wf_calls.specs.declared.reply.Reply.{Reply}
use Rattle.wf_calls.specs.declared.request.Request.{Request}
use Rattle.wf_calls.specs.declared.request.Request.TheVariants as request
use Rattle.wf_calls.specs.Requests.{call_of}
use Rattle.wf_model.specs.Step.{step}
use Rattle.wf_guard.specs.declared.form.Form.{Form}
use Rattle.wf_guard.specs.declared.owners.Owned.{Owned}
use Rattle.wf_guard.specs.LiveStreams.{Turn, after_turn, after_turns, opened}
use Rattle.wf_guard.specs.Policy.{KeepsShare, forgotten, lacks_share, made_by, owned_after, owned_bytes, owned_streams, refusal_of, share}
use Rattle.wf_guard.specs.Policy.{share_bytes}
use Rattle.wf_guard.specs.Requests.{asked_bytes}
use Rattle.wf_guard.specs.Serving.{Served}
use Rattle.wf_guard.proofs.Turns.{Keeps, runs_keep, turn_keeps}

-- no client passes its share
abbrev AllKeep : List Owned → Type 0
AllKeep owned = (client : ℕ) → KeepsShare client owned

-- a list without some has no larger sum
fewer : (f : Owned → ℕ) (p : Owned → Bool) (os : List Owned) → sum_by f (filter p os) ≤ sum_by f os
fewer f p os = let both = sum_by-filter_both p (λ o. not (p o)) (λ o. refl) f os in omega (arith, both)

forgets : (stream : ℕ) (owned : List Owned) → AllKeep owned → AllKeep (forgotten stream owned)
forgets stream owned keep client =
    let rest = λ (o : Owned). not (o.stream == stream) in
    let streams = fewer (λ o. cond (o.client == client) 1 0) rest owned in
    let bytes = fewer (λ o. cond (o.client == client) o.bytes 0) rest owned in
    let before = keep client in
    record { streams = omega (arith, streams, before.streams); bytes = omega (arith, bytes, before.bytes) }

-- one more, where its maker has a share left
module _ (o : Owned) (owned : List Owned) (room : lacks_share o.client o.bytes owned ≡ false) (keep : AllKeep owned) where
  has_room : (owned_streams o.client owned + 1 ≤ share o.client) × (owned_bytes o.client owned + o.bytes ≤ share_bytes o.client)
  has_room =
      let few = nat_le (share o.client) (owned_streams o.client owned) in
      let one = or_parts (nat_le MOST_STREAMS (length owned) || few) _ room in
      let two = or_parts (nat_le MOST_STREAMS (length owned)) few one.0 in
      let below = leb-false (share o.client) (owned_streams o.client owned) two.1 in
      (omega (arith, below), ltb-false (share_bytes o.client) (owned_bytes o.client owned + o.bytes) one.1)

  grows : AllKeep (owned ++ o ∷ [])
  grows client = by_test (o.client == client) refl
    where
      streams : owned_streams client (owned ++ o ∷ []) ≡ owned_streams client owned + cond (o.client == client) 1 0
      streams = sum_by_push (λ (x : Owned). cond (x.client == client) 1 0) owned o

      bytes : owned_bytes client (owned ++ o ∷ []) ≡ owned_bytes client owned + cond (o.client == client) o.bytes 0
      bytes = sum_by_push (λ (x : Owned). cond (x.client == client) x.bytes 0) owned o

      by_test : (b : Bool) → (o.client == client) ≡ b → KeepsShare client (owned ++ o ∷ [])
      by_test true is =
          let at = subst (λ (k : ℕ). (owned_streams k owned + 1 ≤ share k) × (owned_bytes k owned + o.bytes ≤ share_bytes k))
          (eqb-true o.client client is) has_room in
          record { streams = rw (streams, is) at.0; bytes = rw (bytes, is) at.1 }
      by_test false is =
          let before = keep client in
          record { streams = rw (streams, is) (omega (arith, before.streams)); bytes = rw (bytes, is) (omega (arith, before.bytes)) }

-- what the policy lets through has room in its client's share

with_room : (manager lacks : Bool)
    → cond {A = Option Code} (not (manager || true)) (Some code.Unsupported) (cond lacks (Some code.Limit) None) ≡ None → lacks ≡ false
with_room true true none = absurd cc
with_room true false none = refl
with_room false true none = absurd cc
with_room false false none = refl

after : (client : ℕ) (r : Request) (value : ℕ) (owned : List Owned) → refusal_of client r owned ≡ None → AllKeep owned
    → AllKeep (owned_after client r value owned)
after client (request.StreamNew width height format buffers) value owned none keep =
    let bytes = asked_bytes (request.StreamNew width height format buffers) in
    grows (made_by client value width height bytes) owned (with_room (client == 0) (lacks_share client bytes owned) none) keep
after client (request.StreamQueue width height format depth) value owned none keep =
    let bytes = asked_bytes (request.StreamQueue width height format depth) in
    grows (made_by client value width height bytes) owned (with_room (client == 0) (lacks_share client bytes owned) none) keep
after client (request.StreamDestroy stream) value owned none keep = forgets stream owned keep
after client _ value owned none keep = keep

-- over runs

module _ (v : Served) (keep : AllKeep v.owned) where
  answered : (client : ℕ) (r : Request) (reply : Reply) → refusal_of client r v.owned ≡ None → (b : Bool)
      → AllKeep (cond b (owned_after client r reply.value v.owned) v.owned)
  answered client r reply none true = after client r reply.value v.owned none keep
  answered client r reply none false = keep

  keeps : (client : ℕ) (m : Bool) → Keeps (λ w. AllKeep w.owned) v client m
  keeps client m =
      record {
        here = keep;
        makes = λ r none place. (let reply : Reply = (step v.machine client (call_of r) m).1 in
            answered client r reply none (is_ok_code reply.code));
        posts = λ canvas is. keep;
        discards = λ canvas is. keep;
        draws = λ paint canvas is. keep;
      }

  turn_keep : (t : Turn) → AllKeep (after_turn t v).owned
  turn_keep = turn_keeps (λ w. AllKeep w.owned) v keeps (λ c moves. keep)

pub always_keep : (form : Form) (ports : Ports) (rs : List Turn) → AllKeep (after_turns (opened form ports) rs).owned
always_keep form ports rs =
    runs_keep (λ v. AllKeep v.owned) (λ t v keep. turn_keep v keep t) rs (opened form ports)
    (λ client. record { streams = omega arith; bytes = omega arith })
