-- What is told of a client's live streams follows from those that it made.
use Rattle.std.proofs.Common.{◌≡◌, ◌∙◌, ℕ, ◌+◌, Bool, true, false, cond, ◌==◌, ◌||◌, List, [], ◌∷◌, ◌++◌, refl, sym, ap}
use Rattle.std.proofs.Common.{arith}
use Rattle.std.proofs.lemmas.List.Elements.{filter-append}
use Rattle.std.proofs.lemmas.List.Sums.{length-filter, sum_by-cons}
use Rattle.std.specs.Prelude.{length, nat_le, nat_lt, sum_by}
use Rattle.std.specs.List.{list_any}
use Rattle.wf_stream.specs.declared.TheConstants.{MOST_STREAMS}
use Rattle.wf_calls.specs.Codes.{is_ok_code}
use Rattle.wf_calls.specs.declared.reply.Reply.{Reply}
use Rattle.wf_calls.specs.declared.request.Request.{Request}
use Rattle.wf_calls.specs.declared.request.Request.TheVariants as request
use Rattle.wf_guard.specs.Alike.{made_of}
use Rattle.wf_guard.specs.Policy.{forgotten, lacks_share, made_by, owned_after, owned_bytes, owned_streams, owns, share, share_bytes}
use Rattle.wf_guard.specs.Requests.{asked_bytes}
use Rattle.wf_guard.specs.Serving.{owned_by}
use Rattle.wf_guard.specs.declared.owners.Owned.{Owned}

module _ (a : ℕ) where
  is_own : (k : ℕ) (owned : List Owned) → owns a k owned ≡ list_any (λ o. o.stream == k) (made_of a owned)
  is_own k [] = refl
  is_own k (o ∷ os) = by_test (is_own k os) (o.client == a) refl
    where
      by_test : owns a k os ≡ list_any (λ x. x.stream == k) (made_of a os) → (b : Bool) → (o.client == a) ≡ b
          → owns a k (o ∷ os) ≡ list_any (λ x. x.stream == k) (made_of a (o ∷ os))
      by_test rest true is = rw is (ap (λ b. (o.stream == k) || b) rest)
      by_test rest false is = rw is rest

  pub same_owns : (k : ℕ) (owned other : List Owned) → made_of a owned ≡ made_of a other → owns a k owned ≡ owns a k other
  same_owns k owned other same = is_own k owned ∙ ap (list_any (λ (o : Owned). o.stream == k)) same ∙ sym (is_own k other)

  streams_of : (owned : List Owned) → owned_streams a owned ≡ length (made_of a owned)
  streams_of owned = sym (length-filter (λ (o : Owned). o.client == a) owned)

  bytes_of : (owned : List Owned) → owned_bytes a owned ≡ sum_by (λ o. o.bytes) (made_of a owned)
  bytes_of [] = refl
  bytes_of (o ∷ os) =
      sum_by-cons (λ (x : Owned). cond (x.client == a) x.bytes 0) o os ∙ by_test (bytes_of os) (o.client == a) refl
    where
      by_test : owned_bytes a os ≡ sum_by (λ x. x.bytes) (made_of a os) → (b : Bool) → (o.client == a) ≡ b
          → cond (o.client == a) o.bytes 0 + owned_bytes a os ≡ sum_by (λ x. x.bytes) (made_of a (o ∷ os))
      by_test rest true is =
          rw is (ap (λ n. o.bytes + n) rest ∙ sym (sum_by-cons (λ (x : Owned). x.bytes) o (made_of a os)))
      by_test rest false is = rw is (omega (arith, rest))

  -- whether a new stream passes the share, by how many live streams all clients have
  lacks : Bool → ℕ → ℕ → ℕ → Bool
  lacks full streams bytes more = full || nat_le (share a) streams || nat_lt (share_bytes a) (bytes + more)

  pub same_lacks : (more : ℕ) (owned other : List Owned) → made_of a owned ≡ made_of a other
      → nat_le MOST_STREAMS (length owned) ≡ nat_le MOST_STREAMS (length other) → lacks_share a more owned ≡ lacks_share a more other
  unfolding lacks
  same_lacks more owned other same full =
      ap (λ b. lacks b (owned_streams a owned) (owned_bytes a owned) more) full
      ∙ ap (λ n. lacks (nat_le MOST_STREAMS (length other)) n (owned_bytes a owned) more)
      (streams_of owned ∙ ap length same ∙ sym (streams_of other))
      ∙ ap (λ n. lacks (nat_le MOST_STREAMS (length other)) (owned_streams a other) n more)
      (bytes_of owned ∙ ap (sum_by (λ (o : Owned). o.bytes)) same ∙ sym (bytes_of other))

  forgets : (stream : ℕ) (owned : List Owned) → made_of a (forgotten stream owned) ≡ forgotten stream (made_of a owned)
  forgets stream [] = refl
  forgets stream (o ∷ os) = by_tests (forgets stream os) (o.client == a) refl (o.stream == stream) refl
    where
      by_tests : made_of a (forgotten stream os) ≡ forgotten stream (made_of a os) → (b : Bool) → (o.client == a) ≡ b → (d : Bool)
          → (o.stream == stream) ≡ d → made_of a (forgotten stream (o ∷ os)) ≡ forgotten stream (made_of a (o ∷ os))
      by_tests rest true is true gone = rw (gone, is, gone) rest
      by_tests rest true is false stays = rw (stays, is, stays) (ap (λ l. o ∷ l) rest)
      by_tests rest false is true gone = rw (gone, is) rest
      by_tests rest false is false stays = rw (stays, is) rest

  one_more : (o : Owned) (owned other : List Owned) → made_of a owned ≡ made_of a other
      → made_of a (owned ++ o ∷ []) ≡ made_of a (other ++ o ∷ [])
  one_more o owned other same =
      filter-append (λ (x : Owned). x.client == a) owned (o ∷ []) ∙ ap (λ l. l ++ made_of a (o ∷ [])) same
      ∙ sym (filter-append (λ (x : Owned). x.client == a) other (o ∷ []))

  answered : (r : Request) (value : ℕ) (owned other : List Owned) → made_of a owned ≡ made_of a other → (b : Bool)
      → made_of a (cond b (owned_after a r value owned) owned) ≡ made_of a (cond b (owned_after a r value other) other)
  answered r value owned other same false = same
  answered (request.StreamNew width height format buffers) value owned other same true =
      one_more (made_by a value width height (asked_bytes (request.StreamNew width height format buffers))) owned other same
  answered (request.StreamQueue width height format depth) value owned other same true =
      one_more (made_by a value width height (asked_bytes (request.StreamQueue width height format depth))) owned other same
  answered (request.StreamDestroy stream) value owned other same true =
      forgets stream owned ∙ ap (forgotten stream) same ∙ sym (forgets stream other)
  answered _ value owned other same true = same

  -- after the same answer to the same request a client owns the same
  pub same_made : (r : Request) (one two : Reply) (owned other : List Owned) → made_of a owned ≡ made_of a other → one ≡ two
      → made_of a (owned_by a r one owned) ≡ made_of a (owned_by a r two other)
  same_made r one two owned other same reply =
      answered r one.value owned other same (is_ok_code one.code) ∙ ap (λ (y : Reply). made_of a (owned_by a r y other)) reply

  -- what another client made, or what was none of its streams, is nothing to it

  not_own : (stream : ℕ) (owned : List Owned) → owns a stream owned ≡ false → made_of a (forgotten stream owned) ≡ made_of a owned
  not_own stream [] none = refl
  not_own stream (o ∷ os) none = by_tests (not_own stream os) (o.client == a) refl (o.stream == stream) refl none
    where
      by_tests : (owns a stream os ≡ false → made_of a (forgotten stream os) ≡ made_of a os) → (b : Bool) → (o.client == a) ≡ b → (d : Bool)
          → (o.stream == stream) ≡ d → owns a stream (o ∷ os) ≡ false → made_of a (forgotten stream (o ∷ os)) ≡ made_of a (o ∷ os)
      by_tests rest true is true gone none = absurd (let no : true ≡ false = rw (is, gone) at none in cc)
      by_tests rest true is false stays none = rw (stays, is) (ap (λ l. o ∷ l) (rest (rw (is, stays) at none)))
      by_tests rest false is true gone none = rw (gone, is) (rest (rw is at none))
      by_tests rest false is false stays none = rw (stays, is) (rest (rw is at none))

  others : (o : Owned) (owned : List Owned) → (o.client == a) ≡ false → made_of a (owned ++ o ∷ []) ≡ made_of a owned
  others o [] other = rw other refl
  others o (x ∷ xs) other =
      elim (x.client == a)
      as (λ b. cond b (x ∷ made_of a (xs ++ o ∷ [])) (made_of a (xs ++ o ∷ [])) ≡ cond b (x ∷ made_of a xs) (made_of a xs)) [
        | true ↦ ap (λ l. x ∷ l) (others o xs other)
        | false ↦ others o xs other
      ]

  module _ (b : ℕ) (other : (b == a) ≡ false) (value : ℕ) (owned : List Owned) where
    apart : (r : Request) → ((stream : ℕ) → r ≡ request.StreamDestroy stream → owns a stream owned ≡ false) → (t : Bool)
        → made_of a (cond t (owned_after b r value owned) owned) ≡ made_of a owned
    apart r spares false = refl
    apart (request.StreamNew width height format buffers) spares true =
        others (made_by b value width height (asked_bytes (request.StreamNew width height format buffers))) owned other
    apart (request.StreamQueue width height format depth) spares true =
        others (made_by b value width height (asked_bytes (request.StreamQueue width height format depth))) owned other
    apart (request.StreamDestroy stream) spares true = not_own stream owned (spares stream refl)
    apart _ spares true = refl

  pub same_made_of : (b : ℕ) → (b == a) ≡ false → (r : Request) (reply : Reply) (owned : List Owned)
      → ((stream : ℕ) → r ≡ request.StreamDestroy stream → owns a stream owned ≡ false)
      → made_of a (owned_by b r reply owned) ≡ made_of a owned
  same_made_of b other r reply owned spares = apart b other reply.value owned r spares (is_ok_code reply.code)
