-- The bytes of all streams, where one comes, goes or changes.
use Rattle.std.proofs.Common.{◌≡◌, ℕ, ◌+◌, ◌-◌, ◌*◌, ◌≤◌, true, false, cond, ◌==◌, not, List, [], ◌∷◌, ◌++◌, length, option_map, Some, refl}
use Rattle.std.proofs.Common.{sym, ap, ◌∙◌, arith}
use Rattle.std.proofs.lemmas.Bool.Decides.{nat_tests}
use Rattle.std.proofs.lemmas.List.Sums.{sum_by-cons, sum_by-append}
use Rattle.wf_words.specs.Keyed.{change}
use Rattle.wf_stream.specs.Buffers.{Buffers, buffer_bytes}
use Rattle.wf_stream.specs.Streams.{KeptStream, IsNumbered, held, buffers_at, stream_at, without_number}
use Rattle.wf_stream.specs.StreamTable.{AreSmall, AreMeasured}
use Rattle.wf_stream.proofs.StreamTables.{numbered_room, without_below}
use Rattle.wf_stream.specs.declared.TheConstants.{STREAM_BYTES}

abbrev size : KeptStream → ℕ
size s = buffer_bytes s.buffers

abbrev pub bytes_of : List KeptStream → ℕ
bytes_of streams = (held streams).bytes

bytes_cons : (s : KeptStream) (streams : List KeptStream) → bytes_of (s ∷ streams) ≡ size s + bytes_of streams
bytes_cons s streams = sum_by-cons size s streams

small_bytes : (streams : List KeptStream) → AreSmall streams → bytes_of streams ≤ STREAM_BYTES * length streams
small_bytes [] small = omega arith
small_bytes (s ∷ streams) small =
    let whole = bytes_cons s streams in
    let later = small_bytes streams small.1 in
    let first = small.0 in
    omega (arith, whole, later, first)

-- streams of rising numbers have no more bytes than as many streams may have
pub bytes_room : (high bytes : ℕ) (streams : List KeptStream) → IsNumbered 0 streams high → AreMeasured bytes streams
    → bytes ≤ STREAM_BYTES * high
bytes_room high bytes streams rising measured =
    let room = numbered_room 0 high streams rising in
    let few = small_bytes streams measured.small in
    omega (arith, measured.sum, room, few)

-- one comes

small_push : (streams : List KeptStream) (s : KeptStream) → AreSmall streams → size s ≤ STREAM_BYTES → AreSmall (streams ++ s ∷ [])
small_push [] s small first = (first, tt)
small_push (x ∷ streams) s small first = (small.0, small_push streams s small.1 first)

pub measured_push : (bytes : ℕ) (streams : List KeptStream) (s : KeptStream) → AreMeasured bytes streams
    → buffer_bytes s.buffers ≤ STREAM_BYTES → AreMeasured (bytes + buffer_bytes s.buffers) (streams ++ s ∷ [])
measured_push bytes streams s measured first =
    let whole = sum_by-append size streams (s ∷ []) in
    let last = bytes_cons s [] in
    record {
      sum = omega (arith, measured.sum, whole, last);
      small = small_push streams s measured.small first;
    }

-- one goes

small_without : (n : ℕ) (streams : List KeptStream) → AreSmall streams → AreSmall (without_number n streams)
small_without n [] small = tt
small_without n (s ∷ streams) small =
    let later = small_without n streams small.1 in
    elim (s.number == n) as (λ b. AreSmall (cond (not b) (s ∷ without_number n streams) (without_number n streams))) [
      | true ↦ later
      | false ↦ (small.0, later)
    ]

bytes_without : (low high n : ℕ) (b : Buffers) (streams : List KeptStream) → IsNumbered low streams high
    → buffers_at n streams ≡ Some b → bytes_of (without_number n streams) + buffer_bytes b ≡ bytes_of streams
bytes_without low high n b [] rising found = absurd cc
bytes_without low high n b (s ∷ streams) rising found =
    elim (s.number == n) as (λ t. (s.number == n) ≡ t → option_map (λ x. x.buffers) (cond t (Some s) (stream_at n streams)) ≡ Some b
    → bytes_of (cond (not t) (s ∷ without_number n streams) (without_number n streams)) + buffer_bytes b ≡ bytes_of (s ∷ streams)) [
      | true ↦ λ here is. (
          let under : n ≤ s.number = grind (arith, nat_tests, here) in
          let same : s.buffers ≡ b = cc in
          let left = ap bytes_of (without_below s.number high n streams rising.1 under) in
          let whole = bytes_cons s streams in
          let bytes = ap buffer_bytes same in
          omega (arith, left, whole, bytes))
      | false ↦ λ other is. (
          let later = bytes_without s.number high n b streams rising.1 is in
          let whole = bytes_cons s streams in
          let left = bytes_cons s (without_number n streams) in
          omega (arith, later, whole, left))
    ] refl found

pub measured_without : (high bytes n : ℕ) (b : Buffers) (streams : List KeptStream) → IsNumbered 0 streams high
    → buffers_at n streams ≡ Some b → AreMeasured bytes streams
    → (buffer_bytes b ≤ bytes) × AreMeasured (bytes - buffer_bytes b) (without_number n streams)
measured_without high bytes n b streams rising found measured =
    let left = bytes_without 0 high n b streams rising found in
    let least : buffer_bytes b ≤ bytes = omega (arith, left, measured.sum) in
    (least, record { sum = omega (arith, left, measured.sum, least); small = small_without n streams measured.small })

-- one changes, and keeps its bytes
module _ (n : ℕ) (f : KeptStream → KeptStream) (keeps : (s : KeptStream) → buffer_bytes (f s).buffers ≡ buffer_bytes s.buffers) where
  small_changed : (streams : List KeptStream) → AreSmall streams → AreSmall (change (λ s. s.number) n f streams)
  small_changed [] small = tt
  small_changed (s ∷ streams) small =
      let later = small_changed streams small.1 in
      elim (s.number == n) as (λ b. (size (cond b (f s) s) ≤ STREAM_BYTES) × AreSmall (change (λ x. x.number) n f streams)) [
        | true ↦ (rw (keeps s) small.0, later)
        | false ↦ (small.0, later)
      ]

  bytes_changed : (streams : List KeptStream) → bytes_of (change (λ s. s.number) n f streams) ≡ bytes_of streams
  bytes_changed [] = refl
  bytes_changed (s ∷ streams) =
      let later = bytes_changed streams in
      let whole = bytes_cons s streams in
      elim (s.number == n) as (λ b. bytes_of (cond b (f s) s ∷ change (λ x. x.number) n f streams) ≡ bytes_of (s ∷ streams)) [
        | true ↦ (let changed = bytes_cons (f s) (change (λ x. x.number) n f streams) in
            let same = keeps s in
            omega (arith, later, whole, changed, same))
        | false ↦ (let changed = bytes_cons s (change (λ x. x.number) n f streams) in
            omega (arith, later, whole, changed))
      ]

  pub measured_changed : (bytes : ℕ) (streams : List KeptStream) → AreMeasured bytes streams
      → AreMeasured bytes (change (λ s. s.number) n f streams)
  measured_changed bytes streams measured =
      record {
        sum = measured.sum ∙ sym (bytes_changed streams);
        small = small_changed streams measured.small;
      }
