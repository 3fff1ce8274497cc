-- Streams that change one by one, each under its number and in its shape.
use Rattle.wf_machine.proofs.Common.{◌≡◌, ℕ, ◌+◌, ◌<◌, true, false, cond, ◌==◌, List, [], ◌∷◌, map, Option, Some, None, refl, sym, ap}
use Rattle.wf_machine.proofs.Common.{subst, ◌∙◌, sum_by, option_map, sum_by-cons, is_in, image_of, Buffers, buffer_bytes, latched}
use Rattle.wf_machine.proofs.Common.{KeptStream, IsNumbered, buffers_at, held, stream_at, unnamed, home_if, latched_among, Images}
use Rattle.wf_machine.proofs.StreamsLatched.{KeepsShape, latched_keeps}
use Rattle.wf_model.specs.Named.{SeenSame}
use Rattle.wf_words.specs.Mapped.{at_mapped}

-- a change of a stream that keeps its number, its size, its format and how many buffers it has
pub record KeepsStream (g : KeptStream → KeptStream) : Type 0 where
  pub number : (s : KeptStream) → (g s).number ≡ s.number
  pub size : (s : KeptStream) → (g s).buffers.size ≡ s.buffers.size
  pub format : (s : KeptStream) → (g s).buffers.format ≡ s.buffers.format
  pub buffers : (s : KeptStream) → (g s).buffers.buffers ≡ s.buffers.buffers

module _ (g : KeptStream → KeptStream) (keeps : KeepsStream g) where
  pub found_mapped : (n : ℕ) (ss : List KeptStream) → stream_at n (map g ss) ≡ option_map g (stream_at n ss)
  found_mapped n ss = at_mapped (λ (s : KeptStream). s.number) g keeps.number n ss

  pub buffers_mapped : (n : ℕ) (ss : List KeptStream)
      → buffers_at n (map g ss) ≡ option_map (λ s. (g s).buffers) (stream_at n ss)
  buffers_mapped n ss = ap (λ o. option_map (λ s. s.buffers) o) (found_mapped n ss)
      ∙ both (stream_at n ss)
    where
      both : (o : Option KeptStream) → option_map (λ s. s.buffers) (option_map g o)
          ≡ option_map (λ s. (g s).buffers) o
      both None = refl
      both (Some s) = refl

  pub seen_mapped : (n : ℕ) (ss : List KeptStream) → SeenSame (buffers_at n ss) (buffers_at n (map g ss))
  seen_mapped n ss b found = of_stream (stream_at n ss) refl
    where
      of_stream : (o : Option KeptStream) → stream_at n ss ≡ o → (c : Buffers) × (buffers_at n (map g ss) ≡ Some c) × (c.size ≡ b.size)
          × (c.format ≡ b.format)
      of_stream None is = absurd (let no : None ≡ Some b = rw is at found in cc)
      of_stream (Some s) is =
          let has : Some s.buffers ≡ Some b = rw is at found in
          let same : s.buffers ≡ b = cc in (
            (g s).buffers,
            buffers_mapped n ss ∙ ap (λ o. option_map (λ t. (g t).buffers) o) is,
            keeps.size s ∙ ap (λ c. c.size) same,
            keeps.format s ∙ ap (λ c. c.format) same,
          )

  pub numbered_mapped : (low high : ℕ) (ss : List KeptStream) → IsNumbered low ss high → IsNumbered low (map g ss) high
  numbered_mapped low high [] rising = rising
  numbered_mapped low high (s ∷ ss) rising =
      let later = numbered_mapped s.number high ss rising.1 in
      subst (λ k. (low < k) × IsNumbered k (map g ss) high) (sym (keeps.number s)) (rising.0, later)

  pub bytes_mapped : (ss : List KeptStream) → (held (map g ss)).bytes ≡ (held ss).bytes
  bytes_mapped [] = refl
  bytes_mapped (s ∷ ss) =
      let each : KeptStream → ℕ = λ t. buffer_bytes t.buffers in
      let same : each (g s) ≡ each s = rw (keeps.size s, keeps.format s, keeps.buffers s) refl in
      sum_by-cons each (g s) (map g ss) ∙ ap (λ k. k + sum_by each (map g ss)) same ∙ ap (λ k. each s + k) (bytes_mapped ss)
      ∙ sym (sum_by-cons each s ss)

-- the buffers of one stream change
abbrev pub changed_at : ℕ → (Buffers → Buffers) → KeptStream → KeptStream
changed_at n f s = cond (s.number == n) (record s { buffers = f s.buffers }) s

pub changed_keeps : (n : ℕ) (f : Buffers → Buffers) → KeepsShape f → KeepsStream (changed_at n f)
changed_keeps n f keeps =
    record {
      number = λ s. elim (s.number == n) as (λ b. (cond b (record s { buffers = f s.buffers }) s).number
          ≡ s.number) [ true ↦ refl | false ↦ refl ];
      size = λ s. elim (s.number == n) as (λ b. (cond b (record s { buffers = f s.buffers }) s).buffers.size
          ≡ s.buffers.size) [ true ↦ keeps.size s.buffers | false ↦ refl ];
      format = λ s. elim (s.number == n) as (λ b. (cond b (record s { buffers = f s.buffers }) s).buffers.format
          ≡ s.buffers.format) [ true ↦ keeps.format s.buffers | false ↦ refl ];
      buffers =
          λ s. elim (s.number == n) as (λ b. (cond b (record s { buffers = f s.buffers }) s).buffers.buffers
          ≡ s.buffers.buffers) [ true ↦ keeps.buffers s.buffers | false ↦ refl ];
    }

-- a frame takes the images of some
pub latch_keeps : (ns : List ℕ) → KeepsStream (latched_among ns)
latch_keeps ns =
    record {
      number = λ s. elim (is_in s.number ns) as (λ b. (cond b (record s { buffers = latched s.buffers }) s).number
          ≡ s.number) [ true ↦ refl | false ↦ refl ];
      size = λ s. elim (is_in s.number ns) as (λ b. (cond b (record s { buffers = latched s.buffers }) s).buffers.size
          ≡ s.buffers.size) [ true ↦ latched_keeps.size s.buffers | false ↦ refl ];
      format = λ s. elim (is_in s.number ns) as (λ b. (cond b (record s { buffers = latched s.buffers }) s).buffers.format
          ≡ s.buffers.format) [ true ↦ latched_keeps.format s.buffers | false ↦ refl ];
      buffers =
          λ s. elim (is_in s.number ns) as (λ b. (cond b (record s { buffers = latched s.buffers }) s).buffers.buffers
          ≡ s.buffers.buffers) [ true ↦ latched_keeps.buffers s.buffers | false ↦ refl ];
    }

-- images come home
abbrev pub home_among : Images → KeptStream → KeptStream
home_among xs s = home_if (image_of s.number xs) s

pub home_keeps : (xs : Images) → KeepsStream (home_among xs)
home_keeps xs =
    record {
      number = λ s. elim (image_of s.number xs) as (λ o. (home_if o s).number
          ≡ s.number) [ None ↦ refl | Some image ↦ refl ];
      size = λ s. elim (image_of s.number xs) as (λ o. (home_if o s).buffers.size
          ≡ s.buffers.size) [ None ↦ refl | Some image ↦ refl ];
      format = λ s. elim (image_of s.number xs) as (λ o. (home_if o s).buffers.format
          ≡ s.buffers.format) [ None ↦ refl | Some image ↦ refl ];
      buffers =
          λ s. elim (image_of s.number xs) as (λ o. (home_if o s).buffers.buffers
          ≡ s.buffers.buffers) [ None ↦ refl | Some image ↦ refl ];
    }

-- a handle is dead
pub unnamed_keeps : (handle : ℕ) → KeepsStream (unnamed handle)
unnamed_keeps handle =
    record {
      number = λ s. elim (s.handle == handle) as (λ b. (cond b (record s { handle = 0 }) s).number
          ≡ s.number) [ true ↦ refl | false ↦ refl ];
      size = λ s. elim (s.handle == handle) as (λ b. (cond b (record s { handle = 0 }) s).buffers.size
          ≡ s.buffers.size) [ true ↦ refl | false ↦ refl ];
      format = λ s. elim (s.handle == handle) as (λ b. (cond b (record s { handle = 0 }) s).buffers.format
          ≡ s.buffers.format) [ true ↦ refl | false ↦ refl ];
      buffers =
          λ s. elim (s.handle == handle) as (λ b. (cond b (record s { handle = 0 }) s).buffers.buffers
          ≡ s.buffers.buffers) [ true ↦ refl | false ↦ refl ];
    }
