-- How the streams are kept: a map from numbers to the places in a pool, each place with one number, and the sum of their bytes.
use Rattle.std.specs.Prelude.{◌≡◌, ◌≢◌, ℕ, ◌<◌, ◌≤◌, List, [], ◌∷◌, map, unwrap_or, None}
use Rattle.wf_life.specs.declared.pool.Kept.{Kept}
use Rattle.wf_life.specs.Pool.{IsKept, kept_at, value_at, count_at}
use Rattle.std.specs.Prelude.{Option}
use Rattle.wf_pixel.specs.declared.Format.TheVariants.{A8}
use Rattle.wf_stream.specs.declared.streams.Place.{Place}
use Rattle.wf_stream.specs.declared.streams.Streams.TheInside.{Inside}
use Rattle.wf_stream.specs.Buffers.{Buffers, fresh, buffer_bytes}
use Rattle.wf_stream.specs.Counts.{Counts}
use Rattle.wf_stream.specs.Streams.{KeptStream, StreamTable, IsNumbered, held}
use Rattle.wf_stream.specs.declared.TheConstants.{STREAM_BYTES}

-- the buffers under a key of the pool; each key that a place has is kept
abbrev pub pooled : ℕ → List (Option (Kept Buffers)) → Buffers
pooled key pool = unwrap_or (value_at key pool) (fresh (record { w = 0; h = 0 }) A8 0)

abbrev pub kept_stream : List (Option (Kept Buffers)) → ℕ × Place → KeptStream
kept_stream pool e = record { number = e.0; handle = e.1.handle; buffers = pooled e.1.key pool }

abbrev pub streams_in : List (Option (Kept Buffers)) → List (ℕ × Place) → List KeptStream
streams_in pool places = map (kept_stream pool) places

abbrev pub place_count : List (Option (Kept Buffers)) → ℕ × Place → ℕ × ℕ
place_count pool e = (e.0, count_at e.1.key pool)

abbrev pub counts_in : List (Option (Kept Buffers)) → List (ℕ × Place) → Counts
counts_in pool places = map (place_count pool) places

abbrev pub stream_table : Inside → StreamTable
stream_table s =
    record {
      streams = streams_in s.pool s.places.entries;
      counts = counts_in s.pool s.places.entries;
    }

-- the pool keeps a stream for each place
abbrev pub AreKept : List (Option (Kept Buffers)) → List (ℕ × Place) → Type 0
AreKept pool [] = Unit {0}
AreKept pool (e ∷ places) = IsKept e.1.key pool × AreKept pool places

-- no place has this key
abbrev pub HasNone : ℕ → List (ℕ × Place) → Type 0
HasNone key [] = Unit {0}
HasNone key (e ∷ places) = (e.1.key ≢ key) × HasNone key places

-- a key that no place has keeps nothing
abbrev pub KeepsNoOther : List (Option (Kept Buffers)) → List (ℕ × Place) → Type 0
KeepsNoOther pool places = (key : ℕ) → HasNone key places → kept_at key pool ≡ None

-- the stream of each place has a name
abbrev pub AreCounted : List (Option (Kept Buffers)) → List (ℕ × Place) → Type 0
AreCounted pool [] = Unit {0}
AreCounted pool (e ∷ places) = (0 < count_at e.1.key pool) × AreCounted pool places

-- no two places have one key
abbrev pub AreApart : List (ℕ × Place) → Type 0
AreApart [] = Unit {0}
AreApart (e ∷ places) = HasNone e.1.key places × AreApart places

-- no stream has more than 36 MiB
abbrev pub AreSmall : List KeptStream → Type 0
AreSmall [] = Unit {0}
AreSmall (s ∷ streams) = (buffer_bytes s.buffers ≤ STREAM_BYTES) × AreSmall streams

-- how many bytes the streams have together. None is large, so those of as many streams as there are numbers fit into 64 bits.
pub record AreMeasured (bytes : ℕ) (streams : List KeptStream) : Type 0 where
  pub sum : bytes ≡ (held streams).bytes
  pub small : AreSmall streams

pub record IsSound (s : Inside) : Type 0 where
  pub rising : IsNumbered 0 (streams_in s.pool s.places.entries) 4294967295
  pub kept : AreKept s.pool s.places.entries
  pub apart : AreApart s.places.entries
  pub counted : AreCounted s.pool s.places.entries
  pub no_other : KeepsNoOther s.pool s.places.entries
  pub measured : AreMeasured s.bytes (streams_in s.pool s.places.entries)
