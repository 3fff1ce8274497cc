-- How the buffers of a stream are kept: the images that are at home, each of the stream's size and format.
use Rattle.std.specs.Prelude.{◌≡◌, ℕ, ◌+◌, ◌<◌, ◌≤◌, ◌⊎◌, ◌==◌, length, IsTrue, if◌then◌else◌}
use Rattle.std.specs.List.{All}
use Rattle.std.specs.Option.{ForSome}
use Rattle.std.specs.Vec.{vec_len, vec_capacity}
use Rattle.wf_pixel.specs.Choice.{has_sides}
use Rattle.wf_stream.specs.declared.TheConstants.{MOST_DEPTH}
use Rattle.wf_stream.specs.declared.stream.Read.{Read}
use Rattle.wf_stream.specs.declared.stream.Read.TheVariants as kept
use Rattle.wf_stream.specs.declared.stream.Stream.TheInside.{Inside}
use Rattle.wf_stream.specs.Buffers.{Buffers, ReadBuffer, never, away, home, HasShape, out_count, read_count, home_image}

abbrev pub read_of : Read → ReadBuffer
read_of kept.Never = never
read_of kept.Away = away
read_of (kept.Home image) = home image

abbrev pub buffers_of : Inside → Buffers
buffers_of s =
    record {
      size = s.size;
      format = s.format;
      buffers = s.buffers;
      depth = s.depth;
      out = s.out;
      waiting = s.waiting.items;
      read = read_of s.read;
    }

-- how many images may wait: one in a plain stream
abbrev pub most_waiting : ℕ → ℕ
most_waiting depth = if depth == 0 then 1 else depth

-- a plain stream has 2 to 4 buffers, and a queue one more than its depth
abbrev pub HasBuffers : ℕ → ℕ → Type 0
HasBuffers depth buffers = ((depth ≡ 0) × (2 ≤ buffers) × (buffers ≤ 4)) ⊎ ((0 < depth) × (depth ≤ MOST_DEPTH) × (buffers ≡ depth + 1))

pub record IsSound (s : Inside) : Type 0 where
  pub sides : IsTrue (has_sides s.size)
  pub has : HasBuffers s.depth s.buffers
  -- each buffer is free, out, waiting or read, and there is room for all of them to be free
  pub count : vec_len s.free + out_count s.out + length s.waiting.items + read_count (read_of s.read) ≡ s.buffers
  pub room : vec_capacity s.free ≡ s.buffers
  pub ring : s.waiting.capacity ≡ most_waiting s.depth
  pub fits : length s.waiting.items ≤ s.waiting.capacity
  -- what a write buffer of a queue holds has room to wait
  pub next : IsTrue s.out → 0 < s.depth → length s.waiting.items < s.depth
  pub free : All (HasShape s.size s.format) s.free.items
  pub waiting : All (HasShape s.size s.format) s.waiting.items
  pub read : ForSome (home_image (read_of s.read)) (HasShape s.size s.format)

-- what is left where the image that is home goes away
abbrev pub left_of : Read → Read
left_of kept.Never = kept.Never
left_of _ = kept.Away
