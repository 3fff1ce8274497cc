-- How the handle table is kept: a map from live handles to what they stand for, and a count of each kind.
use Rattle.std.specs.Prelude.{◌≡◌, ℕ, ◌≤◌, List, map, slice_index}
use Rattle.wf_life.specs.declared.Kind.{Kind}
use Rattle.wf_life.specs.declared.Kind.TheVariants as kind
use Rattle.wf_life.specs.declared.handles.Object.{Object}
use Rattle.wf_life.specs.declared.handles.Handles.TheInside.{Inside}
use Rattle.wf_life.specs.Handles.{Live, Table, live_count, IsRising}

-- the place of a kind among the counts
abbrev pub place_of : Kind → ℕ
place_of kind.Stream = 0
place_of kind.Device = 1
place_of kind.Context = 2
place_of kind.Element = 3
place_of kind.Source = 4
place_of kind.Mask = 5
place_of kind.DisplaySource = 6

-- an entry of the map
abbrev pub live_of : ℕ × Object → Live
live_of e = record { handle = e.0; kind = e.1.kind; key = e.1.key }

-- what the fields stand for
abbrev pub table_of : Inside → Table
table_of h = record { made = h.made; live = map live_of h.live.entries }

-- the counts are those of the live objects
abbrev pub IsTally : List ℕ → List Live → Type 0
IsTally counts live = (k : Kind) → slice_index counts (place_of k) ≡ live_count k live

-- what holds of the fields of every handle table
pub record IsSound (h : Inside) : Type 0 where
  pub limit : h.made ≤ 4294967291
  pub rising : IsRising 0 (table_of h).live h.made
  pub tally : IsTally h.counts (table_of h).live
