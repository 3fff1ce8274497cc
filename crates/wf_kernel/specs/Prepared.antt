-- What is worked out of a layer once for all rows of its target.
use Rattle.std.specs.Prelude.{◌≡◌, ℕ, ◌+◌, ◌-◌, ◌<◌, ◌≤◌, ◌==◌, Bool, true, false, if◌then◌else◌, pos, Some, List, length, slice_index}
use Rattle.std.specs.Prelude.{slice_index_or, nat_abs, IsTrue, take}
use Rattle.std.specs.List.{count_by}
use Rattle.std.proofs.Common.{subst}
use Rattle.wf_pixel.specs.declared.Rotation.{Rotation}
use Rattle.wf_pixel.specs.declared.Size.{Size}
use Rattle.wf_pixel.specs.Choice.{has_sides}
use Rattle.wf_pixel.specs.Along.{along}
use Rattle.wf_pixel.specs.Place.{turned, size_of}
use Rattle.wf_scene.specs.declared.Layer.{Layer}
use Rattle.wf_scene.specs.declared.Scene.{Scene}
use Rattle.wf_kernel.specs.declared.spans.Span.{Span}
use Rattle.wf_kernel.specs.declared.placing.Walk.{Walk}
use Rattle.wf_kernel.specs.declared.placing.Walk.TheVariants.{Forward, Backward, Table}
use Rattle.wf_kernel.specs.Bound.{Bound, IsShowable, cut_to}
use Rattle.wf_kernel.specs.Placed.{placed, column_of, row_of, left_on, across, is_crossed}
use Rattle.wf_kernel.specs.Spans.{IsReach}
use Rattle.wf_kernel.specs.Hiding.{HidesBelow}
use Rattle.wf_pixel.specs.declared.TheConstants.{MOST_SIDE}

-- the columns of the target go along a row of the source, and the pixel at distance a is this one of that row
pub record GoesAlong (turn : Rotation) (l : Layer) (column : ℕ → ℕ) : Type 0 where
  pub straight : is_crossed turn l ≡ false
  pub wide : l.src.w ≡ (turned turn (size_of l.dest)).w
  pub column_is : (a : ℕ) → a < l.src.w → across turn l a ≡ column a

-- how the columns of the target go over the source
abbrev pub IsWalk : Rotation → Layer → Walk → Type 0
IsWalk turn l Forward = GoesAlong turn l (λ a. nat_abs l.src.x + a)
IsWalk turn l Backward = GoesAlong turn l (λ a. nat_abs l.src.x + (l.src.w - 1 - a))
IsWalk turn l Table = Unit {0}

-- a source's columns cannot be taken one after the other
abbrev pub needs_table : Rotation → Layer → Bool
needs_table turn l =
    if is_crossed turn l then true else (if l.src.w == (turned turn (size_of l.dest)).w then false else true)

-- the coordinates of the source by the column of the target, in the columns from `left` to the one before `right`
pub record IsTable (turn : Rotation) (space : Size) (left right : ℕ) (l : Layer) (table : List ℕ) : Type 0 where
  pub long : length table ≡ MOST_SIDE
  pub holds : (x a : ℕ) → cut_to left right x (along (left_on turn space l.dest) (turned turn (size_of l.dest)).w (pos x)) ≡ Some a
      → slice_index table x ≡ across turn l a

-- how many of the first n layers of a scene need a table: the place of the next one's
abbrev pub tables_before : Scene → ℕ → ℕ
tables_before scene n = count_by (needs_table scene.turn) (take n scene.layers.items)

-- how many layers of a scene need one
abbrev pub table_count : Scene → ℕ
table_count scene = count_by (needs_table scene.turn) scene.layers.items

-- each layer of a scene that needs a table has it for these columns, one after the other
abbrev pub AreTables : Scene → ℕ → ℕ → List (List ℕ) → Type 0
AreTables scene left right tables =
    (i : ℕ) (d : Layer) (e : List ℕ) → i < length scene.layers.items
    → needs_table scene.turn (slice_index_or scene.layers.items i d) ≡ true
    → (tables_before scene i < length tables)
    × IsTable scene.turn (turned scene.turn scene.size) left right (slice_index_or scene.layers.items i d)
    (slice_index_or tables (tables_before scene i) e)

-- a layer is on these columns of its target, of those that are asked for, and on these rows; if it hides, it does at each point
-- of them; and its table is there where it is needed
pub record IsPrepared (b : Bound) (columns rows : Span) (hides crossed : Bool) (walk : Walk) (table : List ℕ) : Type 0 where
  pub showable : IsShowable b
  pub space_is : IsTrue (has_sides b.space)
  pub order : b.left ≤ b.right
  pub right_high : b.right ≤ MOST_SIDE
  pub columns_are : IsReach (column_of b) (placed b).w columns
  pub rows_are : IsReach (row_of b) (placed b).h rows
  pub hides_below : IsTrue hides → HidesBelow b
  pub crossed_is : crossed ≡ is_crossed b.turn b.layer
  pub walk_is : IsWalk b.turn b.layer walk
  pub table_is : walk ≡ Table → IsTable b.turn b.space b.left b.right b.layer table

-- what is known of a layer by its fields is known of it by its value
pub prepared_as : {b c : Bound} {columns rows : Span} {hides crossed : Bool} {walk : Walk} {table : List ℕ}
    → b ≡ c → IsPrepared b columns rows hides crossed walk table → IsPrepared c columns rows hides crossed walk table
prepared_as {columns = columns} {rows = rows} {hides = hides} {crossed = crossed} {walk = walk} {table = table} same prepared =
    subst (λ (b : Bound). IsPrepared b columns rows hides crossed walk table) same prepared
