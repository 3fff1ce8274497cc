-- The text of a log: for each stretch the first happenings, as many as the queue has room for, and how many more there were.
use Rattle.std.specs.Prelude.{ℕ, ◌-◌, Bool, true, false, ◌==◌, List, [], ◌++◌, length, take, flat_map, codes, decimal, if◌then◌else◌}
use Rattle.wf_events.specs.declared.happening.Happening.{Happening}
use Rattle.wf_events.specs.declared.happening.Happening.TheVariants as happening

abbrev pub bit : Bool → ℕ
bit true = 1
bit false = 0

abbrev pub text_of : Happening → List ℕ
text_of (happening.Bind pipe) = codes "bind " ++ decimal pipe
text_of (happening.Attach port on) = codes "attach " ++ decimal port ++ codes " " ++ decimal (bit on)
text_of (happening.Released count) = codes "released " ++ decimal count

-- a happening with the place in the order of its turn, counted from 0
abbrev pub Placed : Type 0
Placed = ℕ × Happening

abbrev pub line_of : Placed → List ℕ
line_of p = decimal p.0 ++ codes " " ++ text_of p.1 ++ codes "\n"

abbrev pub lost_line : ℕ → List ℕ
lost_line n = if n == 0 then [] else codes "lost " ++ decimal n ++ codes "\n"

-- the lines of a stretch, by the depth of the queue
abbrev pub stretch_text : ℕ → List Placed → List ℕ
stretch_text depth ps = flat_map line_of (take depth ps) ++ lost_line (length ps - depth)

-- those of all stretches
abbrev pub log_text : ℕ → List (List Placed) → List ℕ
log_text depth stretches = flat_map (stretch_text depth) stretches
