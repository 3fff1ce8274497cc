-- A round of a made script is played: eighteen turns, and one frame.
use Rattle.wf_turn.proofs.Common.{◌≡◌, ◌∙◌, ℕ, zero, suc, ◌+◌, ◌*◌, ◌<◌, ◌≤◌, ◌==◌, Bool, true, false, ◌&&◌, List, [], ◌∷◌, ◌++◌, length}
use Rattle.wf_turn.proofs.Common.{drop, find, Option, Some, None, refl, ap, arith, get_or, nat_tests, pos, bytes_eq, Line, Name, Frame}
use Rattle.wf_turn.proofs.Common.{Show}
use Rattle.wf_turn.proofs.Common.{Program, setup_lines, bound, bound_name, value_of, Bitmap, frame_of, painted_job, unwrap_or, option_map}
use Rattle.wf_turn.proofs.Common.{flat_map, range_with_len, Format, Size, drawn, Job, length-append, Buffers, Call, next, took, line_done}
use Rattle.wf_turn.proofs.Common.{bare, plain}
use Rattle.std.specs.Prelude.{◌%◌, codes, decimal, if◌then◌else◌}
use Rattle.std.proofs.lemmas.List.Folds.{find-append}
use Rattle.std.proofs.lemmas.List.FromFn.{length-range_with_len}
use Rattle.std.proofs.lemmas.Bool.{le-leb}
use Rattle.wf_pixel.specs.declared.Format.TheVariants.{Rgba8Pre, Rgbx8}
use Rattle.wf_pixel.specs.declared.Rect.{Rect}
use Rattle.wf_pixel.specs.declared.Rgba.{Rgba}
use Rattle.wf_image.specs.Bitmap.{blank, drawn_row, pixel, stored}
use Rattle.wf_image.specs.Paints.{named_colour, painted}
use Rattle.wf_image.specs.declared.paint.Paint.TheVariants as paint
use Rattle.wf_stream.specs.Buffers.{HasShape, acquired, ReadBuffer, is_blocked}
use Rattle.wf_scene.specs.declared.attributes.ElementAttr.TheVariants as element
use Rattle.wf_scene.specs.Elements.{plain as plain_style}
use Rattle.wf_calls.specs.declared.call.Call.TheVariants as call
use Rattle.wf_calls.specs.Replies.{done}
use Rattle.wf_model.specs.Picture.{picture_pixel}
use Rattle.wf_script.specs.declared.line.Verb.TheVariants as verb
use Rattle.wf_script.specs.Generator.{client_of_round, color_of_round, element_of_round, plain_line, round, source, stream}
use Rattle.wf_script.proofs.MadeStands.{other_numbers, same_bytes}
use Rattle.wf_turn.proofs.MadeRoundSteps.{Round, eight, state}
use Rattle.wf_turn.proofs.MadeRoundSteps as step
use Rattle.wf_turn.proofs.TurnsOfLines.{all_wait, events, own_lines, same, showing, waits}
use Rattle.wf_turn.proofs.LinesPlayed.{Plays, and_then, one_call, one_frame, one_tick, with_lines}

-- what stands in for no line
abbrev no_line : Line
no_line = plain_line 0 verb.Tick

-- names

-- the row under which a name stands first
abbrev looked_up : Name → List (Name × ℕ) → Option (Name × ℕ)
looked_up name rows = find (λ row. bytes_eq row.0 name) rows

found_last : (name : Name) (v : ℕ) (rows : List (Name × ℕ)) → looked_up name rows ≡ None
    → looked_up name (rows ++ (name, v) ∷ []) ≡ Some (name, v)
found_last name v rows none =
    find-append (λ row. bytes_eq row.0 name) rows ((name, v) ∷ []) ∙ rw (none, same_bytes name) refl

found_still : (name : Name) (row : Name × ℕ) (rows more : List (Name × ℕ)) → looked_up name rows ≡ Some row
    → looked_up name (rows ++ more) ≡ Some row
found_still name row rows more found = find-append (λ r. bytes_eq r.0 name) rows more ∙ rw found refl

unbound_still : (name other : Name) (v : ℕ) (rows : List (Name × ℕ)) → looked_up name rows ≡ None → bytes_eq other name ≡ false
    → looked_up name (rows ++ (other, v) ∷ []) ≡ None
unbound_still name other v rows none apart =
    find-append (λ r. bytes_eq r.0 name) rows ((other, v) ∷ []) ∙ rw (none, apart) refl

-- the device and the context, which the setup binds
abbrev pub of_setup : List (Name × ℕ)
of_setup = (codes "d", 1) ∷ (codes "c", 2) ∷ []

value_found : (name : Name) (v : ℕ) (rows known : List (Name × ℕ)) → looked_up name rows ≡ Some (name, v)
    → unwrap_or (value_of name (rows ++ known)) 0 ≡ v
value_found name v rows known found =
    ap (λ (o : Option (Name × ℕ)). unwrap_or (option_map (λ row. row.1) o) 0) (found_still name (name, v) rows known found)

value_known : (name : Name) (v : ℕ) (rows known : List (Name × ℕ)) → looked_up name rows ≡ None → looked_up name known ≡ Some (name, v)
    → unwrap_or (value_of name (rows ++ known)) 0 ≡ v
value_known name v rows known none found =
    let whole : looked_up name (rows ++ known) ≡ Some (name, v) = find-append (λ r. bytes_eq r.0 name) rows known ∙ rw none found in
    ap (λ (o : Option (Name × ℕ)). unwrap_or (option_map (λ row. row.1) o) 0) whole

-- only names of rounds before one are bound
pub record Old (i : ℕ) (rows : List (Name × ℕ)) : Type 0 where
  pub device : looked_up (codes "d") rows ≡ None
  pub context : looked_up (codes "c") rows ≡ None
  pub later : (letter j : ℕ) → i ≤ j → j < 1000 → looked_up (letter ∷ decimal j) rows ≡ None

pub nothing_bound : (i : ℕ) → Old i []
nothing_bound i = record { device = refl; context = refl; later = λ letter j from below. refl }

pub old_still : (i : ℕ) (rows : List (Name × ℕ)) → Old i rows → Old (i + 1) rows
old_still i rows old =
    record { device = old.device; context = old.context; later = λ letter j from below. old.later letter j (omega (arith, from)) below }

one_more : (i letter v : ℕ) (rows : List (Name × ℕ)) → (letter == 100) ≡ false → (letter == 99) ≡ false → Old (i + 1) rows
    → Old (i + 1) (rows ++ (letter ∷ decimal i, v) ∷ [])
one_more i letter v rows no_device no_context old = record {
  device = unbound_still (codes "d") (letter ∷ decimal i) v rows old.device (rw no_device refl);
  context = unbound_still (codes "c") (letter ∷ decimal i) v rows old.context (rw no_context refl);
  later = λ other j from below.
      unbound_still (other ∷ decimal j) (letter ∷ decimal i) v rows (old.later other j from below)
      (rw (other_numbers i j (omega (arith, from)) below) (and_false (letter == other)));
}
  where
    and_false : (b : Bool) → (b && false) ≡ false
    and_false true = refl
    and_false false = refl

-- with the names of one client
abbrev pub with_own : (ℕ → List (Name × ℕ)) → ℕ → List (Name × ℕ) → ℕ → List (Name × ℕ)
with_own own k rows j = if j == k then rows else own j

-- one tick more of the clock
abbrev ticked : (ℕ → ℕ) → ℕ → ℕ
ticked ticks j = if j == 0 then ticks 0 + 1 else ticks j

drawn_shape : (size : Size) (format : Format) (colour : ℕ → ℕ → Rgba) → HasShape size format (drawn size format colour)
unfolding drawn
drawn_shape size format colour = record { size_is = refl; format_is = refl }

-- a list of parts of one length
pub all_long : {A : Type 0} (part : A → List ℕ) (n : ℕ) → ((x : A) → length (part x) ≡ n) → (xs : List A)
    → length (flat_map part xs) ≡ length xs * n
all_long part n each [] = omega arith
all_long part n each (x ∷ xs) =
    let rest = all_long part n each xs in
    let first = each x in
    omega (arith, length-append (part x) (flat_map part xs), rest, first)

drawn_bytes : (size : Size) (colour : ℕ → ℕ → Rgba) → length (drawn size Rgba8Pre colour).bytes ≡ size.h * (size.w * 4)
unfolding drawn
drawn_bytes size colour =
    all_long (λ y. drawn_row size.w Rgba8Pre (λ x. colour x y)) (size.w * 4)
    (λ y. all_long (λ x. stored Rgba8Pre (colour x y)) 4 (λ x. refl) (range_with_len 0 size.w)
    ∙ ap (λ (n : ℕ). n * 4) (length-range_with_len 0 size.w))
    (range_with_len 0 size.h) ∙ ap (λ (n : ℕ). n * (size.w * 4)) (length-range_with_len 0 size.h)

-- what a round leaves: the images that its stream and the screen show, its frame, and where its script is played on
pub record RoundLeaves (sz : Size) (read was : ReadBuffer) (r : Round) (d : Rect) (i : ℕ) (lines more : List Line)
    (own learned : ℕ → List (Name × ℕ)) (before : List Frame) (start : Show) : Type 0 where
  pub image : Bitmap
  pub screen : Bitmap
  pub place : ℕ
  pub late : 2 < place
  pub own_next : ℕ → List (Name × ℕ)
  pub old : (j : ℕ) → Old i (own j) → Old (i + 1) (own_next j)
  pub ticks : ℕ → ℕ
  pub frame : Frame
  pub pixels : length frame.pixels ≡ sz.h * (sz.w * 4)
  pub turns : ℕ
  pub plays : Plays start
      (showing (state sz (step.finish sz read was r (5 * i % 56) (3 * i % 40) d image screen))
      (all_wait (with_lines lines) place more own_next learned ticks) (before ++ frame ∷ []) turns) 18

module _ (lines : List Line) (three : setup_lines lines ≡ 3) (more : List Line) (all : events more ≡ true) (a : ℕ) (late : 2 < a)
    (i : ℕ) (small : i < 1000) (own learned : ℕ → List (Name × ℕ)) (ticks : ℕ → ℕ) (frames : List Frame) (turns : ℕ)
    (knows : learned (client_of_round i) ≡ of_setup) (known : Old i (own (client_of_round i)))
    (sz : Size) (read was : ReadBuffer) (r : Round) (d : Rect) (later : Bool)
    (past : step.IsLater sz read was r (5 * i % 56) (3 * i % 40) d later) where
  abbrev k : ℕ
  k = client_of_round i

  few : k < 8
  few = omega arith

  not_clock : (0 == k) ≡ false
  not_clock = grind (arith, nat_tests)

  abbrev x : ℕ
  x = 5 * i % 56

  abbrev y : ℕ
  y = 3 * i % 40

  abbrev s : Name
  s = stream i

  abbrev u : Name
  u = source i

  abbrev e : Name
  e = element_of_round i

  -- the names that the client binds
  abbrev rows_1 : List (Name × ℕ)
  rows_1 = own k ++ (s, r.stream) ∷ []

  abbrev rows_2 : List (Name × ℕ)
  rows_2 = rows_1 ++ (u, r.source) ∷ []

  abbrev rows_3 : List (Name × ℕ)
  rows_3 = rows_2 ++ (e, r.element) ∷ []

  s_free : looked_up s (own k) ≡ None
  s_free = known.later 115 i (omega arith) small

  u_free : looked_up u rows_1 ≡ None
  u_free = unbound_still u s r.stream (own k) (known.later 120 i (omega arith) small) refl

  e_free : looked_up e rows_2 ≡ None
  e_free = unbound_still e u r.source rows_1 (unbound_still e s r.stream (own k) (known.later 101 i (omega arith) small) refl) refl

  s_1 : looked_up s rows_1 ≡ Some (s, r.stream)
  s_1 = found_last s r.stream (own k) s_free

  s_3 : looked_up s rows_3 ≡ Some (s, r.stream)
  s_3 = found_still s (s, r.stream) rows_2 ((e, r.element) ∷ []) (found_still s (s, r.stream) rows_1 ((u, r.source) ∷ []) s_1)

  u_3 : looked_up u rows_3 ≡ Some (u, r.source)
  u_3 = found_still u (u, r.source) rows_2 ((e, r.element) ∷ []) (found_last u r.source rows_1 u_free)

  e_3 : looked_up e rows_3 ≡ Some (e, r.element)
  e_3 = found_last e r.element rows_2 e_free

  old_1 : Old (i + 1) rows_1
  old_1 = one_more i 115 r.stream (own k) refl refl (old_still i (own k) known)

  old_2 : Old (i + 1) rows_2
  old_2 = one_more i 120 r.source rows_1 refl refl old_1

  old_3 : Old (i + 1) rows_3
  old_3 = one_more i 101 r.element rows_2 refl refl old_2

  device_in : (rows : List (Name × ℕ)) → Old (i + 1) rows → unwrap_or (value_of (codes "d") (rows ++ of_setup)) 0 ≡ 1
  device_in rows old = value_known (codes "d") 1 rows of_setup old.device refl

  context_in : (rows : List (Name × ℕ)) → Old (i + 1) rows → unwrap_or (value_of (codes "c") (rows ++ of_setup)) 0 ≡ 2
  context_in rows old = value_known (codes "c") 2 rows of_setup old.context refl

  -- the lines from one of the round on
  abbrev from : ℕ → List Line
  from n = drop n (round i) ++ more

  -- where each stands
  abbrev at : ℕ → ℕ
  at zero = a
  at (suc n) = at n + 1

  late_at : (n : ℕ) → 2 < at n
  late_at zero = late
  late_at (suc n) = omega (arith, late_at n)

  -- the names that it finds
  stream_in : (rows : List (Name × ℕ)) → looked_up s rows ≡ Some (s, r.stream) → unwrap_or (value_of s (rows ++ of_setup)) 0 ≡ r.stream
  stream_in rows found = value_found s r.stream rows of_setup found

  its_source : unwrap_or (value_of u (rows_3 ++ of_setup)) 0 ≡ r.source
  its_source = value_found u r.source rows_3 of_setup u_3

  its_element : unwrap_or (value_of e (rows_3 ++ of_setup)) 0 ≡ r.element
  its_element = value_found e r.element rows_3 of_setup e_3

  -- what it paints, and the pictures of the context and of the port
  abbrev content : Bitmap
  content = painted (blank eight Rgbx8) (paint.Fill (color_of_round i))

  is_content : HasShape eight Rgbx8 content
  is_content =
      drawn_shape eight Rgbx8
      (λ m n. unwrap_or (named_colour (paint.Fill (color_of_round i)) eight m n) (pixel (blank eight Rgbx8) m n))

  abbrev composing : Job
  composing = step.composing sz read was r x y d content (blank sz Rgbx8)

  abbrev drawn_screen : Bitmap
  drawn_screen = (painted_job composing).image

  is_screen : HasShape sz Rgbx8 drawn_screen
  is_screen = drawn_shape sz Rgbx8 (picture_pixel composing.scene composing.contents)

  abbrev shown_job : Job
  shown_job = step.showing sz read was r x y d drawn_screen (blank sz Rgba8Pre)

  abbrev port_image : Bitmap
  port_image = (painted_job shown_job).image

  is_whole : HasShape sz Rgba8Pre port_image
  is_whole = drawn_shape sz Rgba8Pre (picture_pixel shown_job.scene shown_job.contents)

  -- the states behind its lines
  abbrev new : Buffers
  new = step.new_buffers sz read was r x y d

  abbrev filled : Buffers
  filled = step.filled sz read was r x y d content

  abbrev parts : ℕ → step.Parts
  parts zero = step.start sz read was r x y d later
  parts (suc zero) = step.with_stream sz read was r x y d later new
  parts (suc (suc zero)) = step.with_source sz read was r x y d later new
  parts (suc (suc (suc zero))) = step.set_to sz read was r x y d later plain_style 0
  parts (suc (suc (suc (suc zero)))) = step.set_to sz read was r x y d later plain_style r.source
  parts (suc (suc (suc (suc (suc zero))))) = step.set_to sz read was r x y d later (step.whole_style sz read was r x y d) r.source
  parts (suc (suc (suc (suc (suc (suc zero)))))) = step.set_to sz read was r x y d later (step.its_style sz read was r x y d) r.source
  parts (suc (suc (suc (suc (suc (suc (suc zero))))))) = step.placed sz read was r x y d later new
  parts (suc (suc (suc (suc (suc (suc (suc (suc zero)))))))) = step.placed sz read was r x y d later filled
  parts n = step.committed sz read was r x y d (step.idle sz read) filled

  abbrev now : ℕ → ℕ
  now zero = turns
  now (suc n) = now n + 1

  -- its lines
  abbrev line : ℕ → Line
  line n = get_or (round i) n no_line

  -- a line that is one call
  module _ (n : ℕ) (ls : List Line) (mine : (line n).client ≡ k) (rest : events ls ≡ true) (before after : step.Parts)
      (rows rows_next : List (Name × ℕ)) (c : Call) (v : ℕ) (ticks_now : ℕ → ℕ) (frames_now : List Frame) (turns_now : ℕ) where
    abbrev its_program : Program
    its_program = waits (with_lines lines) k ((at n, line n) ∷ own_lines k (at n + 1) ls) rows of_setup (ticks_now k)

    its_call : next its_program ≡ Some (plain c) → took its_program (bare (done v)) ≡ line_done its_program v
        → rows_next ≡ bound (bound_name (line n)) v rows → step.Answers sz read was r x y d before k c v after
        → Plays
        (showing (state sz before) (all_wait (with_lines lines) (at n) (line n ∷ ls) (with_own own k rows) learned ticks_now) frames_now
        turns_now)
        (showing (state sz after) (all_wait (with_lines lines) (at n + 1) ls (with_own own k rows_next) learned ticks_now) frames_now
        (turns_now + 1)) 1
    its_call asks took_is next_is answers =
        one_call lines three (at n) (late_at n) ls rest (with_own own k rows) learned ticks_now frames_now turns_now k few (line n) mine
        rows of_setup (own_is rows) knows (state sz before) (state sz after) c v (with_own own k rows_next) asks answers took_is
        (own_is rows_next ∙ next_is) (λ j other. rw other refl)
      where
        own_is : (names : List (Name × ℕ)) → with_own own k names k ≡ names
        own_is names = rw (same k) refl

  abbrev at_line : ℕ → List (Name × ℕ) → ℕ → Show
  at_line n rows turns_now =
      showing (state sz (parts n)) (all_wait (with_lines lines) (at n) (from n) (with_own own k rows) learned ticks) frames turns_now

  line_0 : step.HasRoom sz read was r x y d later
      → Plays (showing (state sz (parts 0)) (all_wait (with_lines lines) a (round i ++ more) own learned ticks) frames turns)
      (at_line 1 rows_1 (now 1)) 1
  line_0 room =
      one_call lines three a late (from 1) all own learned ticks frames turns k few (line 0) refl (own k) of_setup refl knows
      (state sz (parts 0)) (state sz (parts 1)) (call.StreamNew (pos 8) (pos 8) Rgbx8 (pos 2)) r.stream (with_own own k rows_1) refl
      (step.stream_made sz read was r x y d later past room k) refl (rw (same k) refl) (λ j other. rw other refl)

  line_1 : Plays (at_line 1 rows_1 (now 1)) (at_line 2 rows_2 (now 2)) 1
  line_1 =
      its_call 1 (from 2) refl all (parts 1) (parts 2) rows_1 rows_2
      (call.SourceNew 1 2 r.stream) r.source ticks frames (now 1)
      (rw (device_in rows_1 old_1, context_in rows_1 old_1, stream_in rows_1 s_1) refl) refl refl
      (step.source_made sz read was r x y d later past k)

  line_2 : Plays (at_line 2 rows_2 (now 2)) (at_line 3 rows_3 (now 3)) 1
  line_2 =
      its_call 2 (from 3) refl all (parts 2) (parts 3) rows_2 rows_3
      (call.ElementNew 1 2) r.element ticks frames (now 2)
      (rw (device_in rows_2 old_2, context_in rows_2 old_2) refl) refl refl (step.element_made sz read was r x y d later past k)

  line_3 : Plays (at_line 3 rows_3 (now 3)) (at_line 4 rows_3 (now 4)) 1
  line_3 =
      its_call 3 (from 4) refl all (parts 3) (parts 4) rows_3 rows_3
      (call.ElementSet 1 r.element element.Source (pos r.source ∷ pos 0 ∷ pos 0 ∷ pos 0 ∷ [])) 0 ticks frames (now 3)
      (rw (device_in rows_3 old_3, its_element, its_source) refl) refl refl (step.source_set sz read was r x y d later past k)

  line_4 : Plays (at_line 4 rows_3 (now 4)) (at_line 5 rows_3 (now 5)) 1
  line_4 =
      its_call 4 (from 5) refl all (parts 4) (parts 5) rows_3 rows_3
      (call.ElementSet 1 r.element element.SrcRect (pos 0 ∷ pos 0 ∷ pos 8 ∷ pos 8 ∷ [])) 0 ticks frames (now 4)
      (rw (device_in rows_3 old_3, its_element) refl) refl refl (step.rectangle_set sz read was r x y d later past k)

  line_5 : Plays (at_line 5 rows_3 (now 5)) (at_line 6 rows_3 (now 6)) 1
  line_5 =
      its_call 5 (from 6) refl all (parts 5) (parts 6) rows_3 rows_3
      (call.ElementSet 1 r.element element.Dest (pos x ∷ pos y ∷ pos 8 ∷ pos 8 ∷ [])) 0 ticks frames (now 5)
      (rw (device_in rows_3 old_3, its_element) refl) refl refl
      (step.destination_set sz read was r x y d later past (le-leb x 16384 (omega arith)) (le-leb y 16384 (omega arith)) k)

  line_6 : Plays (at_line 6 rows_3 (now 6)) (at_line 7 rows_3 (now 7)) 1
  line_6 =
      its_call 6 (from 7) refl all (parts 6) (parts 7) rows_3 rows_3
      (call.ElementInsert 1 r.element 0) 0 ticks frames (now 6)
      (rw (device_in rows_3 old_3, its_element) refl) refl refl (step.element_inserted sz read was r x y d later past k)

  line_7 : Plays (at_line 7 rows_3 (now 7)) (at_line 8 rows_3 (now 9)) 2
  line_7 =
      one_frame lines three (at 7) (late_at 7) (from 8) all (with_own own k rows_3) learned ticks frames (now 7) k few (Some s)
      (paint.Fill (color_of_round i)) rows_3 of_setup (rw (same k) refl) knows (state sz (parts 7))
      (state sz (step.placed sz read was r x y d later (acquired new))) (state sz (parts 8)) r.stream
      (record { stream = r.number; image = blank eight Rgbx8 }) (stream_in rows_3 s_3) (step.acquired_by sz read was r x y d later past k)
      (step.posted_by sz read was r x y d later past content is_content k)

  line_8 : Plays (at_line 8 rows_3 (now 9)) (at_line 9 rows_3 (now 10)) 1
  line_8 =
      its_call 8 (from 9) refl all (parts 8) (parts 9) rows_3 rows_3 (call.Commit 1 2) 0 ticks frames (now 9)
      (rw (device_in rows_3 old_3, context_in rows_3 old_3) refl) refl refl (step.committed_by sz read was r x y d later past content k)

  -- behind the tick there is a frame more
  abbrev its_frame : Frame
  its_frame = frame_of 1 (ticks 0 + 1) (now 13) port_image

  abbrev frames_now : List Frame
  frames_now = frames ++ its_frame ∷ []

  abbrev at_end : step.Parts → ℕ → ℕ → Show
  at_end left n turns_now =
      showing (state sz left) (all_wait (with_lines lines) (at n) (from n) (with_own own k rows_3) learned (ticked ticks)) frames_now
      turns_now

  abbrev shown : step.Parts
  shown = step.is_shown sz read was r x y d content drawn_screen

  abbrev without_element : step.Parts
  without_element = step.without_element sz read was r x y d content drawn_screen

  abbrev without_source : step.Parts
  without_source = step.without_source sz read was r x y d content drawn_screen

  line_9 : is_blocked (step.idle sz read) ≡ false → Plays (at_line 9 rows_3 (now 10)) (at_end shown 10 (now 15)) 5
  line_9 free =
      one_tick lines three (at 9) (late_at 9) (from 10) all (with_own own k rows_3) learned ticks frames (now 10) composing.number
      shown_job.number composing.scene shown_job.scene composing.contents shown_job.contents composing.image shown_job.image
      (state sz (parts 9)) (state sz (step.in_composing sz read was r x y d content))
      (state sz (step.is_composed sz read was r x y d content drawn_screen))
      (state sz (step.in_showing sz read was r x y d content drawn_screen)) (state sz shown) (ticked ticks) refl refl
      (step.composed_by sz read was r x y d content is_content free 0)
      (step.composed_to_end sz read was r x y d content drawn_screen is_content is_screen 0)
      (step.no_more_contexts sz read was r x y d content drawn_screen 0) (step.shown_by sz read was r x y d content drawn_screen 0)
      (step.shown_to_end sz read was r x y d content drawn_screen port_image is_screen is_whole 0) refl (λ j other. rw other refl)

  line_10 : Plays (at_end shown 10 (now 15)) (at_end without_element 11 (now 16)) 1
  line_10 =
      its_call 10 (from 11) refl all shown without_element rows_3 rows_3 (call.ElementDestroy 1 r.element) 0 (ticked ticks) frames_now
      (now 15) (rw (device_in rows_3 old_3, its_element) refl) refl refl (step.element_destroyed sz read was r x y d content drawn_screen k)

  line_11 : Plays (at_end without_element 11 (now 16)) (at_end without_source 12 (now 17)) 1
  line_11 =
      its_call 11 (from 12) refl all without_element without_source rows_3 rows_3 (call.SourceDestroy 1 r.source) 0 (ticked ticks)
      frames_now (now 16) (rw (device_in rows_3 old_3, its_source) refl) refl refl
      (step.source_destroyed sz read was r x y d content drawn_screen k)

  line_12 : Plays (at_end without_source 12 (now 17)) (at_end (step.finish sz read was r x y d content drawn_screen) 13 (now 18)) 1
  line_12 =
      its_call 12 more refl all without_source (step.finish sz read was r x y d content drawn_screen) rows_3 rows_3
      (call.StreamDestroy r.stream) 0 (ticked ticks) frames_now (now 17) (rw (stream_in rows_3 s_3) refl) refl refl
      (step.stream_destroyed sz read was r x y d content drawn_screen k)

  old_now : (j : ℕ) → Old i (own j) → Old (i + 1) (with_own own k rows_3 j)
  old_now j old = of_test (j == k)
    where
      of_test : (t : Bool) → Old (i + 1) (if t then rows_3 else own j)
      of_test true = old_3
      of_test false = old_still i (own j) old

  pub round_plays : step.HasRoom sz read was r x y d later → is_blocked (step.idle sz read) ≡ false
      → RoundLeaves sz read was r d i lines more own learned frames
      (showing (state sz (parts 0)) (all_wait (with_lines lines) a (round i ++ more) own learned ticks) frames turns)
  round_plays room free = record {
    image = content;
    screen = drawn_screen;
    place = at 13;
    late = late_at 13;
    own_next = with_own own k rows_3;
    old = old_now;
    ticks = ticked ticks;
    frame = its_frame;
    pixels = drawn_bytes sz (picture_pixel shown_job.scene shown_job.contents);
    turns = now 18;
    plays = and_then (line_0 room) (and_then line_1 (and_then line_2 (and_then line_3 (and_then line_4 (and_then line_5 (and_then line_6
        (and_then line_7 (and_then line_8 (and_then (line_9 free) (and_then line_10 (and_then line_11 line_12)))))))))));
  }
