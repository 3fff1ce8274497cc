-- The calls of a round of a made script are all carried out, on the plain machine.
use Rattle.std.proofs.Common.{◌≡◌, ℕ, ◌+◌, ◌<◌, ◌≤◌, Bool, true, false, ◌==◌}
use Rattle.std.proofs.Common.{nat_lt, nat_le, pos, List, [], ◌∷◌, ◌++◌, Option, Some, None, refl}
use Rattle.std.proofs.Common.{arith}
use Rattle.std.proofs.lemmas.Bool.{eq-eqb}
use Rattle.std.proofs.lemmas.Bool.Decides.{nat_tests}
use Rattle.wf_pixel.specs.declared.Rect.{Rect}
use Rattle.wf_pixel.specs.declared.Size.{Size}
use Rattle.wf_pixel.specs.declared.Format.TheVariants.{Rgba8Pre, Rgbx8}
use Rattle.wf_pixel.specs.declared.Rotation.TheVariants.{R0}
use Rattle.wf_pixel.specs.Choice.{black}
use Rattle.wf_image.specs.Bitmap.{Bitmap, blank}
use Rattle.wf_stream.specs.Buffers.{Buffers, HasShape, ReadBuffer, acquired, away, fresh, home, is_blocked}
use Rattle.wf_stream.specs.Streams.{KeptStream, has_no_room}
use Rattle.wf_scene.specs.declared.Layer.{Layer}
use Rattle.wf_scene.specs.declared.element.Element.{Element}
use Rattle.wf_scene.specs.declared.style.Style.{Style}
use Rattle.wf_scene.specs.Elements.{layer_in, plain}
use Rattle.wf_scene.specs.declared.attributes.ElementAttr.TheVariants as element
use Rattle.wf_calls.specs.declared.call.Call.{Call}
use Rattle.wf_calls.specs.declared.call.Call.TheVariants as call
use Rattle.wf_calls.specs.declared.call.Job.{Job}
use Rattle.wf_calls.specs.declared.call.JobKind.TheVariants as kind
use Rattle.wf_calls.specs.Replies.{bare, done, gives_canvas, gives_job}
use Rattle.wf_model.specs.Display.{scene_of_port}
use Rattle.wf_model.specs.Frames.{running_of}
use Rattle.wf_model.specs.Objects.{Source}
use Rattle.wf_model.specs.State.{Running, State, initial_pipeline, initial_port}
use Rattle.wf_model.specs.Step.{act, step}

-- the screen with these buffers, and its buffers while nothing is out
abbrev pub screen : Buffers → KeptStream
screen buffers = record { number = 1; handle = 0; buffers = buffers }

abbrev pub idle : Size → ReadBuffer → Buffers
idle sz read = record { size = sz; format = Rgbx8; buffers = 3; depth = 0; out = false; waiting = []; read = read }

-- the state with what changes in a round
pub record Parts : Type 0 where
  pub made : ℕ
  pub numbered : ℕ
  pub begun : ℕ
  pub streams : List KeptStream
  pub elements : List Element
  pub order : List ℕ
  pub layers : List Layer
  pub sources : List Source
  pub frame : Option Running

abbrev pub state : Size → Parts → State
state sz p = record {
  made = p.made;
  numbered = p.numbered;
  begun = p.begun;
  streams = p.streams;
  core = record {
    devices = record { handle = 1; register = None } ∷ [];
    contexts = record {
      handle = 2;
      device = 1;
      port = 1;
      target = 1;
      active = true;
      cached = record { size = sz; on_screen = true; turn = R0; background = black; elements = p.elements; order = p.order };
      committed = record { size = sz; turn = R0; background = black; layers = record { items = p.layers } };
    } ∷ [];
    sources = p.sources;
    masks = [];
  };
  display = record {
    ports = initial_port (record { sizes = record { items = sz ∷ [] } }) ∷ [];
    pipelines = initial_pipeline ∷ [];
    sources = [];
    register = None;
  };
  frame = p.frame;
}

-- the stream of the round before, which its layer alone names
abbrev pub gone : ℕ → Buffers → KeptStream
gone number buffers = record { number = number; handle = 0; buffers = buffers }

-- the numbers of a round: how many objects were made, streams numbered and frames begun before it; the handles and the number that
-- it gets
pub record Round : Type 0 where
  pub made : ℕ
  pub numbered : ℕ
  pub begun : ℕ
  pub stream : ℕ
  pub source : ℕ
  pub element : ℕ
  pub number : ℕ
  pub composed : ℕ
  pub shown : ℕ
  pub low : 2 ≤ made
  pub few : made < 4000
  pub stream_is : made + 1 ≡ stream
  pub source_is : stream + 1 ≡ source
  pub element_is : source + 1 ≡ element
  pub first : 1 ≤ numbered
  pub number_is : numbered + 1 ≡ number
  pub begun_few : begun < 4000
  pub composed_is : begun + 1 ≡ composed
  pub shown_is : composed + 1 ≡ shown

small_made : (made : ℕ) → made < 5000 → nat_lt made 4294967291 ≡ true
small_made made few = grind (arith, nat_tests)

small_begun : (begun : ℕ) → begun < 5000 → nat_lt begun 18446744073709551615 ≡ true
small_begun begun few = grind (arith, nat_tests)

same : (n : ℕ) → (n == n) ≡ true
same n = eq-eqb n n refl

abbrev pub eight : Size
eight = record { w = 8; h = 8 }

-- the buffers of a round's stream behind its frames
abbrev pub shown_once : ReadBuffer → Buffers
shown_once read = record { size = eight; format = Rgbx8; buffers = 2; depth = 0; out = false; waiting = []; read = read }

module _ (sz : Size) (read was : ReadBuffer) (i : Round) (x y : ℕ) (d : Rect) where
  -- what a round before left, where there was one: its stream, and the layer that shows it at a place
  abbrev pub old : Bool → List KeptStream
  old false = []
  old true = gone i.numbered (shown_once was) ∷ []

  abbrev pub IsLater : Bool → Type 0
  IsLater false = Unit {0}
  IsLater true = 2 ≤ i.numbered

  abbrev pub whole : Rect
  whole = record { x = pos 0; y = pos 0; w = 8; h = 8 }

  abbrev pub dest : Rect
  dest = record { x = pos x; y = pos y; w = 8; h = 8 }

  abbrev pub old_layers : Bool → List Layer
  old_layers false = []
  old_layers true = layer_in (record plain { src = whole; dest = d }) i.numbered 0 ∷ []

  -- what is compared: numbers of streams, 0 and 1 among them; handles; and how many things were made and begun
  n_n : (i.number == i.number) ≡ true
  n_n = same i.number

  n_1 : (i.number == 1) ≡ false
  n_1 = grind (arith, nat_tests)

  i_n : (1 == i.number) ≡ false
  i_n = grind (arith, nat_tests)

  n_0 : (i.number == 0) ≡ false
  n_0 = grind (arith, nat_tests)

  o_n : (0 == i.number) ≡ false
  o_n = grind (arith, nat_tests)

  p_n : (i.numbered == i.number) ≡ false
  p_n = grind (arith, nat_tests)

  n_p : (i.number == i.numbered) ≡ false
  n_p = grind (arith, nat_tests)

  p_p : (i.numbered == i.numbered) ≡ true
  p_p = same i.numbered

  o_p : (0 == i.numbered) ≡ false
  o_p = grind (arith, nat_tests)

  i_p : 2 ≤ i.numbered → (1 == i.numbered) ≡ false
  i_p two = grind (arith, nat_tests)

  s_s : (i.stream == i.stream) ≡ true
  s_s = same i.stream

  s_0 : (i.stream == 0) ≡ false
  s_0 = grind (arith, nat_tests)

  o_s : (0 == i.stream) ≡ false
  o_s = grind (arith, nat_tests)

  x_x : (i.source == i.source) ≡ true
  x_x = same i.source

  x_0 : (i.source == 0) ≡ false
  x_0 = grind (arith, nat_tests)

  e_e : (i.element == i.element) ≡ true
  e_e = same i.element

  e_0 : (i.element == 0) ≡ false
  e_0 = grind (arith, nat_tests)

  few_0 : nat_lt i.made 4294967291 ≡ true
  few_0 = small_made i.made (omega arith)

  few_1 : nat_lt i.stream 4294967291 ≡ true
  few_1 = small_made i.stream (omega arith)

  few_2 : nat_lt i.source 4294967291 ≡ true
  few_2 = small_made i.source (omega arith)

  begun_0 : nat_lt i.begun 18446744073709551615 ≡ true
  begun_0 = small_begun i.begun (omega arith)

  begun_1 : nat_lt i.composed 18446744073709551615 ≡ true
  begun_1 = small_begun i.composed (omega arith)

  -- a call is carried out, and answers this value
  abbrev pub Answers : Parts → ℕ → Call → ℕ → Parts → Type 0
  Answers before client c value after = step (state sz before) client c false ≡ (state sz after, bare (done value))

  -- the state before the round
  abbrev pub start : Bool → Parts
  start later = record {
    made = i.made;
    numbered = i.numbered;
    begun = i.begun;
    streams = screen (idle sz read) ∷ old later;
    elements = [];
    order = [];
    layers = old_layers later;
    sources = [];
    frame = None;
  }

  -- its stream is made
  abbrev pub new_buffers : Buffers
  new_buffers = fresh eight Rgbx8 2

  abbrev pub its_stream : Buffers → KeptStream
  its_stream buffers = record { number = i.number; handle = i.stream; buffers = buffers }

  abbrev pub with_stream : Bool → Buffers → Parts
  with_stream later buffers =
      record (start later) {
        made = i.stream;
        numbered = i.number;
        streams = screen (idle sz read) ∷ (old later ++ its_stream buffers ∷ []);
      }

  abbrev pub HasRoom : Bool → Type 0
  HasRoom later = has_no_room new_buffers (screen (idle sz read) ∷ old later) ≡ false

  pub stream_made : (later : Bool) → IsLater later → HasRoom later → (client : ℕ)
      → Answers (start later) client (call.StreamNew (pos 8) (pos 8) Rgbx8 (pos 2)) i.stream (with_stream later new_buffers)
  unfolding step act
  stream_made false two room client = simp (room, few_0, i.stream_is, i.number_is, n_n, n_1, i_n, o_n, s_0)
  stream_made true two room client =
      simp (room, few_0, i.stream_is, i.number_is, n_n, n_1, i_n, o_n, s_0, p_n, n_p, p_p, o_p, i_p two)

  -- its source
  abbrev pub its_source : Source
  its_source = record { handle = i.source; context = 2; stream = i.number }

  abbrev pub with_source : Bool → Buffers → Parts
  with_source later buffers = record (with_stream later buffers) { made = i.source; sources = its_source ∷ [] }

  pub source_made : (later : Bool) → IsLater later → (client : ℕ)
      → Answers (with_stream later new_buffers) client (call.SourceNew 1 2 i.stream) i.source (with_source later new_buffers)
  unfolding step act
  source_made false two client = simp (few_1, i.source_is, n_n, n_1, i_n, o_n, s_s, s_0, o_s)
  source_made true two client = simp (few_1, i.source_is, n_n, n_1, i_n, o_n, s_s, s_0, o_s, p_n, n_p, p_p, o_p, i_p two)

  -- its element, which is set and inserted
  abbrev pub its_element : Style → ℕ → Element
  its_element style source = record { handle = i.element; style = style; source = source; mask = 0 }

  abbrev pub with_element : Bool → Buffers → Style → ℕ → List ℕ → Parts
  with_element later buffers style source order =
      record (with_source later buffers) { made = i.element; elements = its_element style source ∷ []; order = order }

  -- the element with this style and source, which is not inserted yet
  abbrev pub set_to : Bool → Style → ℕ → Parts
  set_to later style source = with_element later new_buffers style source []

  abbrev pub whole_style : Style
  whole_style = record plain { src = whole }

  abbrev pub its_style : Style
  its_style = record plain { src = whole; dest = dest }

  abbrev pub placed : Bool → Buffers → Parts
  placed later buffers = with_element later buffers its_style i.source (i.element ∷ [])

  pub element_made : (later : Bool) → IsLater later → (client : ℕ)
      → Answers (with_source later new_buffers) client (call.ElementNew 1 2) i.element (set_to later plain 0)
  unfolding step act
  element_made false two client = simp (few_2, i.element_is, n_n, n_1, i_n, o_n, s_0)
  element_made true two client = simp (few_2, i.element_is, n_n, n_1, i_n, o_n, s_0, p_n, n_p, p_p, o_p, i_p two)

  pub source_set : (later : Bool) → IsLater later → (client : ℕ)
      → Answers (set_to later plain 0) client
      (call.ElementSet 1 i.element element.Source (pos i.source ∷ pos 0 ∷ pos 0 ∷ pos 0 ∷ [])) 0 (set_to later plain i.source)
  unfolding step act
  source_set false two client = simp (n_n, n_1, i_n, o_n, s_0, x_x, x_0, e_e)
  source_set true two client = simp (n_n, n_1, i_n, o_n, s_0, x_x, x_0, e_e, p_n, n_p, p_p, o_p, i_p two)

  pub rectangle_set : (later : Bool) → IsLater later → (client : ℕ)
      → Answers (set_to later plain i.source) client
      (call.ElementSet 1 i.element element.SrcRect (pos 0 ∷ pos 0 ∷ pos 8 ∷ pos 8 ∷ [])) 0 (set_to later whole_style i.source)
  unfolding step act
  rectangle_set false two client = simp (n_n, n_1, i_n, o_n, s_0, e_e)
  rectangle_set true two client = simp (n_n, n_1, i_n, o_n, s_0, e_e, p_n, n_p, p_p, o_p, i_p two)

  pub destination_set : (later : Bool) → IsLater later → nat_le x 16384 ≡ true → nat_le y 16384 ≡ true → (client : ℕ)
      → Answers (set_to later whole_style i.source) client
      (call.ElementSet 1 i.element element.Dest (pos x ∷ pos y ∷ pos 8 ∷ pos 8 ∷ [])) 0 (set_to later its_style i.source)
  unfolding step act
  destination_set false two x_range y_range client = simp (n_n, n_1, i_n, o_n, s_0, e_e, x_range, y_range)
  destination_set true two x_range y_range client =
      simp (n_n, n_1, i_n, o_n, s_0, e_e, x_range, y_range, p_n, n_p, p_p, o_p, i_p two)

  pub element_inserted : (later : Bool) → IsLater later → (client : ℕ)
      → Answers (set_to later its_style i.source) client (call.ElementInsert 1 i.element 0) 0 (placed later new_buffers)
  unfolding step act
  element_inserted false two client = simp (n_n, n_1, i_n, o_n, s_0, e_e, e_0)
  element_inserted true two client = simp (n_n, n_1, i_n, o_n, s_0, e_e, e_0, p_n, n_p, p_p, o_p, i_p two)

  -- the write buffer is out, and comes back with an image
  abbrev pub IsContent : Bitmap → Type 0
  IsContent content = HasShape eight Rgbx8 content

  abbrev pub filled : Bitmap → Buffers
  filled content = record new_buffers { waiting = content ∷ [] }

  pub acquired_by : (later : Bool) → IsLater later → (client : ℕ)
      → step (state sz (placed later new_buffers)) client (call.Acquire i.stream) false
      ≡ (state sz (placed later (acquired new_buffers)), gives_canvas (record { stream = i.number; image = blank eight Rgbx8 }))
  unfolding step act
  acquired_by false two client = simp (n_n, n_1, i_n, o_n, s_s, s_0, o_s)
  acquired_by true two client = simp (n_n, n_1, i_n, o_n, s_s, s_0, o_s, p_n, n_p, p_p, o_p, i_p two)

  pub posted_by : (later : Bool) → IsLater later → (content : Bitmap) → IsContent content → (client : ℕ)
      → Answers (placed later (acquired new_buffers)) client (call.Post (record { stream = i.number; image = content })) 0
      (placed later (filled content))
  unfolding step act
  posted_by false two content is client = simp (is.size_is, is.format_is, n_n, n_1, i_n, o_n, s_0)
  posted_by true two content is client = simp (is.size_is, is.format_is, n_n, n_1, i_n, o_n, s_0, p_n, n_p, p_p, o_p, i_p two)

  -- the commit: the layer names the round's stream, and nothing names that of the round before
  abbrev pub its_layers : List Layer
  its_layers = layer_in its_style i.number 0 ∷ []

  abbrev pub committed : Buffers → Buffers → Parts
  committed screens buffers =
      record (placed false buffers) { layers = its_layers; streams = screen screens ∷ its_stream buffers ∷ [] }

  pub committed_by : (later : Bool) → IsLater later → (content : Bitmap) → (client : ℕ)
      → Answers (placed later (filled content)) client (call.Commit 1 2) 0 (committed (idle sz read) (filled content))
  unfolding step act
  committed_by false two content client = simp (n_n, n_1, i_n, o_n, s_0, x_x, e_e)
  committed_by true two content client = simp (n_n, n_1, i_n, o_n, s_0, x_x, e_e, p_n, n_p, o_p, i_p two)

  -- the frame of the context
  abbrev pub composing : Bitmap → Bitmap → Job
  composing content image = record {
    number = i.composed;
    kind = kind.Context 2 1;
    scene = record { size = sz; turn = R0; background = black; layers = record { items = its_layers } };
    contents = (i.number, content) ∷ [];
    image = image;
  }

  abbrev pub in_composing : Bitmap → Parts
  in_composing content = record (committed (acquired (idle sz read)) (record new_buffers { read = away })) {
    begun = i.composed;
    frame = Some (running_of (composing content (blank sz Rgbx8)));
  }

  pub composed_by : (content : Bitmap) → IsContent content → is_blocked (idle sz read) ≡ false → (client : ℕ)
      → step (state sz (committed (idle sz read) (filled content))) client (call.BeginNext 0) false
      ≡ (state sz (in_composing content), gives_job 2 (composing content (blank sz Rgbx8)))
  unfolding step act
  composed_by content is free client = simp (free, n_n, n_1, i_n, n_0, o_n, s_0, begun_0, i.composed_is) (rw n_0 refl)

  abbrev pub is_composed : Bitmap → Bitmap → Parts
  is_composed content drawn =
      record (committed (record (idle sz read) { waiting = drawn ∷ [] }) (shown_once (home content))) { begun = i.composed }

  pub composed_to_end : (content drawn : Bitmap) → IsContent content → HasShape sz Rgbx8 drawn → (client : ℕ)
      → Answers (in_composing content) client (call.End (composing content drawn)) 0 (is_composed content drawn)
  unfolding step act
  composed_to_end content drawn is shape client =
      simp (is.size_is, is.format_is, shape.size_is, shape.format_is, same i.composed, same sz.w, same sz.h, n_n, n_1, i_n, o_n, s_0)

  pub no_more_contexts : (content drawn : Bitmap) → (client : ℕ)
      → Answers (is_composed content drawn) client (call.BeginNext 2) 0 (is_composed content drawn)
  unfolding step act
  no_more_contexts content drawn client = simp (n_n, n_1, i_n, o_n, s_0)

  -- the frame of the port
  abbrev pub showing : Bitmap → Bitmap → Job
  showing drawn image = record {
    number = i.shown;
    kind = kind.Port 1;
    scene = scene_of_port 1 (initial_pipeline ∷ []) (initial_port (record { sizes = record { items = sz ∷ [] } }));
    contents = (1, drawn) ∷ [];
    image = image;
  }

  abbrev pub in_showing : Bitmap → Bitmap → Parts
  in_showing content drawn = record (committed (record (idle sz read) { read = away }) (shown_once (home content))) {
    begun = i.shown;
    frame = Some (running_of (showing drawn (blank sz Rgba8Pre)));
  }

  pub shown_by : (content drawn : Bitmap) → (client : ℕ)
      → step (state sz (is_composed content drawn)) client (call.BeginPort (pos 1)) false
      ≡ (state sz (in_showing content drawn), gives_job 1 (showing drawn (blank sz Rgba8Pre)))
  unfolding step act
  shown_by content drawn client = simp (n_n, n_1, i_n, n_0, o_n, s_0, begun_1, i.shown_is) (rw n_0 refl)

  abbrev pub is_shown : Bitmap → Bitmap → Parts
  is_shown content drawn = record (committed (idle sz (home drawn)) (shown_once (home content))) { begun = i.shown }

  pub shown_to_end : (content drawn image : Bitmap) → HasShape sz Rgbx8 drawn → HasShape sz Rgba8Pre image → (client : ℕ)
      → Answers (in_showing content drawn) client (call.End (showing drawn image)) 0 (is_shown content drawn)
  unfolding step act
  shown_to_end content drawn image shape is client =
      simp (shape.size_is, shape.format_is, is.size_is, is.format_is, same i.shown, same sz.w, same sz.h, n_n, n_1, i_n, o_n, s_0)

  -- what the round made is destroyed
  abbrev pub without_element : Bitmap → Bitmap → Parts
  without_element content drawn = record (is_shown content drawn) { elements = []; order = [] }

  pub element_destroyed : (content drawn : Bitmap) → (client : ℕ)
      → Answers (is_shown content drawn) client (call.ElementDestroy 1 i.element) 0 (without_element content drawn)
  unfolding step act
  element_destroyed content drawn client = simp (n_n, n_1, i_n, o_n, s_0, e_e)

  abbrev pub without_source : Bitmap → Bitmap → Parts
  without_source content drawn = record (without_element content drawn) { sources = [] }

  pub source_destroyed : (content drawn : Bitmap) → (client : ℕ)
      → Answers (without_element content drawn) client (call.SourceDestroy 1 i.source) 0 (without_source content drawn)
  unfolding step act
  source_destroyed content drawn client = simp (n_n, n_1, i_n, o_n, s_0, x_x)

  -- the state behind the round: only the layer names its stream
  abbrev pub finish : Bitmap → Bitmap → Parts
  finish content drawn = record {
    made = i.element;
    numbered = i.number;
    begun = i.shown;
    streams = screen (idle sz (home drawn)) ∷ gone i.number (shown_once (home content)) ∷ [];
    elements = [];
    order = [];
    layers = its_layers;
    sources = [];
    frame = None;
  }

  pub stream_destroyed : (content drawn : Bitmap) → (client : ℕ)
      → Answers (without_source content drawn) client (call.StreamDestroy i.stream) 0 (finish content drawn)
  unfolding step act
  stream_destroyed content drawn client = simp (n_n, i_n, o_n, s_s, s_0, o_s)
