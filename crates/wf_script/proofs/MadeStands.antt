-- The script of the generator is read from its canonical text.
use Rattle.std.proofs.Common.{◌≡◌, ◌∙◌, ℕ, zero, suc, ◌+◌, ◌-◌, ◌*◌, ◌%◌, ◌<◌, ◌≤◌, Bool, true, false, not, ◌&&◌, ◌||◌, ◌==◌}
use Rattle.std.proofs.Common.{nat_le, List, [], ◌∷◌, ◌++◌, length, map, take, Some, None, Ok, refl, sym, ap, subst}
use Rattle.std.proofs.Common.{arith, append_assoc, append-nil, length-append}
use Rattle.std.specs.Prelude.{codes, decimal, option_map, slice_index_or, if◌then◌else◌}
use Rattle.std.specs.Bool.{Decides}
use Rattle.std.specs.Fmt.{digits}
use Rattle.std.specs.List.{list_all, list_any}
use Rattle.std.specs.Str.{bytes_eq}
use Rattle.std.proofs.lemmas.Bool.{and_from, and_parts, eq-eqb, le-leb}
use Rattle.std.proofs.lemmas.Bool.Decides.{nat_tests}
use Rattle.std.proofs.lemmas.Fmt.{decimal_digit, decimal_injective, length-decimal-le}
use Rattle.std.proofs.lemmas.List.{length-map}
use Rattle.std.proofs.lemmas.List.Folds.{list_any-append}
use Rattle.std.proofs.lemmas.Slice.Eq.{bytes_eq-Decides}
use Rattle.wf_words.specs.Refusals.{refuse_if, found_or}
use Rattle.wf_image.specs.declared.paint.Paint.TheVariants as paint
use Rattle.wf_script.specs.declared.form.Form.{Form}
use Rattle.wf_script.specs.declared.form.Form.TheVariants as form
use Rattle.wf_script.specs.declared.form.Plain.TheVariants as plain
use Rattle.wf_script.specs.declared.line.Line.{Line}
use Rattle.wf_script.specs.declared.line.Verb.TheVariants as verb
use Rattle.wf_script.specs.declared.name.Name.{Name}
use Rattle.wf_script.specs.declared.rule.Rule.TheVariants as rule
use Rattle.wf_script.specs.Canonical.{binding_words, canonical, paint_words, verb_words}
use Rattle.wf_script.specs.Fields.{read_all}
use Rattle.wf_script.specs.Forms.{arguments, forms, plain_words}
use Rattle.wf_script.specs.Generator.{client_of_round, color_of_round, element_of_round, made, made_ports, plain_line, round, rounds, setup}
use Rattle.wf_script.specs.Generator.{source, stream}
use Rattle.wf_script.specs.Grammar.{Reading, Stands, bound_name, event_line, has_its_name, is_its_client, is_taken, line_of}
use Rattle.wf_script.specs.Grammar.{end_line, parts_of, port_line, pipes_line, sizes}
use Rattle.wf_script.specs.PaintWords.{color, fill, paint_of}
use Rattle.wf_script.specs.Streams.{frame_words}
use Rattle.wf_script.specs.Visible.{binds_for, is_name_in, is_visible, setup_binds}
use Rattle.wf_script.specs.Words.{Word, count_in, digits_of, handle_of, integer_of, is_digit, is_letter, is_name, is_name_byte, is_word}
use Rattle.wf_script.specs.Words.{lines_of, look_up, name_of, none_word, size_of, starts_as_name}
use Rattle.wf_script.proofs.Clean.{all_pass}
use Rattle.wf_script.proofs.LineBack.{go, go_on}
use Rattle.wf_script.proofs.Made.{rounds_count}
use Rattle.wf_script.proofs.Numerals.{count_again, decimal_digits, decimal_word, positive_again}
use Rattle.wf_script.proofs.ScriptBack.{AllBack, IsBack, event_words, line_list, text_back, text_lines, words_back}
use Rattle.wf_script.proofs.Splitting.{joined}
use Rattle.wf_script.proofs.Steps.{AreWords}

-- what was read of the script up to some of its event lines
abbrev pub read_of : List Line → Reading
read_of lines = record { modes = made_ports.modes.items; pipes = Some 1; lines = lines; ended = false }

-- names

name_reads : (w : Word) → is_name w ≡ true → name_of w ≡ Some w
unfolding name_of
name_reads w is = rw is refl

handle_reads : (w : Word) → is_name w ≡ true → handle_of w ≡ Some (Some w)
unfolding handle_of
handle_reads w is =
    let behind = (and_parts (starts_as_name w) (nat_le (length w) 16 && not (bytes_eq w none_word)) is).1 in
    let other = (and_parts (nat_le (length w) 16) (not (bytes_eq w none_word)) behind).1 in
    of_test (bytes_eq w none_word) other
  where
    of_test : (t : Bool) → not t ≡ true
        → (if t then Some None else option_map (λ name. Some name) (name_of w)) ≡ Some (Some w)
    of_test true h = absurd cc
    of_test false h = rw (name_reads w is) refl

digit_in_name : (b : ℕ) → is_digit b ≡ true → is_name_byte b ≡ true
digit_in_name b h = grind (arith, nat_tests)

-- a letter and a number of three digits at most is a name
name_numbered : (letter i : ℕ) → is_letter letter ≡ true → (letter == 110) ≡ false → i < 1000 → is_name (letter ∷ decimal i) ≡ true
name_numbered letter i is other small =
    let digits = all_pass is_digit is_name_byte digit_in_name (decimal i) (decimal_digits i (omega arith)) in
    let short : nat_le (length (letter ∷ decimal i)) 16 ≡ true =
    le-leb (length (letter ∷ decimal i)) 16 (omega (arith, length-decimal-le 3 i (omega arith) (omega arith) (omega arith))) in
    rw (is, digits, short, other) refl

stream_name : (i : ℕ) → i < 1000 → is_name (stream i) ≡ true
stream_name i small = name_numbered 115 i refl refl small

source_name : (i : ℕ) → i < 1000 → is_name (source i) ≡ true
source_name i small = name_numbered 120 i refl refl small

element_name : (i : ℕ) → i < 1000 → is_name (element_of_round i) ≡ true
element_name i small = name_numbered 101 i refl refl small

-- what is bound

pub same_bytes : (w : Word) → bytes_eq w w ≡ true
same_bytes [] = refl
same_bytes (b ∷ bs) = rw (eq-eqb b b refl, same_bytes bs) refl

pub other_numbers : (i j : ℕ) → i < j → j < 1000 → bytes_eq (decimal i) (decimal j) ≡ false
other_numbers i j below small =
    elim (bytes_eq (decimal i) (decimal j)) as (λ t. bytes_eq (decimal i) (decimal j) ≡ t → t ≡ false) [
      | true ↦ λ same. absurd (let is : i ≡ j = decimal_injective i j (omega arith) (omega arith)
          (of_decides (bytes_eq (decimal i) (decimal j)) (bytes_eq-Decides (decimal i) (decimal j)) same) in omega arith)
      | false ↦ λ other. refl
    ] refl
  where
    of_decides : (t : Bool) → Decides t (decimal i ≡ decimal j) → t ≡ true → decimal i ≡ decimal j
    of_decides t d h = grind (arith, d, h)

-- no line binds a name
abbrev binds_name : Name → List Line → Bool
binds_name name lines = list_any (λ l. is_name_in name l.name) lines

neither : (a b : Bool) → (a || b) ≡ false → (a ≡ false) × (b ≡ false)
neither false false h = (refl, refl)
neither false true h = absurd cc
neither true b h = absurd cc

no_setup_binds : (name : Name) (lines : List Line) → binds_name name lines ≡ false → setup_binds name lines ≡ false
no_setup_binds name [] none = refl
no_setup_binds name (l ∷ ls) none =
    let parts = neither (is_name_in name l.name) (binds_name name ls) none in
    rw (parts.0, no_setup_binds name ls parts.1) (either (l.client == 0))
  where
    either : (t : Bool) → (t && false) ≡ false
    either true = refl
    either false = refl

none_binds : (client : ℕ) (name : Name) (lines : List Line) → binds_name name lines ≡ false
    → list_any (binds_for client name) lines ≡ false
none_binds client name [] none = refl
none_binds client name (l ∷ ls) none =
    let parts = neither (is_name_in name l.name) (binds_name name ls) none in
    rw (parts.0, none_binds client name ls parts.1) (either (l.client == client))
  where
    either : (t : Bool) → ((t && false) || false) ≡ false
    either true = refl
    either false = refl

not_visible : (client : ℕ) (name : Name) (lines : List Line) → binds_name name lines ≡ false → is_visible lines client name ≡ false
not_visible client name lines none = rw (no_setup_binds name lines none, none_binds client name lines none) refl

visible : (client : ℕ) (name : Name) (lines : List Line) → list_any (binds_for client name) lines ≡ true
    → is_visible lines client name ≡ true
visible client name lines binds = rw binds (either (setup_binds name lines))
  where
    either : (t : Bool) → (t || true) ≡ true
    either true = refl
    either false = refl

-- what the rounds before bind

module _ (letter i : ℕ) (small : i < 1000) where
  abbrev its_name : Name
  its_name = letter ∷ decimal i

  not_in_round : (j : ℕ) → j < i → binds_name its_name (round j) ≡ false
  not_in_round j below = rw (other_numbers j i below small) (none (115 == letter) (120 == letter) (101 == letter))
    where
      none : (s x e : Bool) → ((s && false) || ((x && false) || ((e && false) || false))) ≡ false
      none true true true = refl
      none true true false = refl
      none true false true = refl
      none true false false = refl
      none false true true = refl
      none false true false = refl
      none false false true = refl
      none false false false = refl

  not_in_rounds : (n : ℕ) → n ≤ i → binds_name its_name (rounds n) ≡ false
  unfolding rounds
  not_in_rounds zero few = refl
  not_in_rounds (suc n) few =
      list_any-append (λ l. is_name_in its_name l.name) (rounds n) (round n)
      ∙ rw (not_in_rounds n (omega arith), not_in_round n (omega arith)) refl

  free_before : (100 == letter) ≡ false → (99 == letter) ≡ false → binds_name its_name (setup ++ rounds i) ≡ false
  free_before device context = rw (device, context, not_in_rounds i (omega arith)) refl

-- one line

record Fits (lines : List Line) (l : Line) : Type 0 where
  client : l.client < 8
  words : AreWords (binding_words l.name ++ verb_words l.verb)
  reads : event_line (read_of lines) l.client (binding_words l.name ++ verb_words l.verb) ≡ Ok (read_of (lines ++ l ∷ []))

-- a client's digit begins no line of another kind
of_client : (c : ℕ) → c < 8 → (r : Reading) (ws : List Word) → line_of r (decimal c ∷ ws) ≡ event_line r c ws
unfolding line_of
of_client c small r ws =
    let port : (48 + c == 112) ≡ false = grind (arith, nat_tests) in
    let end : (48 + c == 101) ≡ false = grind (arith, nat_tests) in
    let low : nat_le 48 (48 + c) ≡ true = le-leb 48 (48 + c) (omega arith) in
    let high : nat_le (48 + c) 55 ≡ true = le-leb (48 + c) 55 (omega arith) in
    let back : (48 + c) - 48 ≡ c = omega arith in
    ap (λ (w : Word). line_of r (w ∷ ws)) (decimal_digit c (omega arith)) ∙ rw (port, end, low, high, back) refl

one_line : (lines : List Line) (l : Line) → IsBack (read_of lines) → Fits lines l → IsBack (read_of (lines ++ l ∷ []))
one_line lines l back fits =
    let words = and_from (is_word (decimal l.client)) (list_all is_word (binding_words l.name ++ verb_words l.verb))
    (decimal_word l.client (omega (arith, fits.client))) fits.words in
    (words_back (read_of lines) (read_of (lines ++ l ∷ [])) (event_words l) words back
    (of_client l.client fits.client (read_of lines) (binding_words l.name ++ verb_words l.verb) ∙ fits.reads)).back

-- lines behind some lines and those of them that are done
abbrev AllFit : List Line → List Line → List Line → Type 0
AllFit lines done [] = Unit {0}
AllFit lines done (l ∷ ls) = Fits (lines ++ done) l × AllFit lines (done ++ l ∷ []) ls

more_lines : (lines done more : List Line) → IsBack (read_of (lines ++ done)) → AllFit lines done more
    → IsBack (read_of (lines ++ (done ++ more)))
more_lines lines done [] back fits = subst (λ (x : List Line). IsBack (read_of (lines ++ x))) (sym (append-nil done)) back
more_lines lines done (l ∷ ls) back fits =
    subst (λ (x : List Line). IsBack (read_of (lines ++ x))) (append_assoc done (l ∷ []) ls)
    (more_lines lines (done ++ l ∷ []) ls
    (subst (λ (x : List Line). IsBack (read_of x)) (append_assoc lines done (l ∷ [])) (one_line (lines ++ done) l back fits.0)) fits.1)

-- an event line that its words give, whatever stands before it
record IsGiven (f : Form) (l : Line) (names : List Name) : Type 0 where
  head : Word
  behind : List Word
  parts : parts_of (binding_words l.name ++ verb_words l.verb) ≡ Ok (record { name = l.name; verb = head; arguments = behind })
  found : look_up forms head ≡ Some f
  named : not (has_its_name f l.name) ≡ false
  clock : is_its_client f l.client ≡ true
  given : arguments f behind ≡ Ok (l.verb, names)
  bound : bound_name l.name ≡ Ok l.name

event_reads : (lines : List Line) (f : Form) (l : Line) (names : List Name) → IsGiven f l names
    → list_all (is_visible lines l.client) names ≡ true → is_taken (read_of lines) l.client l.name ≡ false
    → event_line (read_of lines) l.client (binding_words l.name ++ verb_words l.verb) ≡ Ok (read_of (lines ++ l ∷ []))
unfolding event_line
event_reads lines f l names is seen free =
    go (parts_of (binding_words l.name ++ verb_words l.verb)) (record { name = l.name; verb = is.head; arguments = is.behind }) _ _ is.parts
    (go (found_or rule.Verb (look_up forms is.head)) f _ _ (ap (found_or rule.Verb) is.found)
    (go (refuse_if rule.Verb (not (has_its_name f l.name))) tt _ _ (go_on rule.Verb (not (has_its_name f l.name)) is.named)
    (go (refuse_if rule.Place (not (is_its_client f l.client))) tt _ _
    (go_on rule.Place (not (is_its_client f l.client)) (ap not is.clock))
    (go (arguments f is.behind) (l.verb, names) _ _ is.given
    (go (bound_name l.name) l.name _ _ is.bound
    (go (refuse_if rule.Name (not (list_all (is_visible lines l.client) names))) tt _ _
    (go_on rule.Name (not (list_all (is_visible lines l.client) names)) (ap not seen))
    (go (refuse_if rule.Name (is_taken (read_of lines) l.client l.name)) tt _ _
    (go_on rule.Name (is_taken (read_of lines) l.client l.name) free) refl)))))))

fits : (lines : List Line) (f : Form) (l : Line) (names : List Name) → l.client < 8
    → list_all is_word (binding_words l.name ++ verb_words l.verb) ≡ true → IsGiven f l names
    → list_all (is_visible lines l.client) names ≡ true → is_taken (read_of lines) l.client l.name ≡ false → Fits lines l
fits lines f l names small words is seen free =
    record { client = small; words = words; reads = event_reads lines f l names is seen free }

-- the words of the rounds

-- the names of the device and the context
device_reads : handle_of (codes "d") ≡ Some (Some (codes "d"))
device_reads = handle_reads (codes "d") refl

context_reads : handle_of (codes "c") ≡ Some (Some (codes "c"))
context_reads = handle_reads (codes "c") refl

color_reads : (r g b a : ℕ) → r ≤ 255 → g ≤ 255 → b ≤ 255 → a ≤ 255
    → paint_of (paint_words (paint.Fill (record { r = r; g = g; b = b; a = a }))) ≡ Ok (paint.Fill (record { r = r; g = g; b = b; a = a }))
unfolding paint_of fill color
color_reads r g b a hr hg hb ha =
    rw (
      count_again 0 255 r (omega arith) hr (omega arith),
      count_again 0 255 g (omega arith) hg (omega arith),
      count_again 0 255 b (omega arith) hb (omega arith),
      count_again 0 255 a (omega arith) ha (omega arith),
    ) refl

module _ (i : ℕ) (small : i < 1000) where
  abbrev line_at : ℕ → Line
  line_at k = slice_index_or (round i) k (plain_line 0 verb.Tick)

  given_0 : IsGiven (form.Plain plain.StreamNew) (line_at 0) []
  unfolding parts_of plain_words read_all
  given_0 = record {
    head = codes "stream";
    behind = decimal 8 ∷ decimal 8 ∷ codes "rgbx" ∷ decimal 2 ∷ [];
    parts = refl;
    found = refl;
    named = refl;
    clock = refl;
    given = rw (positive_again 8 (omega arith), positive_again 8 (omega arith), positive_again 2 (omega arith)) refl;
    bound = rw (name_reads (stream i) (stream_name i small)) refl;
  }

  given_1 : IsGiven (form.Plain plain.SourceNew) (line_at 1) (codes "d" ∷ codes "c" ∷ stream i ∷ [])
  unfolding parts_of plain_words read_all
  given_1 = record {
    head = codes "source";
    behind = codes "d" ∷ codes "c" ∷ stream i ∷ [];
    parts = refl;
    found = refl;
    named = refl;
    clock = refl;
    given = rw (device_reads, context_reads, handle_reads (stream i) (stream_name i small)) refl;
    bound = rw (name_reads (source i) (source_name i small)) refl;
  }

  given_2 : IsGiven (form.Plain plain.ElementNew) (line_at 2) (codes "d" ∷ codes "c" ∷ [])
  unfolding parts_of plain_words read_all
  given_2 = record {
    head = codes "element";
    behind = codes "d" ∷ codes "c" ∷ [];
    parts = refl;
    found = refl;
    named = refl;
    clock = refl;
    given = rw (device_reads, context_reads) refl;
    bound = rw (name_reads (element_of_round i) (element_name i small)) refl;
  }

  given_3 : IsGiven (form.Plain plain.ElementSet) (line_at 3) (codes "d" ∷ element_of_round i ∷ source i ∷ [])
  unfolding parts_of plain_words read_all
  given_3 = record {
    head = codes "set";
    behind = codes "d" ∷ element_of_round i ∷ codes "source" ∷ source i ∷ [];
    parts = refl;
    found = refl;
    named = refl;
    clock = refl;
    given = rw (device_reads, handle_reads (element_of_round i) (element_name i small), handle_reads (source i) (source_name i small)) refl;
    bound = refl;
  }

  given_4 : IsGiven (form.Plain plain.ElementSet) (line_at 4) (codes "d" ∷ element_of_round i ∷ [])
  unfolding parts_of plain_words read_all
  given_4 = record {
    head = codes "set";
    behind = codes "d" ∷ element_of_round i ∷ codes "srcrect" ∷ decimal 0 ∷ decimal 0 ∷ decimal 8 ∷ decimal 8 ∷ [];
    parts = refl;
    found = refl;
    named = refl;
    clock = refl;
    given = rw (
      device_reads,
      handle_reads (element_of_round i) (element_name i small),
      positive_again 0 (omega arith),
      positive_again 0 (omega arith),
      positive_again 8 (omega arith),
      positive_again 8 (omega arith),
    ) refl;
    bound = refl;
  }

  given_5 : IsGiven (form.Plain plain.ElementSet) (line_at 5) (codes "d" ∷ element_of_round i ∷ [])
  unfolding parts_of plain_words read_all
  given_5 = record {
    head = codes "set";
    behind = codes "d" ∷ element_of_round i ∷ codes "dest" ∷ decimal (5 * i % 56) ∷ decimal (3 * i % 40) ∷ decimal 8 ∷ decimal 8 ∷ [];
    parts = refl;
    found = refl;
    named = refl;
    clock = refl;
    given = rw (
      device_reads,
      handle_reads (element_of_round i) (element_name i small),
      positive_again (5 * i % 56) (omega arith),
      positive_again (3 * i % 40) (omega arith),
      positive_again 8 (omega arith),
      positive_again 8 (omega arith),
    ) refl;
    bound = refl;
  }

  given_6 : IsGiven (form.Plain plain.ElementInsert) (line_at 6) (codes "d" ∷ element_of_round i ∷ [])
  unfolding parts_of plain_words read_all handle_of
  given_6 = record {
    head = codes "insert";
    behind = codes "d" ∷ element_of_round i ∷ codes "none" ∷ [];
    parts = refl;
    found = refl;
    named = refl;
    clock = refl;
    given = rw (device_reads, handle_reads (element_of_round i) (element_name i small)) refl;
    bound = refl;
  }

  given_7 : IsGiven form.Frame (line_at 7) (stream i ∷ [])
  unfolding parts_of frame_words
  given_7 = record {
    head = codes "frame";
    behind = stream i ∷ paint_words (paint.Fill (color_of_round i));
    parts = refl;
    found = refl;
    named = refl;
    clock = refl;
    given = rw (
      color_reads (i % 256) (7 * i % 256) (13 * i % 256) 255 (omega arith) (omega arith) (omega arith) (omega arith),
      handle_reads (stream i) (stream_name i small),
    ) refl;
    bound = refl;
  }

  given_8 : IsGiven (form.Plain plain.Commit) (line_at 8) (codes "d" ∷ codes "c" ∷ [])
  unfolding parts_of plain_words read_all
  given_8 = record {
    head = codes "commit";
    behind = codes "d" ∷ codes "c" ∷ [];
    parts = refl;
    found = refl;
    named = refl;
    clock = refl;
    given = rw (device_reads, context_reads) refl;
    bound = refl;
  }

  given_9 : IsGiven (form.Plain plain.Tick) (line_at 9) []
  unfolding parts_of plain_words read_all
  given_9 = record {
    head = codes "tick";
    behind = [];
    parts = refl;
    found = refl;
    named = refl;
    clock = refl;
    given = refl;
    bound = refl;
  }

  given_10 : IsGiven (form.Plain plain.ElementDestroy) (line_at 10) (codes "d" ∷ element_of_round i ∷ [])
  unfolding parts_of plain_words read_all
  given_10 = record {
    head = codes "del_element";
    behind = codes "d" ∷ element_of_round i ∷ [];
    parts = refl;
    found = refl;
    named = refl;
    clock = refl;
    given = rw (device_reads, handle_reads (element_of_round i) (element_name i small)) refl;
    bound = refl;
  }

  given_11 : IsGiven (form.Plain plain.SourceDestroy) (line_at 11) (codes "d" ∷ source i ∷ [])
  unfolding parts_of plain_words read_all
  given_11 = record {
    head = codes "del_source";
    behind = codes "d" ∷ source i ∷ [];
    parts = refl;
    found = refl;
    named = refl;
    clock = refl;
    given = rw (device_reads, handle_reads (source i) (source_name i small)) refl;
    bound = refl;
  }

  given_12 : IsGiven (form.Plain plain.StreamDestroy) (line_at 12) (stream i ∷ [])
  unfolding parts_of plain_words read_all
  given_12 = record {
    head = codes "del_stream";
    behind = stream i ∷ [];
    parts = refl;
    found = refl;
    named = refl;
    clock = refl;
    given = rw (handle_reads (stream i) (stream_name i small)) refl;
    bound = refl;
  }

-- what a client sees of the names of a round behind some of its lines

all_of_one : (p : Name → Bool) (a : Name) → p a ≡ true → list_all p (a ∷ []) ≡ true
all_of_one p a first = rw first refl

all_of_two : (p : Name → Bool) (a b : Name) → p a ≡ true → p b ≡ true → list_all p (a ∷ b ∷ []) ≡ true
all_of_two p a b first second = rw (first, second) refl

all_of_three : (p : Name → Bool) (a b c : Name) → p a ≡ true → p b ≡ true → p c ≡ true → list_all p (a ∷ b ∷ c ∷ []) ≡ true
all_of_three p a b c first second third = rw (first, second, third) refl

module _ (i : ℕ) (small : i < 1000) where
  abbrev client : ℕ
  client = client_of_round i

  abbrev lines_before : List Line
  lines_before = setup ++ rounds i

  seen : (name : Name) (done : List Line) → list_any (binds_for client name) done ≡ true
      → is_visible (lines_before ++ done) client name ≡ true
  seen name done binds =
      visible client name (lines_before ++ done)
      (list_any-append (binds_for client name) lines_before done ∙ rw binds (either (list_any (binds_for client name) lines_before)))
    where
      either : (t : Bool) → (t || true) ≡ true
      either true = refl
      either false = refl

  free : (name : Name) (done : List Line) → binds_name name lines_before ≡ false → binds_name name done ≡ false
      → is_visible (lines_before ++ done) client name ≡ false
  free name done none new =
      not_visible client name (lines_before ++ done)
      (list_any-append (λ l. is_name_in name l.name) lines_before done ∙ rw (none, new) refl)

  round_fits : AllFit lines_before [] (round i)
  round_fits =
      let few : client < 8 = omega arith in
      let same = eq-eqb client client refl in
      let digits = same_bytes (decimal i) in
      let eight = decimal_word 8 (omega arith) in
      let two = decimal_word 2 (omega arith) in
      let s : Name = stream i in
      let x : Name = source i in
      let e : Name = element_of_round i in
      let at : ℕ → List Line = λ (k : ℕ). take k (round i) in
      let sees : ℕ → Name → Bool = λ (k : ℕ). is_visible (lines_before ++ at k) client in
      let s1 : sees 1 s ≡ true = seen s (at 1) (rw (same, digits) refl) in
      let s7 : sees 7 s ≡ true = seen s (at 7) (rw (same, digits) refl) in
      let s12 : sees 12 s ≡ true = seen s (at 12) (rw (same, digits) refl) in
      let x3 : sees 3 x ≡ true = seen x (at 3) (rw (same, digits) refl) in
      let x11 : sees 11 x ≡ true = seen x (at 11) (rw (same, digits) refl) in
      let e3 : sees 3 e ≡ true = seen e (at 3) (rw (same, digits) refl) in
      let e4 : sees 4 e ≡ true = seen e (at 4) (rw (same, digits) refl) in
      let e5 : sees 5 e ≡ true = seen e (at 5) (rw (same, digits) refl) in
      let e6 : sees 6 e ≡ true = seen e (at 6) (rw (same, digits) refl) in
      let e10 : sees 10 e ≡ true = seen e (at 10) (rw (same, digits) refl) in
      let d : Name = codes "d" in
      let c : Name = codes "c" in
      let f0 =
      fits (lines_before ++ []) (form.Plain plain.StreamNew) (line_at i small 0) [] few (rw (eight, two) refl) (given_0 i small) refl
      (free s [] (free_before 115 i small refl refl) refl) in
      let f1 =
      fits (lines_before ++ at 1) (form.Plain plain.SourceNew) (line_at i small 1) (d ∷ c ∷ s ∷ []) few refl (given_1 i small)
      (all_of_three (sees 1) d c s refl refl s1) (free x (at 1) (free_before 120 i small refl refl) refl) in
      let f2 =
      fits (lines_before ++ at 2) (form.Plain plain.ElementNew) (line_at i small 2) (d ∷ c ∷ []) few refl (given_2 i small)
      refl (free e (at 2) (free_before 101 i small refl refl) refl) in
      let f3 =
      fits (lines_before ++ at 3) (form.Plain plain.ElementSet) (line_at i small 3) (d ∷ e ∷ x ∷ []) few refl (given_3 i small)
      (all_of_three (sees 3) d e x refl e3 x3) refl in
      let f4 =
      fits (lines_before ++ at 4) (form.Plain plain.ElementSet) (line_at i small 4) (d ∷ e ∷ []) few
      (rw (decimal_word 0 (omega arith), eight) refl) (given_4 i small) (all_of_two (sees 4) d e refl e4) refl in
      let f5 =
      fits (lines_before ++ at 5) (form.Plain plain.ElementSet) (line_at i small 5) (d ∷ e ∷ []) few
      (rw (decimal_word (5 * i % 56) (omega arith), decimal_word (3 * i % 40) (omega arith), eight) refl) (given_5 i small)
      (all_of_two (sees 5) d e refl e5) refl in
      let f6 =
      fits (lines_before ++ at 6) (form.Plain plain.ElementInsert) (line_at i small 6) (d ∷ e ∷ []) few refl (given_6 i small)
      (all_of_two (sees 6) d e refl e6) refl in
      let f7 =
      fits (lines_before ++ at 7) form.Frame (line_at i small 7) (s ∷ []) few
      (rw (
        decimal_word (i % 256) (omega arith),
        decimal_word (7 * i % 256) (omega arith),
        decimal_word (13 * i % 256) (omega arith),
        decimal_word 255 (omega arith),
      ) refl) (given_7 i small) (all_of_one (sees 7) s s7) refl in
      let f8 =
      fits (lines_before ++ at 8) (form.Plain plain.Commit) (line_at i small 8) (d ∷ c ∷ []) few refl (given_8 i small) refl refl in
      let f9 =
      fits (lines_before ++ at 9) (form.Plain plain.Tick) (line_at i small 9) [] (omega arith) refl (given_9 i small) refl refl in
      let f10 =
      fits (lines_before ++ at 10) (form.Plain plain.ElementDestroy) (line_at i small 10) (d ∷ e ∷ []) few refl (given_10 i small)
      (all_of_two (sees 10) d e refl e10) refl in
      let f11 =
      fits (lines_before ++ at 11) (form.Plain plain.SourceDestroy) (line_at i small 11) (d ∷ x ∷ []) few refl (given_11 i small)
      (all_of_two (sees 11) d x refl x11) refl in
      let f12 =
      fits (lines_before ++ at 12) (form.Plain plain.StreamDestroy) (line_at i small 12) (s ∷ []) few refl (given_12 i small)
      (all_of_one (sees 12) s s12) refl in
      (f0, (f1, (f2, (f3, (f4, (f5, (f6, (f7, (f8, (f9, (f10, (f11, (f12, tt)))))))))))))

-- all lines

setup_is_back : IsBack (read_of setup)
unfolding line_of port_line pipes_line sizes size_of count_in digits_of event_line parts_of plain_words read_all integer_of name_of
    handle_of digits
setup_is_back = record { again = refl; plain = refl }

rounds_are_back : (n : ℕ) → n ≤ 1000 → IsBack (read_of (setup ++ rounds n))
unfolding rounds
rounds_are_back zero few = setup_is_back
rounds_are_back (suc n) few =
    subst (λ (x : List Line). IsBack (read_of x)) (append_assoc setup (rounds n) (round n))
    (more_lines (setup ++ rounds n) [] (round n)
    (subst (λ (x : List Line). IsBack (read_of x)) (sym (append-nil (setup ++ rounds n))) (rounds_are_back n (omega arith)))
    (round_fits n (omega arith)))

-- what was read to its end
abbrev all_read : ℕ → Reading
all_read n = record (read_of (setup ++ rounds n)) { ended = true }

-- its canonical lines behind the header
lines_count : (n : ℕ) → length (line_list (all_read n)) ≡ 6 + 13 * n
lines_count n =
    let end : List (List Word) = (codes "end" ∷ []) ∷ [] in
    let events = length-append (map event_words (rounds n)) end in
    omega (arith, events, length-map (rounds n) event_words, rounds_count n)

all_back : (n : ℕ) → n ≤ 1000 → AllBack (all_read n)
unfolding line_of end_line
all_back n few =
    let next = words_back (read_of (setup ++ rounds n)) (all_read n) (codes "end" ∷ []) refl (rounds_are_back n few) refl in
    record { back = next.back; ended = refl; few = omega (arith, lines_count n) }

pub made_stands : (n : ℕ) → n ≤ 1000 → Stands (canonical (made n)) (made n)
made_stands n few = text_back (all_read n) (all_back n few)

pub made_lines : (n : ℕ) → n ≤ 1000 → length (lines_of (canonical (made n))) ≡ 7 + 13 * n
made_lines n few =
    let lines = ap length (text_lines (all_read n) (all_back n few)) in
    omega (arith, lines, length-map (line_list (all_read n)) joined, lines_count n)
