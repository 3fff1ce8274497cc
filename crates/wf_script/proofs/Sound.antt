-- What is read keeps the ranges: ports that may be declared, clients and paints in their ranges.
use Rattle.std.proofs.Common.{◌≡◌, ◌∙◌, ℕ, ◌+◌, ◌-◌, ◌<◌, ◌≤◌, Bool, true, false, not, ◌&&◌, ◌||◌, ◌==◌, nat_lt, nat_le, List, [], ◌∷◌}
use Rattle.std.proofs.Common.{◌++◌, length, codes, Option, Some, None, Result, Ok, Err, IsTrue, refl, length-append, sym, ap, subst}
use Rattle.std.proofs.Common.{unwrap_or, arith}
use Rattle.std.specs.Prelude.{if◌then◌else◌, is_some}
use Rattle.std.specs.List.{list_all, before_first, after_first}
use Rattle.std.specs.Str.{bytes_eq, byte}
use Rattle.std.proofs.lemmas.Bool.{and_from, and_parts, lt-ltb, leb-true, ltb-true}
use Rattle.std.proofs.lemmas.Bool.Decides.{nat_tests}
use Rattle.std.proofs.lemmas.List.Folds.{list_all-append}
use Rattle.wf_words.specs.Refusals.{◌>>=◌, refuse_if, found_or}
use Rattle.wf_pixel.specs.Choice.{has_sides, is_side}
use Rattle.wf_pixel.specs.declared.Size.{Size}
use Rattle.wf_calls.specs.declared.ports.Modes.{Modes}
use Rattle.wf_calls.specs.PortRules.{may_have}
use Rattle.wf_script.specs.declared.fault.ScriptFault.TheVariants as fault
use Rattle.wf_script.specs.declared.line.Line.{Line}
use Rattle.wf_script.specs.declared.rule.Rule.{Rule}
use Rattle.wf_script.specs.declared.rule.Rule.TheVariants as rule
use Rattle.wf_script.specs.Forms.{arguments, forms}
use Rattle.wf_script.specs.Grammar.{Reading, Parts, alone, at_line, bound_name, has_its_name, is_its_client, is_taken, line_words, parts_of}
use Rattle.wf_script.specs.Grammar.{has_lines, has_ports, is_mode_count, end_line, event_line, line_of, no_event_here, no_pipes_here}
use Rattle.wf_script.specs.Grammar.{no_port_here, nothing_read, pipes_line, port_line, read_line, read_lines, script_of, sizes}
use Rattle.wf_script.specs.Script.{IsScript, is_line, may_paint, may_tick}
use Rattle.wf_script.specs.Visible.{is_visible}
use Rattle.wf_script.specs.Words.{Word, is_allowed, without_comment, without_return, is_word, client_of, count_in, sides, size_of, look_up}
use Rattle.wf_script.proofs.Steps.{AreWords, all_four, all_three, at_most, bind_ok, count_within, found_ok, not_false, passed, words_in_are}
use Rattle.wf_script.proofs.VerbSound.{arguments_sound, paints_within, ticks_alone}
use Rattle.wf_pixel.specs.declared.TheConstants.{MOST_SIDE}
use Rattle.wf_script.specs.declared.TheConstants.{MOST_LINES}
use Rattle.wf_calls.specs.declared.TheConstants.{MOST_PIPELINES}

-- lines

-- what holds of what was read so far
pub record IsSoundSoFar (r : Reading) : Type 0 where
  pub modes : IsTrue (list_all may_have r.modes)
  pub few : length r.modes ≤ 4
  pub pipes : unwrap_or r.pipes 0 ≤ MOST_PIPELINES
  pub lines : IsTrue (list_all is_line r.lines)
  pub ticks : IsTrue (list_all may_tick r.lines)
  pub ended : r.ended ≡ true → 1 ≤ length r.modes

-- from one reading to the next: it is sound still, with one line more at most
record GoesOn (r left : Reading) : Type 0 where
  sound : IsSoundSoFar left
  few : length left.lines ≤ length r.lines + 1

goes_on : (r p q : Reading) → GoesOn r p → (let s : Result Reading Rule = Ok p in let t : Result Reading Rule = Ok q in s ≡ t) → GoesOn r q
goes_on r p q done same = let is : p ≡ q = cc in subst (λ (x : Reading). GoesOn r x) is done

size_sound : (w : Word) (s : Size) → size_of w ≡ Some s → has_sides s ≡ true
unfolding size_of
size_sound w s h = of_sides (count_in 1 MOST_SIDE (before_first (λ b. b == byte "x") w))
    (count_in 1 MOST_SIDE (after_first (λ b. b == byte "x") w))
    refl refl h
  where
    of_sides : (a b : Option ℕ) → count_in 1 MOST_SIDE (before_first (λ b. b == byte "x") w) ≡ a
        → count_in 1 MOST_SIDE (after_first (λ b. b == byte "x") w) ≡ b → sides a b ≡ Some s → has_sides s ≡ true
    of_sides None b ha hb h = absurd cc
    of_sides (Some a) None ha hb h = absurd cc
    of_sides (Some a) (Some b) ha hb h =
        let first = count_within 1 MOST_SIDE (before_first (λ b. b == byte "x") w) a ha in
        let second = count_within 1 MOST_SIDE (after_first (λ b. b == byte "x") w) b hb in
        let is : record { w = a; h = b } ≡ s = cc in
        subst (λ (x : Size). has_sides x ≡ true) is
        (and_from (is_side a) (is_side b) (and_from (nat_le 1 a) (nat_le a MOST_SIDE) (at_most 1 a first.0) (at_most a MOST_SIDE first.1))
        (and_from (nat_le 1 b) (nat_le b MOST_SIDE) (at_most 1 b second.0) (at_most b MOST_SIDE second.1)))

sizes_sound : (ws : List Word) (read : List Size) → sizes ws ≡ Ok read → (list_all has_sides read ≡ true) × (length read ≡ length ws)
unfolding sizes
sizes_sound [] read h = let none : [] ≡ read = cc in
    (subst (λ (x : List Size). list_all has_sides x ≡ true) none refl, sym (ap length none))
sizes_sound (w ∷ ws) read h =
    let size = bind_ok (found_or rule.Word (size_of w)) _ read h in
    let others = bind_ok (sizes ws) _ read size.2 in
    let all : size.0 ∷ others.0 ≡ read = cc in
    let later = sizes_sound ws others.0 others.1 in (
      subst (λ (x : List Size). list_all has_sides x ≡ true) all
          (and_from (has_sides size.0) (list_all has_sides others.0) (size_sound w size.0 (found_ok rule.Word (size_of w) size.0 size.1))
          later.0),
      omega (arith, ap length all, later.1),
    )

all_more : {A : Type 0} (p : A → Bool) (xs : List A) (x : A) → list_all p xs ≡ true → p x ≡ true → list_all p (xs ++ x ∷ []) ≡ true
all_more p xs x all one =
    list_all-append p xs (x ∷ []) ∙ and_from (list_all p xs) (p x && true) all (and_from (p x) true one refl)

port_sound : (r left : Reading) (ws : List Word) → IsSoundSoFar r → port_line r ws ≡ Ok left → GoesOn r left
unfolding port_line
port_sound r left ws sound h =
    let here = bind_ok (refuse_if rule.Place (no_port_here r)) _ left h in
    let count = bind_ok (refuse_if rule.Count (not (is_mode_count (length ws)))) _ left here.2 in
    let modes = bind_ok (sizes ws) _ left count.2 in
    let free = none_of_four r.ended (is_some r.pipes) (has_lines r) (not (nat_lt (length r.modes) 4))
    (passed rule.Place (no_port_here r) here.0 here.1) in
    let counted = and_parts (nat_le 1 (length ws)) (nat_le (length ws) 4)
    (not_false (is_mode_count (length ws)) (passed rule.Count (not (is_mode_count (length ws))) count.0 count.1)) in
    let read = sizes_sound ws modes.0 modes.1 in
    let new : Modes = record { sizes = record { items = modes.0 } } in
    let low : 1 ≤ length modes.0 = omega (arith, leb-true 1 (length ws) counted.0, read.1) in
    let high : length modes.0 ≤ 4 = omega (arith, leb-true (length ws) 4 counted.1, read.1) in
    let room : length r.modes < 4 = ltb-true (length r.modes) 4 (not_false (nat_lt (length r.modes) 4) free.1) in
    goes_on r (record r { modes = r.modes ++ new ∷ [] }) left (record {
      sound = record {
        modes = all_more may_have r.modes new sound.modes
            (all_three (nat_le 1 (length modes.0)) (nat_le (length modes.0) 4) (list_all has_sides modes.0) (at_most 1 (length modes.0) low)
            (at_most (length modes.0) 4 high) read.0);
        few = omega (arith, room, length-append r.modes (new ∷ []));
        pipes = sound.pipes;
        lines = sound.lines;
        ticks = sound.ticks;
        ended = λ yes. absurd (let no : r.ended ≡ false = free.0 in cc);
      };
      few = omega arith;
    }) modes.2
  where
    none_of_four : (a b c d : Bool) → (a || (b || (c || d))) ≡ false → (a ≡ false) × (d ≡ false)
    none_of_four false false false d h = (refl, h)
    none_of_four false false true d h = absurd cc
    none_of_four false true c d h = absurd cc
    none_of_four true b c d h = absurd cc

pipes_sound : (r left : Reading) (ws : List Word) → IsSoundSoFar r → pipes_line r ws ≡ Ok left → GoesOn r left
unfolding pipes_line
pipes_sound r left ws sound h =
    let here = bind_ok (refuse_if rule.Place (no_pipes_here r)) _ left h in
    let w = bind_ok (alone ws) _ left here.2 in
    let count = bind_ok (found_or rule.Word (count_in 0 MOST_PIPELINES w.0)) _ left w.2 in
    goes_on r (record r { pipes = Some count.0 }) left (record {
      sound = record {
        modes = sound.modes;
        few = sound.few;
        pipes = (count_within 0 MOST_PIPELINES w.0 count.0 (found_ok rule.Word (count_in 0 MOST_PIPELINES w.0) count.0 count.1)).1;
        lines = sound.lines;
        ticks = sound.ticks;
        ended = sound.ended;
      };
      few = omega arith;
    }) count.2

end_sound : (r left : Reading) (ws : List Word) → IsSoundSoFar r → end_line r ws ≡ Ok left → GoesOn r left
unfolding end_line
end_sound r left ws sound h =
    let here = bind_ok (refuse_if rule.Place (no_event_here r)) _ left h in
    let count = bind_ok (refuse_if rule.Count (nat_lt 0 (length ws))) _ left here.2 in
    let declared : (not (has_ports r)) ≡ false = second r.ended (not (has_ports r)) (passed rule.Place (no_event_here r) here.0 here.1) in
    let some : 0 < length r.modes = ltb-true 0 (length r.modes) (not_false (has_ports r) declared) in
    goes_on r (record r { ended = true }) left (record {
      sound = record {
        modes = sound.modes;
        few = sound.few;
        pipes = sound.pipes;
        lines = sound.lines;
        ticks = sound.ticks;
        ended = λ yes. omega arith;
      };
      few = omega arith;
    }) count.2
  where
    second : (a b : Bool) → (a || b) ≡ false → b ≡ false
    second false b h = h
    second true b h = absurd cc

parts_are : (p q : Parts) → AreWords p.arguments → (let r : Result Parts Rule = Ok p in let s : Result Parts Rule = Ok q in r ≡ s)
    → AreWords q.arguments
parts_are p q are same = let is : p ≡ q = cc in subst (λ (x : Parts). AreWords x.arguments) is are

pub parts_words : (ws : List Word) (parts : Parts) → AreWords ws → parts_of ws ≡ Ok parts → AreWords parts.arguments
unfolding parts_of
parts_words [] parts words h = absurd cc
parts_words (v ∷ []) parts words h = parts_are (record { name = None; verb = v; arguments = [] }) parts refl h
parts_words (v ∷ w ∷ []) parts words h =
    let plain : Parts = record { name = None; verb = v; arguments = w ∷ [] } in
    elim (bytes_eq w (codes "=")) as (λ b. (if b then Err rule.Verb else Ok plain) ≡ Ok parts → AreWords parts.arguments) [
      | true ↦ λ same. absurd cc
      | false ↦ λ same. parts_are plain parts (and_parts (is_word v) (list_all is_word (w ∷ [])) words).1 same
    ] h
parts_words (v ∷ w ∷ u ∷ us) parts words h =
    let behind = (and_parts (is_word v) (list_all is_word (w ∷ u ∷ us)) words).1 in
    let plain : Parts = record { name = None; verb = v; arguments = w ∷ u ∷ us } in
    let named : Parts = record { name = Some v; verb = u; arguments = us } in
    let read : Bool → Result Parts Rule = λ b. if b then Ok named else Ok plain in
    elim (bytes_eq w (codes "=")) as (λ b. read b ≡ Ok parts → AreWords parts.arguments) [
      | true ↦ λ same. parts_are named parts (and_parts (is_word u) (list_all is_word us)
          (and_parts (is_word w) (list_all is_word (u ∷ us)) behind).1).1 same
      | false ↦ λ same. parts_are plain parts behind same
    ] h

event_sound : (r left : Reading) (client : ℕ) (ws : List Word) → client < 8 → AreWords ws → IsSoundSoFar r
    → event_line r client ws ≡ Ok left → GoesOn r left
unfolding event_line
event_sound r left client ws small words sound h =
    let parts = bind_ok (parts_of ws) _ left h in
    let form = bind_ok (found_or rule.Verb (look_up forms parts.0.verb)) _ left parts.2 in
    let has_name = bind_ok (refuse_if rule.Verb (not (has_its_name form.0 parts.0.name))) _ left form.2 in
    let here = bind_ok (refuse_if rule.Place (no_event_here r || not (is_its_client form.0 client))) _ left has_name.2 in
    let given = bind_ok (arguments form.0 parts.0.arguments) _ left here.2 in
    let name = bind_ok (bound_name parts.0.name) _ left given.2 in
    let used = bind_ok (refuse_if rule.Name (not (list_all (is_visible r.lines client) given.0.1))) _ left name.2 in
    let free = bind_ok (refuse_if rule.Name (is_taken r client name.0)) _ left used.2 in
    let l : Line = record { client = client; name = name.0; verb = given.0.0 } in
    let own : is_its_client form.0 client ≡ true = second (no_event_here r) (is_its_client form.0 client)
    (passed rule.Place (no_event_here r || not (is_its_client form.0 client)) here.0 here.1) in
    let may = arguments_sound client form.0 parts.0.arguments (parts_words ws parts.0 words parts.1) own given.0 given.1 in
    let paints = paints_within client given.0.0 may in
    goes_on r (record r { lines = r.lines ++ l ∷ [] }) left (record {
      sound = record {
        modes = sound.modes;
        few = sound.few;
        pipes = sound.pipes;
        lines = all_more is_line r.lines l sound.lines (and_from (nat_lt client 8) (may_paint given.0.0) (lt-ltb client 8 small) paints);
        ticks = all_more may_tick r.lines l sound.ticks (ticks_alone l may);
        ended = sound.ended;
      };
      few = omega (arith, length-append r.lines (l ∷ []));
    }) free.2
  where
    second : (a b : Bool) → a || not b ≡ false → b ≡ true
    second false true h = refl
    second false false h = absurd cc
    second true b h = absurd cc

client_small : (w : Word) (n : ℕ) → client_of w ≡ Some n → n < 8
client_small [] n h = absurd cc
client_small (b ∷ c ∷ bs) n h = absurd cc
client_small (b ∷ []) n h =
    elim (nat_le (byte "0") b && nat_le b (byte "7")) as (λ t. (nat_le (byte "0") b && nat_le b (byte "7")) ≡ t
    → (if t then Some (b - byte "0") else None) ≡ Some n → n < 8) [
      | true ↦ λ yes same. (let within = and_parts (nat_le (byte "0") b) (nat_le b (byte "7")) yes in
          let high = leb-true b (byte "7") within.1 in let is : b - byte "0" ≡ n = cc in omega arith)
      | false ↦ λ no same. absurd cc
    ] refl h

words_sound : (r left : Reading) (ws : List Word) → AreWords ws → IsSoundSoFar r → line_of r ws ≡ Ok left → GoesOn r left
unfolding line_of
words_sound r left [] words sound h = goes_on r r left (record { sound = sound; few = omega arith }) h
words_sound r left (w ∷ ws) words sound h =
    let behind = (and_parts (is_word w) (list_all is_word ws) words).1 in
    let event = λ (e : (found_or rule.Client (client_of w) >>= (λ client. event_line r client ws)) ≡ Ok left). (
    let client = bind_ok (found_or rule.Client (client_of w)) _ left e in
    event_sound r left client.0 ws (client_small w client.0 (found_ok rule.Client (client_of w) client.0 client.1)) behind sound
    client.2) in
    by_word (bytes_eq w (codes "port")) (bytes_eq w (codes "pipes")) (bytes_eq w (codes "end")) event behind h
  where
    by_word : (port pipes end : Bool) → ((found_or rule.Client (client_of w) >>= (λ client. event_line r client ws)) ≡ Ok left
        → GoesOn r left) → AreWords ws
        → (if port then port_line r ws else (if pipes then pipes_line r ws else
        (if end then end_line r ws else (found_or rule.Client (client_of w) >>= (λ client. event_line r client ws))))) ≡ Ok left
        → GoesOn r left
    by_word true pipes end event are e = port_sound r left ws sound e
    by_word false true end event are e = pipes_sound r left ws sound e
    by_word false false true event are e = end_sound r left ws sound e
    by_word false false false event are e = event e

line_sound : (r left : Reading) (line : List ℕ) → IsSoundSoFar r → read_line r line ≡ Ok left → GoesOn r left
unfolding read_line
line_sound r left line sound h =
    let all = bind_ok (refuse_if rule.Byte (not (list_all is_allowed (without_return line)))) _ left h in
    words_sound r left (line_words line) (words_in_are (without_comment (without_return line))) sound all.2

pub at_line_ok : (n : ℕ) (read : Result Reading Rule) (left : Reading) → at_line n read ≡ Ok left → read ≡ Ok left
at_line_ok n (Ok r) left h = let is : r ≡ left = cc in ap (λ (x : Reading). Ok x) is
at_line_ok n (Err broken) left h = absurd cc

-- the lines of a text that is read to its end
lines_sound : (n : ℕ) (r left : Reading) (ls : List (List ℕ)) → IsSoundSoFar r → length r.lines + 2 ≤ n → n ≤ 16385
    → read_lines n r ls ≡ Ok left → IsSoundSoFar left × (left.ended ≡ true) × (length left.lines < MOST_LINES)
unfolding read_lines
lines_sound n r left [] sound few most h =
    elim r.ended as (λ b. r.ended ≡ b → (if b then Ok r else Err (fault.NoEnd n)) ≡ Ok left → IsSoundSoFar left × (left.ended ≡ true)
    × (length left.lines < MOST_LINES)) [
      | true ↦ λ ended same. (let is : r ≡ left = cc in subst (λ (x : Reading). IsSoundSoFar x × (x.ended ≡ true)
          × (length x.lines < MOST_LINES)) is (sound, ended, omega arith))
      | false ↦ λ no same. absurd cc
    ] refl h
lines_sound n r left (l ∷ ls) sound few most h =
    let room = bind_ok (refuse_if fault.TooManyLines (nat_lt MOST_LINES n)) _ left h in
    let next = bind_ok (at_line n (read_line r l)) _ left room.2 in
    let within : n ≤ MOST_LINES = grind (arith, nat_tests, passed fault.TooManyLines (nat_lt MOST_LINES n) room.0 room.1) in
    let step = line_sound r next.0 l sound (at_line_ok n (read_line r l) next.0 next.1) in
    lines_sound (n + 1) next.0 left ls step.sound (omega (arith, step.few)) (omega arith) next.2

nothing_sound : IsSoundSoFar nothing_read
nothing_sound = record { modes = refl; few = omega arith; pipes = omega arith; lines = refl; ticks = refl; ended = λ h. absurd cc }

-- every script that is read has what holds of scripts
pub script_sound : (r : Reading) (ls : List (List ℕ)) → read_lines 2 nothing_read ls ≡ Ok r → IsScript (script_of r)
script_sound r ls h =
    let all = lines_sound 2 nothing_read r ls nothing_sound (omega arith) (omega arith) h in
    record {
      ports = all_four (nat_le 1 (length r.modes)) (nat_le (length r.modes) 4) (list_all may_have r.modes) (nat_le (unwrap_or r.pipes 0) 8)
          (at_most 1 (length r.modes) (all.0.ended all.1)) (at_most (length r.modes) 4 all.0.few) all.0.modes
          (at_most (unwrap_or r.pipes 0) 8 all.0.pipes);
      lines = all.0.lines;
      ticks = all.0.ticks;
      few = omega (arith, all.2);
    }
