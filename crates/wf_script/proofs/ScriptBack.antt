-- The canonical text of a script that was read is read as that script.
use Rattle.std.proofs.Common.{◌≡◌, ◌∙◌, ℕ, ◌+◌, ◌<◌, ◌≤◌, Bool, true, false, not, ◌||◌, ◌==◌, nat_lt, List, [], ◌∷◌}
use Rattle.std.proofs.Common.{◌++◌, length, map, Option, Some, None, Result, Ok, Err, refl, sym, ap, subst, arith, append_assoc, append-nil}
use Rattle.std.proofs.Common.{length-append, unwrap_or}
use Rattle.std.specs.Prelude.{codes, decimal, flat_map, is_some, if◌then◌else◌}
use Rattle.std.specs.List.{list_all}
use Rattle.std.specs.Str.{bytes_eq}
use Rattle.std.proofs.lemmas.Bool.{and_from, and_parts, eqb-true, le-ltb}
use Rattle.std.proofs.lemmas.Bool.Decides.{nat_tests}
use Rattle.std.proofs.lemmas.Grind.{flat_map-append}
use Rattle.std.proofs.lemmas.List.{map-append}
use Rattle.wf_words.specs.Refusals.{◌>>=◌, refuse_if, found_or}
use Rattle.wf_calls.specs.declared.ports.Modes.{Modes}
use Rattle.wf_script.specs.declared.fault.ScriptFault.TheVariants as fault
use Rattle.wf_script.specs.declared.line.Line.{Line}
use Rattle.wf_script.specs.declared.rule.Rule.{Rule}
use Rattle.wf_script.specs.declared.rule.Rule.TheVariants as rule
use Rattle.wf_script.specs.Canonical.{binding_words, canonical, event_text, pipes_text, port_text, size_word, text_line, verb_words}
use Rattle.wf_script.specs.Grammar.{Reading, Stands, alone, at_line, end_line, event_line, has_lines, is_header, is_mode_count, line_of}
use Rattle.wf_script.specs.Grammar.{line_words, no_event_here, no_pipes_here, no_port_here, nothing_read, pipes_line, port_line, read_line}
use Rattle.wf_script.specs.Grammar.{read_lines, read_script, script_of, sizes}
use Rattle.wf_script.specs.Script.{PlainScript}
use Rattle.wf_script.specs.Words.{Word, client_of, count_in, is_allowed, is_word, lines_of, without_comment, without_return, words_in}
use Rattle.wf_script.proofs.Clean.{all_both, clean_is_plain, is_plain}
use Rattle.wf_script.proofs.Splitting.{allowed_line, are_plain, in_line, joined, no_comment_left, no_return_left, text_again, words_again}
use Rattle.wf_script.proofs.LineBack.{clean_are_plain, client_word, client_word_clean, event_back, go, go_on, sizes_back}
use Rattle.wf_script.proofs.Numerals.{count_back}
use Rattle.wf_script.proofs.Sound.{at_line_ok}
use Rattle.wf_script.proofs.Steps.{AreWords, bind_ok, found_ok, passed, words_in_are}
use Rattle.wf_script.specs.declared.TheConstants.{MOST_LINES}
use Rattle.wf_calls.specs.declared.TheConstants.{MOST_PIPELINES}

-- the canonical lines of what was read, as words

abbrev port_words : Modes → List Word
port_words m = codes "port" ∷ map size_word m.sizes.items

abbrev pipes_words : ℕ → List Word
pipes_words n = codes "pipes" ∷ decimal n ∷ []

abbrev pipes_lines : Option ℕ → List (List Word)
pipes_lines None = []
pipes_lines (Some n) = if n == 0 then [] else pipes_words n ∷ []

abbrev pub event_words : Line → List Word
event_words l = decimal l.client ∷ binding_words l.name ++ verb_words l.verb

abbrev end_lines : Bool → List (List Word)
end_lines false = []
end_lines true = (codes "end" ∷ []) ∷ []

abbrev pub lines_with : List Modes → Option ℕ → List Line → Bool → List (List Word)
lines_with modes pipes lines ended = ((map port_words modes ++ pipes_lines pipes) ++ map event_words lines) ++ end_lines ended

abbrev pub line_list : Reading → List (List Word)
line_list r = lines_with r.modes r.pipes r.lines r.ended

-- no pipelines are printed as none were declared

abbrev printed_pipes : Option ℕ → Option ℕ
printed_pipes None = None
printed_pipes (Some n) = if n == 0 then None else Some n

abbrev printed : Reading → Reading
printed r = record r { pipes = printed_pipes r.pipes }

-- lines, read one after another
abbrev read_all : Reading → List (List Word) → Result Reading Rule
read_all r [] = Ok r
read_all r (ws ∷ wss) = line_of r ws >>= (λ next. read_all next wss)

same_ok : (p q : Reading) → (let t : Result Reading Rule = Ok p in let u : Result Reading Rule = Ok q in t ≡ u) → p ≡ q
same_ok p q e = cc

one_more : (r next left : Reading) (wss : List (List Word)) (ws : List Word) → read_all r wss ≡ Ok next → line_of next ws ≡ Ok left
    → read_all r (wss ++ ws ∷ []) ≡ Ok left
one_more r next left [] ws before last =
    let is : r ≡ next = same_ok r next before in
    go (line_of r ws) left (λ n. read_all n []) (Ok left) (subst (λ (x : Reading). line_of x ws ≡ Ok left) (sym is) last) refl
one_more r next left (vs ∷ wss) ws before last =
    let first = bind_ok (line_of r vs) (λ n. read_all n wss) next before in
    go (line_of r vs) first.0 (λ n. read_all n (wss ++ ws ∷ [])) (Ok left) first.1 (one_more first.0 next left wss ws first.2 last)

-- what was read so far, and its canonical lines
pub record IsBack (r : Reading) : Type 0 where
  pub again : read_all nothing_read (line_list r) ≡ Ok (printed r)
  pub plain : are_plain (line_list r) ≡ true

nothing_back : IsBack nothing_read
nothing_back = record { again = refl; plain = refl }

-- from one reading to the next, with one canonical line more at most
pub record GoesBack (r left : Reading) : Type 0 where
  pub back : IsBack left
  few : length (line_list left) ≤ length (line_list r) + 1

goes_back : (r p q : Reading) → GoesBack r p → (let s : Result Reading Rule = Ok p in let t : Result Reading Rule = Ok q in s ≡ t)
    → GoesBack r q
goes_back r p q done same = subst (λ (x : Reading). GoesBack r x) (same_ok p q same) done

-- one line more
with_line : (r left : Reading) (ws : List Word) → IsBack r → line_list left ≡ line_list r ++ ws ∷ [] → list_all is_plain ws ≡ true
    → line_of (printed r) ws ≡ Ok (printed left) → GoesBack r left
with_line r left ws back all plain reads = record {
  back = record {
    again = ap (read_all nothing_read) all ∙ one_more nothing_read (printed r) (printed left) (line_list r) ws back.again reads;
    plain = ap are_plain all ∙ all_both (λ vs. list_all is_plain vs) (line_list r) (ws ∷ []) back.plain
        (and_from (list_all is_plain ws) true plain refl);
  };
  few = omega (arith, ap length all, length-append (line_list r) (ws ∷ []));
}

-- the kinds of lines

none_is : {A : Type 0} (o : Option A) → is_some o ≡ false → o ≡ None
none_is None h = refl
none_is (Some x) h = absurd cc

no_lines : (lines : List Line) → nat_lt 0 (length lines) ≡ false → lines ≡ []
no_lines [] h = refl
no_lines (l ∷ ls) h = absurd (grind (arith, nat_tests, h))

three : (a b c d : Bool) → (a || (b || (c || d))) ≡ false → (a ≡ false) × (b ≡ false) × (c ≡ false) × (d ≡ false)
three false false false false h = (refl, refl, refl, refl)
three false false false true h = absurd cc
three false false true d h = absurd cc
three false true c d h = absurd cc
three true b c d h = absurd cc

port_more : (modes : List Modes) (m : Modes) (pipes : Option ℕ) (lines : List Line) (ended : Bool)
    → pipes ≡ None → lines ≡ [] → ended ≡ false
    → lines_with (modes ++ m ∷ []) pipes lines ended ≡ lines_with modes pipes lines ended ++ port_words m ∷ []
port_more modes m pipes lines ended none bare not_yet =
    rw (none, bare, not_yet) (simp append-nil (map-append port_words modes (m ∷ [])))

port_back : (r left : Reading) (ws : List Word) → IsBack r → port_line r ws ≡ Ok left → GoesBack r left
unfolding port_line line_of
port_back r left ws back h =
    let here = bind_ok (refuse_if rule.Place (no_port_here r)) _ left h in
    let count = bind_ok (refuse_if rule.Count (not (is_mode_count (length ws)))) _ left here.2 in
    let modes = bind_ok (sizes ws) _ left count.2 in
    let tests = three r.ended (is_some r.pipes) (has_lines r) (not (nat_lt (length r.modes) 4))
    (passed rule.Place (no_port_here r) here.0 here.1) in
    let none = none_is r.pipes tests.1 in
    let again = sizes_back ws modes.0 modes.1 in
    let m : Modes = record { sizes = record { items = modes.0 } } in
    let next : Reading = record r { modes = r.modes ++ m ∷ [] } in
    let place : no_port_here (printed r) ≡ false = rw (none, tests.0, tests.2, tests.3) refl in
    let few : not (is_mode_count (length (map size_word modes.0))) ≡ false =
    ap (λ (n : ℕ). not (is_mode_count n)) again.long ∙ passed rule.Count (not (is_mode_count (length ws))) count.0 count.1 in
    goes_back r next left (with_line r next (port_words m) back
    (port_more r.modes m r.pipes r.lines r.ended none (no_lines r.lines tests.2) tests.0)
    (and_from (is_plain (codes "port")) (list_all is_plain (map size_word modes.0)) refl
    (clean_are_plain (map size_word modes.0) again.clean))
    (go (refuse_if rule.Place (no_port_here (printed r))) tt _ _ (go_on rule.Place (no_port_here (printed r)) place)
    (go (refuse_if rule.Count (not (is_mode_count (length (map size_word modes.0))))) tt _ _
    (go_on rule.Count (not (is_mode_count (length (map size_word modes.0)))) few)
    (go (sizes (map size_word modes.0)) modes.0 _ _ again.reads refl)))) modes.2

pipes_more : (modes : List Modes) (n : ℕ) (pipes : Option ℕ) (lines : List Line) (ended : Bool) → pipes ≡ None → lines ≡ [] → ended ≡ false
    → (n == 0) ≡ false → lines_with modes (Some n) lines ended ≡ lines_with modes pipes lines ended ++ pipes_words n ∷ []
pipes_more modes n pipes lines ended none bare not_yet some = rw (none, bare, not_yet, some) (simp append-nil)

pipes_none : (modes : List Modes) (n : ℕ) (pipes : Option ℕ) (lines : List Line) (ended : Bool) → pipes ≡ None → (n == 0) ≡ true
    → lines_with modes (Some n) lines ended ≡ lines_with modes pipes lines ended
pipes_none modes n pipes lines ended none zero = rw (none, zero) refl

declared_none : (n : ℕ) (pipes : Option ℕ) → pipes ≡ None → (n == 0) ≡ true → printed_pipes (Some n) ≡ printed_pipes pipes
declared_none n pipes none zero = rw (none, zero) refl

pipes_back : (r left : Reading) (ws : List Word) → IsBack r → pipes_line r ws ≡ Ok left → GoesBack r left
unfolding pipes_line line_of
pipes_back r left ws back h =
    let here = bind_ok (refuse_if rule.Place (no_pipes_here r)) _ left h in
    let w = bind_ok (alone ws) _ left here.2 in
    let count = bind_ok (found_or rule.Word (count_in 0 MOST_PIPELINES w.0)) _ left w.2 in
    let tests = three r.ended (not (nat_lt 0 (length r.modes))) (is_some r.pipes) (has_lines r)
    (passed rule.Place (no_pipes_here r) here.0 here.1) in
    let none = none_is r.pipes tests.2 in
    let again = count_back 0 MOST_PIPELINES (omega arith) w.0 count.0
    (found_ok rule.Word (count_in 0 MOST_PIPELINES w.0) count.0 count.1) in
    let next : Reading = record r { pipes = Some count.0 } in
    let place : no_pipes_here (printed r) ≡ false = rw (none, tests.0, tests.1, tests.3) refl in
    goes_back r next left
    (elim (count.0 == 0) as (λ t. (count.0 == 0) ≡ t → GoesBack r next) [
      | true ↦ λ zero. record {
        back = record {
          again = ap (read_all nothing_read) (pipes_none r.modes count.0 r.pipes r.lines r.ended none zero) ∙ back.again
              ∙ ap (λ (o : Option ℕ). Ok (record r { pipes = o })) (sym (declared_none count.0 r.pipes none zero));
          plain = ap are_plain (pipes_none r.modes count.0 r.pipes r.lines r.ended none zero) ∙ back.plain;
        };
        few = omega (arith, ap length (pipes_none r.modes count.0 r.pipes r.lines r.ended none zero));
      }
      | false ↦ λ some. with_line r next (pipes_words count.0) back
          (pipes_more r.modes count.0 r.pipes r.lines r.ended none (no_lines r.lines tests.3) tests.0 some)
          (rw (clean_is_plain (decimal count.0) again.clean) refl)
          (go (refuse_if rule.Place (no_pipes_here (printed r))) tt _ _ (go_on rule.Place (no_pipes_here (printed r)) place)
          (go (found_or rule.Word (count_in 0 MOST_PIPELINES (decimal count.0))) count.0 _ _
          (ap (found_or rule.Word) again.reads) (rw some refl)))
    ] refl) count.2

end_more : (modes : List Modes) (pipes : Option ℕ) (lines : List Line) (ended : Bool) → ended ≡ false
    → lines_with modes pipes lines true ≡ lines_with modes pipes lines ended ++ (codes "end" ∷ []) ∷ []
end_more modes pipes lines ended not_yet =
    rw not_yet (ap (λ (ls : List (List Word)). ls ++ (codes "end" ∷ []) ∷ [])
    (sym (append-nil ((map port_words modes ++ pipes_lines pipes) ++ map event_words lines))))

end_back : (r left : Reading) (ws : List Word) → IsBack r → end_line r ws ≡ Ok left → GoesBack r left
unfolding end_line line_of
end_back r left ws back h =
    let here = bind_ok (refuse_if rule.Place (no_event_here r)) _ left h in
    let count = bind_ok (refuse_if rule.Count (nat_lt 0 (length ws))) _ left here.2 in
    let place = passed rule.Place (no_event_here r) here.0 here.1 in
    let next : Reading = record r { ended = true } in
    goes_back r next left (with_line r next (codes "end" ∷ []) back
    (end_more r.modes r.pipes r.lines r.ended (first r.ended (not (nat_lt 0 (length r.modes))) place)) refl
    (go (refuse_if rule.Place (no_event_here (printed r))) tt _ _ (go_on rule.Place (no_event_here (printed r)) place) refl)) count.2
  where
    first : (a b : Bool) → (a || b) ≡ false → a ≡ false
    first false b h = refl
    first true b h = absurd cc

event_more : (modes : List Modes) (pipes : Option ℕ) (lines : List Line) (l : Line) (ended : Bool) → ended ≡ false
    → lines_with modes pipes (lines ++ l ∷ []) ended ≡ lines_with modes pipes lines ended ++ event_words l ∷ []
event_more modes pipes lines l ended not_yet = rw not_yet (simp (append-nil, map-append, append_assoc))

event_line_back : (r left : Reading) (w : Word) (client : ℕ) (ws : List Word) → AreWords ws → IsBack r → client_of w ≡ Some client
    → bytes_eq w (codes "port") ≡ false → bytes_eq w (codes "pipes") ≡ false → bytes_eq w (codes "end") ≡ false
    → event_line r client ws ≡ Ok left → GoesBack r left
unfolding line_of
event_line_back r left w client ws words back is no_port no_pipes no_end h =
    let event = event_back r left client ws words h in
    let l : Line = event.line in
    let next : Reading = record r { lines = r.lines ++ l ∷ [] } in
    let rest : List Word = binding_words l.name ++ verb_words l.verb in
    let word : decimal l.client ≡ w = ap (λ (n : ℕ). decimal n) event.client_is ∙ client_word w client is in
    let not_yet = first r.ended (not (nat_lt 0 (length r.modes))) event.here in
    goes_back r next left (with_line r next (event_words l) back (event_more r.modes r.pipes r.lines l r.ended not_yet)
    (and_from (is_plain (decimal l.client)) (list_all is_plain rest)
    (subst (λ (v : Word). is_plain v ≡ true) (sym word) (clean_is_plain w (client_word_clean w client is))) event.plain)
    (ap (λ (v : Word). line_of (printed r) (v ∷ rest)) word
    ∙ rw (no_port, no_pipes, no_end) (go (found_or rule.Client (client_of w)) client _ _ (ap (found_or rule.Client) is)
    (event.again (printed r) refl event.here)))) (ap (λ (x : Reading). Ok x) event.left_is)
  where
    first : (a b : Bool) → (a || b) ≡ false → a ≡ false
    first false b h = refl
    first true b h = absurd cc

pub words_back : (r left : Reading) (ws : List Word) → AreWords ws → IsBack r → line_of r ws ≡ Ok left → GoesBack r left
unfolding line_of
words_back r left [] words back h = goes_back r r left (record { back = back; few = omega arith }) h
words_back r left (w ∷ ws) words back h =
    let behind = (and_parts (is_word w) (list_all is_word ws) words).1 in
    by_word (bytes_eq w (codes "port")) (bytes_eq w (codes "pipes")) (bytes_eq w (codes "end")) refl refl refl behind h
  where
    by_word : (port pipes end : Bool) → bytes_eq w (codes "port") ≡ port → bytes_eq w (codes "pipes") ≡ pipes
        → bytes_eq w (codes "end") ≡ end → AreWords ws
        → (if port then port_line r ws else (if pipes then pipes_line r ws else
        (if end then end_line r ws else (found_or rule.Client (client_of w) >>= (λ client. event_line r client ws))))) ≡ Ok left
        → GoesBack r left
    by_word true pipes end ep ei ee are e = port_back r left ws back e
    by_word false true end ep ei ee are e = pipes_back r left ws back e
    by_word false false true ep ei ee are e = end_back r left ws back e
    by_word false false false ep ei ee are e =
        let client = bind_ok (found_or rule.Client (client_of w)) _ left e in
        event_line_back r left w client.0 ws are back (found_ok rule.Client (client_of w) client.0 client.1) ep ei ee client.2

line_back : (r left : Reading) (line : List ℕ) → IsBack r → read_line r line ≡ Ok left → GoesBack r left
unfolding read_line
line_back r left line back h =
    let all = bind_ok (refuse_if rule.Byte (not (list_all is_allowed (without_return line)))) _ left h in
    words_back r left (line_words line) (words_in_are (without_comment (without_return line))) back all.2

-- the lines of a text that is read to its end
pub record AllBack (left : Reading) : Type 0 where
  pub back : IsBack left
  pub ended : left.ended ≡ true
  pub few : length (line_list left) < MOST_LINES

lines_back : (n : ℕ) (r left : Reading) (ls : List (List ℕ)) → IsBack r → length (line_list r) + 2 ≤ n → n ≤ 16385
    → read_lines n r ls ≡ Ok left → AllBack left
unfolding read_lines
lines_back n r left [] back few most h =
    elim r.ended as (λ b. r.ended ≡ b → (if b then Ok r else Err (fault.NoEnd n)) ≡ Ok left → AllBack left) [
      | true ↦ λ ended same. (let is : r ≡ left = cc in subst AllBack is (record { back = back; ended = ended; few = omega arith }))
      | false ↦ λ no same. absurd cc
    ] refl h
lines_back n r left (l ∷ ls) back few most h =
    let room = bind_ok (refuse_if fault.TooManyLines (nat_lt MOST_LINES n)) _ left h in
    let next = bind_ok (at_line n (read_line r l)) _ left room.2 in
    let within : n ≤ MOST_LINES = grind (arith, nat_tests, passed fault.TooManyLines (nat_lt MOST_LINES n) room.0 room.1) in
    let step = line_back r next.0 l back (at_line_ok n (read_line r l) next.0 next.1) in
    lines_back (n + 1) next.0 left ls step.back (omega (arith, step.few)) (omega arith) next.2

-- the canonical lines, read as lines of a text
joined_line : (r : Reading) (ws : List Word) → list_all is_plain ws ≡ true → read_line r (joined ws) ≡ line_of r ws
unfolding read_line
joined_line r ws plain =
    let bytes = in_line ws plain in
    let bare : without_return (joined ws) ≡ joined ws = no_return_left (joined ws) bytes in
    let allowed : not (list_all is_allowed (without_return (joined ws))) ≡ false =
    ap (λ (line : List ℕ). not (list_all is_allowed line)) bare ∙ ap not (allowed_line (joined ws) bytes) in
    go (refuse_if rule.Byte (not (list_all is_allowed (without_return (joined ws))))) tt _ _
    (go_on rule.Byte (not (list_all is_allowed (without_return (joined ws)))) allowed)
    (ap (line_of r) (ap (λ (line : List ℕ). words_in (without_comment line)) bare ∙ ap words_in (no_comment_left (joined ws) bytes)
    ∙ words_again ws plain))

lines_read : (n : ℕ) (r final : Reading) (wss : List (List Word)) → are_plain wss ≡ true → read_all r wss ≡ Ok final
    → final.ended ≡ true → n + length wss ≤ 16385 → read_lines n r (map joined wss) ≡ Ok final
unfolding read_lines
lines_read n r final [] plain all ended few =
    let is : r ≡ final = same_ok r final all in
    let done : r.ended ≡ true = ap (λ (x : Reading). x.ended) is ∙ ended in
    ap (λ (b : Bool). if b then Ok r else Err (fault.NoEnd n)) done ∙ ap (λ (x : Reading). Ok x) is
lines_read n r final (ws ∷ wss) plain all ended few =
    let parts = and_parts (list_all is_plain ws) (are_plain wss) plain in
    let first = bind_ok (line_of r ws) (λ next. read_all next wss) final all in
    let room : nat_lt MOST_LINES n ≡ false = le-ltb MOST_LINES n (omega arith) in
    go (refuse_if fault.TooManyLines (nat_lt MOST_LINES n)) tt _ _ (ap (refuse_if fault.TooManyLines) room)
    (go (at_line n (read_line r (joined ws))) first.0 _ _ (ap (at_line n) (joined_line r ws parts.0 ∙ first.1))
    (lines_read (n + 1) first.0 final wss parts.1 first.2 ended (omega arith)))

-- the canonical text is that of the canonical lines

ports_text : (modes : List Modes) → flat_map port_text modes ≡ flat_map text_line (map port_words modes)
ports_text [] = refl
ports_text (m ∷ ms) = ap (λ (text : List ℕ). port_text m ++ text) (ports_text ms)

events_text : (lines : List Line) → flat_map event_text lines ≡ flat_map text_line (map event_words lines)
events_text [] = refl
events_text (l ∷ ls) = ap (λ (text : List ℕ). event_text l ++ text) (events_text ls)

pipes_text_is : (pipes : Option ℕ) → pipes_text (unwrap_or pipes 0) ≡ flat_map text_line (pipes_lines pipes)
pipes_text_is None = refl
pipes_text_is (Some n) =
    elim (n == 0) as (λ t. (if t then [] else text_line (pipes_words n)) ≡ flat_map text_line (if t then [] else pipes_words n ∷ [])) [
      | true ↦ refl
      | false ↦ sym (append-nil (text_line (pipes_words n)))
    ]

regroup : (h p q e d : List ℕ) → (((h ++ p) ++ q) ++ e) ++ d ≡ h ++ (((p ++ q) ++ e) ++ d)
regroup h p q e d = simp append_assoc

texts : (a b c d : List (List Word)) → flat_map text_line (((a ++ b) ++ c) ++ d)
    ≡ ((flat_map text_line a ++ flat_map text_line b) ++ flat_map text_line c) ++ flat_map text_line d
texts a b c d = simp (flat_map-append {X = List Word} {A = ℕ})

canonical_is : (r : Reading) → r.ended ≡ true → canonical (script_of r) ≡ flat_map text_line ((codes "WFS1" ∷ []) ∷ line_list r)
unfolding canonical
canonical_is r ended =
    let head : List ℕ = text_line (codes "WFS1" ∷ []) in
    let tail : List ℕ = text_line (codes "end" ∷ []) in
    let ports : List (List Word) = map port_words r.modes in
    let pipes : List (List Word) = pipes_lines r.pipes in
    let events : List (List Word) = map event_words r.lines in
    ap (λ (text : List ℕ). (((head ++ text) ++ pipes_text (unwrap_or r.pipes 0)) ++ flat_map event_text r.lines) ++ tail)
    (ports_text r.modes)
    ∙ ap (λ (text : List ℕ). (((head ++ flat_map text_line ports) ++ text) ++ flat_map event_text r.lines) ++ tail) (pipes_text_is r.pipes)
    ∙ ap (λ (text : List ℕ). (((head ++ flat_map text_line ports) ++ flat_map text_line pipes) ++ text) ++ tail) (events_text r.lines)
    ∙ regroup head (flat_map text_line ports) (flat_map text_line pipes) (flat_map text_line events) tail
    ∙ ap (λ (text : List ℕ). head ++ text) (sym (texts ports pipes events (end_lines true)))
    ∙ ap (λ (b : Bool). head ++ flat_map text_line (lines_with r.modes r.pipes r.lines b)) (sym ended)

printed_script : (r : Reading) → script_of (printed r) ≡ script_of r
printed_script r =
    ap (λ (n : ℕ). record { ports = record { modes = record { items = r.modes }; pipes = n }; lines = r.lines }) (count r.pipes)
  where
    count : (o : Option ℕ) → unwrap_or (printed_pipes o) 0 ≡ unwrap_or o 0
    count None = refl
    count (Some n) =
        elim (n == 0) as (λ t. (n == 0) ≡ t → unwrap_or (if t then None else Some n) 0 ≡ n) [
          | true ↦ λ zero. sym (eqb-true n 0 zero)
          | false ↦ λ some. refl
        ] refl

-- a text whose lines are the header and these
of_lines_is : (bytes : List ℕ) (ls : List (List ℕ)) (script : PlainScript) → lines_of bytes ≡ codes "WFS1" ∷ ls
    → (read_lines 2 nothing_read ls >>= (λ x. Ok (script_of x))) ≡ Ok script → read_script bytes ≡ Ok script
unfolding read_script words_in
of_lines_is bytes ls script lines read = rw lines read

-- the lines of the canonical text of what was read to its end
pub text_lines : (r : Reading) → AllBack r → lines_of (canonical (script_of r)) ≡ joined (codes "WFS1" ∷ []) ∷ map joined (line_list r)
text_lines r all =
    let plain : are_plain ((codes "WFS1" ∷ []) ∷ line_list r) ≡ true = and_from true (are_plain (line_list r)) refl all.back.plain in
    ap lines_of (canonical_is r all.ended) ∙ text_again ((codes "WFS1" ∷ []) ∷ line_list r) plain

-- the canonical text of what was read to its end
pub text_back : (r : Reading) → AllBack r → read_script (canonical (script_of r)) ≡ Ok (script_of r)
unfolding read_script
text_back r all =
    let read = lines_read 2 nothing_read (printed r) (line_list r) all.back.plain all.back.again all.ended (omega (arith, all.few)) in
    of_lines_is (canonical (script_of r)) (map joined (line_list r)) (script_of r) (text_lines r all)
    (go (read_lines 2 nothing_read (map joined (line_list r))) (printed r) (λ x. Ok (script_of x)) (Ok (script_of r)) read
    (ap (λ (s : PlainScript). Ok s) (printed_script r)))

-- the canonical text of a script that bytes stand for stands for it
pub canonical_stands : (bytes : List ℕ) (script : PlainScript) → Stands bytes script → Stands (canonical script) script
unfolding read_script
canonical_stands bytes script h = of_lines (lines_of bytes) refl h
  where
    of_lines : (ls : List (List ℕ)) → lines_of bytes ≡ ls → read_script bytes ≡ Ok script → Stands (canonical script) script
    of_lines [] e same = absurd (let r = rw e at same in cc)
    of_lines (l ∷ ls) e same =
        let stands = rw e at same in
        let header = bind_ok (refuse_if fault.Header (not (is_header l))) (λ _. read_lines 2 nothing_read ls >>= (λ r. Ok (script_of r)))
        script stands in
        let read = bind_ok (read_lines 2 nothing_read ls) (λ r. Ok (script_of r)) script header.2 in
        let all = lines_back 2 nothing_read read.0 ls nothing_back (omega arith) (omega arith) read.1 in
        let is : script_of read.0 ≡ script = cc in
        subst (λ (s : PlainScript). Stands (canonical s) s) is (text_back read.0 all)
