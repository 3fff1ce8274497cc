-- A line is refused with the least rule that it breaks, and a script at the first line that breaks one.
use Rattle.std.proofs.Common.{◌≡◌, ◌∙◌, ℕ, suc, ◌+◌, Bool, true, false, not, ◌||◌, ◌==◌, nat_lt, List, [], ◌∷◌, ◌++◌}
use Rattle.std.proofs.Common.{length}
use Rattle.std.proofs.Common.{Option, Some, None, Result, Ok, Err, refl, sym, ap, arith, cond}
use Rattle.std.specs.Prelude.{codes, is_some, if◌then◌else◌}
use Rattle.std.specs.List.{list_all, list_any}
use Rattle.std.specs.Str.{bytes_eq}
use Rattle.std.proofs.lemmas.Bool.Decides.{nat_tests}
use Rattle.wf_words.specs.Refusals.{◌>>=◌, refuse_if, found_or}
use Rattle.wf_pixel.specs.declared.Size.{Size}
use Rattle.wf_script.specs.declared.fault.ScriptFault.{ScriptFault}
use Rattle.wf_script.specs.declared.fault.ScriptFault.TheVariants as fault
use Rattle.wf_script.specs.declared.form.Form.{Form}
use Rattle.wf_script.specs.declared.line.Verb.{Verb}
use Rattle.wf_script.specs.declared.name.Name.{Name}
use Rattle.wf_script.specs.declared.rule.Rule.{Rule}
use Rattle.wf_script.specs.declared.rule.Rule.TheVariants as rule
use Rattle.wf_script.specs.Breaches.{LineKind, blank, breaks_client, breaks_count, breaks_name, breaks_place}
use Rattle.wf_script.specs.Breaches.{breaks_verb, breaks_word, first_fault, form_breaks_count, form_breaks_place, form_breaks_verb}
use Rattle.wf_script.specs.Breaches.{form_breaks_word, form_in, form_names, is_bound_again, is_no_name, kind_of, least_broken}
use Rattle.wf_script.specs.Breaches.{lines_fault, of_client, of_end, of_event, of_nobody, of_pipes, of_port, off_count, off_kind, refusal}
use Rattle.wf_script.specs.Breaches.{script_fault, shape_of, taken, used_by, words_behind}
use Rattle.wf_script.specs.Forms.{arguments, forms}
use Rattle.wf_script.specs.Grammar.{Parts, Reading, alone, at_line, bound_name, end_line, event_line, has_its_name, is_header}
use Rattle.wf_script.specs.Grammar.{is_its_client}
use Rattle.wf_script.specs.Grammar.{is_mode_count, is_taken, line_of, line_words, no_event_here, no_pipes_here, no_port_here, nothing_read}
use Rattle.wf_script.specs.Grammar.{parts_of, pipes_line, port_line, read_line, read_lines, read_script, script_of, sizes}
use Rattle.wf_script.specs.Visible.{is_visible}
use Rattle.wf_script.specs.Words.{Word, client_of, count_in, is_allowed, lines_of, look_up, name_of, size_of, without_return}
use Rattle.wf_script.proofs.FormJudged.{Uses, form_judged}
use Rattle.wf_script.proofs.Judged.{Judged, WordJudged}
use Rattle.wf_script.proofs.WordBack.{name_is}
use Rattle.wf_script.specs.declared.TheConstants.{MOST_LINES}
use Rattle.wf_calls.specs.declared.TheConstants.{MOST_PIPELINES}

-- a kind of line by its words, as the grammar reads it
abbrev line_by_kind : Reading → LineKind → Result Reading Rule
line_by_kind r blank = Ok r
line_by_kind r (of_port ws) = port_line r ws
line_by_kind r (of_pipes ws) = pipes_line r ws
line_by_kind r (of_end ws) = end_line r ws
line_by_kind r (of_event client ws) = event_line r client ws
line_by_kind r of_nobody = Err rule.Client

-- the least rule from the second on
abbrev least_of : Reading → LineKind → Option Rule
least_of r k =
    cond (breaks_client k) (Some rule.Client) (cond (breaks_verb k) (Some rule.Verb) (cond (breaks_place r k) (Some rule.Place)
    (cond (breaks_count k) (Some rule.Count) (cond (breaks_word k) (Some rule.Word) (cond (breaks_name r k) (Some rule.Name) None)))))

-- a refusal, or what is behind it
refused_or : {A : Type 0} (e : Rule) (t : Bool) (h : Unit {0} → Result A Rule) (more : Option Rule) → refusal (h tt) ≡ more
    → refusal (refuse_if e t >>= h) ≡ cond t (Some e) more
refused_or e true h more same = refl
refused_or e false h more same = same

-- ports

sizes_judged : (ws : List Word) → WordJudged (λ s. Unit {0}) (sizes ws) (list_any (λ w. not (is_some (size_of w))) ws)
unfolding sizes
sizes_judged [] = ([], refl, tt)
sizes_judged (w ∷ ws) = of_size (size_of w) (list_any (λ v. not (is_some (size_of v))) ws) (sizes_judged ws)
  where
    of_size : (o : Option Size) (more : Bool) → WordJudged (λ s. Unit {0}) (sizes ws) more
        → WordJudged (λ s. Unit {0}) (found_or rule.Word o >>= (λ s. sizes ws >>= (λ others. Ok (s ∷ others)))) (not (is_some o) || more)
    of_size None more behind = refl
    of_size (Some s) true behind = ap (λ r. r >>= (λ others. Ok (s ∷ others))) behind
    of_size (Some s) false behind = (s ∷ behind.0, ap (λ r. r >>= (λ others. Ok (s ∷ others))) behind.1, tt)

-- what is made of something that is judged
made_judged : {A : Type 0} (r : Result A Rule) (h : A → Reading) (word : Bool) → WordJudged (λ s. Unit {0}) r word
    → refusal (r >>= (λ x. Ok (h x))) ≡ cond word (Some rule.Word) None
made_judged r h true e = ap (λ s. refusal (s >>= (λ x. Ok (h x)))) e
made_judged r h false found = ap (λ s. refusal (s >>= (λ x. Ok (h x)))) found.1

port_judged : (r : Reading) (ws : List Word) → refusal (port_line r ws) ≡ least_of r (of_port ws)
unfolding port_line
port_judged r ws =
    refused_or rule.Place (no_port_here r) _ _ (refused_or rule.Count (not (is_mode_count (length ws))) _ _
    (made_judged (sizes ws) (λ modes. record r { modes = r.modes ++ record { sizes = record { items = modes } } ∷ [] })
    (list_any (λ w. not (is_some (size_of w))) ws) (sizes_judged ws)))

-- pipelines

one_count : (r : Reading) (o : Option ℕ) → refusal (found_or rule.Word o >>= (λ count. Ok (record r { pipes = Some count })))
    ≡ cond (not (is_some o) || false) (Some rule.Word) None
one_count r None = refl
one_count r (Some n) = refl

one_judged : (r : Reading) (ws : List Word)
    → refusal (alone ws >>= (λ w. found_or rule.Word (count_in 0 MOST_PIPELINES w) >>= (λ count. Ok (record r { pipes = Some count }))))
    ≡ cond (not (length ws == 1)) (Some rule.Count)
    (cond (list_any (λ w. not (is_some (count_in 0 MOST_PIPELINES w))) ws) (Some rule.Word) None)
one_judged r [] = refl
one_judged r (w ∷ []) = one_count r (count_in 0 MOST_PIPELINES w)
one_judged r (w ∷ v ∷ vs) =
    let more : (suc (suc (length vs)) == 1) ≡ false = grind (arith, nat_tests) in
    rw more refl

pipes_judged : (r : Reading) (ws : List Word) → refusal (pipes_line r ws) ≡ least_of r (of_pipes ws)
unfolding pipes_line
pipes_judged r ws = refused_or rule.Place (no_pipes_here r) _ _ (one_judged r ws)

-- the end

end_judged : (r : Reading) (ws : List Word) → refusal (end_line r ws) ≡ least_of r (of_end ws)
unfolding end_line
end_judged r ws = refused_or rule.Place (no_event_here r) _ _ (refused_or rule.Count (nat_lt 0 (length ws)) _ _ refl)

-- event lines

-- what an event line gives of its parts
abbrev behind_parts : Reading → ℕ → Parts → Result Reading Rule
behind_parts r client parts = do
  form ← found_or rule.Verb (look_up forms parts.verb)
  _ ← refuse_if rule.Verb (not (has_its_name form parts.name))
  _ ← refuse_if rule.Place (no_event_here r || not (is_its_client form client))
  given ← arguments form parts.arguments
  name ← bound_name parts.name
  _ ← refuse_if rule.Name (not (list_all (is_visible r.lines client) given.1))
  _ ← refuse_if rule.Name (is_taken r client name)
  Ok (record r { lines = r.lines ++ record { client = client; name = name; verb = given.0 } ∷ [] })

-- the least rule that an event line breaks, by the word that it binds and its verb with what is behind it
abbrev least_event : Reading → ℕ → Option Word → List Word → Option Rule
least_event r client bound ws =
    cond (form_breaks_verb (form_in ws) bound) (Some rule.Verb)
    (cond (no_event_here r || form_breaks_place (form_in ws) client) (Some rule.Place)
    (cond (form_breaks_count (form_in ws) (words_behind ws)) (Some rule.Count)
    (cond (form_breaks_word (form_in ws) (words_behind ws) || is_no_name bound) (Some rule.Word)
    (cond (not (list_all (is_visible r.lines client) (form_names (form_in ws) (words_behind ws))) || is_bound_again r client bound)
    (Some rule.Name) None))))

-- names that are used, and one that is bound
names_judged : (left : Reading) (visible again : Bool)
    → refusal (refuse_if rule.Name (not visible) >>= (λ _. refuse_if rule.Name again >>= (λ _. Ok left)))
    ≡ cond (not visible || again) (Some rule.Name) None
names_judged left true true = refl
names_judged left true false = refl
names_judged left false again = refl

module _ (r : Reading) (client : ℕ) where
  -- a line with a verb and names, and the word that it binds
  abbrev bound_left : Verb × List Name → Option Name → Result Reading Rule
  bound_left g name =
      refuse_if rule.Name (not (list_all (is_visible r.lines client) g.1)) >>= (λ _. refuse_if rule.Name (is_taken r client name)
      >>= (λ _. Ok (record r { lines = r.lines ++ record { client = client; name = name; verb = g.0 } ∷ [] })))

  bound_judged : (bound : Option Word) (g : Verb × List Name)
      → refusal (bound_name bound >>= (λ name. bound_left g name))
      ≡ cond (is_no_name bound) (Some rule.Word)
      (cond (not (list_all (is_visible r.lines client) g.1) || is_bound_again r client bound) (Some rule.Name) None)
  bound_judged None g =
      names_judged (record r { lines = r.lines ++ record { client = client; name = None; verb = g.0 } ∷ [] })
      (list_all (is_visible r.lines client) g.1) false
  bound_judged (Some w) g = of_name (name_of w) refl
    where
      of_name : (o : Option Name) → name_of w ≡ o
          → refusal ((found_or rule.Word o >>= (λ n. Ok (Some n))) >>= (λ name. bound_left g name))
          ≡ cond (not (is_some o)) (Some rule.Word)
          (cond (not (list_all (is_visible r.lines client) g.1) || is_visible r.lines client w) (Some rule.Name) None)
      of_name None e = refl
      of_name (Some n) e =
          names_judged (record r { lines = r.lines ++ record { client = client; name = Some n; verb = g.0 } ∷ [] })
          (list_all (is_visible r.lines client) g.1) (is_visible r.lines client n)
          ∙ ap (λ (v : Word). cond (not (list_all (is_visible r.lines client) g.1) || is_visible r.lines client v) (Some rule.Name) None)
          (sym (name_is w n e).0)

  given_judged : (bound : Option Word) (names : List Name) (read : Result (Verb × List Name) Rule) (count word : Bool)
      → Judged (Uses names) read count word
      → refusal (read >>= (λ g. bound_name bound >>= (λ name. bound_left g name)))
      ≡ cond count (Some rule.Count) (cond (word || is_no_name bound) (Some rule.Word)
      (cond (not (list_all (is_visible r.lines client) names) || is_bound_again r client bound) (Some rule.Name) None))
  given_judged bound names read true word e = ap (λ s. refusal (s >>= (λ g. bound_name bound >>= (λ name. bound_left g name)))) e
  given_judged bound names read false true e = ap (λ s. refusal (s >>= (λ g. bound_name bound >>= (λ name. bound_left g name)))) e
  given_judged bound names read false false found =
      ap (λ s. refusal (s >>= (λ g. bound_name bound >>= (λ name. bound_left g name)))) found.1 ∙ bound_judged bound found.0
      ∙ ap (λ (ns : List Name). cond (is_no_name bound) (Some rule.Word)
      (cond (not (list_all (is_visible r.lines client) ns) || is_bound_again r client bound) (Some rule.Name) None)) found.2

  verb_judged : (bound : Option Word) (v : Word) (vs : List Word)
      → refusal (behind_parts r client (record { name = bound; verb = v; arguments = vs })) ≡ least_event r client bound (v ∷ vs)
  verb_judged bound v vs = of_form (look_up forms v)
    where
      of_form : (o : Option Form)
          → refusal (found_or rule.Verb o >>= (λ f. refuse_if rule.Verb (not (has_its_name f bound))
          >>= (λ _. refuse_if rule.Place (no_event_here r || not (is_its_client f client))
          >>= (λ _. arguments f vs >>= (λ g. bound_name bound >>= (λ name. bound_left g name))))))
          ≡ cond (form_breaks_verb o bound) (Some rule.Verb) (cond (no_event_here r || form_breaks_place o client) (Some rule.Place)
          (cond (form_breaks_count o vs) (Some rule.Count) (cond (form_breaks_word o vs || is_no_name bound) (Some rule.Word)
          (cond (not (list_all (is_visible r.lines client) (form_names o vs)) || is_bound_again r client bound) (Some rule.Name) None))))
      of_form None = refl
      of_form (Some f) =
          refused_or rule.Verb (not (has_its_name f bound)) _ _
          (refused_or rule.Place (no_event_here r || not (is_its_client f client)) _ _
          (given_judged bound (used_by (shape_of f vs) vs) (arguments f vs) (off_count (shape_of f vs) vs) (off_kind (shape_of f vs) vs)
          (form_judged f vs)))

  event_judged : (ws : List Word) → refusal (event_line r client ws) ≡ least_of r (of_event client ws)
  unfolding event_line parts_of
  event_judged [] = refl
  event_judged (a ∷ []) = verb_judged None a []
  event_judged (a ∷ b ∷ []) =
      let plain : Parts = record { name = None; verb = a; arguments = b ∷ [] } in
      elim (bytes_eq b (codes "=")) as (λ t. refusal ((if t then Err rule.Verb else Ok plain) >>= behind_parts r client)
      ≡ least_event r client (if t then Some a else None) (if t then [] else a ∷ b ∷ [])) [
        | true ↦ refl
        | false ↦ verb_judged None a (b ∷ [])
      ]
  event_judged (a ∷ b ∷ u ∷ us) =
      let plain : Parts = record { name = None; verb = a; arguments = b ∷ u ∷ us } in
      let named : Parts = record { name = Some a; verb = u; arguments = us } in
      elim (bytes_eq b (codes "=")) as (λ t. refusal ((if t then Ok named else Ok plain) >>= behind_parts r client)
      ≡ least_event r client (if t then Some a else None) (if t then u ∷ us else a ∷ b ∷ u ∷ us)) [
        | true ↦ verb_judged (Some a) u us
        | false ↦ verb_judged None a (b ∷ u ∷ us)
      ]

-- lines

words_judged : (r : Reading) (ws : List Word) → refusal (line_of r ws) ≡ least_of r (kind_of ws)
unfolding line_of
words_judged r [] = refl
words_judged r (w ∷ ws) =
    by_first (bytes_eq w (codes "port")) (bytes_eq w (codes "pipes")) (bytes_eq w (codes "end")) (client_of w)
  where
    by_first : (port pipes end : Bool) (o : Option ℕ)
        → refusal (if port then port_line r ws else (if pipes then pipes_line r ws else (if end then end_line r ws
        else (found_or rule.Client o >>= (λ client. event_line r client ws)))))
        ≡ least_of r (if port then of_port ws else (if pipes then of_pipes ws else (if end then of_end ws else of_client o ws)))
    by_first true pipes end o = port_judged r ws
    by_first false true end o = pipes_judged r ws
    by_first false false true o = end_judged r ws
    by_first false false false None = refl
    by_first false false false (Some client) = event_judged r client ws

pub line_judged : (r : Reading) (line : List ℕ) → refusal (read_line r line) ≡ least_broken r line
unfolding read_line
line_judged r line =
    refused_or rule.Byte (not (list_all is_allowed (without_return line))) _ _ (words_judged r (line_words line))

-- scripts

lines_judged : (n : ℕ) (r : Reading) (ls : List (List ℕ)) → refusal (read_lines n r ls) ≡ lines_fault n r ls
unfolding read_lines lines_fault
lines_judged n r [] =
    elim r.ended as (λ t. refusal (if t then Ok r else Err (fault.NoEnd n)) ≡ (if t then None else Some (fault.NoEnd n))) [
      | true ↦ refl
      | false ↦ refl
    ]
lines_judged n r (l ∷ ls) =
    of_room (nat_lt MOST_LINES n) (of_line (read_line r l) (least_broken r l) (line_judged r l) (λ left. lines_judged (n + 1) left ls))
  where
    of_line : (read : Result Reading Rule) (least : Option Rule) → refusal read ≡ least
        → ((left : Reading) → refusal (read_lines (n + 1) left ls) ≡ lines_fault (n + 1) left ls)
        → refusal (at_line n read >>= (λ left. read_lines (n + 1) left ls)) ≡ first_fault n least (lines_fault (n + 1) (taken r read) ls)
    of_line (Ok left) least e behind = behind left ∙ ap (λ (o : Option Rule). first_fault n o (lines_fault (n + 1) left ls)) e
    of_line (Err broken) least e behind = ap (λ (o : Option Rule). first_fault n o (lines_fault (n + 1) r ls)) e

    of_room : (t : Bool) → refusal (at_line n (read_line r l) >>= (λ left. read_lines (n + 1) left ls))
        ≡ first_fault n (least_broken r l) (lines_fault (n + 1) (taken r (read_line r l)) ls)
        → refusal (refuse_if fault.TooManyLines t >>= (λ _. at_line n (read_line r l) >>= (λ left. read_lines (n + 1) left ls)))
        ≡ (if t then Some fault.TooManyLines else first_fault n (least_broken r l) (lines_fault (n + 1) (taken r (read_line r l)) ls))
    of_room true here = refl
    of_room false here = here

whole : (read : Result Reading ScriptFault) → refusal (read >>= (λ r. Ok (script_of r))) ≡ refusal read
whole (Ok r) = refl
whole (Err f) = refl

pub script_judged : (bytes : List ℕ) → refusal (read_script bytes) ≡ script_fault bytes
unfolding read_script script_fault
script_judged bytes = of_lines (lines_of bytes) refl
  where
    behind_header : (t : Bool) (ls : List (List ℕ))
        → refusal (refuse_if fault.Header (not t) >>= (λ _. read_lines 2 nothing_read ls >>= (λ r. Ok (script_of r))))
        ≡ (if t then lines_fault 2 nothing_read ls else Some fault.Header)
    behind_header true ls = whole (read_lines 2 nothing_read ls) ∙ lines_judged 2 nothing_read ls
    behind_header false ls = refl

    of_lines : (ls : List (List ℕ)) → lines_of bytes ≡ ls → refusal (read_script bytes) ≡ script_fault bytes
    of_lines [] e = rw e refl
    of_lines (l ∷ ls) e = rw e (behind_header (is_header l) ls)
