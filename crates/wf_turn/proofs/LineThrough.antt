-- A program whose first line is through.
use Rattle.wf_turn.proofs.Common.{◌≡◌, ◌∙◌, ℕ, ◌+◌, ◌<◌, ◌≤◌, ◌==◌, true, cond, List, [], ◌∷◌, ◌++◌, length, take, drop, get_or}
use Rattle.wf_turn.proofs.Common.{Option, Some, None, refl, sym, ap, subst, arith, append-nil, IsTrue, eq-eqb, drop_more, length-append}
use Rattle.wf_turn.proofs.Common.{take-append-drop, filter_map-append, zip, option_to_list, is_some, Canvas, Line, Name, Inside, Stage}
use Rattle.wf_turn.proofs.Common.{IsProgram, program_of, Table, bound_by, bound_name, bound_names, known, IsPlace, Program, bound}
use Rattle.wf_turn.proofs.Common.{line_done, lines_from, skipped}
use Rattle.wf_turn.specs.declared.stage.Stage.TheVariants as stage
use Rattle.wf_turn.specs.Inside.{IsStage}
use Rattle.wf_turn.specs.Names.{bound_value}
use Rattle.wf_turn.proofs.Handles.{known_none}
use Rattle.wf_turn.proofs.Skips.{get_within, lines_at}
use Rattle.wf_turn.proofs.Values.{names_more}

-- one value more is one name more that is known
known_more : (front rest : List Name) (o : Option Name) (values : List ℕ) (v : ℕ) → length values ≡ length front
    → zip (front ++ (option_to_list o ++ rest)) (values ++ bound_value o v) ≡ bound o v (zip (front ++ (option_to_list o ++ rest)) values)
known_more front rest None values v as_long = ap (zip (front ++ rest)) (append-nil values)
known_more [] rest (Some n) [] v as_long = ap (λ rows. (n, v) ∷ rows)
    (known_none (record { names = rest; values = [] }) refl)
known_more [] rest (Some n) (w ∷ values) v as_long = absurd (omega (arith, as_long))
known_more (m ∷ front) rest (Some n) [] v as_long = absurd (omega (arith, as_long))
known_more (m ∷ front) rest (Some n) (w ∷ values) v as_long =
    ap (λ rows. (m, w) ∷ rows) (known_more front rest (Some n) values v (omega (arith, as_long)))

started : (ports at tick : ℕ) (s : Stage) → IsStage ports at tick s → tick ≤ at + 1
started ports at tick stage.Fresh is = omega (arith, is)
started ports at tick stage.Posting is = is
started ports at tick (stage.Ticking l) is = is.0
started ports at tick (stage.Ending l) is = is.0

module _ (p : Inside) (l : Line) (sound : IsProgram p) (within : p.at < length p.script.now.lines)
    (is : l ≡ get_or p.script.now.lines p.at l) where
  abbrev lines : List Line
  lines = p.script.now.lines

  abbrev front : List Name
  front = bound_names p.client (take p.at lines)

  abbrev rest : List Name
  rest = bound_names p.client (drop (p.at + 1) lines)

  own : (l.client == p.client) ≡ true
  own =
      let here : (get_or lines p.at l).client ≡ p.client = rw (get_within lines p.at l within) at sound.place.here in
      eq-eqb l.client p.client (ap (λ m. m.client) is ∙ here)

  bound_is : bound_by p.client l ≡ bound_name l
  bound_is = ap (λ b. cond b (bound_name l) None) own

  names_are : p.own.names ≡ front ++ (option_to_list (bound_name l) ++ rest)
  names_are =
      sound.names
      ∙ ap (bound_names p.client) (sym (take-append-drop p.at lines)
      ∙ ap (λ ls. take p.at lines ++ ls) (drop_more lines p.at l within
      ∙ ap (λ m. m ∷ drop (p.at + 1) lines) (sym is)))
      ∙ filter_map-append (bound_by p.client) (take p.at lines) (l ∷ drop (p.at + 1) lines)
      ∙ ap (λ names. front ++ names) (filter_map-append (bound_by p.client) (l ∷ []) (drop (p.at + 1) lines)
      ∙ ap (λ names. names ++ rest) (one (bound_by p.client l) refl ∙ ap option_to_list bound_is))
    where
      one : (o : Option Name) → bound_by p.client l ≡ o → bound_names p.client (l ∷ []) ≡ option_to_list (bound_by p.client l)
      one None none = rw none refl
      one (Some n) some = rw some refl

  pub has_room : IsTrue (is_some (bound_name l)) → length p.own.values < length p.own.names
  has_room binds =
      omega (
        arith,
        sound.values,
        ap length names_are,
        length-append front (option_to_list (bound_name l) ++ rest),
        length-append (option_to_list (bound_name l)) rest,
        one (bound_name l) binds,
      )
    where
      one : (o : Option Name) → IsTrue (is_some o) → length (option_to_list o) ≡ 1
      one None binds = absurd cc
      one (Some n) binds = refl

  -- the program that is left
  module _ (v at : ℕ) (table : Table) (canvas : Option Canvas)
      (bound_now : table ≡ record p.own { values = p.own.values ++ bound_value (bound_name l) v }) (place : IsPlace p.client at lines)
      (later : p.at + 1 ≤ at)
      (names_same : bound_names p.client (take at lines) ≡ bound_names p.client (take (p.at + 1) lines)) where
    pub finished : (now : Inside) → now ≡ record p { at = at; own = table; canvas = canvas; stage = stage.Fresh } → IsProgram now
    finished now now_is = subst IsProgram (sym now_is) (record {
      place = place;
      names = ap (λ t. t.names) bound_now ∙ sound.names;
      values =
          ap (λ t. length t.values) bound_now
          ∙ length-append p.own.values (bound_value (bound_name l) v)
          ∙ ap (λ k. k + length (bound_value (bound_name l) v)) sound.values
          ∙ ap (λ k. length front + k) (as_many (bound_name l))
          ∙ sym (ap length (names_same ∙ names_more p.client lines p.at l within is
          ∙ ap (λ o. front ++ option_to_list o) bound_is) ∙ length-append front (option_to_list (bound_name l)));
      setup = sound.setup;
      end_of_setup = sound.end_of_setup;
      ports = sound.ports;
      few_ports = sound.few_ports;
      few = sound.few;
      stage = omega (arith, later, started (length p.script.now.ports.modes.items) p.at p.tick p.stage sound.stage);
    })
      where
        as_many : (o : Option Name) → length (bound_value o v) ≡ length (option_to_list o)
        as_many None = refl
        as_many (Some n) = refl

    pub leaves_done : (s : Program) → program_of p ≡ s
        → skipped p.canvas (lines_from p.client (p.at + 1) lines) ≡ (canvas, lines_from p.client at lines)
        → (now : Inside) → now ≡ record p { at = at; own = table; canvas = canvas; stage = stage.Fresh } → program_of now ≡ line_done s v
    leaves_done s seen passes now now_is =
        let here : lines_from p.client p.at lines ≡ (p.at, l) ∷ lines_from p.client (p.at + 1) lines =
        lines_at p.client p.at lines l within is
        ∙ ap (λ b. cond b ((p.at, l) ∷ lines_from p.client (p.at + 1) lines) (lines_from p.client (p.at + 1) lines)) own in
        let rows : known table ≡ bound (bound_name l) v (known p.own) =
        ap known bound_now
        ∙ ap (λ names. zip names (p.own.values ++ bound_value (bound_name l) v)) names_are
        ∙ known_more front rest (bound_name l) p.own.values v sound.values
        ∙ ap (λ names. bound (bound_name l) v (zip names p.own.values)) (sym names_are) in
        let with : List (Name × ℕ) → Option Canvas × List (ℕ × Line)
        → Program = λ names x. record (program_of p) { own = names; canvas = x.0; lines = x.1; stage = stage.Fresh } in
        ap program_of now_is
        ∙ ap (λ names. with names (canvas, lines_from p.client at lines)) rows
        ∙ ap (with (bound (bound_name l) v (known p.own))) (sym passes)
        ∙ sym (ap (λ ls. line_done (record (program_of p) { lines = ls }) v) here)
        ∙ ap (λ q. line_done q v) seen
