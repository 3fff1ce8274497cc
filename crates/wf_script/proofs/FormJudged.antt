-- The words behind a verb break the rules as the table of forms says, and use the names that it says.
use Rattle.std.proofs.Common.{◌≡◌, ◌∙◌, ℕ, suc, Bool, true, false, not, ◌||◌, ◌==◌, List, [], ◌∷◌, ◌++◌, length, map, Option}
use Rattle.std.proofs.Common.{Some, None, Ok}
use Rattle.std.proofs.Common.{refl}
use Rattle.std.proofs.Common.{sym, ap, arith}
use Rattle.std.specs.Prelude.{is_some, option_map}
use Rattle.std.proofs.lemmas.Bool.{eqb-true}
use Rattle.wf_words.specs.Refusals.{◌>>=◌}
use Rattle.wf_script.specs.declared.field.Field.{Field}
use Rattle.wf_script.specs.declared.field.Field.TheVariants as field
use Rattle.wf_script.specs.declared.form.Form.{Form}
use Rattle.wf_script.specs.declared.form.Form.TheVariants as form
use Rattle.wf_script.specs.declared.form.Plain.{Plain}
use Rattle.wf_script.specs.declared.line.Verb.{Verb}
use Rattle.wf_script.specs.declared.line.Verb.TheVariants as verb
use Rattle.wf_script.specs.declared.name.Name.{Name}
use Rattle.wf_script.specs.Breaches.{Kind, handle, kind, kinds, off_count, off_kind, off_kinds, paint_kinds, read_by, shape_of, used_by}
use Rattle.wf_script.specs.Breaches.{used_name, used_names}
use Rattle.wf_script.specs.Fields.{Item, Shape, missing, name_in, names_in, read, read_all, read_shape, unknown, words}
use Rattle.wf_script.specs.Fields as fields
use Rattle.wf_script.specs.Forms.{arguments, plain_words, shape}
use Rattle.wf_script.specs.Given.{Given}
use Rattle.wf_script.specs.PaintWords.{paint_count, paint_forms, paint_of, painted}
use Rattle.wf_script.specs.Pick.{counted}
use Rattle.wf_script.specs.Streams.{frame_words, paint_words}
use Rattle.wf_script.specs.Verbs.{verb_of}
use Rattle.wf_script.specs.Words.{Word, context_attrs, element_attrs, filters, formats, handle_of, integer_of, look_up, pipe_attrs}
use Rattle.wf_script.specs.Words.{port_attrs, stat_words, transitions, transparencies}
use Rattle.wf_script.proofs.Judged.{Judged, WordJudged, counted_step, decided_in, handle_used, judged_at, judged_before, judged_made}
use Rattle.wf_script.proofs.Judged.{same_test, step}
use Rattle.wf_script.proofs.PaintJudged.{Any, paint_known, paint_length, paint_names}

-- a verb with just these names
abbrev pub Uses : List Name → Verb × List Name → Type 0
Uses names g = g.1 ≡ names

-- what a form gives of words, judged by the table
abbrev pub FormJudged : Form → List Word → Given → Type 0
FormJudged f ws read = Judged (Uses (used_by (shape_of f ws) ws)) read (off_count (shape_of f ws) ws) (off_kind (shape_of f ws) ws)

-- words of kinds that a loop reads

-- the name that a word of a kind uses
none_used : {A : Type 0} (con : A → Item) → ((x : A) → name_in (con x) ≡ []) → (o : Option A) (i : Item) → option_map con o ≡ Some i
    → name_in i ≡ []
none_used con none None i h = absurd cc
none_used con none (Some x) i h = let is : con x ≡ i = cc in ap name_in (sym is) ∙ none x

used : (k : Field) (w : Word) (i : Item) → read k w ≡ Some i → name_in i ≡ used_name (kind k) w
used field.Handle w i h = of_handle (handle_of w) refl h
  where
    of_handle : (o : Option (Option Name)) → handle_of w ≡ o → option_map (λ x. fields.handle x) o ≡ Some i
        → name_in i ≡ used_name (kind field.Handle) w
    of_handle None e h = absurd cc
    of_handle (Some x) e h = let is : fields.handle x ≡ i = cc in ap name_in (sym is) ∙ handle_used w x e
used field.Number w i h = none_used (λ x. fields.number x) (λ x. refl) (integer_of w) i h
used field.Format w i h = none_used (λ x. fields.format x) (λ x. refl) (look_up formats w) i h
used field.Stat w i h = none_used (λ x. fields.stat x) (λ x. refl) (look_up stat_words w) i h
used field.ElementAttr w i h = none_used (λ x. fields.element_attr x) (λ x. refl) (look_up element_attrs w) i h
used field.ContextAttr w i h = none_used (λ x. fields.context_attr x) (λ x. refl) (look_up context_attrs w) i h
used field.PortAttr w i h = none_used (λ x. fields.port_attr x) (λ x. refl) (look_up port_attrs w) i h
used field.PipeAttr w i h = none_used (λ x. fields.pipe_attr x) (λ x. refl) (look_up pipe_attrs w) i h
used field.Filter w i h = none_used (λ x. fields.filter x) (λ x. refl) (look_up filters w) i h
used field.Transparency w i h = none_used (λ x. fields.transparency x) (λ x. refl) (look_up transparencies w) i h
used field.Transition w i h = none_used (λ x. fields.transition x) (λ x. refl) (look_up transitions w) i h

-- items that use just these names
abbrev Names : List Field → List Word → List Item → Type 0
Names ks ws is = names_in is ≡ used_names (map kind ks) ws

fields_judged : (ks : List Field) (ws : List Word) → length ws ≡ length ks
    → WordJudged (Names ks ws) (read_all ks ws) (off_kinds (map kind ks) ws)
unfolding read_all
fields_judged [] ws same = ([], refl, refl)
fields_judged (k ∷ ks) [] same = absurd (omega arith)
fields_judged (k ∷ ks) (w ∷ ws) same =
    step (Names (k ∷ ks) (w ∷ ws)) (read k) w ws _ (off_kinds (map kind ks) ws) (λ i e.
    of_others i e (off_kinds (map kind ks) ws) (fields_judged ks ws (omega arith)))
  where
    of_others : (i : Item) → read k w ≡ Some i → (off : Bool) → WordJudged (Names ks ws) (read_all ks ws) off
        → WordJudged (Names (k ∷ ks) (w ∷ ws)) (read_all ks ws >>= (λ is. Ok (i ∷ is))) off
    of_others i e true judged = ap (λ r. r >>= (λ is. Ok (i ∷ is))) judged
    of_others i e false judged =
        (i ∷ judged.0, ap (λ r. r >>= (λ is. Ok (i ∷ is))) judged.1, rw (used k w i e, judged.2) refl)

kinds_length : (ks : List Field) → length (map kind ks) ≡ length ks
kinds_length [] = refl
kinds_length (k ∷ ks) = ap suc (kinds_length ks)

shape_judged : (p : Plain) (ws : List Word) (s : Shape Field)
    → Judged (Uses (used_by (kinds s) ws)) (read_shape s ws >>= (λ is. Ok (verb_of p is, names_in is))) (off_count (kinds s) ws)
    (off_kind (kinds s) ws)
shape_judged p ws missing = refl
shape_judged p ws unknown = refl
shape_judged p ws (words ks) =
    rw (kinds_length ks)
    (judged_made (Names ks ws) (Uses (used_names (map kind ks) ws)) (counted (length ks) ws >>= (λ _. read_all ks ws)) _
    (not (length ws == length ks)) (off_kinds (map kind ks) ws)
    (counted_step (Names ks ws) (length ks) ws _ (off_kinds (map kind ks) ws)
    (λ same. fields_judged ks ws (eqb-true (length ws) (length ks) same)))
    (λ is uses. ((verb_of p is, names_in is), refl, uses)))

-- words behind others are as many as there should be exactly where all are
behind_two : (n k m : ℕ) → k ≡ m → not (n == m) ≡ not (suc (suc n) == suc (suc k))
behind_two n k m e = ap not (same_test n m (suc (suc n)) (suc (suc k)) (λ h. omega arith) (λ h. omega arith))

behind_one : (n k m : ℕ) → k ≡ m → not (n == m) ≡ not (suc n == suc k)
behind_one n k m e = ap not (same_test n m (suc n) (suc k) (λ h. omega arith) (λ h. omega arith))

-- a word that was found is of its kind
found_kind : {A : Type 0} (o : Option A) (x : A) (more : Bool) → o ≡ Some x → more ≡ (not (is_some o) || more)
found_kind {A = A} o x more e = ap (λ (p : Option A). not (is_some p) || more) (sym e)

-- what a verb's words use, by their shape
abbrev ShapeUses : List Word → Shape Kind → Verb × List Name → Type 0
ShapeUses ws shape = Uses (used_by shape ws)

-- paints

paint_judged : (ws : List Word) → FormJudged form.Paint ws (paint_words ws)
unfolding paint_words paint_of
paint_judged [] = refl
paint_judged (p ∷ ps) =
    decided_in (ShapeUses (p ∷ ps)) (look_up paint_forms) (λ f. read_by (look_up paint_forms) ∷ paint_kinds f) p ps (p ∷ ps) _ _ (λ f e.
    judged_at (Uses (used_names (paint_kinds f) ps)) _ _ _ (off_kinds (paint_kinds f) ps) _
    (behind_one (length ps) (length (paint_kinds f)) (paint_count f) (paint_length f))
    (found_kind (look_up paint_forms p) f (off_kinds (paint_kinds f) ps) e)
    (judged_made Any (Uses (used_names (paint_kinds f) ps)) (counted (paint_count f) ps >>= (λ _. painted f ps)) _
    (not (length ps == paint_count f)) (off_kinds (paint_kinds f) ps) (paint_known f ps)
    (λ x _. ((verb.Paint x, []), refl, sym (paint_names f ps)))))

frame_judged : (ws : List Word) → FormJudged form.Frame ws (frame_words ws)
unfolding frame_words paint_of
frame_judged [] = refl
frame_judged (s ∷ []) = refl
frame_judged (s ∷ p ∷ ps) =
    decided_in (ShapeUses (s ∷ p ∷ ps)) (look_up paint_forms) (λ f. handle ∷ read_by (look_up paint_forms) ∷ paint_kinds f) p ps
    (s ∷ p ∷ ps) _ _ (λ f e. (
    let P = Uses (used_name handle s ++ used_names (paint_kinds f) ps) in
    judged_at P _ _ _ (not (is_some (handle_of s)) || off_kinds (paint_kinds f) ps) _
    (behind_two (length ps) (length (paint_kinds f)) (paint_count f) (paint_length f))
    (ap (λ (t : Bool). not (is_some (handle_of s)) || t) (found_kind (look_up paint_forms p) f (off_kinds (paint_kinds f) ps) e))
    (judged_before Any P (counted (paint_count f) ps >>= (λ _. painted f ps)) (handle_of s) _ (not (length ps == paint_count f))
    (off_kinds (paint_kinds f) ps) (paint_known f ps)
    (λ x y _ ey. ((verb.Frame y x, names_in (fields.handle y ∷ [])), refl, rw (handle_used s y ey, paint_names f ps) refl)))))

plain_judged : (p : Plain) (ws : List Word) → FormJudged (form.Plain p) ws (plain_words p ws)
unfolding plain_words
plain_judged p ws = shape_judged p ws (shape p ws)

-- the words behind every verb
pub form_judged : (f : Form) (ws : List Word) → FormJudged f ws (arguments f ws)
form_judged (form.Plain p) ws = plain_judged p ws
form_judged form.Paint ws = paint_judged ws
form_judged form.Frame ws = frame_judged ws
