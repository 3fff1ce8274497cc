-- The words of a verb that was read are read as that verb.
use Rattle.std.proofs.Common.{◌≡◌, ◌∙◌, true, List, [], ◌∷◌, ◌++◌, length, Option, Some, None, Result, Ok, Err, refl, sym}
use Rattle.std.proofs.Common.{ap, subst, eq-eqb}
use Rattle.std.specs.Prelude.{codes, option_map}
use Rattle.std.specs.List.{list_all, slice_get}
use Rattle.std.proofs.lemmas.Bool.{and_parts}
use Rattle.wf_words.specs.Refusals.{◌>>=◌, found_or}
use Rattle.wf_scene.specs.declared.attributes.ContextAttr.{ContextAttr}
use Rattle.wf_scene.specs.declared.attributes.ContextAttr.TheVariants as context
use Rattle.wf_scene.specs.declared.attributes.ElementAttr.{ElementAttr}
use Rattle.wf_scene.specs.declared.attributes.ElementAttr.TheVariants as element
use Rattle.wf_calls.specs.declared.display.PipeAttr.{PipeAttr}
use Rattle.wf_calls.specs.declared.display.PipeAttr.TheVariants as pipe
use Rattle.wf_calls.specs.declared.display.PortAttr.{PortAttr}
use Rattle.wf_calls.specs.declared.display.PortAttr.TheVariants as port
use Rattle.wf_script.specs.declared.field.Field.{Field}
use Rattle.wf_script.specs.declared.field.Field.TheVariants as field
use Rattle.wf_script.specs.declared.form.Form.{Form}
use Rattle.wf_script.specs.declared.form.Form.TheVariants as form
use Rattle.wf_script.specs.declared.form.Plain.{Plain}
use Rattle.wf_script.specs.declared.form.Plain.TheVariants as plain
use Rattle.wf_script.specs.declared.line.Verb.{Verb}
use Rattle.wf_script.specs.declared.line.Verb.TheVariants as verb
use Rattle.wf_script.specs.declared.name.Name.{Name}
use Rattle.wf_script.specs.declared.rule.Rule.{Rule}
use Rattle.wf_script.specs.declared.rule.Rule.TheVariants as rule
use Rattle.wf_script.specs.Canonical.{verb_words}
use Rattle.wf_script.specs.Canonical as canonical
use Rattle.wf_script.specs.Fields.{Item, Shape, by_word, context_attr, context_fields, decided, element_attr, element_fields}
use Rattle.wf_script.specs.Fields.{handle, item_word}
use Rattle.wf_script.specs.Fields.{names_in, pipe_attr, pipe_fields, port_attr, port_fields, read, read_all, read_shape, words, written}
use Rattle.wf_script.specs.Forms.{arguments, fields, forms, plain_words, shape}
use Rattle.wf_script.specs.Given.{Given}
use Rattle.wf_script.specs.PaintWords.{paint_of}
use Rattle.wf_script.specs.Pick.{counted}
use Rattle.wf_script.specs.Spelled.{handle_word}
use Rattle.wf_script.specs.Streams.{frame_words, paint_words}
use Rattle.wf_script.specs.Verbs.{verb_of}
use Rattle.wf_script.specs.Words.{Word, context_attrs, element_attrs, handle_of, is_word, look_up, pipe_attrs, port_attrs}
use Rattle.wf_script.proofs.Clean.{is_clean}
use Rattle.wf_script.proofs.Fields.{ItemsBack, Values, item_behind, items, items_back}
use Rattle.wf_script.proofs.ItemRow.{mapped_at}
use Rattle.wf_script.proofs.PaintBack.{paint_back}
use Rattle.wf_script.proofs.Steps.{AreWords, bind_ok, found_ok}
use Rattle.wf_script.proofs.WordBack.{context_attr_again, element_attr_again, handle_back, pipe_attr_again, port_attr_again}

-- a verb with the names that it uses, whose words are a form's verb and words that give it
pub record VerbBack (f : Form) (g : Verb × List Name) : Type 0 where
  pub head : Word
  pub words : List Word
  pub are : verb_words g.0 ≡ head ∷ words
  pub found : look_up forms head ≡ Some f
  pub head_clean : is_clean head ≡ true
  pub reads : arguments f words ≡ Ok g
  pub clean : list_all is_clean words ≡ true

-- if words give a verb, then its words are read as it
abbrev pub Reads : Form → Given → Type 0
Reads f read = (g : Verb × List Name) → read ≡ Ok g → VerbBack f g

-- verbs that do not paint

-- the word of a form
abbrev first_of : List Word → Word
first_of [] = []
first_of (w ∷ ws) = w

abbrev head : Plain → Word
head p = first_of (verb_words (verb_of p []))

-- a form whose verb's own word is its
record HasHead (p : Plain) : Type 0 where
  found : look_up forms (head p) ≡ Some (form.Plain p)
  clean : is_clean (head p) ≡ true

has_head : (p : Plain) → HasHead p
has_head plain.Tick = record { found = refl; clean = refl }
has_head _ = record { found = refl; clean = refl }

-- a verb's words are those of the items that it was made of
abbrev Again : Plain → List Item → Type 0
Again p is = verb_words (verb_of p is) ≡ head p ∷ written is

-- words of these kinds, read once more
read_again : (s : Shape Field) (ks : List Field) (is : List Item) → s ≡ words ks → ItemsBack ks is → read_shape s (written is) ≡ Ok is
read_again s ks is shaped back =
    rw (shaped, back.long, eq-eqb (length ks) (length ks) refl) back.reads

-- a verb that was read of words of these kinds
module _ (p : Plain) where
  plain_back : (ks : List Field) (ws : List Word)
      → ((vs : Values ks) → read_all ks ws ≡ Ok (items ks vs) → Again p (items ks vs))
      → ((vs : Values ks) → read_all ks ws ≡ Ok (items ks vs) → shape p (written (items ks vs)) ≡ words ks)
      → Reads (form.Plain p) (read_shape (words ks) ws >>= (λ is. Ok (verb_of p is, names_in is)))
  unfolding plain_words
  plain_back ks ws again shaped g h =
      let read = bind_ok (read_shape (words ks) ws) _ g h in
      let count = bind_ok (counted (length ks) ws) _ read.0 read.1 in
      let back = items_back ks ws read.0 count.2 in
      let same : (verb_of p read.0, names_in read.0) ≡ g = cc in
      let are : read_all ks ws ≡ Ok (items ks back.values) = rw back.are count.2 in
      subst (VerbBack (form.Plain p)) same (record {
        head = head p;
        words = written read.0;
        are = subst (Again p) back.are (again back.values are);
        found = (has_head p).found;
        head_clean = (has_head p).clean;
        reads = ap (λ (r : Result (List Item) Rule). r >>= (λ is. Ok (verb_of p is, names_in is)))
            (read_again (shape p (written read.0)) ks read.0
            (subst (λ (is : List Item). shape p (written is) ≡ words ks) back.are (shaped back.values are)) back);
        clean = back.clean;
      })

  -- where the kinds are known beforehand
  fixed_back : ((ws : List Word) → shape p ws ≡ words (fields p)) → ((vs : Values (fields p)) → Again p (items (fields p) vs))
      → (ws : List Word) → Reads (form.Plain p) (plain_words p ws)
  unfolding plain_words
  fixed_back shaped again ws =
      subst (λ (s : Shape Field). Reads (form.Plain p) (read_shape s ws >>= (λ is. Ok (verb_of p is, names_in is)))) (sym (shaped ws))
      (plain_back (fields p) ws (λ vs _. again vs) (λ vs _. shaped (written (items (fields p) vs))))

  -- where a word decides which others follow it
  module _ {A : Type 0} (front : List Field) (k : Field) (find : Word → Option A) (more : A → List Field) (con : A → Item) where
    abbrev kinds : A → List Field
    kinds a = (front ++ k ∷ []) ++ more a

    decided_back : ((ws : List Word) → shape p ws ≡ decided find kinds (slice_get ws (length front)))
        → ((w : Word) → read k w ≡ option_map con (find w)) → ((w : Word) (a : A) → find w ≡ Some a → find (item_word (con a)) ≡ Some a)
        → ((a : A) (vs : Values (kinds a)) → slice_get (items (kinds a) vs) (length front) ≡ Some (con a) → Again p (items (kinds a) vs))
        → (ws : List Word) → Reads (form.Plain p) (plain_words p ws)
    unfolding plain_words
    decided_back shaped reads finds again ws =
        subst (λ (s : Shape Field). Reads (form.Plain p) (read_shape s ws >>= (λ is. Ok (verb_of p is, names_in is)))) (sym (shaped ws))
        (of_word (slice_get ws (length front)) refl)
      where
        of_attr : (w : Word) → slice_get ws (length front) ≡ Some w → (o : Option A) → find w ≡ o
            → Reads (form.Plain p) (read_shape (by_word kinds o) ws >>= (λ is. Ok (verb_of p is, names_in is)))
        of_attr w at None e = λ g h. absurd cc
        of_attr w at (Some a) e =
            let there : (vs : Values (kinds a)) → read_all (kinds a) ws ≡ Ok (items (kinds a) vs)
            → slice_get (items (kinds a) vs) (length front) ≡ Some (con a) =
            λ vs are. item_behind front k (more a) ws (items (kinds a) vs) w are at ∙ reads w ∙ ap (option_map con) e in
            plain_back (kinds a) ws (λ vs are. again a vs (there vs are))
            (λ vs are. shaped (written (items (kinds a) vs))
            ∙ ap (decided find kinds)
            (mapped_at item_word (items (kinds a) vs) (length front) ∙ ap (option_map item_word) (there vs are))
            ∙ ap (by_word kinds) (finds w a e))

        of_word : (o : Option Word) → slice_get ws (length front) ≡ o
            → Reads (form.Plain p) (read_shape (decided find kinds o) ws >>= (λ is. Ok (verb_of p is, names_in is)))
        of_word None at = λ g h. absurd cc
        of_word (Some w) at = of_attr w at (find w) refl

-- what an attribute is set to

element_again : (a : ElementAttr) (vs : Values (fields plain.ElementSet ++ element_fields a)) → vs.1.1.0 ≡ a
    → Again plain.ElementSet (items (fields plain.ElementSet ++ element_fields a) vs)
element_again element.Dest vs same = rw same refl
element_again _ vs same = rw same refl

context_again : (a : ContextAttr) (vs : Values (fields plain.ContextSet ++ context_fields a)) → vs.1.1.0 ≡ a
    → Again plain.ContextSet (items (fields plain.ContextSet ++ context_fields a) vs)
context_again context.Background vs same = rw same refl
context_again _ vs same = rw same refl

port_again : (a : PortAttr) (vs : Values (fields plain.PortSet ++ port_fields a)) → vs.1.0 ≡ a
    → Again plain.PortSet (items (fields plain.PortSet ++ port_fields a) vs)
port_again port.Background vs same = rw same refl
port_again _ vs same = rw same refl

pipe_again : (a : PipeAttr) (vs : Values (fields plain.PipeSet ++ pipe_fields a)) → vs.1.0 ≡ a
    → Again plain.PipeSet (items (fields plain.PipeSet ++ pipe_fields a) vs)
pipe_again pipe.Dest vs same = rw same refl
pipe_again _ vs same = rw same refl

plain_words_back : (p : Plain) (ws : List Word) → Reads (form.Plain p) (plain_words p ws)
plain_words_back plain.ElementSet =
    decided_back plain.ElementSet (field.Handle ∷ field.Handle ∷ []) field.ElementAttr
    (look_up element_attrs) element_fields (λ a. element_attr a) (λ ws. refl) (λ w. refl) (λ w a e. (element_attr_again a).0)
    (λ a vs at. element_again a vs (let same : vs.1.1.0 ≡ a = cc in same))
plain_words_back plain.ContextSet =
    decided_back plain.ContextSet (field.Handle ∷ field.Handle ∷ []) field.ContextAttr
    (look_up context_attrs) context_fields (λ a. context_attr a) (λ ws. refl) (λ w. refl) (λ w a e. (context_attr_again a).0)
    (λ a vs at. context_again a vs (let same : vs.1.1.0 ≡ a = cc in same))
plain_words_back plain.PortSet =
    decided_back plain.PortSet (field.Number ∷ []) field.PortAttr
    (look_up port_attrs) port_fields (λ a. port_attr a) (λ ws. refl) (λ w. refl) (λ w a e. (port_attr_again a).0)
    (λ a vs at. port_again a vs (let same : vs.1.0 ≡ a = cc in same))
plain_words_back plain.PipeSet =
    decided_back plain.PipeSet (field.Number ∷ []) field.PipeAttr
    (look_up pipe_attrs) pipe_fields (λ a. pipe_attr a) (λ ws. refl) (λ w. refl) (λ w a e. (pipe_attr_again a).0)
    (λ a vs at. pipe_again a vs (let same : vs.1.0 ≡ a = cc in same))
plain_words_back p = fixed_back p (λ ws. refl) (λ vs. refl)

-- verbs that paint

-- one step before others
behind : {A : Type 0} (f : Form) (r : Result A Rule) (h : A → Given) → ((x : A) → r ≡ Ok x → Reads f (h x)) → Reads f (r >>= h)
behind f (Ok x) h others g e = others x refl g e
behind f (Err broken) h others g e = absurd cc

reads : (f : Form) (v : Verb) (names : List Name) → VerbBack f (v, names) → Reads f (Ok (v, names))
reads f v names back g h = subst (VerbBack f) (same (v, names) g h) back
  where
    same : (p q : Verb × List Name) → (let r : Given = Ok p in let s : Given = Ok q in r ≡ s) → p ≡ q
    same p q h = cc

paint_words_back : (ws : List Word) → AreWords ws → Reads form.Paint (paint_words ws)
unfolding paint_words
paint_words_back ws are =
    behind form.Paint (paint_of ws) _ (λ p ep. (
    let pb = paint_back ws p are ep in
    reads form.Paint (verb.Paint p) [] (record {
      head = codes "paint";
      words = canonical.paint_words p;
      are = refl;
      found = refl;
      head_clean = refl;
      reads = rw pb.reads refl;
      clean = pb.clean;
    })))

frame_back : (ws : List Word) → AreWords ws → Reads form.Frame (frame_words ws)
unfolding frame_words
frame_back [] are = λ g h. absurd cc
frame_back (w ∷ ws) are =
    behind form.Frame (paint_of ws) _ (λ p ep. behind form.Frame (found_or rule.Word (handle_of w)) _ (λ s es. (
    let pb = paint_back ws p (and_parts (is_word w) (list_all is_word ws) are).1 ep in
    let sb = handle_back w s (found_ok rule.Word (handle_of w) s es) in
    reads form.Frame (verb.Frame s p) (names_in (handle s ∷ [])) (record {
      head = codes "frame";
      words = handle_word s ∷ canonical.paint_words p;
      are = refl;
      found = refl;
      head_clean = refl;
      reads = rw (pb.reads, sb.reads) refl;
      clean = rw sb.clean pb.clean;
    }))))

-- the words behind every verb
pub arguments_back : (f : Form) (ws : List Word) → AreWords ws → Reads f (arguments f ws)
arguments_back (form.Plain p) ws are = plain_words_back p ws
arguments_back form.Paint ws are = paint_words_back ws are
arguments_back form.Frame ws are = frame_back ws are
