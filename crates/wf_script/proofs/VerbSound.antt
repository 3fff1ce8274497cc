-- Verbs that are read are verbs that their client may have.
use Rattle.std.proofs.Common.{◌≡◌, ℕ, ◌==◌, Bool, true, false, ◌||◌, List, [], ◌∷◌, Result, Ok, Err, refl, subst}
use Rattle.std.specs.List.{list_all}
use Rattle.std.proofs.lemmas.Bool.{and_parts}
use Rattle.wf_words.specs.Refusals.{◌>>=◌, found_or}
use Rattle.wf_script.specs.declared.form.Form.{Form}
use Rattle.wf_script.specs.declared.form.Form.TheVariants as form
use Rattle.wf_script.specs.declared.form.Plain.{Plain}
use Rattle.wf_script.specs.declared.form.Plain.TheVariants as plain
use Rattle.wf_script.specs.declared.line.Line.{Line}
use Rattle.wf_script.specs.declared.line.Verb.{Verb}
use Rattle.wf_script.specs.declared.line.Verb.TheVariants as verb
use Rattle.wf_script.specs.declared.name.Name.{Name}
use Rattle.wf_script.specs.declared.rule.Rule.{Rule}
use Rattle.wf_script.specs.declared.rule.Rule.TheVariants as rule
use Rattle.wf_script.specs.Fields.{Item, handle, names_in, read_shape}
use Rattle.wf_script.specs.Forms.{arguments, plain_words, shape}
use Rattle.wf_script.specs.Given.{Given}
use Rattle.wf_script.specs.Grammar.{is_its_client}
use Rattle.wf_script.specs.PaintWords.{paint_of}
use Rattle.wf_script.specs.Script.{may_have_verb, may_paint, may_tick}
use Rattle.wf_script.specs.Streams.{frame_words, paint_words}
use Rattle.wf_script.specs.Verbs.{verb_of}
use Rattle.wf_script.specs.Words.{Word, handle_of, is_word}
use Rattle.wf_script.proofs.PaintSound.{paint_sound}
use Rattle.wf_script.proofs.Steps.{AreWords}

-- the verbs of a client
module _ (client : ℕ) where
  -- if it is a verb that was read, then the client may have it
  abbrev pub Reads : Given → Type 0
  Reads read = (g : Verb × List Name) → read ≡ Ok g → may_have_verb client g.0 ≡ true

  -- one step before others
  behind : {A : Type 0} (r : Result A Rule) (f : A → Given) → ((x : A) → r ≡ Ok x → Reads (f x)) → Reads (r >>= f)
  behind (Ok x) f others g h = others x refl g h
  behind (Err broken) f others g h = absurd cc

  -- a verb that it may have
  reads : (v : Verb) (names : List Name) → may_have_verb client v ≡ true → Reads (Ok (v, names))
  reads v names sound g h =
      let is : (v, names) ≡ g = same (v, names) g h in
      subst (λ (x : Verb × List Name). may_have_verb client x.0 ≡ true) is sound
    where
      same : (p q : Verb × List Name) → (let r : Given = Ok p in let s : Given = Ok q in r ≡ s) → p ≡ q
      same p q h = cc

  paint_words_sound : (ws : List Word) → AreWords ws → Reads (paint_words ws)
  unfolding paint_words
  paint_words_sound ws words = behind (paint_of ws) _ (λ p is. reads (verb.Paint p) [] (paint_sound ws p words is))

  frame_sound : (ws : List Word) → AreWords ws → Reads (frame_words ws)
  unfolding frame_words
  frame_sound [] words = λ g h. absurd cc
  frame_sound (w ∷ ws) words =
      behind (paint_of ws) _ (λ p is. behind (found_or rule.Word (handle_of w)) _ (λ s _.
      reads (verb.Frame s p) (names_in (handle s ∷ [])) (paint_sound ws p (and_parts (is_word w) (list_all is_word ws) words).1 is)))

  -- other verbs paint nothing, and a tick is the clock's
  plain_sound : (p : Plain) (items : List Item) → is_its_client (form.Plain p) client ≡ true → may_have_verb client (verb_of p items) ≡ true
  plain_sound plain.Tick items own = own
  plain_sound _ items own = refl

  plain_words_sound : (p : Plain) (ws : List Word) → is_its_client (form.Plain p) client ≡ true → Reads (plain_words p ws)
  unfolding plain_words
  plain_words_sound p ws own =
      behind (read_shape (shape p ws) ws) _ (λ is _. reads (verb_of p is) (names_in is) (plain_sound p is own))

  -- the words behind every verb
  pub arguments_sound : (f : Form) (ws : List Word) → AreWords ws → is_its_client f client ≡ true → Reads (arguments f ws)
  arguments_sound (form.Plain p) ws words own = plain_words_sound p ws own
  arguments_sound form.Paint ws words own = paint_words_sound ws words
  arguments_sound form.Frame ws words own = frame_sound ws words

-- what a client may have: the paint is in its ranges, and the tick is the clock's
pub paints_within : (client : ℕ) (v : Verb) → may_have_verb client v ≡ true → may_paint v ≡ true
paints_within client verb.Tick own = refl
paints_within client v own = own

pub ticks_alone : (l : Line) → may_have_verb l.client l.verb ≡ true → may_tick l ≡ true
ticks_alone l own = of_verb l.verb own
  where
    either : (b : Bool) → b || true ≡ true
    either true = refl
    either false = refl

    of_verb : (v : Verb) → may_have_verb l.client v ≡ true → may_tick (record l { verb = v }) ≡ true
    of_verb verb.Tick own = rw own refl
    of_verb v own = either (l.client == 0)
