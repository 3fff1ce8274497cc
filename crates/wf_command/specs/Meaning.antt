-- Words ask for one thing at most.
use Rattle.std.proofs.Common.{◌≡◌, ◌∙◌, ℕ, ◌≤◌, ◌==◌, Bool, true, false, List, get_or, Option, Some, None, inl, inr, refl, sym, ap, arith}
use Rattle.std.specs.Prelude.{String, if◌then◌else◌}
use Rattle.std.specs.Global.{Global}
use Rattle.wf_film.specs.declared.form.FilmForm.{FilmForm}
use Rattle.wf_film.specs.declared.form.FilmForm.TheVariants as forms
use Rattle.wf_command.specs.declared.asked.Asked.{Asked}
use Rattle.wf_command.specs.declared.asked.Mode.{Mode}
use Rattle.wf_command.specs.declared.asked.Mode.TheVariants as mode
use Rattle.wf_command.specs.Words.{AskFor, IsCount, IsForm, IsSet, IsUpTo, mode_word, texts_of}
use Rattle.clap.specs.Words.{Text}

-- the mode of a word, by its first letter
abbrev mode_of : ℕ → Mode
mode_of n =
    if n == 102 then mode.Film
    else (if n == 99 then mode.Check
    else (if n == 112 then mode.Print else (if n == 98 then mode.Big else (if n == 101 then mode.Events else mode.Session))))

mode_back : (m : Mode) → mode_of (get_or (mode_word m) 0 0) ≡ m
mode_back mode.Film = refl
mode_back mode.Check = refl
mode_back mode.Print = refl
mode_back mode.Big = refl
mode_back mode.Events = refl
mode_back mode.Session = refl

one_mode : (a b : Mode) → mode_word a ≡ mode_word b → a ≡ b
one_mode a b same = sym (mode_back a) ∙ ap (λ (w : List ℕ). mode_of (get_or w 0 0)) same ∙ mode_back b

one_form : (text : Option Text) (a b : FilmForm) → IsForm text a → IsForm text b → a ≡ b
one_form None a b first second = first ∙ sym second
one_form (Some text) forms.One forms.One first second = refl
one_form (Some text) forms.One forms.Two first second = absurd (second first)
one_form (Some text) forms.Two forms.One first second = absurd (first second)
one_form (Some text) forms.Two forms.Two first second = refl

one_count : (last default : ℕ) (text : Option Text) (a b : ℕ) → IsCount last default text a → IsCount last default text b → a ≡ b
one_count last default None a b first second = first ∙ sym second
one_count last default (Some text) a b (inl first) (inl second) = sym first.1.1 ∙ second.1.1
one_count last default (Some text) a b (inl first) (inr second) = absurd (second.1 a first.0 first.1)
one_count last default (Some text) a b (inr first) (inl second) = absurd (first.1 b second.0 second.1)
one_count last default (Some text) a b (inr first) (inr second) = first.0 ∙ sym second.0

one_flag : (text : Option Text) (a b : Bool) → IsSet text a → IsSet text b → a ≡ b
one_flag text true true first second = refl
one_flag text true false first second = absurd (second first)
one_flag text false true first second = absurd (first second)
one_flag text false false first second = refl

-- the number of an option is in its range
pub is_up_to : (last default : ℕ) → 1 ≤ default → default ≤ last → (text : Option Text) (n : ℕ) → IsCount last default text n
    → IsUpTo last n
is_up_to last default some most None n is = record { some = omega (arith, is, some); most = omega (arith, is, most) }
is_up_to last default some most (Some text) n (inl is) = is.0
is_up_to last default some most (Some text) n (inr is) = record { some = omega (arith, is.0, some); most = omega (arith, is.0, most) }

pub one_meaning : (words : List (String Global)) (a b : Asked) → AskFor a words → AskFor b words → a ≡ b
one_meaning words a b first second =
    let words_are : Some (mode_word a.mode) ≡ Some (mode_word b.mode) = sym first.meant.mode_is ∙ second.meant.mode_is in
    let same : mode_word a.mode ≡ mode_word b.mode = cc in
    let t = texts_of words in
    ap (λ (m : Mode). record a { mode = m }) (one_mode a.mode b.mode same)
    ∙ ap (λ (x : Bool). record a { mode = b.mode; threads = x })
    (one_flag t.threads a.threads b.threads first.meant.threads_is second.meant.threads_is)
    ∙ ap (λ (n : ℕ). record a { mode = b.mode; threads = b.threads; rows = n })
    (one_count 16 1 t.rows a.rows b.rows first.meant.rows_is second.meant.rows_is)
    ∙ ap (λ (f : FilmForm). record b { form = f; size = a.size; depth = a.depth; repaint = a.repaint })
    (one_form t.film a.form b.form first.meant.form_is second.meant.form_is)
    ∙ ap (λ (n : ℕ). record b { size = n; depth = a.depth; repaint = a.repaint })
    (one_count 1000 1 t.size a.size b.size first.meant.size_is second.meant.size_is)
    ∙ ap (λ (n : ℕ). record b { depth = n; repaint = a.repaint })
    (one_count 64 64 t.depth a.depth b.depth first.meant.depth_is second.meant.depth_is)
    ∙ ap (λ (x : Bool). record b { repaint = x })
    (one_flag t.repaint a.repaint b.repaint first.meant.repaint_is second.meant.repaint_is)
