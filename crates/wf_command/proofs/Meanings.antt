-- What the matches of a parse mean.
use Rattle.std.proofs.Common.{◌≡◌, ◌∙◌, ℕ, true, List, [], Option, refl, sym, ap, subst, codes}
use Rattle.std.specs.Prelude.{String}
use Rattle.std.specs.Global.{Global}
use Rattle.clap.specs.Words.{App, HasMatchesOf, Text, fault_of, first_of, first_value, found_of, is_simple, is_simple_and_free}
use Rattle.clap.specs.Words.{one_of, one_text, rows_of}
use Rattle.clap.specs.declared.parser.matches.ArgMatches.{ArgMatches}
use Rattle.clap.proofs.OnLiterals.{clap_on_literals}
use Rattle.clap.proofs.WalkLemmas.{first_value-rows, one_text-rows}
use Rattle.wf_command.specs.declared.asked.Asked.{Asked}
use Rattle.wf_command.specs.Words.{AreAccepted, AskFor, IsMeant, command, rows, texts, texts_in, texts_of}

simple : is_simple command ≡ true
unfolding clap_on_literals
simple = refl

pub free : is_simple_and_free command ≡ true
unfolding clap_on_literals
free = refl

-- the matches of a parse by the command
module _ (app : App) (words : List (String Global)) (m : ArgMatches) (is : app ≡ command) (has : HasMatchesOf app (texts words) m) where
  rows_are : rows_of (found_of m) ≡ rows words
  rows_are = (subst (λ (a : App). HasMatchesOf a (texts words) m) is has simple).0

  texts_are : texts_in (found_of m) ≡ texts_of words
  texts_are =
      let found = found_of m in
      let first : (id : List ℕ) → first_value found id ≡ first_of id (rows words) =
      λ id. first_value-rows found id ∙ ap (first_of id) rows_are in
      let one : (id : List ℕ) → one_text found id ≡ one_of id (rows words) = λ id. one_text-rows found id ∙ ap (one_of id) rows_are in
      let t = texts_in found in
      let u = texts_of words in
      ap (λ (x : Option Text). record t { mode = x }) (first (codes "mode"))
      ∙ ap (λ (x : Option Text). record t { mode = u.mode; threads = x }) (first (codes "threads"))
      ∙ ap (λ (x : Option Text). record t { mode = u.mode; threads = u.threads; rows = x }) (one (codes "rows"))
      ∙ ap (λ (x : Option Text). record u { film = x; size = t.size; depth = t.depth; repaint = t.repaint }) (one (codes "film"))
      ∙ ap (λ (x : Option Text). record u { size = x; depth = t.depth; repaint = t.repaint }) (one (codes "size"))
      ∙ ap (λ (x : Option Text). record u { depth = x; repaint = t.repaint }) (one (codes "depth"))
      ∙ ap (λ (x : Option Text). record u { repaint = x }) (first (codes "repaint"))

  pub meant : (a : Asked) → fault_of app (texts words) ≡ [] → IsMeant (texts_in (found_of m)) a → AskFor a words
  meant a taken asks = record {
    taken = ap (λ (x : App). fault_of x (texts words)) (sym is) ∙ taken;
    meant = subst (λ t. IsMeant t a) texts_are asks;
  }

  pub not_meant : ((a : Asked) → ¬ (IsMeant (texts_in (found_of m)) a)) → ¬ (AreAccepted words)
  not_meant none = λ accepted. none accepted.0 (subst (λ t. IsMeant t accepted.0) (sym texts_are) accepted.1.meant)
