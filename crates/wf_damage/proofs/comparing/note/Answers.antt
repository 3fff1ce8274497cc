use Rattle.std.proofs.Common.{◌≡◌, ℕ, List, true, subst, sym, ◌∙◌}
use Rattle.std.specs.Prelude.{All}
use Rattle.std.proofs.lemmas.List.Elements.{All-push}
use Rattle.wf_damage.specs.Areas.{same_content}
use Rattle.wf_damage.proofs.comparing.note.Goals as goal

pub returns-then-len-lt-MOST_AREAS : goal.returns-then-len-lt-MOST_AREAS
returns-then-len-lt-MOST_AREAS c =
    let P : ℕ → Type 0 = λ stream. same_content c.args.before.now c.args.now.now stream ≡ true in
    record {
      same =
          subst (λ (l : List ℕ). All P l) (sym c.push.ensures.items)
          (All-push P c.args.compared.now.same.items c.args.stream c.requires.compared.same (sym c.requires.same ∙ c.if-same.true));
      other = c.requires.compared.other;
    }
