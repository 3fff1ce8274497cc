use Rattle.std.proofs.Common.{◌≡◌, ◌∙◌, ◌++◌, List, append_assoc}
use Rattle.wf_script.proofs.generator.append_round.Goals as goal

-- four lists behind another
four : {A : Type 0} (old first second third all a b c d : List A) → first ≡ old ++ a → second ≡ first ++ b → third ≡ second ++ c
    → all ≡ third ++ d → all ≡ old ++ (a ++ (b ++ (c ++ d)))
four old first second third all a b c d ea eb ec ed =
    ed ∙ rw (ec, eb, ea) (simp append_assoc)

pub returns : goal.returns
returns c =
    let parts = four c.args.lines.now.items c.append.new.lines.items c.append-2.new.lines.items c.append-3.new.lines.items
    c.append-4.new.lines.items c.made.result c.placed.result c.shown.result c.destroyed.result c.in_ok-append.ensures
    c.in_ok-append-2.ensures
    c.in_ok-append-3.ensures c.in_ok-append-4.ensures in
    rw (c.made.ensures, c.placed.ensures, c.shown.ensures, c.destroyed.ensures) at parts
