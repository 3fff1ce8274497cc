use Rattle.std.proofs.Common.{sym, subst}
use Rattle.std.specs.Prelude.{All, max}
use Rattle.std.proofs.lemmas.List.Elements.{All-push}
use Rattle.bench_pictures.specs.Shown.{IsShown}
use Rattle.bench_pictures.proofs.scenes.add.Goals as goal

pub returns-then-len-lt-MOST_INSERTED : goal.returns-then-len-lt-MOST_INSERTED
returns-then-len-lt-MOST_INSERTED c =
    let size = c.args.size in
    let shown = IsShown size (max size.w size.h) in
    subst (All shown) (sym c.push.ensures.items) (All-push shown c.args.layers.now.items c.args.layer c.requires.layers c.requires.layer)
