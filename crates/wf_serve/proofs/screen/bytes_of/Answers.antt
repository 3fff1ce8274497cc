use Rattle.std.proofs.Common.{◌≤◌, sym, subst}
use Rattle.wf_serve.specs.declared.screen.TheConstants.{FULL}
use Rattle.wf_serve.proofs.Room.{most_bytes}
use Rattle.wf_serve.proofs.screen.bytes_of.Goals as goal

pub returns-clause-most : goal.returns-clause-most
returns-clause-most c =
    subst (λ n. n ≤ FULL) (sym c.bytes.ensures.len)
    (most_bytes c.args.image.now.size c.args.image.now.format
    (search c.size-sides.ensures.sides))
