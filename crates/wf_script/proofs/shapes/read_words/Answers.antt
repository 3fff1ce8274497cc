use Rattle.std.proofs.Common.{[], sym}
use Rattle.wf_script.proofs.ReadOn.{both_read, second_breaks}
use Rattle.wf_script.proofs.shapes.read_words.Goals as goal

pub returns-in-Ok : goal.returns-in-Ok
returns-in-Ok c =
    both_read _ _ _ _ _ _ (rw (← c.fields-front.ensures.fields) at c.in_ok-more.ensures.shape) (sym c.in_ok-counted.ensures)
    (rw c.requires at c.in_ok-rest.ensures.read _) _ _ (c.in-Ok.ensures.read [])

pub returns-in-Err : goal.returns-in-Err
returns-in-Err c =
    second_breaks _ _ _ _ _ _ (rw (← c.fields-front.ensures.fields) at c.in_ok-more.ensures.shape) (sym c.in_ok-counted.ensures)
    (rw c.requires at c.in_ok-rest.ensures.read _) _ (c.in-Err.ensures.read [])
