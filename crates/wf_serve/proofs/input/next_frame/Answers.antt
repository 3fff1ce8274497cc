use Rattle.std.proofs.Common.{◌≡◌, ◌∙◌, drop, length, arith}
use Rattle.std.proofs.lemmas.List.{length-take-le, take_at}
use Rattle.wf_serve.proofs.Frames.{frame_so}
use Rattle.wf_serve.proofs.input.next_frame.Goals as goal

pub returns-clause-next : goal.returns-clause-next
returns-clause-next g c =
    let long : length c.fill-2.new.into ≡ c.read_u32-count.result =
    c.fill-2.ensures.size
    ∙ length-take-le c.read_u32-count.result c.args.buffer.now (omega (arith, c.requires, c.if-count-gt-MOST_FRAME.false)) in
    frame_so c.fill.new.into c.fill-2.new.into _ c.in_ok-found.found c.in_ok-fill.field-0 c.read_u32-count.result
    c.fill.ensures.size c.if-found-lt4.false c.in_ok-found.ensures.within c.read_u32-count.ensures long c.if-branch-count.false
    c.in_ok-fill.ensures.within
    (take_at c.fill-2.new.into (drop c.read_u32-count.result c.args.buffer.now) c.read_u32-count.result long) _ _ _
    c.in_ok-found.ensures.bytes c.in_ok-fill.ensures.bytes
