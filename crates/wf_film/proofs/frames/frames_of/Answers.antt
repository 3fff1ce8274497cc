use Rattle.std.proofs.Common.{◌≡◌, ◌∙◌, ℕ, suc, ◌+◌, ◌-◌, length, Ok, sym, ap, arith}
use Rattle.std.proofs.lemmas.Result.{err_from_is_err_and}
use Rattle.wf_film.specs.Reading.{byte_at, frames_at}
use Rattle.wf_film.proofs.FrameSteps.{at_journal, behind_one_frame, broken_frame, more_frames, no_frame, no_tag, one_frame}
use Rattle.wf_film.proofs.frames.frames_of.Goals as goal

pub returns-in_err-tag : goal.returns-in_err-tag
returns-in_err-tag c =
    let p = err_from_is_err_and c.from_residual.result c.from_residual.ensures.1 in
    let n = c.loop-tag.count in
    rw (p.1, p.2)
    (sym c.loop-tag.invariant.same
    ∙ no_tag c.args.form (length c.args.bytes.now - n) n c.loop-tag.rest.now _
    (omega (arith, c.loop-tag.invariant.few)) c.in_err-tag.ensures)

pub returns-then-tag-eq74 : goal.returns-then-tag-eq74
returns-then-tag-eq74 c =
    let n = c.loop-tag.count in
    sym c.loop-tag.invariant.same
    ∙ at_journal c.args.form (length c.args.bytes.now - n) n c.in_ok-tag.tag c.loop-tag.rest.now c.in_ok-tag.behind.now
    (omega (arith, c.loop-tag.invariant.few)) c.in_ok-tag.ensures c.if-tag-eq74.true

pub returns-then-tag-ne70 : goal.returns-then-tag-ne70
returns-then-tag-ne70 c =
    let n = c.loop-tag.count in
    rw c.at.ensures
    (sym c.loop-tag.invariant.same
    ∙ no_frame c.args.form (length c.args.bytes.now - n) n c.in_ok-tag.tag c.loop-tag.rest.now c.in_ok-tag.behind.now
    (omega (arith, c.loop-tag.invariant.few)) c.in_ok-tag.ensures c.if-tag-eq74.false c.if-tag-ne70.true)

pub returns-in_err-rest : goal.returns-in_err-rest
returns-in_err-rest c =
    let p = err_from_is_err_and c.from_residual-in_err-rest.result c.from_residual-in_err-rest.ensures.1 in
    let n = c.loop-tag.count in
    let read : byte_at c.loop-tag.rest.now ≡ Ok (70, c.in_ok-tag.behind.now) = rw c.if-tag-ne70.false at c.in_ok-tag.ensures in
    rw (p.1, p.2)
    (sym c.loop-tag.invariant.same
    ∙ broken_frame c.args.form (length c.args.bytes.now - n) n c.loop-tag.rest.now c.in_ok-tag.behind.now _
    (omega (arith, c.loop-tag.invariant.few)) read c.in_err-rest.ensures)

pub loop-tag-smaller : goal.loop-tag-smaller
loop-tag-smaller c =
    (behind_one_frame c.args.form c.loop-tag.rest.now c.in_ok-tag.behind.now c.in_ok-rest.rest.now c.in_ok-tag.tag
    c.loop-tag.invariant.fits c.in_ok-tag.ensures c.in_ok-rest.ensures).0

pub loop-tag-preserved : goal.loop-tag-preserved
loop-tag-preserved c =
    let n = c.loop-tag.count in
    let read : byte_at c.loop-tag.rest.now ≡ Ok (70, c.in_ok-tag.behind.now) = rw c.if-tag-ne70.false at c.in_ok-tag.ensures in
    let later = behind_one_frame c.args.form c.loop-tag.rest.now c.in_ok-tag.behind.now c.in_ok-rest.rest.now c.in_ok-tag.tag
    c.loop-tag.invariant.fits c.in_ok-tag.ensures c.in_ok-rest.ensures in
    let most : length c.args.bytes.now - n ≡ suc (length c.args.bytes.now - (n + 1)) = omega (arith, c.loop-tag.invariant.few, later.0) in
    record {
      same = sym (one_frame c.args.form (length c.args.bytes.now - (n + 1)) n c.loop-tag.rest.now c.in_ok-tag.behind.now
          c.in_ok-rest.rest.now read c.in_ok-rest.ensures)
          ∙ sym (ap (λ (most : ℕ). more_frames n (frames_at c.args.form most c.loop-tag.rest.now)) most)
          ∙ c.loop-tag.invariant.same;
      few = omega (arith, c.loop-tag.invariant.few, later.0);
      fits = later.1;
    }
