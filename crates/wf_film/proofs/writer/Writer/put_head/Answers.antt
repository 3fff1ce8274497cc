use Rattle.std.proofs.Common.{◌∙◌, sym, ap}
use Rattle.wf_film.proofs.writer.Writer.put_head.Goals as goal

pub returns-in-One-clause-all : goal.returns-in-One-clause-all
returns-in-One-clause-all g c =
    let form_is = ap (λ w. w.form) (sym c.self.view_is) ∙ c.in-One.is in
    rw form_is (rw (c.head_without_begin.ensures.bytes c.args.begin) at c.put.ensures.all)

pub returns-in-One-clause-part : goal.returns-in-One-clause-part
returns-in-One-clause-part g c =
    let form_is = ap (λ w. w.form) (sym c.self.view_is) ∙ c.in-One.is in
    rw form_is (rw (c.head_without_begin.ensures.bytes c.args.begin) at c.put.ensures.part)

pub returns-in-Two-clause-all : goal.returns-in-Two-clause-all
returns-in-Two-clause-all g c =
    let form_is = ap (λ w. w.form) (sym c.self.view_is) ∙ c.in-Two.is in
    rw form_is (rw c.head_with_begin.ensures.bytes at c.put-in-Two.ensures.all)

pub returns-in-Two-clause-part : goal.returns-in-Two-clause-part
returns-in-Two-clause-part g c =
    let form_is = ap (λ w. w.form) (sym c.self.view_is) ∙ c.in-Two.is in
    rw form_is (rw c.head_with_begin.ensures.bytes at c.put-in-Two.ensures.part)
