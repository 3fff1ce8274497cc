use Rattle.std.proofs.Common.{arith}
use Rattle.std.proofs.lemmas.List.{map-append}
use Rattle.wf_script.specs.declared.field.Field.TheVariants as field
use Rattle.wf_script.specs.Items.{item_of}
use Rattle.wf_script.proofs.ReadOn.{item_more, no_item, no_word}
use Rattle.wf_script.proofs.shapes.read_on.Goals as goal

pub returns-in_default-clause-read : goal.returns-in_default-clause-read
returns-in_default-clause-read c others =
    no_word c.args.fields.now c.loop-field.field-index field.Handle c.loop-field-test.true _ _ _ others
    (rw c.in_default.ensures.words at c.loop-field.invariant.read others)

pub returns-in-None-clause-read : goal.returns-in-None-clause-read
returns-in-None-clause-read c others =
    no_item c.args.fields.now c.loop-field.field-index _ c.loop-field-test.true _ _ _ others _ _ c.in-None.ensures
    (rw c.in-Some.ensures.words at c.loop-field.invariant.read others)

pub loop-field-preserved : goal.loop-field-preserved
loop-field-preserved c = record {
  read = λ others. rw (c.push.ensures.items, map-append item_of c.loop-field.items.items) (item_more c.args.fields.now
      c.loop-field.field-index _ c.loop-field-test.true _ _ _ others
      _ _ _ c.in-Some-read.ensures (rw c.in-Some.ensures.words at c.loop-field.invariant.read others));
  count = omega (arith, c.push.ensures.len, c.loop-field.invariant.count);
}
