use Rattle.std.proofs.Common.{◌≡◌, ◌+◌, List, ◌++◌, length, drop}
use Rattle.wf_script.specs.declared.field.Field.{Field}
use Rattle.wf_script.specs.Fields.{read_all}
use Rattle.wf_script.specs.Items.{behind, items_of}
use Rattle.wf_script.specs.Words.{words_in}
use Rattle.wf_script.proofs.shapes.read_on.Given as goal

-- the items so far stand before those of the words that are left
abbrev pub invariant-loop-field : goal.invariant-loop-field
invariant-loop-field l = record {
  read : (others : List Field) → behind (items_of l.initial.items.items) (read_all (l.fields ++ others) (words_in l.words))
      ≡ behind (items_of l.items.items) (read_all (drop l.field-index l.fields ++ others) (words_in l.rest));
  count : length l.items.items ≡ length l.initial.items.items + l.field-index;
}
