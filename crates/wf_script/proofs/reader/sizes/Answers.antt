use Rattle.std.proofs.Common.{◌∙◌, List, length, sym, ap, arith}
use Rattle.wf_script.specs.Grammar.{sizes}
use Rattle.wf_script.specs.Words.{Word, words_in}
use Rattle.wf_script.specs.Items.{behind}
use Rattle.wf_script.proofs.SizeRow.{no_size, size_more, sizes_end}
use Rattle.wf_script.proofs.reader.sizes.Goals as goal

pub returns-in-None : goal.returns-in-None
returns-in-None c =
    let done = c.loop-word.sizes.items in
    sym c.loop-word.invariant.same ∙ ap (λ (ws : List Word). behind done (sizes ws)) c.in-Some.ensures.words
    ∙ no_size done c.in-Some.word.now (words_in c.in-Some.behind.now) (sym c.in-None.ensures)

pub loop-word-preserved : goal.loop-word-preserved
loop-word-preserved c =
    let done = c.loop-word.sizes.items in
    record {
      same = rw c.push.ensures.items
          (sym (size_more done c.in-Some-size_of.size c.in-Some.word.now (words_in c.in-Some.behind.now) (sym c.in-Some-size_of.ensures))
          ∙ sym (ap (λ (ws : List Word). behind done (sizes ws)) c.in-Some.ensures.words) ∙ c.loop-word.invariant.same);
      few = omega (arith, c.push.ensures.len, ap length c.in-Some.ensures.words);
    }

pub returns : goal.returns
returns c = sym c.loop-word.invariant.same ∙ sizes_end c.loop-word.sizes.items (words_in c.loop-word.rest.now) c.in_default.ensures.words
