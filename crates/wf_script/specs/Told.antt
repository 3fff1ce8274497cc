-- What is printed of a verb.
use Rattle.std.specs.Prelude.{List, [], ◌∷◌, ◌++◌, map, take}
use Rattle.wf_script.specs.declared.told.End.{End}
use Rattle.wf_script.specs.declared.told.End.TheVariants as end
use Rattle.wf_script.specs.declared.told.Told.{Told}
use Rattle.wf_script.specs.Canonical.{paint_words}
use Rattle.wf_script.specs.Fields.{context_fields, element_fields, pipe_fields, port_fields, value_items, written}
use Rattle.wf_script.specs.Token.{shown_word}
use Rattle.wf_script.specs.Words.{Word}

-- the words of the end
abbrev pub end_words : End → List Word
end_words end.Nothing = []
end_words (end.Element attr value) = written (value_items (element_fields attr) value.now)
end_words (end.Context attr value) = written (value_items (context_fields attr) value.now)
end_words (end.Port attr value) = written (value_items (port_fields attr) value.now)
end_words (end.Pipe attr value) = written (value_items (pipe_fields attr) value.now)
end_words (end.Paint painted) = paint_words painted.paint.now

-- the verb's word, the words behind it, and the end
abbrev pub told_words : Told → List Word
told_words told = told.word.now ∷ map shown_word (take told.count told.shown) ++ end_words told.end
