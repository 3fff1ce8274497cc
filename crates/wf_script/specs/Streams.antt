-- The words behind the verbs that paint.
use Rattle.std.specs.Prelude.{List, [], ◌∷◌, Ok}
use Rattle.wf_words.specs.Refusals.{◌>>=◌, found_or}
use Rattle.wf_script.specs.declared.line.Verb.TheVariants as verb
use Rattle.wf_script.specs.declared.rule.Rule.TheVariants as rule
use Rattle.wf_script.specs.Fields.{handle, names_in}
use Rattle.wf_script.specs.Given.{Given}
use Rattle.wf_script.specs.PaintWords.{paint_of}
use Rattle.wf_script.specs.Pick.{first}
use Rattle.wf_script.specs.Words.{Word, handle_of}

-- what is painted
unfoldable pub paint_words : List Word → Given
paint_words ws = do
  paint ← paint_of ws
  Ok (verb.Paint paint, [])

-- a stream, and what is painted into it
unfoldable pub frame_words : List Word → Given
frame_words ws = do
  s ← first ws
  paint ← paint_of s.1
  stream ← found_or rule.Word (handle_of s.0)
  Ok (verb.Frame stream paint, names_in (handle stream ∷ []))
