use Rattle.wf_script.specs.Reader.{reading}
use Rattle.wf_script.specs.Words.{lines_of}
use Rattle.wf_script.proofs.Sound.{script_sound}
use Rattle.wf_script.proofs.reading.parse.Goals as goal

pub script-requires : goal.script-requires
script-requires c = script_sound (reading c.in_ok-reader.reader) (lines_of c.in-Some.rest.now) c.in_ok-reader.ensures
