-- What a frame takes when it begins.
use Rattle.std.specs.Prelude.{map}
use Rattle.wf_words.specs.Once.{NoneTwice}
use Rattle.wf_model.specs.State.{Running}

-- no two images that a frame took are of one stream
abbrev pub TakesOnce : Running → Type 0
TakesOnce f = NoneTwice (map (λ c. c.stream) f.contents)
