-- The input of the mode `check`: a script, and the film behind its end.
use Rattle.std.specs.Prelude.{ℕ, ◌+◌, Bool, false, ◌==◌, List, [], ◌∷◌, ◌++◌, codes, drop, take, if◌then◌else◌}
use Rattle.std.specs.Str.{bytes_eq}
use Rattle.wf_script.specs.Grammar.{line_words}
use Rattle.wf_script.specs.Words.{Word}

abbrev pub is_end_word : List Word → Bool
is_end_word (w ∷ []) = bytes_eq w (codes "end")
is_end_word _ = false

-- whether a line's only word is `end`
abbrev pub is_end : List ℕ → Bool
is_end line = is_end_word (line_words line)

-- how many bytes of a text there are up to the line feed of the first line whose only word is `end`, that line feed included, or
-- all where there is no such line feed; of the text's first line a part stands in front
unfoldable pub length_behind : List ℕ → List ℕ → ℕ
length_behind line [] = 0
length_behind line (b ∷ bs) =
    if b == 10 then (if is_end line then 1 else 1 + length_behind [] bs) else 1 + length_behind (line ++ b ∷ []) bs

-- the script part goes up to the end of the first line whose only word is `end`; where there is no such line, it is all
abbrev pub script_length : List ℕ → ℕ
script_length bytes = length_behind [] bytes

abbrev pub script_part : List ℕ → List ℕ
script_part bytes = take (script_length bytes) bytes

-- the film part is the rest
abbrev pub film_part : List ℕ → List ℕ
film_part bytes = drop (script_length bytes) bytes
