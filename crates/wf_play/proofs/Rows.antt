-- Worked rows: where the script part of an input ends.
use Rattle.std.proofs.Common.{◌≡◌, [], codes, refl}
use Rattle.wf_play.specs.Parts.{film_part, length_behind, script_part}
use Rattle.wf_script.specs.Words.{words_in}

-- behind the first of two lines whose only word is `end`
first_of_two : script_part (codes "x end\nend\nend\nF") ≡ codes "x end\nend\n"
unfolding length_behind words_in
first_of_two = refl

film_behind : film_part (codes "x end\nend\nend\nF") ≡ codes "end\nF"
unfolding length_behind words_in
film_behind = refl

-- blanks, a comment and a carriage return are no words
with_comment : film_part (codes "x\n\t end # it\r\nF\n") ≡ codes "F\n"
unfolding length_behind words_in
with_comment = refl

-- the last line may lack its line feed
last_line : script_part (codes "x\nend") ≡ codes "x\nend"
unfolding length_behind words_in
last_line = refl

-- without such a line all is script
no_end : film_part (codes "x\nendF\n# end\nend F\n") ≡ []
unfolding length_behind words_in
no_end = refl
