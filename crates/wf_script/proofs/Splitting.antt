-- Lines of plain words, each with a line feed, are read as these lines and words.
use Rattle.std.proofs.Common.{◌≡◌, ◌∙◌, ℕ, Bool, true, false, ◌==◌, List, [], ◌∷◌, ◌++◌, filter, map, refl, ap}
use Rattle.std.proofs.Common.{append_assoc, append-nil}
use Rattle.std.specs.Prelude.{codes, flat_map}
use Rattle.std.specs.List.{list_all, slice_split, onto_first, before_first, join_by}
use Rattle.std.proofs.lemmas.Bool.{and_from, and_parts}
use Rattle.std.proofs.Math.Numerals.{one-add}
use Rattle.wf_script.specs.Canonical.{text_line}
use Rattle.wf_script.specs.Words.{Word, is_allowed, is_blank, is_word, lines_of, without_comment, without_empty_end, without_return}
use Rattle.wf_script.specs.Words.{words_in}
use Rattle.wf_script.proofs.Clean.{all_both, all_pass, is_line_byte, is_plain, is_plain_byte, line_has_no_comment, line_has_no_feed}
use Rattle.wf_script.proofs.Clean.{line_has_no_return, line_is_allowed, plain_in_line, plain_is_no_blank}

-- pieces between marks

module _ (p inside : ℕ → Bool) (none : (b : ℕ) → inside b ≡ true → p b ≡ false) where
  -- a piece before a mark
  pub split_at : (piece : List ℕ) (mark : ℕ) (rest : List ℕ) → p mark ≡ true → list_all inside piece ≡ true
      → slice_split p (piece ++ mark ∷ rest) ≡ piece ∷ slice_split p rest
  split_at [] mark rest is all = rw is refl
  split_at (b ∷ bs) mark rest is all =
      let parts = and_parts (inside b) (list_all inside bs) all in
      rw (none b parts.0) (ap (onto_first b) (split_at bs mark rest is parts.1))

  -- the last piece
  pub split_last : (piece : List ℕ) → list_all inside piece ≡ true → slice_split p piece ≡ piece ∷ []
  split_last [] all = refl
  split_last (b ∷ bs) all =
      let parts = and_parts (inside b) (list_all inside bs) all in
      rw (none b parts.0) (ap (onto_first b) (split_last bs parts.1))

  -- nothing is cut off where there is no mark
  pub before_none : (piece : List ℕ) → list_all inside piece ≡ true → before_first p piece ≡ piece
  before_none [] all = refl
  before_none (b ∷ bs) all =
      let parts = and_parts (inside b) (list_all inside bs) all in
      rw (none b parts.0, one-add) (ap (λ (ys : List ℕ). b ∷ ys) (before_none bs parts.1))

-- words

-- the words of a line, apart by one space
abbrev pub joined : List Word → List ℕ
joined words = join_by (λ w. w) (codes " ") words

-- each behind a space
abbrev behind_spaces : List Word → List ℕ
behind_spaces words = flat_map (λ w. codes " " ++ w) words

keeps_word : (w : Word) (ws : List Word) → is_word w ≡ true → filter is_word (w ∷ ws) ≡ w ∷ filter is_word ws
keeps_word w ws is = rw is refl

joined_words : (w : Word) (ws : List Word) → list_all is_plain (w ∷ ws) ≡ true
    → filter is_word (slice_split is_blank (w ++ behind_spaces ws)) ≡ w ∷ ws
joined_words w [] plain =
    let first = and_parts (is_word w) (list_all is_plain_byte w) (and_parts (is_plain w) true plain).0 in
    ap (λ (text : List ℕ). filter is_word (slice_split is_blank text)) (append-nil w)
    ∙ ap (filter is_word) (split_last is_blank is_plain_byte plain_is_no_blank w first.1) ∙ keeps_word w [] first.0
joined_words w (v ∷ vs) plain =
    let all = and_parts (is_plain w) (list_all is_plain (v ∷ vs)) plain in
    let first = and_parts (is_word w) (list_all is_plain_byte w) all.0 in
    let rest : List ℕ = v ++ behind_spaces vs in
    ap (filter is_word) (split_at is_blank is_plain_byte plain_is_no_blank w 32 rest refl first.1)
    ∙ keeps_word w (slice_split is_blank rest) first.0 ∙ ap (λ (ws : List Word). w ∷ ws) (joined_words v vs all.1)

pub words_again : (ws : List Word) → list_all is_plain ws ≡ true → words_in (joined ws) ≡ ws
unfolding words_in
words_again [] plain = refl
words_again (w ∷ ws) plain = joined_words w ws plain

-- the bytes of a line of plain words

spaces_in_line : (ws : List Word) → list_all is_plain ws ≡ true → list_all is_line_byte (behind_spaces ws) ≡ true
spaces_in_line [] plain = refl
spaces_in_line (w ∷ ws) plain =
    let all = and_parts (is_plain w) (list_all is_plain ws) plain in
    let first = (and_parts (is_word w) (list_all is_plain_byte w) all.0).1 in
    all_both is_line_byte w (behind_spaces ws) (all_pass is_plain_byte is_line_byte plain_in_line w first) (spaces_in_line ws all.1)

pub in_line : (ws : List Word) → list_all is_plain ws ≡ true → list_all is_line_byte (joined ws) ≡ true
in_line [] plain = refl
in_line (w ∷ ws) plain =
    let all = and_parts (is_plain w) (list_all is_plain ws) plain in
    let first = (and_parts (is_word w) (list_all is_plain_byte w) all.0).1 in
    all_both is_line_byte w (behind_spaces ws) (all_pass is_plain_byte is_line_byte plain_in_line w first) (spaces_in_line ws all.1)

pub no_return_left : (line : List ℕ) → list_all is_line_byte line ≡ true → without_return line ≡ line
no_return_left [] all = refl
no_return_left (x ∷ []) all = rw (line_has_no_return x (and_parts (is_line_byte x) true all).0) refl
no_return_left (x ∷ y ∷ ys) all =
    ap (λ (zs : List ℕ). x ∷ zs) (no_return_left (y ∷ ys) (and_parts (is_line_byte x) (list_all is_line_byte (y ∷ ys)) all).1)

pub no_comment_left : (line : List ℕ) → list_all is_line_byte line ≡ true → without_comment line ≡ line
no_comment_left line all = before_none (λ b. b == 35) is_line_byte line_has_no_comment line all

pub allowed_line : (line : List ℕ) → list_all is_line_byte line ≡ true → list_all is_allowed line ≡ true
allowed_line line all = all_pass is_line_byte is_allowed line_is_allowed line all

-- lines

abbrev pub with_feeds : List (List ℕ) → List ℕ
with_feeds lines = flat_map (λ line. line ++ 10 ∷ []) lines

abbrev pub are_lines : List (List ℕ) → Bool
are_lines lines = list_all (λ line. list_all is_line_byte line) lines

pieces : (lines : List (List ℕ)) → are_lines lines ≡ true → slice_split (λ b. b == 10) (with_feeds lines) ≡ lines ++ [] ∷ []
pieces [] all = refl
pieces (l ∷ ls) all =
    let parts = and_parts (list_all is_line_byte l) (are_lines ls) all in
    ap (slice_split (λ b. b == 10)) (append_assoc l (10 ∷ []) (with_feeds ls))
    ∙ split_at (λ b. b == 10) is_line_byte line_has_no_feed l 10 (with_feeds ls) refl parts.0
    ∙ ap (λ (xs : List (List ℕ)). l ∷ xs) (pieces ls parts.1)

no_empty_end : (lines : List (List ℕ)) → without_empty_end (lines ++ [] ∷ []) ≡ lines
no_empty_end [] = refl
no_empty_end (x ∷ []) = refl
no_empty_end (x ∷ y ∷ ys) = ap (λ (xs : List (List ℕ)). x ∷ xs) (no_empty_end (y ∷ ys))

pub lines_again : (lines : List (List ℕ)) → are_lines lines ≡ true → lines_of (with_feeds lines) ≡ lines
unfolding lines_of
lines_again lines all = ap without_empty_end (pieces lines all) ∙ no_empty_end lines

-- lines of plain words
abbrev pub are_plain : List (List Word) → Bool
are_plain lines = list_all (λ ws. list_all is_plain ws) lines

plain_lines : (lines : List (List Word)) → are_plain lines ≡ true → are_lines (map joined lines) ≡ true
plain_lines [] plain = refl
plain_lines (l ∷ ls) plain =
    let parts = and_parts (list_all is_plain l) (are_plain ls) plain in
    and_from (list_all is_line_byte (joined l)) (are_lines (map joined ls)) (in_line l parts.0) (plain_lines ls parts.1)

text_is : (lines : List (List Word)) → flat_map text_line lines ≡ with_feeds (map joined lines)
text_is [] = refl
text_is (l ∷ ls) = ap (λ (text : List ℕ). text_line l ++ text) (text_is ls)

pub text_again : (lines : List (List Word)) → are_plain lines ≡ true → lines_of (flat_map text_line lines) ≡ map joined lines
text_again lines plain = ap lines_of (text_is lines) ∙ lines_again (map joined lines) (plain_lines lines plain)
