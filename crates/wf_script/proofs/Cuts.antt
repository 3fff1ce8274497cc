-- Texts that are cut into lines and words.
use Rattle.std.proofs.Common.{◌≡◌, ◌≢◌, ◌∙◌, ℕ, ◌+◌, ◌<◌, ◌==◌, ◌⊎◌, inl, inr, Bool, not, Option, Some, None, MatchOption, Bor, List, []}
use Rattle.std.proofs.Common.{◌∷◌, ◌++◌, length, take, filter, position, unwrap_or, refl, sym, ap, arith, append-nil}
use Rattle.std.proofs.lemmas.Bool.{cases_lt, cases_Bool, lt-ltb, le-ltb, eqb-true}
use Rattle.std.proofs.lemmas.List.{drop_all, take_all}
use Rattle.std.proofs.lemmas.List.Splits.{slice_split_first, slice_split_none}
use Rattle.std.proofs.lemmas.List.Sums.{fails_before_first, prefix_len-le-length}
use Rattle.std.specs.List.{before_first, after_first, position_or_len, slice_split}
use Rattle.wf_script.specs.Words.{Word, is_blank, is_word, lines_of, words_in, without_empty_end, without_return}

module _ (p : ℕ → Bool) where
  -- the first place that passes, or the end
  pub place_or_end : (xs : List ℕ) → unwrap_or (position p xs) (length xs) ≡ position_or_len p xs
  place_or_end xs = elim (cases_lt (position_or_len p xs) (length xs)) [
    | inl here ↦ rw (lt-ltb (position_or_len p xs) (length xs) here) refl
    | inr none ↦ rw (le-ltb (position_or_len p xs) (length xs) none) (omega (arith, prefix_len-le-length (λ x. not (p x)) xs))
  ]

  -- the first piece of a text is the last, or stands before those of what is behind its end
  abbrev FirstPiece : List ℕ → Type 0
  FirstPiece xs =
      ((slice_split p xs ≡ before_first p xs ∷ []) × (after_first p xs ≡ []) × (before_first p xs ≡ xs))
      ⊎ (slice_split p xs ≡ before_first p xs ∷ slice_split p (after_first p xs))

  first_piece : (xs : List ℕ) → FirstPiece xs
  first_piece xs = elim (cases_lt (position_or_len p xs) (length xs)) [
    | inl here ↦ inr (slice_split_first p xs 0 here)
    | inr none ↦
        let all : take (position_or_len p xs) xs ≡ xs = take_all (position_or_len p xs) xs none in
        inl (
          slice_split_none p xs (λ k d h. fails_before_first p xs k d (omega arith)) ∙ ap (λ (ys : List ℕ). ys ∷ []) (sym all),
          drop_all (position_or_len p xs + 1) xs (omega arith),
          all,
        )
  ]

  -- there is a piece
  some_piece : (xs : List ℕ) → (x : List ℕ) × (ys : List (List ℕ)) × (slice_split p xs ≡ x ∷ ys)
  some_piece xs = elim (first_piece xs) [
    | inl last ↦ (before_first p xs, [], last.0)
    | inr more ↦ (before_first p xs, slice_split p (after_first p xs), more)
  ]

-- the first line, and those behind it
pub first_line : (text : List ℕ) → 0 < length text
    → lines_of text ≡ before_first (λ b. b == 10) text ∷ lines_of (after_first (λ b. b == 10) text)
unfolding lines_of
first_line [] some = absurd (omega arith)
first_line (x ∷ xs) some =
    let p : ℕ → Bool = λ b. b == 10 in
    let text : List ℕ = x ∷ xs in
    elim (first_piece p text) [
      | inl last ↦
          let end : without_empty_end (before_first p text ∷ []) ≡ before_first p text ∷ [] = rw last.2 refl in
          ap without_empty_end last.0 ∙ end ∙ ap (λ (behind : List ℕ). before_first p text ∷ without_empty_end (slice_split p behind))
          (sym last.1)
      | inr more ↦
          let piece = some_piece p (after_first p text) in
          ap without_empty_end (more ∙ ap (λ (ys : List (List ℕ)). before_first p text ∷ ys) piece.2)
          ∙ ap (λ (ys : List (List ℕ)). before_first p text ∷ without_empty_end ys) (sym piece.2)
    ]

-- no text, no line
pub no_line : (text : List ℕ) → length text ≡ 0 → lines_of text ≡ []
unfolding lines_of
no_line [] none = refl
no_line (x ∷ xs) none = absurd (omega arith)

-- no text, no word
pub no_word : (text : List ℕ) → length text ≡ 0 → words_in text ≡ []
unfolding words_in
no_word [] none = refl
no_word (x ∷ xs) none = absurd (omega arith)

-- the pieces at blanks that are words
filter_first : (w : Word) (ws : List Word) → filter is_word (w ∷ ws) ≡ filter is_word (w ∷ []) ++ filter is_word ws
filter_first w ws = elim (cases_Bool (is_word w)) [
  | inl is ↦ rw is refl
  | inr isnt ↦ rw isnt refl
]

cut_word : (text : List ℕ) → words_in text ≡ filter is_word (before_first is_blank text ∷ []) ++ words_in (after_first is_blank text)
unfolding words_in
cut_word text = elim (first_piece is_blank text) [
  | inl last ↦ ap (filter is_word) last.0
      ∙ sym (ap (λ (behind : List ℕ). filter is_word (before_first is_blank text ∷ []) ++ words_in behind) last.1
      ∙ append-nil (filter is_word (before_first is_blank text ∷ [])))
  | inr more ↦ ap (filter is_word) more ∙ filter_first (before_first is_blank text) (slice_split is_blank (after_first is_blank text))
]

-- the first piece is a word
pub next_is_word : (text word rest : List ℕ) → word ≡ before_first is_blank text → rest ≡ after_first is_blank text → 0 < length word
    → words_in text ≡ word ∷ words_in rest
next_is_word text [] rest front behind some = absurd (omega arith)
next_is_word text (b ∷ bs) rest front behind some = cut_word text ∙ rw (← front, ← behind) refl

-- the first piece is none
pub next_is_none : (text word rest : List ℕ) → word ≡ before_first is_blank text → rest ≡ after_first is_blank text → length word ≡ 0
    → words_in text ≡ words_in rest
next_is_none text [] rest front behind none = cut_word text ∙ rw (← front, ← behind) refl
next_is_none text (b ∷ bs) rest front behind none = absurd (omega arith)

-- a carriage return at the end is dropped
pub return_dropped : (front : List ℕ) → without_return (front ++ 13 ∷ []) ≡ front
return_dropped [] = refl
return_dropped (x ∷ []) = refl
return_dropped (x ∷ y ∷ ys) = ap (λ (zs : List ℕ). x ∷ zs) (return_dropped (y ∷ ys))

-- and nothing else is
pub no_return : (line : List ℕ) → ((front : List ℕ) → line ≢ front ++ 13 ∷ []) → without_return line ≡ line
no_return [] none = refl
no_return (x ∷ []) none = elim (cases_Bool (x == 13)) [
  | inl is ↦ absurd (none [] (ap (λ (b : ℕ). b ∷ []) (eqb-true x 13 is)))
  | inr isnt ↦ rw isnt refl
]
no_return (x ∷ y ∷ ys) none = ap (λ (zs : List ℕ). x ∷ zs)
    (no_return (y ∷ ys) (λ front same. none (x ∷ front) (ap (λ (zs : List ℕ). x ∷ zs) same)))

-- what is left of a line, where its end may have been found to be a carriage return
pub without_ending : (line : Bor (List ℕ)) (found : Option (Bor (List ℕ)))
    → MatchOption found ((front : List ℕ) → line.now ≢ front ++ 13 ∷ []) (λ x. line.now ≡ x.now ++ 13 ∷ [])
    → (unwrap_or found line).now ≡ without_return line.now
without_ending line None none = sym (no_return line.now none)
without_ending line (Some x) is = sym (ap without_return is ∙ return_dropped x.now)
