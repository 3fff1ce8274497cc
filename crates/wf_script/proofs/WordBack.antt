-- Printed words of each kind are read as what they were printed from.
use Rattle.std.proofs.Common.{◌≡◌, ◌∙◌, ℕ, suc, ◌+◌, ◌^◌, ◌<◌, Bool, true, false, not, ◌&&◌, ◌==◌}
use Rattle.std.proofs.Common.{nat_le, ℤ, List, [], ◌∷◌, ◌++◌, length, drop, Option, Some, None, Ok, refl, sym, ap, subst, arith, cond}
use Rattle.std.proofs.Common.{append_assoc}
use Rattle.std.proofs.Math.Numerals.{one-add}
use Rattle.std.specs.Prelude.{codes, decimal, find, option_map, if◌then◌else◌}
use Rattle.std.specs.List.{after_first, before_first, list_all, position_or_len}
use Rattle.std.specs.Str.{bytes_eq, byte}
use Rattle.std.proofs.lemmas.Bool.{and_from, and_parts}
use Rattle.std.proofs.lemmas.Bool.Decides.{nat_tests}
use Rattle.wf_pixel.specs.declared.Format.{Format}
use Rattle.wf_pixel.specs.declared.Format.TheVariants.{A8}
use Rattle.wf_pixel.specs.declared.Size.{Size}
use Rattle.wf_scene.specs.declared.attributes.ContextAttr.{ContextAttr}
use Rattle.wf_scene.specs.declared.attributes.ContextAttr.TheVariants as context
use Rattle.wf_scene.specs.declared.attributes.ElementAttr.{ElementAttr}
use Rattle.wf_scene.specs.declared.attributes.ElementAttr.TheVariants as element
use Rattle.wf_calls.specs.declared.call.StatWord.{StatWord}
use Rattle.wf_calls.specs.declared.call.StatWord.TheVariants.{Bytes}
use Rattle.wf_calls.specs.declared.display.PipeAttr.{PipeAttr}
use Rattle.wf_calls.specs.declared.display.PipeAttr.TheVariants as pipe
use Rattle.wf_calls.specs.declared.display.PortAttr.{PortAttr}
use Rattle.wf_calls.specs.declared.display.PortAttr.TheVariants as port
use Rattle.wf_calls.specs.declared.display.Transition.{Transition}
use Rattle.wf_calls.specs.declared.display.Transition.TheVariants.{Now}
use Rattle.wf_script.specs.declared.name.Name.{Name}
use Rattle.wf_script.specs.Canonical.{size_word}
use Rattle.wf_script.specs.Spelled.{context_attr_word, element_attr_word, format_word, handle_word, pipe_attr_word, port_attr_word}
use Rattle.wf_script.specs.Spelled.{stat_word, transition_word, word_of}
use Rattle.wf_script.specs.Pick.{first_as}
use Rattle.wf_script.specs.Words.{Word, context_attrs, count_in, element_attrs, filters, formats, handle_of, is_digit, is_letter, is_name}
use Rattle.wf_script.specs.Words.{is_name_byte, is_word, look_up, name_of, none_word, pipe_attrs, port_attrs, sides, size_of}
use Rattle.wf_script.specs.Words.{starts_as_name}
use Rattle.wf_script.specs.Words.{stat_words, transitions, transparencies}
use Rattle.wf_script.proofs.Clean.{all_both, all_pass, is_clean, is_clean_byte, name_byte_is_clean}
use Rattle.wf_script.proofs.Numerals.{Back, count_back, decimal_digits}
use Rattle.wf_script.proofs.Steps.{count_within, first_kind}
use Rattle.wf_pixel.specs.declared.TheConstants.{MOST_SIDE}

-- the first word of a kind, printed
pub first_back : {A : Type 0} (kind : Word → Option A) (word : A → Word) → ((w : Word) (x : A) → kind w ≡ Some x → Back kind (word x) x)
    → (ws : List Word) (x : A × List Word) → first_as kind ws ≡ Ok x → Back kind (word x.0) x.0
first_back kind word back ws x h = let found = first_kind kind ws x h in back found.0 x.0 found.1

-- names

name_clean : (w : Word) → is_name w ≡ true → is_clean w ≡ true
name_clean [] is = absurd cc
name_clean (b ∷ bs) is =
    let letters = (and_parts (starts_as_name (b ∷ bs)) (nat_le (length (b ∷ bs)) 16 && not (bytes_eq (b ∷ bs) none_word)) is).0 in
    let parts = and_parts (is_letter b) (list_all is_name_byte bs) letters in
    let first : is_name_byte b ≡ true = rw parts.0 refl in
    and_from (is_clean_byte b) (list_all is_clean_byte bs) (name_byte_is_clean b first)
    (all_pass is_name_byte is_clean_byte name_byte_is_clean bs parts.1)

pub name_is : (w : Word) (x : Name) → name_of w ≡ Some x → (w ≡ x) × (is_name w ≡ true)
unfolding name_of
name_is w x h =
    elim (is_name w) as (λ t. is_name w ≡ t → (if t then Some w else None) ≡ Some x → (w ≡ x) × (is_name w ≡ true)) [
      | true ↦ λ is same. ((let e : w ≡ x = cc in e), is)
      | false ↦ λ isnt same. absurd cc
    ] refl h

pub name_back : (w : Word) (x : Name) → name_of w ≡ Some x → Back name_of x x
name_back w x h =
    let found = name_is w x h in
    subst (λ (v : Word). Back name_of v v) found.0 (record {
      reads = h ∙ ap (λ (v : Word). Some v) (sym found.0);
      clean = name_clean w found.1;
    })

-- names and none

pub handle_back : (w : Word) (x : Option Name) → handle_of w ≡ Some x → Back handle_of (handle_word x) x
unfolding handle_of
handle_back w None h = record { reads = refl; clean = refl }
handle_back w (Some name) h =
    elim (bytes_eq w none_word) as (λ t. bytes_eq w none_word ≡ t
    → (if t then Some None else option_map (λ n. Some n) (name_of w)) ≡ Some (Some name) → Back handle_of name (Some name)) [
      | true ↦ λ is same. absurd cc
      | false ↦ λ isnt same. named isnt (name_of w) refl same
    ] refl h
  where
    named : bytes_eq w none_word ≡ false → (o : Option Name) → name_of w ≡ o → option_map (λ n. Some n) o ≡ Some (Some name)
        → Back handle_of name (Some name)
    named isnt None e same = absurd cc
    named isnt (Some n) e same =
        let is : n ≡ name = cc in
        let found = name_is w n e in
        let whole : w ≡ name = found.0 ∙ is in
        subst (λ (v : Word). Back handle_of v (Some v)) whole (record {
          reads = rw (isnt, e) (ap (λ (v : Word). Some (Some v)) (sym found.0));
          clean = name_clean w found.1;
        })

-- the words of tables

module _ {A : Type 0} (P : A → Type 0) where
  -- it holds of what stands beside each word
  abbrev pub OfRows : List (Word × A) → Type 0
  OfRows [] = Unit {0}
  OfRows (row ∷ rows) = P row.1 × OfRows rows

  pub looked_up : (rows : List (Word × A)) → OfRows rows → (w : Word) (x : A) → look_up rows w ≡ Some x → P x
  looked_up [] all w x h = absurd cc
  looked_up (row ∷ rows) all w x h =
      elim (bytes_eq w row.0) as (λ t. option_map (λ r. r.1) (cond t (Some row) (find (λ r. bytes_eq w r.0) rows)) ≡ Some x → P x) [
        | true ↦ λ same. (let is : row.1 ≡ x = cc in subst P is all.0)
        | false ↦ λ same. looked_up rows all.1 w x same
      ] h

-- each word of a table is read as what it was printed from
module _ {A : Type 0} (rows : List (Word × A)) (word : A → Word) where
  abbrev pub Again : A → Type 0
  Again x = (look_up rows (word x) ≡ Some x) × (is_clean (word x) ≡ true)

  pub row_of_table : OfRows Again rows → (w : Word) (x : A) → look_up rows w ≡ Some x → Back (look_up rows) (word x) x
  row_of_table all w x h = let both = looked_up Again rows all w x h in record { reads = both.0; clean = both.1 }

  -- a kind whose values all have a word
  pub each_back : ((x : A) → Again x) → (w : Word) (x : A) → look_up rows w ≡ Some x → Back (look_up rows) (word x) x
  each_back again w x h = record { reads = (again x).0; clean = (again x).1 }

abbrev done : Unit {0}
done = tt

-- the words of kinds that have a word for each of their values

pub format_again : (x : Format) → Again formats format_word x
format_again A8 = (refl, refl)
format_again _ = (refl, refl)

pub stat_again : (x : StatWord) → Again stat_words stat_word x
stat_again Bytes = (refl, refl)
stat_again _ = (refl, refl)

pub transition_again : (x : Transition) → Again transitions transition_word x
transition_again Now = (refl, refl)
transition_again _ = (refl, refl)

pub element_attr_again : (x : ElementAttr) → Again element_attrs element_attr_word x
element_attr_again element.Dest = (refl, refl)
element_attr_again _ = (refl, refl)

pub context_attr_again : (x : ContextAttr) → Again context_attrs context_attr_word x
context_attr_again context.Width = (refl, refl)
context_attr_again _ = (refl, refl)

pub port_attr_again : (x : PortAttr) → Again port_attrs port_attr_word x
port_attr_again port.Mode = (refl, refl)
port_attr_again _ = (refl, refl)

pub pipe_attr_again : (x : PipeAttr) → Again pipe_attrs pipe_attr_word x
pipe_attr_again pipe.Dest = (refl, refl)
pipe_attr_again _ = (refl, refl)

-- numbers that have words

pub filter_back : (w : Word) (x : ℤ) → look_up filters w ≡ Some x → Back (look_up filters) (word_of filters x) x
filter_back = row_of_table filters (word_of filters) ((refl, refl), ((refl, refl), ((refl, refl), done)))

pub transparency_back : (w : Word) (x : ℤ) → look_up transparencies w ≡ Some x → Back (look_up transparencies) (word_of transparencies x) x
transparency_back = row_of_table transparencies (word_of transparencies)
    ((refl, refl), ((refl, refl), ((refl, refl), ((refl, refl), ((refl, refl), ((refl, refl), ((refl, refl), ((refl, refl), done))))))))

-- sizes

module _ (p inside : ℕ → Bool) (none : (b : ℕ) → inside b ≡ true → p b ≡ false) (mark : ℕ) (is : p mark ≡ true) (rest : List ℕ) where
  -- what stands before the first mark, and behind it
  before_mark : (piece : List ℕ) → list_all inside piece ≡ true → before_first p (piece ++ mark ∷ rest) ≡ piece
  before_mark [] all = rw is refl
  before_mark (b ∷ bs) all =
      let parts = and_parts (inside b) (list_all inside bs) all in
      rw (none b parts.0, one-add) (ap (λ (ys : List ℕ). b ∷ ys) (before_mark bs parts.1))

  behind_mark : (piece : List ℕ) → list_all inside piece ≡ true → after_first p (piece ++ mark ∷ rest) ≡ rest
  behind_mark [] all = rw is refl
  behind_mark (b ∷ bs) all =
      let parts = and_parts (inside b) (list_all inside bs) all in
      let n : ℕ = position_or_len p (bs ++ mark ∷ rest) in
      let e : (1 + n) + 1 ≡ suc (n + 1) = omega arith in
      rw (none b parts.0) (ap (λ (k : ℕ). drop k (b ∷ (bs ++ mark ∷ rest))) e ∙ behind_mark bs parts.1)

digit_no_x : (b : ℕ) → is_digit b ≡ true → (b == byte "x") ≡ false
digit_no_x b h = grind (arith, nat_tests)

size_again : (s : Size) → (let c = count_in 1 MOST_SIDE in c (decimal s.w) ≡ Some s.w) → count_in 1 MOST_SIDE (decimal s.h) ≡ Some s.h
    → s.w < 2 ^ 64 → size_of (size_word s) ≡ Some s
unfolding size_of
size_again s width height small =
    let p : ℕ → Bool = λ b. b == byte "x" in
    let digits = decimal_digits s.w small in
    let text : List ℕ = decimal s.w ++ byte "x" ∷ decimal s.h in
    ap size_of (append_assoc (decimal s.w) (codes "x") (decimal s.h))
    ∙ ap (λ (w : Word). sides (count_in 1 MOST_SIDE w) (count_in 1 MOST_SIDE (after_first p text)))
    (before_mark p is_digit digit_no_x (byte "x") refl (decimal s.h) (decimal s.w) digits)
    ∙ ap (λ (w : Word). sides (count_in 1 MOST_SIDE (decimal s.w)) (count_in 1 MOST_SIDE w))
    (behind_mark p is_digit digit_no_x (byte "x") refl (decimal s.h) (decimal s.w) digits)
    ∙ rw (width, height) refl

-- a word, and more letters
word_with : (v u : Word) → is_word v ≡ true → list_all is_clean_byte v ≡ true → list_all is_clean_byte u ≡ true
    → is_clean (v ++ u) ≡ true
word_with [] u some first second = absurd cc
word_with (x ∷ xs) u some first second = all_both is_clean_byte (x ∷ xs) u first second

pub size_back : (w : Word) (s : Size) → size_of w ≡ Some s → Back size_of (size_word s) s
unfolding size_of
size_back w s h = of_sides (count_in 1 MOST_SIDE (before_first (λ b. b == byte "x") w))
    (count_in 1 MOST_SIDE (after_first (λ b. b == byte "x") w))
    refl refl h
  where
    of_sides : (a b : Option ℕ) → count_in 1 MOST_SIDE (before_first (λ b. b == byte "x") w) ≡ a
        → count_in 1 MOST_SIDE (after_first (λ b. b == byte "x") w) ≡ b → sides a b ≡ Some s → Back size_of (size_word s) s
    of_sides None b ha hb h = absurd cc
    of_sides (Some a) None ha hb h = absurd cc
    of_sides (Some a) (Some b) ha hb h =
        let is : record { w = a; h = b } ≡ s = cc in
        let width = count_back 1 MOST_SIDE (omega arith) (before_first (λ b. b == byte "x") w) a ha in
        let height = count_back 1 MOST_SIDE (omega arith) (after_first (λ b. b == byte "x") w) b hb in
        let low = (count_within 1 MOST_SIDE (before_first (λ b. b == byte "x") w) a ha).1 in
        let high = (count_within 1 MOST_SIDE (after_first (λ b. b == byte "x") w) b hb).1 in
        let plain = and_parts (is_word (decimal a)) (list_all is_clean_byte (decimal a)) width.clean in
        let behind = and_parts (is_word (decimal b)) (list_all is_clean_byte (decimal b)) height.clean in
        subst (λ (x : Size). Back size_of (size_word x) x) is (record {
          reads = size_again (record { w = a; h = b }) width.reads height.reads (omega (arith, low));
          clean = ap is_clean (append_assoc (decimal a) (codes "x") (decimal b))
              ∙ word_with (decimal a) (codes "x" ++ decimal b) plain.0 plain.1 behind.1;
        })
