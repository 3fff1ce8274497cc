-- Live handles by their kinds, what lives under a handle, and what is left when one dies.
use Rattle.std.proofs.Common.{◌≡◌, ◌∙◌, ℕ, Bool, true, false, not, ◌==◌, ◌&&◌, List, count_by, length, map, filter, find, option_map}
use Rattle.std.proofs.Common.{Option, Some, None, is_some, refl, sym, ap}
use Rattle.std.specs.List.{list_any}
use Rattle.std.proofs.lemmas.Bool.{and_parts, eqb-true}
use Rattle.std.proofs.lemmas.List.Sums.{length-filter}
use Rattle.wf_words.specs.Filtered.{filter_mapped, filter_swapped}
use Rattle.wf_words.specs.Found.{any_found, any_mapped, find_filtered, find_mapped, passes}
use Rattle.wf_words.specs.Rising.{Rises, found_above, left_of}
use Rattle.wf_life.specs.declared.Kind.{Kind}
use Rattle.wf_life.specs.declared.Kind.TheVariants as kind
use Rattle.wf_life.specs.Handles.{IsRising, Live, is_live, key_of, rises_live, same_kind, without}

abbrev pub live : Kind → ℕ → ℕ → Live
live k handle key = record { handle = handle; kind = k; key = key }

-- the live handles of a kind
abbrev pub of_kind : Kind → List Live → List Live
of_kind k others = filter (λ l. same_kind l.kind k) others

mapped_twice : {A B C : Type 0} (f : B → C) (g : A → B) (o : Option A) → option_map f (option_map g o) ≡ option_map (λ x. f (g x)) o
mapped_twice f g None = refl
mapped_twice f g (Some x) = refl

-- the key of a handle is that of the object that has it
pub keyed : {A : Type 0} (k : Kind) (g : A → Live) (handle : ℕ) (xs : List A) (others : List Live) → of_kind k others ≡ map g xs
    → key_of handle k others ≡ option_map (λ x. (g x).key) (find (λ x. (g x).handle == handle) xs)
keyed k g handle xs others is =
    ap (option_map (λ (l : Live). l.key)) (find_filtered (λ (l : Live). l.handle == handle) (λ (l : Live). same_kind l.kind k) others
    ∙ ap (find (λ (l : Live). l.handle == handle)) is ∙ find_mapped (λ (l : Live). l.handle == handle) g xs)
    ∙ mapped_twice (λ (l : Live). l.key) g (find (λ x. (g x).handle == handle) xs)

-- the kinds that are one
pub same_is : (k l : Kind) → same_kind k l ≡ true → k ≡ l
same_is kind.Stream kind.Stream is = refl
same_is kind.Device kind.Device is = refl
same_is kind.Context kind.Context is = refl
same_is kind.Element kind.Element is = refl
same_is kind.Source kind.Source is = refl
same_is kind.Mask kind.Mask is = refl
same_is kind.DisplaySource kind.DisplaySource is = refl
same_is _ _ is = absurd cc

-- what lives under a handle, with its kind
pub record IsUnder (h : ℕ) (k : Kind) (others : List Live) : Type 0 where
  pub object : Live
  pub found : find (λ l. l.handle == h) others ≡ Some object
  pub kind_is : object.kind ≡ k

-- a handle and a kind lead to it
abbrev pub under : (h : ℕ) (k : Kind) (made : ℕ) (others : List Live) (l : Live) → IsRising 0 others made
    → find (λ x. (x.handle == h) && same_kind x.kind k) others ≡ Some l → IsUnder h k others
under h k made others l rising found =
    let parts = and_parts (l.handle == h) (same_kind l.kind k)
    (passes (λ x. (x.handle == h) && same_kind x.kind k) others l found) in
    let there = found_above (λ x. x.handle) (λ x. (x.handle == h) && same_kind x.kind k) 0 others l
    (rises_live 0 made others rising) found in
    record {
      object = l;
      found = ap (λ n. find (λ x. x.handle == n) others) (sym (eqb-true l.handle h parts.0)) ∙ there.1;
      kind_is = same_is l.kind k parts.1;
    }

-- an object of a kind lives under its handle
pub object_under : {A : Type 0} (k : Kind) (g : A → Live) (h made : ℕ) (xs : List A) (others : List Live) → IsRising 0 others made
    → of_kind k others ≡ map g xs → list_any (λ x. (g x).handle == h) xs ≡ true → IsUnder h k others
object_under k g h made xs others rising is any = of_found (find (λ x. (x.handle == h) && same_kind x.kind k) others) refl some
  where
    some : is_some (find (λ x. (x.handle == h) && same_kind x.kind k) others) ≡ true
    some =
        ap is_some (find_filtered (λ l. l.handle == h) (λ l. same_kind l.kind k) others
        ∙ ap (find (λ l. l.handle == h)) is)
        ∙ sym (any_found (λ l. l.handle == h) (map g xs)) ∙ any_mapped (λ l. l.handle == h) g xs ∙ any

    of_found : (o : Option Live) → find (λ x. (x.handle == h) && same_kind x.kind k) others ≡ o → is_some o ≡ true → IsUnder h k others
    of_found None at there = absurd cc
    of_found (Some l) at there = under h k made others l rising at

-- what is under a handle lives
pub lives : (h : ℕ) (k : Kind) (others : List Live) → IsUnder h k others → is_live h others ≡ true
lives h k others u = any_found (λ l. l.handle == h) others ∙ ap is_some u.found

-- what does not pass a test leaves those that do as they were
pub left_out : (q : Live → Bool) (h low : ℕ) (ls : List Live) (l : Live) → Rises (λ x. x.handle) low ls
    → find (λ x. x.handle == h) ls ≡ Some l → q l ≡ false → filter q (without h ls) ≡ filter q ls
left_out q h low ls l rises found fails = left_of (λ x. x.handle) q h low ls l rises found fails

-- as many pass it
pub count_stays : (q : Live → Bool) (h low : ℕ) (ls : List Live) (l : Live) → Rises (λ x. x.handle) low ls
    → find (λ x. x.handle == h) ls ≡ Some l → q l ≡ false → count_by q (without h ls) ≡ count_by q ls
count_stays q h low ls l rises found fails = sym (length-filter q (without h ls)) ∙ ap length (left_out q h low ls l rises found fails)
    ∙ length-filter q ls

-- where those that pass a test are those of objects, the object with the handle leaves
pub taken_out : {A : Type 0} (q : Live → Bool) (g : A → Live) (h : ℕ) (xs : List A) (ls : List Live) → filter q ls ≡ map g xs
    → filter q (without h ls) ≡ map g (filter (λ x. not ((g x).handle == h)) xs)
taken_out q g h xs ls is = filter_swapped q (λ l. not (l.handle == h)) ls ∙ ap (filter (λ l. not (l.handle == h))) is
    ∙ filter_mapped (λ l. not (l.handle == h)) g xs
