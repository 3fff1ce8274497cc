-- The canonical words of a line that was read are read as that line.
use Rattle.std.proofs.Common.{◌≡◌, ◌∙◌, ℕ, ◌+◌, ◌-◌, Bool, true, false, not, ◌&&◌, ◌||◌, nat_le, List, [], ◌∷◌}
use Rattle.std.proofs.Common.{◌++◌, length, map, Option, Some, None, Result, Ok, refl, sym, ap, subst, arith}
use Rattle.std.specs.Prelude.{decimal, if◌then◌else◌}
use Rattle.std.specs.List.{list_all}
use Rattle.std.specs.Str.{byte}
use Rattle.std.proofs.lemmas.Bool.{and_from, and_parts, leb-true}
use Rattle.std.proofs.lemmas.Bool.Decides.{nat_tests}
use Rattle.std.proofs.lemmas.Fmt.{decimal_digit}
use Rattle.wf_words.specs.Refusals.{◌>>=◌, refuse_if, found_or}
use Rattle.wf_pixel.specs.declared.Size.{Size}
use Rattle.wf_script.specs.declared.form.Form.{Form}
use Rattle.wf_script.specs.declared.line.Line.{Line}
use Rattle.wf_script.specs.declared.name.Name.{Name}
use Rattle.wf_script.specs.declared.rule.Rule.{Rule}
use Rattle.wf_script.specs.declared.rule.Rule.TheVariants as rule
use Rattle.wf_script.specs.Canonical.{binding_words, size_word, verb_words}
use Rattle.wf_script.specs.Forms.{arguments, forms}
use Rattle.wf_script.specs.Grammar.{Reading, bound_name, event_line, has_its_name, is_its_client, is_taken}
use Rattle.wf_script.specs.Grammar.{no_event_here, parts_of, sizes}
use Rattle.wf_script.specs.Visible.{is_visible}
use Rattle.wf_script.specs.Words.{Word, client_of, look_up, name_of, size_of}
use Rattle.wf_script.proofs.Clean.{all_both, clean_is_not_equals, clean_is_plain, is_clean, is_plain}
use Rattle.wf_script.proofs.WordBack.{name_back, name_is, size_back}
use Rattle.wf_script.proofs.Sound.{parts_words}
use Rattle.wf_script.proofs.Steps.{AreWords, bind_ok, found_ok, passed}
use Rattle.wf_script.proofs.VerbBack.{VerbBack, arguments_back}

-- a step that is taken, and what is behind it
pub go : {A B E : Type 0} (r : Result A E) (x : A) (f : A → Result B E) (y : Result B E) → r ≡ Ok x → f x ≡ y → (r >>= f) ≡ y
go {A = A} {E = E} r x f y e h = ap (λ (s : Result A E). s >>= f) e ∙ h

-- a refusal that does not come
pub go_on : (e : Rule) (b : Bool) → b ≡ false → refuse_if e b ≡ Ok tt
go_on e b isnt = ap (refuse_if e) isnt

-- clean words are plain
pub clean_are_plain : (ws : List Word) → list_all is_clean ws ≡ true → list_all is_plain ws ≡ true
clean_are_plain [] clean = refl
clean_are_plain (w ∷ ws) clean =
    let parts = and_parts (is_clean w) (list_all is_clean ws) clean in
    and_from (is_plain w) (list_all is_plain ws) (clean_is_plain w parts.0) (clean_are_plain ws parts.1)

-- ports

-- sizes whose words are read as them
pub record SizesBack (read : List Size) (count : ℕ) : Type 0 where
  pub reads : sizes (map size_word read) ≡ Ok read
  pub clean : list_all is_clean (map size_word read) ≡ true
  pub long : length (map size_word read) ≡ count

pub sizes_back : (ws : List Word) (read : List Size) → sizes ws ≡ Ok read → SizesBack read (length ws)
unfolding sizes
sizes_back [] read h =
    let none : [] ≡ read = cc in
    subst (λ (x : List Size). SizesBack x 0) none (record { reads = refl; clean = refl; long = refl })
sizes_back (w ∷ ws) read h =
    let size = bind_ok (found_or rule.Word (size_of w)) _ read h in
    let others = bind_ok (sizes ws) _ read size.2 in
    let all : size.0 ∷ others.0 ≡ read = cc in
    let first = size_back w size.0 (found_ok rule.Word (size_of w) size.0 size.1) in
    let later = sizes_back ws others.0 others.1 in
    subst (λ (x : List Size). SizesBack x (length (w ∷ ws))) all (record {
      reads = rw (first.reads, later.reads) refl;
      clean = rw (first.clean, later.clean) refl;
      long = omega (arith, later.long);
    })

-- event lines

-- the word of a client
pub client_word : (w : Word) (n : ℕ) → client_of w ≡ Some n → decimal n ≡ w
client_word [] n h = absurd cc
client_word (b ∷ c ∷ bs) n h = absurd cc
client_word (b ∷ []) n h =
    elim (nat_le (byte "0") b && nat_le b (byte "7")) as (λ t. (nat_le (byte "0") b && nat_le b (byte "7")) ≡ t
    → (if t then Some (b - byte "0") else None) ≡ Some n → decimal n ≡ b ∷ []) [
      | true ↦ λ yes same. (let within = and_parts (nat_le (byte "0") b) (nat_le b (byte "7")) yes in
          let low = leb-true (byte "0") b within.0 in
          let high = leb-true b (byte "7") within.1 in
          let is : b - byte "0" ≡ n = cc in
          decimal_digit n (omega arith) ∙ ap (λ (x : ℕ). x ∷ []) (let e : 48 + n ≡ b = omega arith in e))
      | false ↦ λ no same. absurd cc
    ] refl h

pub client_word_clean : (w : Word) (n : ℕ) → client_of w ≡ Some n → is_clean w ≡ true
client_word_clean [] n h = absurd cc
client_word_clean (b ∷ c ∷ bs) n h = absurd cc
client_word_clean (b ∷ []) n h =
    elim (nat_le (byte "0") b && nat_le b (byte "7")) as (λ t. (nat_le (byte "0") b && nat_le b (byte "7")) ≡ t
    → (if t then Some (b - byte "0") else None) ≡ Some n → is_clean (b ∷ []) ≡ true) [
      | true ↦ λ yes same. grind (arith, nat_tests, yes)
      | false ↦ λ no same. absurd cc
    ] refl h

-- the name that a line binds
record NameBack (o : Option Word) (name : Option Name) : Type 0 where
  same : o ≡ name
  clean : list_all is_plain (binding_words name) ≡ true

bound_back : (o : Option Word) (name : Option Name) → bound_name o ≡ Ok name → NameBack o name
bound_back None name h =
    let is : None ≡ name = cc in subst (λ (x : Option Name). NameBack None x) is (record { same = refl; clean = refl })
bound_back (Some w) name h =
    let n = bind_ok (found_or rule.Word (name_of w)) (λ x. Ok (Some x)) name h in
    let found = found_ok rule.Word (name_of w) n.0 n.1 in
    let whole = (name_is w n.0 found).0 in
    let back = name_back w n.0 found in
    let is : Some n.0 ≡ name = cc in
    subst (λ (x : Option Name). NameBack (Some w) x) is (record {
      same = ap (λ (v : Word). Some v) whole;
      clean = rw (clean_is_plain n.0 back.clean) refl;
    })

parts_again : (name : Option Name) (head : Word) (words : List Word) → list_all is_clean words ≡ true
    → parts_of (binding_words name ++ head ∷ words) ≡ Ok (record { name = name; verb = head; arguments = words })
unfolding parts_of
parts_again (Some n) head words clean = refl
parts_again None head [] clean = refl
parts_again None head (w ∷ ws) clean = rw (clean_is_not_equals w (and_parts (is_clean w) (list_all is_clean ws) clean).0) refl

-- an event line that was read, and its words
pub record EventBack (r left : Reading) (client : ℕ) : Type 0 where
  pub line : Line
  pub client_is : line.client ≡ client
  pub left_is : record r { lines = r.lines ++ line ∷ [] } ≡ left
  pub here : no_event_here r ≡ false
  pub plain : list_all is_plain (binding_words line.name ++ verb_words line.verb) ≡ true
  -- wherever an event stands, and the same lines were read, they give the same line
  pub again : (s : Reading) → s.lines ≡ r.lines → no_event_here s ≡ false
      → event_line s client (binding_words line.name ++ verb_words line.verb) ≡ Ok (record s { lines = r.lines ++ line ∷ [] })

pub event_back : (r left : Reading) (client : ℕ) (ws : List Word) → AreWords ws → event_line r client ws ≡ Ok left → EventBack r left client
unfolding event_line
event_back r left client ws words h =
    let parts = bind_ok (parts_of ws) _ left h in
    let form = bind_ok (found_or rule.Verb (look_up forms parts.0.verb)) _ left parts.2 in
    let has_name = bind_ok (refuse_if rule.Verb (not (has_its_name form.0 parts.0.name))) _ left form.2 in
    let here = bind_ok (refuse_if rule.Place (no_event_here r || not (is_its_client form.0 client))) _ left has_name.2 in
    let given = bind_ok (arguments form.0 parts.0.arguments) _ left here.2 in
    let name = bind_ok (bound_name parts.0.name) _ left given.2 in
    let used = bind_ok (refuse_if rule.Name (not (list_all (is_visible r.lines client) given.0.1))) _ left name.2 in
    let free = bind_ok (refuse_if rule.Name (is_taken r client name.0)) _ left used.2 in
    let l : Line = record { client = client; name = name.0; verb = given.0.0 } in
    let back = arguments_back form.0 parts.0.arguments (parts_words ws parts.0 words parts.1) given.0 given.1 in
    let bound = bound_back parts.0.name name.0 name.1 in
    let tests = either (no_event_here r) (not (is_its_client form.0 client))
    (passed rule.Place (no_event_here r || not (is_its_client form.0 client)) here.0 here.1) in
    record {
      line = l;
      client_is = refl;
      left_is = same_ok (record r { lines = r.lines ++ l ∷ [] }) left free.2;
      here = tests.0;
      plain = rw back.are (all_both is_plain (binding_words name.0) (back.head ∷ back.words) bound.clean
          (and_from (is_plain back.head) (list_all is_plain back.words) (clean_is_plain back.head back.head_clean)
          (clean_are_plain back.words back.clean)));
      again = λ s same stands.
          ap (event_line s client) (ap (λ (vs : List Word). binding_words name.0 ++ vs) back.are)
          ∙ read_again s form.0 given.0 name.0 back (parts_again name.0 back.head back.words back.clean)
          (subst (λ (o : Option Name). not (has_its_name form.0 o) ≡ false) bound.same
          (passed rule.Verb (not (has_its_name form.0 parts.0.name)) has_name.0 has_name.1))
          (rw (stands, tests.1) refl)
          (subst (λ (o : Option Name). bound_name o ≡ Ok name.0) bound.same name.1)
          (subst (λ (ls : List Line). not (list_all (is_visible ls client) given.0.1) ≡ false) (sym same)
          (passed rule.Name (not (list_all (is_visible r.lines client) given.0.1)) used.0 used.1))
          (taken_in s name.0 same (passed rule.Name (is_taken r client name.0) free.0 free.1))
          ∙ ap (λ (ls : List Line). Ok (record s { lines = ls ++ l ∷ [] })) same;
    }
  where
    same_ok : (p q : Reading) → (let t : Result Reading Rule = Ok p in let u : Result Reading Rule = Ok q in t ≡ u) → p ≡ q
    same_ok p q e = cc

    either : (a b : Bool) → (a || b) ≡ false → (a ≡ false) × (b ≡ false)
    either false false e = (refl, refl)
    either false true e = absurd cc
    either true b e = absurd cc

    taken_in : (s : Reading) (name : Option Name) → s.lines ≡ r.lines → is_taken r client name ≡ false → is_taken s client name ≡ false
    taken_in s None same free = refl
    taken_in s (Some n) same free = subst (λ (ls : List Line). is_visible ls client n ≡ false) (sym same) free

    read_again : (s : Reading) (f : Form) (g : _) (name : Option Name) (back : VerbBack f g)
        → parts_of (binding_words name ++ back.head ∷ back.words) ≡ Ok (record { name = name; verb = back.head; arguments = back.words })
        → not (has_its_name f name) ≡ false → (no_event_here s || not (is_its_client f client)) ≡ false → bound_name name ≡ Ok name
        → not (list_all (is_visible s.lines client) g.1) ≡ false → is_taken s client name ≡ false
        → event_line s client (binding_words name ++ back.head ∷ back.words)
        ≡ Ok (record s { lines = s.lines ++ record { client = client; name = name; verb = g.0 } ∷ [] })
    read_again s f g name back parts has here bound seen free =
        go (parts_of (binding_words name ++ back.head ∷ back.words)) (record { name = name; verb = back.head; arguments = back.words }) _ _
        parts
        (go (found_or rule.Verb (look_up forms back.head)) f _ _ (ap (found_or rule.Verb) back.found)
        (go (refuse_if rule.Verb (not (has_its_name f name))) tt _ _ (go_on rule.Verb (not (has_its_name f name)) has)
        (go (refuse_if rule.Place (no_event_here s || not (is_its_client f client))) tt _ _
        (go_on rule.Place (no_event_here s || not (is_its_client f client)) here)
        (go (arguments f back.words) g _ _ back.reads
        (go (bound_name name) name _ _ bound
        (go (refuse_if rule.Name (not (list_all (is_visible s.lines client) g.1))) tt _ _
        (go_on rule.Name (not (list_all (is_visible s.lines client) g.1)) seen)
        (go (refuse_if rule.Name (is_taken s client name)) tt _ _ (go_on rule.Name (is_taken s client name) free) refl)))))))
