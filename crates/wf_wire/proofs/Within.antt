-- Reading stays within the input: no more bytes are left than there were, and each fault lies in the input. A message takes some
-- bytes, so the messages of a session are all told.
use Rattle.std.proofs.Common.{◌≡◌, ◌∙◌, ℕ, zero, suc, ◌+◌, ◌<◌, ◌≤◌, Bool, true, false, List, [], ◌∷◌, length, drop}
use Rattle.std.proofs.Common.{Option, Some, None, Ok, Err, ap, arith, length-drop, refl, subst}
use Rattle.std.proofs.lemmas.Bool.{ltb-false}
use Rattle.std.specs.Prelude.{nat_le, nat_lt, ◌&&◌, IfSome, option_map, if◌then◌else◌}
use Rattle.byteorder.specs.Endian.{big_number}
use Rattle.wf_words.specs.Keyed.{nth}
use Rattle.wf_pixel.specs.declared.TheConstants.{MOST_SIDE}
use Rattle.wf_calls.specs.declared.ports.Modes.{Modes}
use Rattle.wf_calls.specs.declared.ports.Ports.{Ports}
use Rattle.wf_calls.specs.declared.TheConstants.{MOST_PIPELINES}
use Rattle.wf_wire.specs.declared.form.Form.{Form}
use Rattle.wf_wire.specs.declared.message.Message.{Message}
use Rattle.wf_wire.specs.declared.TheConstants.{MESSAGES_END}
use Rattle.wf_wire.specs.Forms.{forms, kinds_of}
use Rattle.wf_wire.specs.Header.{declared, header, magic, mode_of, port, ports_of}
use Rattle.wf_wire.specs.Messages.{Spelled, argument, arguments, behind_form, behind_number, first, is_of_kind, meaning, next, spelled}
use Rattle.wf_wire.specs.Reading.{Cursor, Read, Reader, behind, breaks, broken, cursor, done, each, ends, number, number_that}
use Rattle.wf_wire.specs.Reading.{number_within}
use Rattle.wf_wire.specs.Session.{before, messages, session}
use Rattle.wf_wire.proofs.Headers.{behind_count, behind_magic, behind_modes, behind_width, ports, units}
use Rattle.wf_wire.proofs.Steps.{both}

-- where the input ends
abbrev end : Cursor → ℕ
end c = c.at + length c.left

-- what was read from a place on stays within the input
abbrev Within : {A : Type 0} → Cursor → Read A → Type 0
Within c (Ok x) = (length x.1.left ≤ length c.left) × (end x.1 ≡ end c)
Within c (Err e) = e.at ≤ end c

abbrev Stays : {A : Type 0} → Reader A → Type 0
Stays read = (c : Cursor) → Within c (read c)

done_stays : {A : Type 0} (x : A) → Stays (done x)
done_stays x c = (omega arith, refl)

breaks_within : (A : Type 0) (at rule : ℕ) (c : Cursor) → at ≤ end c → Within c (breaks {A = A} at rule c)
breaks_within A at rule c within = within

-- what is read behind some bytes
from_start : {A : Type 0} (c mid : Cursor) (r : Read A) → length mid.left ≤ length c.left → end mid ≡ end c → Within mid r → Within c r
from_start c mid (Ok x) fewer same within = (omega (arith, fewer, within.0), within.1 ∙ same)
from_start c mid (Err e) fewer same within = omega (arith, same, within)

module _ {A B : Type 0} (read : Reader A) (f : ℕ → A → Reader B) (stays : Stays read)
    (second : (at : ℕ) (x : A) (mid : Cursor) → at ≤ end mid → Within mid (f at x mid)) where
  both_stay : Stays (both read f)
  both_stay c = of_read (read c) (stays c)
    where
      of_read : (r : Read A) → Within c r → Within c (behind (f c.at) r)
      of_read (Ok (x, mid)) within =
          from_start c mid (f c.at x mid) within.0 within.1 (second c.at x mid (omega (arith, within.1)))
      of_read (Err e) within = within

module _ {X A : Type 0} (read : X → Reader A) (one : (x : X) → Stays (read x)) where
  each_stays : (xs : List X) → Stays (each read xs)
  unfolding each
  each_stays [] = done_stays {A = List A} []
  each_stays (x ∷ xs) =
      both_stay (read x) (λ _ y. both (each read xs) (λ _ ys. done (y ∷ ys))) (one x)
      (λ _ y mid _. both_stay (each read xs) (λ _ ys. done (y ∷ ys)) (each_stays xs) (λ _ ys late _. done_stays (y ∷ ys) late) mid)

number_stays : (n : ℕ) → Stays (number n)
unfolding number
number_stays n c = by_test (nat_lt (length c.left) n) refl
  where
    by_test : (b : Bool) → nat_lt (length c.left) n ≡ b
        → Within c (if◌then◌else◌ {A = Read ℕ} b (Err (ends c)) (Ok (big_number n c.left, cursor (c.at + n) (drop n c.left))))
    by_test true is = omega arith
    by_test false is =
        let enough : n ≤ length c.left = ltb-false (length c.left) n is in
        (omega (arith, length-drop n c.left), omega (arith, enough, length-drop n c.left))

module _ (passes : ℕ → Bool) (rule n : ℕ) where
  that_stays : Stays (number_that passes rule n)
  unfolding number_that
  that_stays =
      both_stay (number n) (λ at x. if passes x then done x else breaks at rule) (number_stays n)
      (λ at x mid late. by_test at x mid late (passes x))
    where
      by_test : (at x : ℕ) (mid : Cursor) → at ≤ end mid → (b : Bool) → Within mid ((if b then done x else breaks at rule) mid)
      by_test at x mid late true = done_stays x mid
      by_test at x mid late false = breaks_within ℕ at rule mid late

-- messages

form_within : (at : ℕ) (form : Option Form) (c : Cursor) → at ≤ end c → Within c (behind_form at form c)
form_within at None c late = breaks_within (Option Spelled) at 2 c late
form_within at (Some form) c late =
    both_stay (arguments (kinds_of form)) (λ _ bits. done (Some (record { form = form; bits = bits })))
    (each_stays argument (λ k. that_stays (is_of_kind k) 3 8) (kinds_of form))
    (λ _ bits mid _. done_stays {A = Option Spelled} (Some (record { form = form; bits = bits })) mid) c

number_within_input : (at : ℕ) (o : Option ℕ) (c : Cursor) → at ≤ end c → Within c (behind_number at o c)
number_within_input at None c late = done_stays {A = Option Spelled} None c
number_within_input at (Some n) c late = form_within at (nth n forms) c late

first_stays : Stays first
unfolding first
first_stays c = of_left c.left refl
  where
    of_left : (left : List ℕ) → c.left ≡ left → Within (cursor c.at left) (first (cursor c.at left))
    of_left [] is = (omega arith, refl)
    of_left (b ∷ bs) is = by_test (nat_lt c.at MESSAGES_END)
      where
        by_test : (early : Bool) → Within (cursor c.at (b ∷ bs))
            (if◌then◌else◌ {A = Read (Option ℕ)} early (Ok (Some b, cursor (c.at + 1) bs)) (Err (broken c.at 5 bs)))
        by_test true = (omega arith, omega arith)
        by_test false = omega arith

spelled_stays : Stays spelled
unfolding spelled
spelled_stays = both_stay first behind_number first_stays number_within_input

next_stays : Stays next
unfolding next
next_stays =
    both_stay spelled (λ _ found. done (option_map meaning found)) spelled_stays
    (λ _ found mid _. done_stays (option_map meaning found) mid)

-- a message takes its number at least

abbrev value_in : {A : Type 0} → Read A → Option A
value_in (Ok x) = Some x.0
value_in (Err e) = None

abbrev left_in : {A : Type 0} → Read A → ℕ
left_in (Ok x) = length x.1.left
left_in (Err e) = 0

spelled_shorter : (c rest : Cursor) (m : Spelled) → spelled c ≡ Ok (Some m, rest) → length rest.left < length c.left
unfolding spelled first
spelled_shorter c rest m is = of_left c.left refl is
  where
    of_left : (left : List ℕ) → c.left ≡ left → spelled (cursor c.at left) ≡ Ok (Some m, rest) → length rest.left < length c.left
    of_left [] was is = let none : Some None ≡ Some (Some m) = ap value_in is in absurd cc
    of_left (b ∷ bs) was is = by_test (nat_lt c.at MESSAGES_END) is
      where
        by_test : (early : Bool)
            → behind (behind_number c.at)
            (if◌then◌else◌ {A = Read (Option ℕ)} early (Ok (Some b, cursor (c.at + 1) bs)) (Err (broken c.at 5 bs))) ≡ Ok (Some m, rest)
            → length rest.left < length c.left
        by_test true is =
            let mid : Cursor = cursor (c.at + 1) bs in
            let within : Within mid (Ok (Some m, rest)) = subst (Within mid) is (form_within c.at (nth b forms) mid (omega arith)) in
            omega (arith, ap length was, within.0)
        by_test false is = absurd cc

next_shorter : (c rest : Cursor) (m : Message) → next c ≡ Ok (Some m, rest) → length rest.left < length c.left
unfolding next
next_shorter c rest m is = of_spelled (spelled c) refl is
  where
    of_spelled : (r : Read (Option Spelled)) → spelled c ≡ r → behind (λ found. done (option_map meaning found)) r ≡ Ok (Some m, rest)
        → length rest.left < length c.left
    of_spelled (Ok (None, mid)) was is = let none : Some None ≡ Some (Some m) = ap value_in is in absurd cc
    of_spelled (Ok (Some s, mid)) was is =
        let same : length mid.left ≡ length rest.left = ap left_in is in omega (arith, spelled_shorter c mid s was)
    of_spelled (Err e) was is = absurd cc

-- so more messages than bytes do not come
pub tells_all : (c : Cursor) (most n : ℕ) → length c.left < most → most ≤ n → messages n c ≡ messages most c
unfolding messages
tells_all c zero n enough more = absurd (omega (arith, enough))
tells_all c (suc most) zero enough more = absurd (omega (arith, more))
tells_all c (suc most) (suc n) enough more =
    of_next (λ rest fewer. tells_all rest most n fewer (omega (arith, more))) (next c) refl
  where
    of_next : ((rest : Cursor) → length rest.left < most → messages n rest ≡ messages most rest) → (r : Read (Option Message)) → next c ≡ r
        → messages (suc n) c ≡ messages (suc most) c
    of_next others (Ok (None, rest)) was = rw was refl
    of_next others (Ok (Some m, rest)) was =
        rw was (ap (before m) (others rest (omega (arith, enough, next_shorter c rest m was))))
    of_next others (Err e) was = rw was refl

-- the fault of a session

told_within : (most : ℕ) (c : Cursor) → IfSome (messages most c).fault (λ f. f.at ≤ end c)
unfolding messages
told_within zero c = tt
told_within (suc most) c = of_next (λ rest. told_within most rest) (next c) (next_stays c) refl
  where
    of_next : ((rest : Cursor) → IfSome (messages most rest).fault (λ f. f.at ≤ end rest)) → (r : Read (Option Message)) → Within c r
        → next c ≡ r
        → IfSome (messages (suc most) c).fault (λ f. f.at ≤ end c)
    of_next others (Ok (None, rest)) within was = rw was tt
    of_next others (Ok (Some m, rest)) within was =
        rw was (subst (λ (n : ℕ). IfSome (messages most rest).fault (λ f. f.at ≤ n)) within.1 (others rest))
    of_next others (Err e) within was = rw was within

within_stays : (low high n : ℕ) → Stays (number_within low high n)
within_stays low high n = that_stays (λ x. nat_le low x && nat_le x high) 1 n

port_stays : Stays port
unfolding port
port_stays =
    both_stay (number_within 1 MOST_SIDE 2) (λ _ w. behind_width w) (within_stays 1 MOST_SIDE 2)
    (λ _ w mid _. both_stay (number_within 1 MOST_SIDE 2) (λ _ h. done (mode_of w h)) (within_stays 1 MOST_SIDE 2)
    (λ _ h late _. done_stays (mode_of w h) late) mid)

modes_stay : (modes : List Modes) → Stays (behind_modes modes)
modes_stay modes =
    both_stay (number_within 0 MOST_PIPELINES 1) (λ _ pipes. done (declared modes pipes)) (within_stays 0 MOST_PIPELINES 1)
    (λ _ pipes mid _. done_stays (declared modes pipes) mid)

count_stays : (count : ℕ) → Stays (behind_count count)
count_stays count =
    both_stay (ports_of count) (λ _ modes. behind_modes modes) (each_stays ports (λ _. port_stays) (units count))
    (λ _ modes mid _. modes_stay modes mid)

header_stays : Stays header
unfolding header
header_stays =
    both_stay (number_within magic magic 4) (λ _ _. behind_magic) (within_stays magic magic 4)
    (λ _ _ mid _. both_stay (number_within 1 4 1) (λ _ count. behind_count count) (within_stays 1 4 1)
    (λ _ count late _. count_stays count late) mid)

pub fault_within : (bytes : List ℕ) → IfSome (session bytes).told.fault (λ f. f.at ≤ length bytes)
unfolding session
fault_within bytes = of_header (header (cursor 0 bytes)) (header_stays (cursor 0 bytes)) refl
  where
    of_header : (r : Read Ports) → Within (cursor 0 bytes) r → header (cursor 0 bytes) ≡ r
        → IfSome (session bytes).told.fault (λ f. f.at ≤ length bytes)
    of_header (Ok (ports, c)) within was =
        let same : end c ≡ length bytes = within.1 ∙ (let none : 0 + length bytes ≡ length bytes = omega arith in none) in
        rw was (subst (λ (n : ℕ). IfSome (messages (length bytes) c).fault (λ f. f.at ≤ n)) same (told_within (length bytes) c))
    of_header (Err e) within was = rw was (let lies : e.at ≤ length bytes = omega (arith, within) in lies)
