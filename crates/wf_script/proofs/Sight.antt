-- One more line: who sees which name behind it.
use Rattle.std.proofs.Common.{◌≡◌, ◌∙◌, ℕ, ◌==◌, Bool, true, false, ◌&&◌, ◌||◌, List, [], ◌∷◌, ◌++◌, ◌<◌, Option, Some, cond}
use Rattle.std.proofs.Common.{slice_index_or, refl, sym, ap, arith, ◌+◌, length, map, take, get_or}
use Rattle.std.proofs.lemmas.List.{flat_map_more, map_more}
use Rattle.std.proofs.lemmas.List.Folds.{list_all-append, list_any-append}
use Rattle.wf_script.specs.declared.field.Item as item
use Rattle.wf_script.specs.declared.line.Line.{Line}
use Rattle.wf_script.specs.declared.name.Name.{Name}
use Rattle.std.specs.List.{list_all, list_any}
use Rattle.wf_script.specs.Fields.{name_in, names_in}
use Rattle.wf_script.specs.Items.{item_of, items_of}
use Rattle.wf_script.specs.Seen.{SeesAll, is_among, sees}
use Rattle.wf_script.specs.declared.seen.Seen as declared
use Rattle.wf_script.specs.Visible.{binds_for, is_name_in, is_setup, is_visible, setup_binds}

step : (a b s p q : Bool) → (a && (b || (s || (p && q)))) ≡ ((a && (b || s)) || ((a && p) && q))
step a b s p q = grind arith

alone : (z n : Bool) → (z && (n || false)) ≡ (z && n)
alone z n = grind arith

-- the setup binds what it bound, and what a line of it binds
setup_more : (name : Name) (lines : List Line) (l : Line)
    → setup_binds name (lines ++ l ∷ []) ≡ (setup_binds name lines || (is_setup lines && ((l.client == 0) && is_name_in name l.name)))
setup_more name [] l = alone (l.client == 0) (is_name_in name l.name)
setup_more name (x ∷ xs) l =
    ap (λ more. (x.client == 0) && (is_name_in name x.name || more)) (setup_more name xs l)
    ∙ step (x.client == 0) (is_name_in name x.name) (setup_binds name xs) (is_setup xs) ((l.client == 0) && is_name_in name l.name)

regroup : (s p z n a c : Bool) → ((s || (p && (z && n))) || (a || ((c && n) || false))) ≡ ((s || a) || (n && ((p && z) || c)))
regroup s p z n a c = grind arith

-- a client sees what it saw, and what a line of its own or of the setup binds
visible_more : (lines : List Line) (l : Line) (client : ℕ) (name : Name)
    → is_visible (lines ++ l ∷ []) client name ≡ (is_visible lines client name
    || (is_name_in name l.name && ((is_setup lines && (l.client == 0)) || (l.client == client))))
visible_more lines l client name =
    ap (λ setup. setup || list_any (binds_for client name) (lines ++ l ∷ [])) (setup_more name lines l)
    ∙ ap (λ own. (setup_binds name lines || (is_setup lines && ((l.client == 0) && is_name_in name l.name))) || own)
    (list_any-append (binds_for client name) lines (l ∷ []))
    ∙ regroup (setup_binds name lines) (is_setup lines) (l.client == 0) (is_name_in name l.name) (list_any (binds_for client name) lines)
    (l.client == client)

and_alone : (s z : Bool) → (s && (z && true)) ≡ (s && z)
and_alone s z = grind arith

-- what is right for the lines is right for one more
pub sees_more : (seen left : declared.Seen) (lines : List Line) (l : Line) →
    left.in_setup ≡ (seen.in_setup && (l.client == 0)) →
    ((client : ℕ) (name : Name) → client < 8 → sees left client name
    ≡ (sees seen client name || (is_name_in name l.name && (left.in_setup || (l.client == client))))) →
    SeesAll seen lines → SeesAll left (lines ++ l ∷ [])
sees_more seen left lines l setup more right =
    let still : left.in_setup ≡ (is_setup lines && (l.client == 0)) = setup ∙ ap (λ s. s && (l.client == 0)) right.setup in
    record {
      setup = still ∙ sym (list_all-append (λ k. k.client == 0) lines (l ∷ []) ∙ and_alone (is_setup lines) (l.client == 0));
      visible = λ client name small.
          more client name small
          ∙ ap (λ s. s || (is_name_in name l.name && (left.in_setup || (l.client == client)))) (right.visible client name small)
          ∙ ap (λ s. is_visible lines client name || (is_name_in name l.name && (s || (l.client == client)))) still
          ∙ sym (visible_more lines l client name);
    }

pub or_none : (b : Bool) → b ≡ (b || false)
or_none b = grind arith

-- a map with one entry more
pub among_more : (client : ℕ) (hit extra : Bool) (old : Option (List Bool)) (clients : List Bool) →
    (hit ≡ true → slice_index_or clients client false ≡ (is_among client old || extra)) →
    is_among client (cond hit (Some clients) old) ≡ (is_among client old || (hit && extra))
among_more client true extra old clients here = here refl
among_more client false extra old clients here = or_none (is_among client old)

-- the names of the first items, and those of the next one
pub seen_next : (p : Name → Bool) (items : List item.Item) (i : ℕ) (d : item.Item) → i < length items
    → list_all p (names_in (items_of (take (i + 1) items)))
    ≡ (list_all p (names_in (items_of (take i items))) && list_all p (name_in (item_of (get_or items i d))))
seen_next p items i d within =
    ap (list_all p) (ap names_in (map_more item_of items i d within)
    ∙ sym (flat_map_more name_in [] (map item_of (take i items)) (item_of (get_or items i d))))
    ∙ list_all-append p (names_in (items_of (take i items))) (name_in (item_of (get_or items i d)))
