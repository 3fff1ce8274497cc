use Rattle.std.proofs.Common.{◌≡◌, ℕ, ◌<◌, true, suc, length}
use Rattle.wf_words.specs.Keyed.{is_in}
use Rattle.wf_links.specs.Lists.{list_at}
use Rattle.wf_members.proofs.members.all_free.Given as goal

-- the nodes so far stand in the last list
abbrev pub invariant-loop-free : goal.invariant-loop-free
invariant-loop-free l = record {
  lists : length l.links.lists ≡ suc l.owners;
  nodes_are : l.links.nodes ≡ l.nodes;
  only : (n i : ℕ) → is_in n (list_at i l.links.lists) ≡ true → (n < l.free) × (i ≡ l.owners);
  there : (n : ℕ) → n < l.free → is_in n (list_at l.owners l.links.lists) ≡ true;
}
