use Rattle.std.proofs.Common.{◌≡◌, ℕ, ◌<◌, true, [], length}
use Rattle.wf_words.specs.Keyed.{is_in}
use Rattle.wf_links.specs.Lists.{IsOrderly}
use Rattle.wf_scene.specs.Slots.{free_in, two_lists}
use Rattle.wf_scene.proofs.linked.all_free.Given as goal

-- the slots so far are free
abbrev pub invariant-loop-free : goal.invariant-loop-free
invariant-loop-free l = record {
  two : l.links ≡ two_lists [] (free_in l.links);
  orderly : IsOrderly l.links;
  below : (s : ℕ) → is_in s (free_in l.links) ≡ true → s < l.free;
  all : length (free_in l.links) ≡ l.free;
}
