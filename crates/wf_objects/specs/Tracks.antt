-- Which contexts each device has, and which sources and masks each context, told apart from their tables: the members that are kept
-- beside the tables of the objects.
use Rattle.std.specs.Prelude.{◌≡◌, ℕ, ◌&&◌, ◌==◌, List, ◌++◌, length, map}
use Rattle.std.specs.List.{list_any}
use Rattle.wf_words.specs.Keyed.{is_in}
use Rattle.wf_members.specs.Membership.{Membership, is_open, limits, member_count, members_of, open_count}
use Rattle.wf_model.specs.Objects.{Context, CoreState, Source}
use Rattle.wf_model.specs.declared.TheConstants.{MOST_CONTEXTS, MOST_DEVICES, MOST_SOURCES}

-- the owners are open, and what they own, each handle with its owner's, are their members; and so many of both there may be
pub record Tracks (most : ℕ × ℕ) (members : Membership) (owners : List ℕ) (owned : List (ℕ × ℕ)) : Type 0 where
  pub opened : (o : ℕ) → is_open o members ≡ is_in o owners
  pub members_are : (o h : ℕ) → is_in h (members_of o members) ≡ list_any (λ k. (k.0 == h) && (k.1 == o)) owned
  pub owner_count : open_count members ≡ length owners
  pub count : member_count members ≡ length owned
  pub limits_are : limits members ≡ most

-- the handles of devices and of contexts

abbrev pub device_handles : CoreState → List ℕ
device_handles core = map (λ d. d.handle) core.devices

abbrev pub context_handles : CoreState → List ℕ
context_handles core = map (λ c. c.handle) core.contexts

-- a context with its device, and a source or a mask with its context

abbrev pub context_key : Context → ℕ × ℕ
context_key c = (c.handle, c.device)

abbrev pub link_key : Source → ℕ × ℕ
link_key s = (s.handle, s.context)

abbrev pub link_keys : CoreState → List (ℕ × ℕ)
link_keys core = map link_key core.sources ++ map link_key core.masks

-- how many owners there may be, and how many members: devices with their contexts, and contexts with their sources and masks

abbrev pub most_of_devices : ℕ × ℕ
most_of_devices = (MOST_DEVICES, MOST_CONTEXTS)

abbrev pub most_of_contexts : ℕ × ℕ
most_of_contexts = (MOST_CONTEXTS, MOST_SOURCES)

-- the contexts of the devices, and the sources and masks of the contexts
pub record AreTracked (contexts links : Membership) (core : CoreState) : Type 0 where
  pub of_devices : Tracks most_of_devices contexts (device_handles core) (map context_key core.contexts)
  pub of_contexts : Tracks most_of_contexts links (context_handles core) (link_keys core)
