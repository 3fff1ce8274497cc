-- What each call leaves, told of every owner.
use Rattle.std.specs.Prelude.{◌≡◌, ℕ, ◌+◌, false, not, ◌&&◌, ◌||◌, ◌==◌, [], ◌∷◌, if◌then◌else◌}
use Rattle.wf_links.specs.Lists.{without}
use Rattle.wf_members.specs.Membership.{Membership, is_open, limits, member_count, members_of, open_count}

-- nobody is open, where so many members and so many owners may be
pub record HasNone (members owners : ℕ) (v : Membership) : Type 0 where
  pub closed : (o : ℕ) → is_open o v ≡ false
  pub bare : (o : ℕ) → members_of o v ≡ []
  pub no_owners : open_count v ≡ 0
  pub no_members : member_count v ≡ 0
  pub limits_are : limits v ≡ (owners, members)

-- an owner is open too
pub record Opens (owner : ℕ) (old new : Membership) : Type 0 where
  pub opened : (o : ℕ) → is_open o new ≡ ((o == owner) || is_open o old)
  pub members : (o : ℕ) → members_of o new ≡ members_of o old
  pub owner_count : open_count new ≡ open_count old + 1
  pub count : member_count new ≡ member_count old
  pub limits_stay : limits new ≡ limits old

-- an owner is open no more
pub record Closes (owner : ℕ) (old new : Membership) : Type 0 where
  pub closed : (o : ℕ) → is_open o new ≡ (not (o == owner) && is_open o old)
  pub members : (o : ℕ) → members_of o new ≡ members_of o old
  pub owner_count : open_count new + 1 ≡ open_count old
  pub count : member_count new ≡ member_count old
  pub limits_stay : limits new ≡ limits old

-- an owner has one more member, before all that it had
pub record Adds (owner member : ℕ) (old new : Membership) : Type 0 where
  pub members : (o : ℕ) → members_of o new ≡ (if o == owner then member ∷ members_of o old else members_of o old)
  pub opened : (o : ℕ) → is_open o new ≡ is_open o old
  pub owner_count : open_count new ≡ open_count old
  pub count : member_count new ≡ member_count old + 1
  pub limits_stay : limits new ≡ limits old

-- a member is nobody's any more
pub record Removes (member : ℕ) (old new : Membership) : Type 0 where
  pub members : (o : ℕ) → members_of o new ≡ without member (members_of o old)
  pub opened : (o : ℕ) → is_open o new ≡ is_open o old
  pub owner_count : open_count new ≡ open_count old
  pub count : member_count new + 1 ≡ member_count old
  pub limits_stay : limits new ≡ limits old
