-- A value that may be there: steps that may find none, and facts about the one that is there.
use Rattle.std.specs.Prelude.{◌≡◌, refl, false, Option, Some, None, is_some, IfSome, IsSomeAnd}

infixl 10 ◌>>=◌
-- go on with the value, or with none
abbrev pub ◌>>=◌ : {A B : Type 0} → Option A → (A → Option B) → Option B
None >>= f = None
(Some x) >>= f = f x

-- what is true of every value is true of the one that is there
pub all_some : {A : Type 0} (P : A → Type 0) → ((x : A) → P x) → (o : Option A) → IfSome o P
all_some P all None = tt
all_some P all (Some x) = all x

pub map_some : {A : Type 0} (P Q : A → Type 0) → ((x : A) → P x → Q x) → (o : Option A) → IfSome o P → IfSome o Q
map_some P Q all None holds = tt
map_some P Q all (Some x) holds = all x holds

-- a fact about a value that is there, from another
pub from_some : {A : Type 0} (P Q : A → Type 0) (o : Option A) → IsSomeAnd o P → ((x : A) → P x → Q x) → IsSomeAnd o Q
from_some P Q None holds from = absurd holds
from_some P Q (Some x) holds from = from x holds

-- where there is no value, the option is none
pub not_some : {A : Type 0} (o : Option A) → is_some o ≡ false → o ≡ None
not_some None is = refl
not_some (Some x) is = absurd cc
