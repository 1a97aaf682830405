-- Bindings as they are noted in lent bytes: the set of the variables that are bound, in four bytes, and behind it their places, one byte each.
use Rattle.std.specs.Prelude.{ℕ, zero, suc, ◌+◌, ◌≤◌, ◌<◌, ◌≡◌, List, length, get_or}
use Rattle.terms.specs.Mask.{mark_of, Has}
use Rattle.terms.specs.Store.{no_place, all_variables}
use Rattle.terms.specs.Bytes.{noted_set, BytesPut}

-- the variable has a place in the store
abbrev pub IsBound : List ℕ → ℕ → Type 0
IsBound places x = (x < all_variables) × (get_or places x 0 < no_place)

-- how many of the first x variables are in the set
unfoldable pub count_of : ℕ → ℕ → ℕ
count_of set zero = 0
count_of set (suc x) = count_of set x + mark_of set x

-- the places of the first `upto` variables: those of the variables in the set stand in the bytes from `from` on, one behind the other, and
-- every other variable is unbound
pub record Coded (bytes places : List ℕ) (set from upto : ℕ) : Type 0 where
  pub noted : (x : ℕ) → x < upto → Has set x → get_or places x 0 ≡ get_or bytes (from + count_of set x) 0
  pub unbound : (x : ℕ) → x < upto → (Has set x → ⊥) → no_place ≤ get_or places x 0

-- the places of those of the first `upto` variables that are in the set are put into the bytes from `at` on, and nothing else
pub record PlacesPut (places before after : List ℕ) (set at upto : ℕ) : Type 0 where
  pub put : BytesPut before after at (count_of set upto)
  pub noted : (x : ℕ) → x < upto → Has set x → get_or places x 0 ≡ get_or after (at + count_of set x) 0

-- how many bytes it takes to note the bindings of the variables in a set
abbrev pub noted_size : ℕ → ℕ
noted_size set = 4 + count_of set all_variables

-- the bindings are noted from a byte on, and where they end
pub record NotedAt (bytes : List ℕ) (at : ℕ) (places : List ℕ) : Type 0 where
  pub coded : Coded bytes places (noted_set bytes at) (at + 4) all_variables

abbrev pub noted_end : List ℕ → ℕ → ℕ
noted_end bytes at = at + noted_size (noted_set bytes at)

-- the bindings are put into so many bytes from `at` on, and nothing else
pub record BindingsPut (places before after : List ℕ) (at size : ℕ) : Type 0 where
  pub put : BytesPut before after at size
  pub noted : NotedAt after at places
  pub ends : noted_end after at ≡ at + size

-- the bindings that are noted from `at` on are taken, and end at r
pub record BindingsTaken (bytes places : List ℕ) (at r : ℕ) : Type 0 where
  pub all_places : length places ≡ all_variables
  pub noted : NotedAt bytes at places
  pub ends : r ≡ noted_end bytes at
