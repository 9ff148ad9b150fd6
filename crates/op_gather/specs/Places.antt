-- The place of each number in a list, while the list is walked and in the end. Assumes nothing.
use Rattle.std.specs.Prelude.{ℕ, ◌≤◌, ◌<◌, ◌≡◌, ◌⊎◌, Bool, true, List, length, get_or}
use Rattle.netlist.specs.Limits.{max_gates}
use Rattle.netlist.specs.Gather.{place_in, is_permutation}

-- whether the list is each number below m once, and where each number stands if it is
pub record Places (m : ℕ) (order : List ℕ) (r : Bool) (places : List ℕ) : Type 0 where
  pub told : r ≡ is_permutation m order
  pub stand : is_permutation m order ≡ true → (j : ℕ) → j < m → get_or places j 0 ≡ place_in order j

-- The first t numbers are marked: each is below m, and has its place; any other number below m has m, which is no
-- place.
pub record PlacesMarked (m : ℕ) (order : List ℕ) (t : ℕ) (places : List ℕ) : Type 0 where
  pub long : m ≤ length places
  pub listed : (u : ℕ) → u < t → get_or order u 0 < m
  pub marks : (u : ℕ) → u < t → get_or places (get_or order u 0) 0 ≡ u
  pub others : (j : ℕ) → j < m → (get_or places j 0 ≡ m) ⊎ ((get_or places j 0 < t) × (get_or order (get_or places j 0) 0 ≡ j))

pub record MarkReady (m : ℕ) (order places : List ℕ) : Type 0 where
  pub few : m ≤ max_gates
  pub length_is : length order ≡ m
  pub none : PlacesMarked m order 0 places
