-- Permutations of the numbers below m, as lists, and their inverses: from places to numbers and back. Assumes nothing.
use Rattle.std.specs.Prelude.{ℕ, ◌<◌, ◌≡◌, List, length}
use Rattle.netlist.specs.Gather.{number_at}

-- a permutation of the numbers below m: m numbers, all below m, none twice
pub record EachOnce (m : ℕ) (order : List ℕ) : Type 0 where
  pub length_is : length order ≡ m
  pub below : (t : ℕ) → t < m → number_at order t < m
  pub apart : (t u : ℕ) → t < m → u < m → number_at order t ≡ number_at order u → t ≡ u

-- place t of the list is for gate `number_at order t`, and gate j then has number `number j`: each undoes the other
pub record Renumbers (m : ℕ) (order : List ℕ) (number : ℕ → ℕ) : Type 0 where
  pub length_is : length order ≡ m
  pub old_below : (t : ℕ) → t < m → number_at order t < m
  pub new_below : (j : ℕ) → j < m → number j < m
  pub old_of_new : (j : ℕ) → j < m → number_at order (number j) ≡ j
  pub new_of_old : (t : ℕ) → t < m → number (number_at order t) ≡ t
