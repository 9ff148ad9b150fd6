-- A gate's head word in a block's words; it is legal in a block that is not malformed. Assumes nothing.
use Rattle.std.specs.Prelude.{◌≡◌, true, List, ℕ, ◌/◌, ◌%◌, get_or}
use Rattle.netlist.specs.Kinds.{is_kind, arity_fits}

-- the head word at `at` has a kind and a count that the kind allows
pub record LegalHead (words : List ℕ) (at : ℕ) : Type 0 where
  pub kind : is_kind (get_or words at 0 % 8) ≡ true
  pub count : arity_fits (get_or words at 0 % 8) (get_or words at 0 / 8) ≡ true
