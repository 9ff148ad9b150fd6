-- Tests of setting number s, and a batch of settings. Cited by this crate's contracts and by those that look at a
-- batch. Assumes nothing.
use Rattle.std.specs.Prelude.{◌≡◌, Bool, not, ◌||◌, List, ℕ, ◌%◌, ◌≤◌, eqb, get_or}
use Rattle.netlist.specs.Limits.{max_inputs}
use Rattle.netlist.specs.Netlist.{Block}
use Rattle.netlist.specs.Assignments.{bit, Assignment, fixes}
use Rattle.netlist.specs.Rounds.{is_excluded}

-- input i is not fixed, or has the assignment's value
unfoldable pub agrees_at : Assignment → ℕ → ℕ → Bool
agrees_at a i s = not (fixes a i) || eqb (bit s i) (bit a.ones i)

-- the setting agrees with no never line
unfoldable pub may_come : Block → ℕ → Bool
may_come b s = not (is_excluded b s)

-- a batch of settings of the words' block starts at `base`
pub record BatchOf (ws : List ℕ) (base : ℕ) : Type 0 where
  pub few_inputs : get_or ws 0 0 ≤ max_inputs
  pub aligned : base % 64 ≡ 0
