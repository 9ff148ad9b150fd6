-- What the program leaves in the slice for the output. Assumes nothing.
use Rattle.std.specs.Prelude.{ℕ, ◌≤◌, ◌≡◌, List, length}
use Rattle.prelude.specs.Lists.{placed}
use Rattle.netlist.specs.Program.{unloop}

-- the slice begins with what `unloop` writes when it reads this text; r is its length
pub record Converted (text entry exit : List ℕ) (r : ℕ) : Type 0 where
  pub text_is : exit ≡ placed (unloop text) entry
  pub count_is : r ≡ length (unloop text)
  pub within : r ≤ length exit
