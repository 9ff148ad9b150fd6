-- What stands in the slice for the output when an outcome is shown, and how much room is needed. Assumes nothing.
use Rattle.std.specs.Prelude.{ℕ, ◌≡◌, List, length}
use Rattle.prelude.specs.Lists.{placed}
use Rattle.netlist.specs.Answers.{Outcome}
use Rattle.netlist.specs.Program.{shown}

-- room for a refusal's line
abbrev pub max_line : ℕ
max_line = 64

-- the slice begins with what is shown of an outcome, and keeps its rest; r is the length
pub record Shown (o : Outcome) (entry exit : List ℕ) (r : ℕ) : Type 0 where
  pub text_is : exit ≡ placed (shown o) entry
  pub count_is : r ≡ length (shown o)
