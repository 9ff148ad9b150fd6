-- A plan as one value: the three arrays of specs/Layered.antt's `Planned`. Assumes nothing.
use Rattle.std.specs.Prelude.{ℕ, List}
use Rattle.lanes_batch.specs.declared.plan.Plan.{Plan}
use Rattle.lanes_batch.specs.Layered.{Planned}

-- the plan is of the block with these words
abbrev pub IsPlan : List ℕ → Plan → Type 0
IsPlan ws plan = Planned ws plan.graph plan.order plan.ends
