-- `op_compare::interface::are_same` meets its contract: the names passed are the same.
use mathlib.Core.Path.{◌≡◌}
use mathlib.Core.Bool.{true}
use Prim.Native.Nat.{◌≤◌}
use Rattle.prelude.specs.Lists.{all, up_to}
use Rattle.op_compare.specs.Interface.{same_name_at}
use Rattle.op_compare.proofs.interface.are_same.Given as goal

abbrev pub invariant-loop-i : goal.invariant-loop-i
invariant-loop-i l =
    (l.i ≤ l.count) × (all (same_name_at l.ours l.at l.theirs l.other l.size) (up_to l.i) ≡ true)
