-- `tables::join_halves` meets its contract: what it reads stands below what it writes.
use Prim.Native.Nat.{◌≤◌}
use Rattle.theory_cover.specs.Tables.{HalvesJoined}
use Rattle.op_cover.proofs.tables.join_halves.Given as goal

abbrev pub invariant-loop-j : goal.invariant-loop-j
invariant-loop-j l = (l.j ≤ l.power) × HalvesJoined l.initial.sound l.sound l.k l.power l.j
