-- `op_pass::sweep::sweep_gates` meets its contract: each gate is evaluated from the values already there.
use Prim.Native.Nat.{◌≤◌}
use Rattle.op_pass.proofs.Sweeps.{Sweeping}
use Rattle.op_pass.proofs.sweep.sweep_gates.Given as goal

abbrev pub invariant-loop-j : goal.invariant-loop-j
invariant-loop-j l = (l.j ≤ l.graph.gates) × Sweeping l.graph.gates l.graph.words.now l.initial.values l.values l.j
