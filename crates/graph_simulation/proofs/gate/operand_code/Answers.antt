-- `graph_simulation::gate::operand_code` meets its contract: what stands at the operand's place, or the code of an
-- absent one.
use mathlib.Core.Path.{sym, ◌∙◌}
use native.Mathlib.Omega.{arith}
use Prim.Native.Nat.{◌+◌, ◌*◌}
use lib.ListN.{get_or}
use Rattle.graph_gates.specs.Graph.{place_at}
use Rattle.graph_simulation.specs.State.{slot_value}
use Rattle.graph_simulation.proofs.Codes.{code_same}
use Rattle.graph_simulation.proofs.GateTable.{operand-code-at, operand-code-past}
use Rattle.graph_simulation.proofs.gate.operand_code.Goals as goal

pub bounds-values-place : goal.bounds-values-place
unfolding place_at
bounds-values-place c =
    let start = c in
    omega (arith, c.requires.0.inside start.args.i start.requires.2)

pub returns-then-i-count : goal.returns-then-i-count
unfolding slot_value place_at
returns-then-i-count c =
    let s = c in
    let a = s.args in
    let v = slot_value a.graph.now a.values.now a.j in
    let most = s.requires.1.most (get_or a.graph.now (5 * a.j + 1 + a.i) 0) in
    (sym (operand-code-at v a.count a.i c.if-i-count.true ∙ code_same _ most), omega arith)

pub returns-else-i-count : goal.returns-else-i-count
returns-else-i-count c = search (operand-code-past, arith)
