-- `graph_simulation::gate::gate_value` meets its contract: the codes are the digits of the gate's index, and its entry
-- is the gate's value (`gate-entry`).
use mathlib.Core.Path.{◌≡◌, ◌∙◌}
use mathlib.Core.Bool.{true}
use native.Mathlib.Omega.{arith}
use lib.ListN.{length}
use Rattle.prelude.specs.Lists.{tab}
use Rattle.prelude.proofs.Tab.{length-tab}
use Rattle.netlist.specs.Kinds.{arity_fits}
use Rattle.netlist.specs.GateTable.{table_index, gate_index}
use Rattle.words_layout.proofs.KindLaws.{kind-last}
use Rattle.graph_gates.specs.Graph.{kind_at, count_at}
use Rattle.graph_simulation.specs.State.{slot_value, gate_code}
use Rattle.graph_simulation.proofs.GateTable.{table_at, gate-entry}
use Rattle.graph_simulation.proofs.gate.gate_value.Goals as goal

pub bounds-table-operation : goal.bounds-table-operation
unfolding kind_at
bounds-table-operation c =
    let after-operand-code = c in
    let s = c in
    let k = kind-last (kind_at s.args.graph.now s.args.j) s.requires.legal_gate.0.kind in
    omega (
      arith,
      after-operand-code.operand_code-a.ensures.1,
      c.operand_code-b.ensures.1,
      c.operand_code-c.ensures.1,
      c.operand_code-d.ensures.1,
    )

pub returns : goal.returns
unfolding gate_code gate_index table_index kind_at count_at
returns c =
    let after-operand-code = c in
    let o = c in
    let s = c in
    let a = s.args in
    let graph = a.graph.now in
    let kind = kind_at graph a.j in
    let count = count_at graph a.j in
    let v = slot_value graph a.values.now a.j in
    let vs = tab v count in
    let k = kind-last kind s.requires.legal_gate.0.kind in
    let fits : arity_fits kind (length vs) ≡ true = rw (length-tab v count) s.requires.legal_gate.0.count in
    rw s.requires.table_value (table_at _ (omega (
      arith,
      after-operand-code.operand_code-a.ensures.1,
      o.operand_code-b.ensures.1,
      o.operand_code-c.ensures.1,
      o.operand_code-d.ensures.1,
    ))
    ∙ rw (
      after-operand-code.operand_code-a.ensures.0,
      o.operand_code-b.ensures.0,
      o.operand_code-c.ensures.0,
      o.operand_code-d.ensures.0,
    )
    (gate-entry kind vs k fits))
