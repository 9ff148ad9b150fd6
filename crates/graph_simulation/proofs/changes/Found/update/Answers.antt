-- `graph_simulation::changes::Found::update` meets its contract: the gate has its value, gets none, or is queued.
use Prim.Native.Nat.{◌<◌}
use native.Mathlib.Omega.{arith}
use Rattle.graph_simulation.proofs.State.{legal-gate}
use Rattle.graph_simulation.proofs.Updates.{one-room, one-new}
use Rattle.graph_simulation.proofs.changes.Found.update.Goals.{Else-value-eq-UNDEFINED}
use Rattle.graph_simulation.proofs.changes.Found.update.Goals as goal

room : (c : Else-value-eq-UNDEFINED) → c.args.self.now.end < c.args.block.graph.gates
room c =
    one-room c.requires.0 c.args.j c.requires.1 c.gate_value-value.result
    c.if-self-j-ne-UNDEFINED.false c.if-value-eq-UNDEFINED.false

pub gate_value-value-requires-clause-legal_gate : goal.gate_value-value-requires-clause-legal_gate
gate_value-value-requires-clause-legal_gate c = search legal-gate

pub offset_bounds-self-self : goal.offset_bounds-self-self
offset_bounds-self-self c = omega (arith, room (goal.at.offset_bounds-self-self c).Else-value-eq-UNDEFINED, c.requires.0.legal.few)

pub bounds-self-self : goal.bounds-self-self
bounds-self-self c = omega (arith, room (goal.at.bounds-self-self c).Else-value-eq-UNDEFINED, c.requires.0.legal.few)

pub overflow_add-self : goal.overflow_add-self
overflow_add-self c = omega (arith, room (goal.at.overflow_add-self c).Else-value-eq-UNDEFINED, c.requires.0.legal.few)

pub returns : goal.returns
returns c = search one-new
