-- `graph_scc::layering::Layering::has_slot` meets its contract: a slot with the gate's place reads it.
use Prim.Native.Nat.{◌+◌}
use borrow.Author.Tests.{eqb-true}
use Rattle.graph_scc.proofs.Slots.{slot_read}
use Rattle.graph_scc.proofs.layering.Layering.has_slot.Goals as goal

pub returns-then-slot-lt-SLOTS : goal.returns-then-slot-lt-SLOTS
returns-then-slot-lt-SLOTS c =
    λ e. let a = c.args in
    let here = rw (c.gate.ensures.0, c.gate.ensures.1) at c.place.ensures.0 in
    slot_read a.self.now.graph.legal a.from c.requires.0 a.slot a.to c.if-slot-lt-SLOTS.true (rw here at (eqb-true _ (14 + a.to) e))
