-- `graph_scc::layering::Layering::slot_before` meets its contract: the gate that the slot reads is the only one.
use Rattle.graph_scc.proofs.layering.Layering.slot_before.Goals as goal

pub returns-in-None : goal.returns-in-None
returns-in-None c = λ e. record { before = λ k is. absurd (c.in-None.ensures k is) }
