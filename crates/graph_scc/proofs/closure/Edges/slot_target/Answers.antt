-- `graph_scc::closure::Edges::slot_target` meets its contract, by the gate that the slot reads and the direction.
use Rattle.graph_scc.proofs.Reaching.{target_ahead, target-back}
use Rattle.graph_scc.proofs.closure.Edges.slot_target.Goals as goal

pub returns-in_err-j : goal.returns-in_err-j
returns-in_err-j c =
    rw c.from_residual.ensures (record { shut = λ j is. absurd (c.in_err-j.ensures j is) })

pub returns-then-self : goal.returns-then-self
returns-then-self c =
    let s = c.args in
    rw c.if-self.true
    (target-back s.self.now.graph.legal s.k c.requires.0 s.s c.requires.1 c.in_ok-j.j c.in_ok-j.ensures.1 _ c.added.result
    c.added.ensures)

pub returns-else-self : goal.returns-else-self
returns-else-self c =
    let s = c.args in
    rw c.if-self.false
    (target_ahead s.self.now.graph.legal s.k c.requires.0 s.s c.requires.1 c.in_ok-j.j c.in_ok-j.ensures.1 _
    c.added-else-self.result c.added-else-self.ensures)
