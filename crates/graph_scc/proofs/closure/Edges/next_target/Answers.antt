-- `graph_scc::closure::Edges::next_target` meets its contract: each gate's reads are looked at.
use borrow.Author.Rules.{rules}
use Rattle.graph_scc.specs.Closure.{GateShut, OpenGate}
use Rattle.graph_scc.proofs.Ranges.{find_map-of_range}
use Rattle.graph_scc.proofs.closure.Edges.next_target.Goals as goal

pub returns : goal.returns
returns c =
    let a = c.args in
    let g = a.self.now.graph in
    find_map-of_range c.find_map.result (GateShut g.gates g.words.now a.self.now.back a.flags.now)
    (OpenGate g.gates g.words.now a.self.now.back a.flags.now) g.gates c.find_map.ensures.runs (search rules) (λ x q k. search rules)
    (λ x y q k. search rules)
