-- `graph_scc::closure::lead_each` meets its contract: gate after gate gets its leader.
use Rattle.graph_scc.specs.Closure.{LeadingEach}
use Rattle.graph_scc.proofs.closure.lead_each.Given as goal

abbrev pub invariant-loop-j : goal.invariant-loop-j
invariant-loop-j l = LeadingEach l.graph.gates l.graph.words.now l.j l.ahead l.behind l.leaders
