-- `graph_scc::search::find_layers` meets its contract: a search from each gate in turn leaves the clock in bounds.
use Rattle.graph_scc.specs.Search.{StandingReady}
use Rattle.graph_scc.proofs.search.find_layers.Given as goal

abbrev pub invariant-loop-root : goal.invariant-loop-root
invariant-loop-root l = StandingReady l.standing.time l.standing.top l.standing.count
