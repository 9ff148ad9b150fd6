-- `graph_scc::search::Search::explore` meets its contract: the clock goes on by one in each turn, so the search ends.
use Prim.Native.Nat.{◌-◌}
use Rattle.graph_scc.specs.Search.{clock_end, StandingReady}
use Rattle.graph_scc.proofs.search.Search.explore.Given as goal

abbrev pub invariant-loop-standing : goal.invariant-loop-standing
invariant-loop-standing l = StandingReady l.standing.time l.standing.top l.standing.count

abbrev pub decreases-loop-standing : goal.decreases-loop-standing
decreases-loop-standing l = clock_end - l.standing.time
