-- `graph_scc::closure::lead_each` meets its contract: gate after gate gets its leader.
use Rattle.graph_scc.proofs.Reaching.{leading-more}
use Rattle.graph_scc.proofs.closure.lead_each.Goals as goal

pub loop-j-preserved : goal.loop-j-preserved
loop-j-preserved c = leading-more c.args.graph.legal.few c.loop-j.invariant c.loop-j-test.true c.leader_of.ensures
