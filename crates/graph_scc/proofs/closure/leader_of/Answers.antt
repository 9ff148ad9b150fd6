-- `graph_scc::closure::leader_of` meets its contract: what a gate reaches and what reaches it is its group.
use Rattle.graph_scc.proofs.Reaching.{found-below, leader-found}
use Rattle.graph_scc.proofs.closure.leader_of.Goals as goal

pub returns : goal.returns
returns c =
    record {
      ahead_room = c.reach_from.ensures.room;
      behind_room = c.reach_from-2.ensures.room;
      below =
          found-below c.args.graph.legal c.requires c.reach_from.ensures c.reach_from-2.ensures c.lowest_of_both.ensures;
      answer =
          leader-found c.args.graph.legal c.requires c.reach_from.ensures c.reach_from-2.ensures c.lowest_of_both.ensures;
    }
