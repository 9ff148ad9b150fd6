-- `graph_scc::closure::Edges::grow` meets its contract: each turn adds a gate, and at the end none can be added.
use Rattle.graph_scc.proofs.Reaching.{growing-more, fewer, reached}
use Rattle.graph_scc.proofs.closure.Edges.grow.Goals as goal

pub loop-t-smaller : goal.loop-t-smaller
loop-t-smaller c = fewer c.args.self.now.graph.legal.few c.loop-t.invariant c.in-Some.ensures.below c.in-Some.ensures.adds

pub loop-t-preserved : goal.loop-t-preserved
loop-t-preserved c = growing-more c.args.self.now.graph.legal.few c.loop-t.invariant c.in-Some.ensures.below c.in-Some.ensures.adds

pub returns : goal.returns
returns c = reached c.args.self.now.graph.legal c.requires.0 c.loop-t.invariant c.in_default.ensures
