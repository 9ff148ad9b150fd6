-- `lanes_dual_rail::evaluate::gate_pair` meets its contract: a kind with a row goes by it, the others by parity.
use native.Mathlib.Omega.{arith}
use Rattle.lanes_dual_rail.proofs.LaneWordLaws.{forced-low, row-pair}
use borrow.Author.Tests.{le-leb}
use Rattle.graph_gates.specs.Graph.{kind_at}
use Rattle.lanes_dual_rail.specs.LaneWords.{gate_pair_in}
use Rattle.lanes_dual_rail.proofs.evaluate.gate_pair.Goals as goal

pub not_pair-requires : goal.not_pair-requires
unfolding kind_at
not_pair-requires c = rw c.operation-operation.ensures at c.if-operation-eq-NOT.true

pub returns-then-operation-ge-FIRST_PARITY : goal.returns-then-operation-ge-FIRST_PARITY
unfolding gate_pair_in
returns-then-operation-ge-FIRST_PARITY c =
    let high = rw c.operation-operation.ensures at c.if-operation-ge-FIRST_PARITY.true in
    rw (le-leb 5 _ high) (rw c.operation-operation.ensures at c.parity_pair.ensures)

pub returns-then-forced-eq0 : goal.returns-then-forced-eq0
returns-then-forced-eq0 c =
    let g = c.args.gate in
    row-pair g.graph.now g.number c.args.lanes.now 0 0 (omega arith) (omega arith) (omega arith) c.rule_pair.ensures

pub returns-then-operation-eq0 : goal.returns-then-operation-eq0
returns-then-operation-eq0 c =
    let g = c.args.gate in
    row-pair g.graph.now g.number c.args.lanes.now 0 1 (omega arith) (omega arith) (omega (arith, forced-low g.legal))
    c.rule_pair-then-operation-eq0.ensures

pub returns-then-forced-eq0-2 : goal.returns-then-forced-eq0-2
returns-then-forced-eq0-2 c =
    let g = c.args.gate in
    row-pair g.graph.now g.number c.args.lanes.now 1 0 (omega arith) (omega arith) (omega arith)
    c.rule_pair-then-forced-eq0-2.ensures

pub returns : goal.returns
returns c =
    let g = c.args.gate in
    row-pair g.graph.now g.number c.args.lanes.now 1 1 (omega arith) (omega arith) (omega (arith, forced-low g.legal))
    c.rule_pair-2.ensures
