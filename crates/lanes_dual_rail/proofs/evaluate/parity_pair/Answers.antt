-- `lanes_dual_rail::evaluate::parity_pair` meets its contract: the parity of four pairs, inverted or not.
use borrow.Author.Tests.{ne_eqb}
use Rattle.lanes_dual_rail.specs.Pairs.{swapped}
use Rattle.lanes_dual_rail.specs.LaneWords.{parity_of, parity_at}
use mathlib.Core.Path.{◌≡◌, refl}
use Rattle.lanes_dual_rail.proofs.LaneWordLaws.{parity-four}
use Rattle.lanes_dual_rail.proofs.evaluate.parity_pair.Goals.{After-parity_of_two-pair}
use Rattle.lanes_dual_rail.proofs.evaluate.parity_pair.Goals as goal

-- the parity of the four
made : (d : After-parity_of_two-pair) → let g = d.args.gate in
    d.parity_of_two-pair.result ≡ parity_of g.graph.now g.number d.args.lanes.now
made d =
    parity-four d.args.gate.graph.now d.args.gate.number d.args.lanes.now d.operand_pair-a.ensures d.operand_pair-b.ensures
    d.operand_pair-c.ensures d.operand_pair-d.ensures d.parity_of_two.ensures d.parity_of_two-2.ensures
    d.parity_of_two-pair.ensures

pub returns-then-forced-eq0 : goal.returns-then-forced-eq0
unfolding parity_at
returns-then-forced-eq0 c =
    rw c.if-forced-eq0.true (made (goal.at.returns-then-forced-eq0 c).After-parity_of_two-pair)

pub returns : goal.returns
unfolding parity_at swapped
returns c =
    rw (ne_eqb c.args.forced 0 c.if-forced-eq0.false, made (goal.at.returns c).After-parity_of_two-pair) refl
