-- `graph_simulation::round::settle_prepared` meets its contract. The loop's invariant: `values` has the state after `count`
-- rounds, each of which changed something, and `found` that after one more. The measure is the number of gates less
-- that count.
use lib.ListN.{replicate, length-replicate}
use mathlib.Core.List.{List}
use Prim.Native.Nat.{ℕ, ◌+◌, ◌<◌}
use native.Mathlib.Omega.{arith}
use Rattle.theory_fixpoint.proofs.Rounds.{rounds-le}
use Rattle.netlist.specs.Limits.{max_gates}
use Rattle.graph_gates.specs.Graph.{network}
use Rattle.graph_gates.proofs.Network.{network-count}
use Rattle.graph_simulation.specs.State.{inputs_in}
use Rattle.graph_simulation.proofs.Updates.{first-ready, first-state, round-first}
use Rattle.graph_simulation.proofs.Starts.{nothing-found}
use Rattle.graph_simulation.proofs.Rounds.{Rounding, rounding-none, rounding-more, rounding-end}
use Rattle.graph_simulation.proofs.round.settle_prepared.Goals.{After-next_round}
use Rattle.graph_simulation.proofs.round.settle_prepared.Goals as goal

-- a round that changed something, so that the count before it is below the number of gates
more : (d : After-next_round) → let b = d.args.block in
    let after = d.next_round.new in
    Rounding b.graph.gates b.graph.words.now d.args.values.now after.values after.self.codes after.self.queue d.loop-head.found.end
    after.self.end (d.loop-head.count + 1)
more d = rounding-more _ d.args.block.graph.legal d.loop-head.invariant d.loop-head-test.true d.next_round.ensures

below : (d : After-next_round) → d.loop-head.count < d.args.block.graph.gates
below d =
    let b = d.args.block in
    let r = rounds-le (network b.graph.gates b.graph.words.now) (inputs_in d.args.values.now) in
    omega (arith, (more d).reached, r, network-count b.graph.gates b.graph.words.now)

pub update_all-requires : goal.update_all-requires
update_all-requires c =
    let g = c.args.block.graph.legal in
    first-ready g _ c.requires (nothing-found g.few) (length-replicate {A = ℕ} max_gates 2)
    (length-replicate {A = ℕ} max_gates 0)

pub loop-head-init : goal.loop-head-init
loop-head-init c =
    let g = c.args.block.graph.legal in
    let none = nothing-found g.few in
    let found-room = length-replicate {A = ℕ} max_gates 2 in
    let queue-room = length-replicate {A = ℕ} max_gates 0 in
    let codes : List ℕ = replicate max_gates 2 in
    rounding-none _ g (first-state g codes c.requires none found-room)
    (round-first g codes c.requires none found-room queue-room c.update_all.ensures)

pub overflow_add-count : goal.overflow_add-count
overflow_add-count c = omega (arith, below (goal.at.overflow_add-count c).After-next_round, c.args.block.graph.legal.few)

pub loop-head-preserved : goal.loop-head-preserved
loop-head-preserved c = more (goal.at.loop-head-preserved c).After-next_round

pub loop-head-smaller : goal.loop-head-smaller
loop-head-smaller c = omega (arith, below (goal.at.loop-head-smaller c).After-next_round)

pub returns : goal.returns
returns c = search rounding-end
