-- `graph_simulation::changes::Found::update_fanout` meets its contract: whoever is in the list has its value, or is in the
-- rest of it.
use mathlib.Core.Path.{◌≡◌}
use lib.ListN.{get_or}
use Prim.Native.Nat.{◌+◌, ◌-◌, ◌≤◌}
use native.Mathlib.Omega.{arith}
use Rattle.netlist.specs.Limits.{max_gates}
use Rattle.graph_simulation.proofs.Updates.{updated-then, awaiting-next}
use Rattle.graph_simulation.proofs.changes.Found.update_fanout.Goals as goal

pub loop-e-preserved : goal.loop-e-preserved
loop-e-preserved c =
    let l = c.requires.1 in
    let some : (1 ≤ c.loop-e.p) × (c.in-Some.e ≡ c.loop-e.p - 1) = c.in-Some.ensures in
    let down : get_or c.args.block.fanout.now (max_gates + c.in-Some.e) 0 ≤ c.in-Some.e = l.descends c.in-Some.e in
    record {
      within = omega arith;
      updated = updated-then c.loop-e.invariant.updated c.update.ensures.updated;
      awaits =
          awaiting-next l.descends l.starts c.loop-e.invariant.awaits (rw some.1 at c.update.ensures) (rw some.1);
    }
