-- `graph_simulation::changes::Found::update_changed` meets its contract: a gate has its value, or reads a gate that is queued
-- from q on.
use mathlib.Core.Path.{◌≡◌}
use Prim.Native.Nat.{◌<◌}
use native.Mathlib.Omega.{arith}
use lib.ListN.{get_or}
use Rattle.graph_simulation.proofs.Updates.{updated-then, updated-ready, pending_next, list-of}
use Rattle.graph_simulation.proofs.changes.Found.update_changed.Goals.{At-loop-q}
use Rattle.graph_simulation.proofs.changes.Found.update_changed.Goals as goal

-- the gate that is queued at q, which no further gate moves
queued : (l : At-loop-q) → l.loop-q.q < l.args.self.now.end
    → get_or l.loop-q.self.queue l.loop-q.q 0 ≡ get_or l.args.self.now.queue l.loop-q.q 0
queued l below = l.loop-q.invariant.updated.front l.loop-q.q below

pub loop-q-preserved : goal.loop-q-preserved
loop-q-preserved c =
    let a = c.args in
    let i = c.loop-q.invariant in
    let u = c.update_fanout.ensures in
    record {
      within = omega arith;
      updated = updated-then i.updated u.updated;
      pending =
          pending_next a.self.now.queue a.block.graph.legal a.block.linked i.pending
          (rw (queued (goal.at.loop-q-preserved c).At-loop-q c.loop-q-test.true) at u);
    }

pub update_fanout-requires : goal.update_fanout-requires
update_fanout-requires c =
    let below = c.loop-q-test.true in
    let same = queued (goal.at.update_fanout-requires c).At-loop-q below in
    (search updated-ready, list-of c.args.block.linked (rw same (c.requires.copy_ready.inside c.loop-q.q below)))
