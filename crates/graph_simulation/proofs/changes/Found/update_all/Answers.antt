-- `graph_simulation::changes::Found::update_all` meets its contract: after j turns the first j gates have their values.
use native.Mathlib.Omega.{arith}
use Rattle.graph_simulation.proofs.Updates.{updated-then, below_next}
use Rattle.graph_simulation.proofs.changes.Found.update_all.Goals as goal

pub loop-j-preserved : goal.loop-j-preserved
loop-j-preserved c =
    let i = c.loop-j.invariant in
    let u = c.update.ensures in
    record {
      within = omega arith;
      updated = updated-then i.updated u.updated;
      done_below = below_next i.done_below c.loop-j-test.true u;
    }

pub returns : goal.returns
returns c =
    let i = c.loop-j.invariant in record { updated = i.updated; done = λ j l. i.done_below j (omega arith) }
