-- `graph_simulation::changes::Found::copy_changed` meets its contract: the gates queued before q have their values copied.
use Rattle.std.proofs.Common.{◌≡◌, ◌+◌, ◌-◌, ◌<◌, ◌∙◌, arith, get_or, take, drop}
use Rattle.std.proofs.lemmas.List.{get_or-take, get_or-drop}
use Rattle.graph_simulation.proofs.Updates.{copied_next}
use Rattle.graph_simulation.proofs.changes.Found.copy_changed.Goals as goal

pub loop-k-preserved : goal.loop-k-preserved
loop-k-preserved c =
    let a = c.args in
    let n = a.self.now.end - a.head in
    let i = c.loop-k.k-index in
    let q = a.head + i in
    let below : i < n = omega arith in
    let at : get_or (take n (drop a.head a.self.now.queue)) i 0 ≡ get_or a.self.now.queue q 0 =
    get_or-take n (drop a.head a.self.now.queue) i 0 below ∙ get_or-drop a.head a.self.now.queue i 0 in
    let one : a.head + (i + 1) ≡ q + 1 = omega arith in
    let inside = c.requires.0.inside q (omega arith) in
    rw (at, one) (copied_next c.loop-k.invariant (omega arith) (omega (arith, inside, c.requires.0.long)))
