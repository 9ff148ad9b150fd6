-- `lanes_batch::layered::sweep_part` meets its contract: after i turns the first i gates of the part, there or back,
-- have been evaluated.
use mathlib.Core.Path.{◌≡◌}
use Prim.Native.Nat.{◌+◌, ◌-◌, ◌≤◌, ◌<◌}
use native.Mathlib.Omega.{arith}
use native.Mathlib.Numerals.{add-one}
use Rattle.lanes_batch.specs.Layered.{no_gate, gate_more, part}
use Rattle.lanes_batch.proofs.Layering.{place_inside}
use Rattle.lanes_batch.proofs.layered.sweep_part.Goals.{After-place_along}
use Rattle.lanes_batch.proofs.layered.sweep_part.Goals as goal

-- the position is one of the part's
within : (c : After-place_along) → let a = c.args in
    (a.from ≤ a.from + c.place_along.result) × (a.from + c.place_along.result < a.end)
within c =
    let a = c.args in
    let p = place_inside a.back (a.end - a.from) c.loop-i.i c.loop-i-test.true in
    (omega arith, omega (arith, p, c.place_along.ensures))

pub invariant_of-gate : goal.invariant_of-gate
invariant_of-gate c =
    let w = within (goal.at.invariant_of-gate c).After-place_along in
    let at = c.args.from + c.place_along.result in
    record { below = c.requires.few at w.0 w.1; legal = c.requires.node at w.0 w.1 }

pub loop-i-preserved : goal.loop-i-preserved
loop-i-preserved c =
    let done = rw c.place_along.ensures at c.step-changed.ensures in
    rw add-one (gate_more c.loop-i.invariant _ done)

pub returns : goal.returns
unfolding part
returns c =
    let a = c.args in
    let all : c.loop-i.i ≡ a.end - a.from = omega arith in
    rw all at c.loop-i.invariant

pub loop-i-init : goal.loop-i-init
loop-i-init c = no_gate

pub overflow_add-at : goal.overflow_add-at
overflow_add-at c = omega (arith, within (goal.at.overflow_add-at c).After-place_along)

pub offset_bounds-order-at : goal.offset_bounds-order-at
offset_bounds-order-at c = omega (arith, within (goal.at.offset_bounds-order-at c).After-place_along)

pub bounds-order-at : goal.bounds-order-at
bounds-order-at c = omega (arith, within (goal.at.bounds-order-at c).After-place_along)
