-- `unroll_depth::pairs::Group::differing_lanes` meets its contract: after each turn the lanes of the gates passed are marked.
use native.Mathlib.Omega.{arith}
use Rattle.unroll_depth.proofs.PairLaws.{part_none, part-all, differs_none, differs_more}
use Rattle.unroll_depth.proofs.pairs.Group.differing_lanes.Goals as goal

pub loop-i-init : goal.loop-i-init
loop-i-init c =
    let a = c.args in
    let g = a.self.now in
    rw (part_none g.members.now g.turn.from) (differs_none a.lanes.now a.kept.now)

pub loop-i-preserved : goal.loop-i-preserved
loop-i-preserved c =
    let a = c.args in
    let g = a.self.now in
    let pairs-are = c.difference-differing.ensures in
    differs_more a.lanes.now a.kept.now g.members.now g.turn.from c.loop-i.i c.loop-i.differing
    c.difference-differing.result (omega arith) c.loop-i.invariant
    (rw (← c.pair_at.ensures, ← c.pair_at-in-loop-i.ensures) pairs-are)

pub returns : goal.returns
returns c =
    let g = c.args.self.now in
    let end = part-all g.members.now g.turn.from c.loop-i.i g.turn.end (omega (arith, g.part.ordered)) c.loop-i-test.false in
    rw end at c.loop-i.invariant
