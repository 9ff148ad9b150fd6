-- `unroll_depth::pairs::Group::put_pairs` meets its contract: after each turn the pairs of the gates passed are put.
use Prim.Native.Nat.{◌<◌}
use native.Mathlib.Omega.{arith}
use lib.ListN.{get_or}
use Rattle.netlist.specs.Limits.{max_gates}
use Rattle.unroll_depth.proofs.PairLaws.{part_none, put-none, put-more}
use Rattle.unroll_depth.proofs.pairs.Group.put_pairs.Goals.{In-loop-i}
use Rattle.unroll_depth.proofs.pairs.Group.put_pairs.Goals as goal

-- the gate at the position
inside : (c : In-loop-i) → get_or c.args.self.now.members.now c.loop-i.i 0 < max_gates
inside c = c.args.self.now.part.inside c.loop-i.i (omega arith) c.loop-i-test.true

pub loop-i-init : goal.loop-i-init
loop-i-init c =
    let a = c.args in
    let g = a.self.now in
    rw (part_none g.members.now g.turn.from) (put-none a.source.now a.lanes.now)

pub loop-i-preserved : goal.loop-i-preserved
loop-i-preserved c =
    let g = c.args.self.now in
    put-more g.members.now g.turn.from c.loop-i.i (omega arith) (inside (goal.at.loop-i-preserved c).In-loop-i)
    (omega arith) c.loop-i.invariant c.pair_at.ensures c.put_pair.ensures
