-- `unroll_depth::pairs::Group::put_pairs` meets its contract: after each turn the pairs of the gates passed are put.
use mathlib.Core.Bool.{false}
use Rattle.lanes_batch.specs.Layered.{part}
use Rattle.unroll_depth.specs.Pairs.{Put}
use Rattle.unroll_depth.proofs.pairs.Group.put_pairs.Given as goal

abbrev pub invariant-loop-i : goal.invariant-loop-i
invariant-loop-i l =
    Put (part false l.self.members.now l.self.turn.from l.i) l.source l.initial.lanes l.lanes
