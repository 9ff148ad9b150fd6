-- `unroll_depth::pairs::Group::clear_pairs` meets its contract: after each turn the gates passed are undefined.
use mathlib.Core.List.{[]}
use mathlib.Core.Bool.{false}
use Rattle.lanes_batch.specs.Layered.{part}
use Rattle.unroll_depth.specs.Pairs.{Put}
use Rattle.unroll_depth.proofs.pairs.Group.clear_pairs.Given as goal

abbrev pub invariant-loop-i : goal.invariant-loop-i
invariant-loop-i l = Put (part false l.self.members.now l.self.turn.from l.i) [] l.initial.lanes l.lanes
