-- `graph_gates::put_node` meets its contract: the operation stands, and behind it the places of the slots below `i`.
use mathlib.Core.Path.{◌≡◌}
use Prim.Native.Nat.{◌+◌}
use lib.Seq.{sets}
use Rattle.prelude.specs.Lists.{tab}
use Rattle.graph_gates.specs.Decoding.{word_place}
use Rattle.graph_gates.proofs.put_node.Given as goal

abbrev pub invariant-loop-i : goal.invariant-loop-i
invariant-loop-i l = l.graph ≡ sets l.initial.graph (l.to + 1) (tab (word_place l.words l.n l.at l.absent) l.i)
