-- `op_gather::arranged::move_gates` meets its contract: after t turns t gates stand.
use mathlib.Core.Path.{◌≡◌}
use lib.ListN.{length}
use lib.Seq.{sets}
use Rattle.prelude.specs.Lists.{tab, joined}
use Rattle.op_gather.specs.Arranging.{moved_at}
use Rattle.op_gather.proofs.arranged.move_gates.Given as goal

abbrev pub invariant-loop-t : goal.invariant-loop-t
invariant-loop-t l =
    let m = l.mapping in
    (l.out ≡ sets l.initial.out m.nodes.start (joined (tab (moved_at m.words.now m.nodes l.order m.table.now) l.t)))
    × (length l.out ≡ length l.initial.out)
