-- `unroll_emission::rendered::copy_gates` meets its contract: after t turns t copies stand, and the table has the
-- newest of each gate.
use mathlib.Core.Path.{◌≡◌}
use lib.ListN.{length}
use lib.Seq.{sets}
use Rattle.prelude.specs.Lists.{tab, joined}
use Rattle.unroll_emission.specs.Words.{table_after, copy_at}
use Rattle.unroll_emission.proofs.rendered.copy_gates.Given as goal

abbrev pub invariant-loop-t : goal.invariant-loop-t
invariant-loop-t l =
    record {
      copies : l.out ≡ sets l.initial.out l.nodes.start (joined (tab (copy_at l.words l.nodes l.order l.initial.newest) l.t));
      newest_is : l.newest ≡ table_after l.nodes.inputs l.order l.initial.newest l.t;
      out_length : length l.out ≡ length l.initial.out;
      newest_length : length l.newest ≡ length l.initial.newest;
    }
