-- `unroll_emission::rendered::copy_outputs` meets its contract: after o turns o outputs stand.
use mathlib.Core.Path.{◌≡◌}
use lib.ListN.{length}
use lib.Seq.{sets}
use Rattle.prelude.specs.Lists.{tab, joined}
use Rattle.unroll_emission.specs.Mapping.{shown_by}
use Rattle.unroll_emission.proofs.rendered.copy_outputs.Given as goal

abbrev pub invariant-loop-o : goal.invariant-loop-o
invariant-loop-o l =
    (l.out ≡ sets l.initial.out l.to (joined (tab (shown_by l.mapping) l.o))) × (length l.out ≡ length l.initial.out)
