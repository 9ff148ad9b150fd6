-- `op_cover::table::write_flags` meets its contract: after s turns s bytes are written.
use mathlib.Core.Path.{refl, ◌∙◌}
use Prim.Native.Nat.{◌+◌}
use native.Mathlib.Numerals.{add-one}
use native.Mathlib.Omega.{arith}
use lib.ListN.{length-set}
use Rattle.netlist.specs.Assignments.{bit}
use Rattle.op_cover.specs.Table.{flagged}
use Rattle.op_cover.proofs.table.write_flags.Goals as goal

pub loop-s-init : goal.loop-s-init
unfolding flagged
loop-s-init c = record { within = omega arith; flags_are = refl; same_length = refl }

pub loop-s-preserved : goal.loop-s-preserved
unfolding flagged bit
loop-s-preserved c =
    let l = c.loop-s in
    record {
      within = omega arith;
      flags_are = rw (add-one l.s, l.invariant.flags_are);
      same_length = length-set l.flags (c.args.base + l.s) _ ∙ l.invariant.same_length;
    }
