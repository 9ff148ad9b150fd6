-- `op_cells::run::run_each` meets its contract: it fills the slice cell by cell, each from the values already there.
use mathlib.Core.Path.{◌≡◌, sym}
use native.Mathlib.Omega.{arith}
use lib.Seq.{length-take-le}
use Rattle.prelude.proofs.Filling.{filling-none, filling-more}
use Rattle.netlist.specs.Cells.{cell_count}
use Rattle.op_cells.proofs.Running.{ran-none, ran-more, ran-all, found-bits}
use Rattle.op_cells.proofs.run.run_each.Goals as goal

pub loop-j-init : goal.loop-j-init
loop-j-init c = record { within = omega arith; filling = rw ran-none (filling-none _) }

pub slice_bounds-known-end-in-loop-j : goal.slice_bounds-known-end-in-loop-j
slice_bounds-known-end-in-loop-j c = sym (length-take-le _ c.loop-j.values (omega arith))

pub invariant_of-known : goal.invariant_of-known
invariant_of-known c =
    let t = c.loop-j in
    record {
      bits = record {
        of_setting = c.requires.bits;
        of_found = found-bits _ _ _ c.args.values.now t.values t.j t.invariant.filling;
      };
    }

pub loop-j-preserved : goal.loop-j-preserved
loop-j-preserved c =
    let start = c in
    let a = start.args in
    let t = c.loop-j in
    let more =
    ran-more a.inputs a.cells.now a.setting.now a.values.now t.values t.j
    c.cell_value-found.result t.invariant.filling c.cell_value-found.ensures in
    record { within = omega arith; filling = filling-more t.invariant.filling (omega arith) _ more }

pub shape_of-values : goal.shape_of-values
shape_of-values c = c.loop-j.invariant.filling.kept

pub returns : goal.returns
returns c =
    let s = c in
    let a = s.args in
    let e : c.loop-j.j ≡ cell_count a.cells.now = omega arith in
    rw (← ran-all a.inputs a.cells.now a.setting.now, ← e) c.loop-j.invariant.filling.holds
