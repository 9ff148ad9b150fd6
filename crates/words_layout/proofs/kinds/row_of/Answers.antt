-- `words_layout::kinds::row_of` meets its contract: the array is the definitions' table, row by row.
use mathlib.Core.Path.{sym}
use Prim.Native.Nat.{◌-◌}
use native.Mathlib.Omega.{arith}
use lib.ListN.{get_or-eq_default}
use Rattle.prelude.proofs.Elements.{get_d-defaults}
use Rattle.netlist.specs.Kinds.{row, rows, row_of}
use Rattle.words_layout.proofs.kinds.row_of.Goals as goal

pub returns-in-1 : goal.returns-in-1
unfolding row rows row_of
returns-in-1 c h = get_d-defaults rows (c.args.kind - 1) _ _ (omega arith)

pub returns-in_default : goal.returns-in_default
returns-in_default c h = absurd (omega arith)

pub returns-in_default-2 : goal.returns-in_default-2
unfolding row rows row_of
returns-in_default-2 c h = sym (get_or-eq_default rows _ {n = c.args.kind - 1} (omega arith))
