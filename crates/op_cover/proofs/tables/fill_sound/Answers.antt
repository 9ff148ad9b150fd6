-- `tables::fill_sound` meets its contract: each turn adds a setting.
use native.Mathlib.Omega.{arith}
use Rattle.op_cover.proofs.Bounds.{shifted}
use Rattle.op_cover.proofs.Joining.{filled_none}
use Rattle.op_cover.proofs.tables.fill_sound.Goals as goal

pub loop-setting-init : goal.loop-setting-init
loop-setting-init c = search (shifted, filled_none, arith)
