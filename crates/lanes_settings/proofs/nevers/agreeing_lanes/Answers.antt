-- `lanes_settings::nevers::agreeing_lanes` meets its contract: after i turns the word tells the first i inputs.
use native.Mathlib.Omega.{arith}
use Rattle.lanes_settings.proofs.NeverLaws.{agrees-none, agrees-more}
use Rattle.lanes_settings.proofs.nevers.agreeing_lanes.Goals as goal

pub loop-i-init : goal.loop-i-init
loop-i-init c =
    let a = c.args in
    (omega arith, rw c.used_lanes-agreeing.ensures (agrees-none (record { fixed = a.fixed; ones = a.values })))

pub loop-i-preserved : goal.loop-i-preserved
loop-i-preserved c =
    let s = c in
    let l = c.loop-i in (
      omega arith,
      agrees-more (record { fixed = s.args.fixed; ones = s.args.values }) l.i l.invariant.1
          c.agreeing_at-agreeing.ensures,
    )
