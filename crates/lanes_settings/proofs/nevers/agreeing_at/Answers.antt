-- `lanes_settings::nevers::agreeing_at` meets its contract: an input that is not fixed, fixed at 1, fixed at 0.
use Rattle.netlist.specs.Assignments.{bit, Assignment}
use Rattle.lanes_settings.proofs.NeverLaws.{free-tells, one-tells, zero-tells}
use Rattle.lanes_settings.proofs.nevers.agreeing_at.Goals.{Start}
use Rattle.lanes_settings.proofs.nevers.agreeing_at.Goals as goal

abbrev line : (s : Start) → Assignment
line s = record { fixed = s.args.fixed; ones = s.args.values }

pub returns-then-fixed-i-ne1 : goal.returns-then-fixed-i-ne1
unfolding bit
returns-then-fixed-i-ne1 c =
    let s = c in
    rw c.used_lanes.ensures
    (free-tells s.args.n s.args.base s.requires.1 s.args.i (line (goal.at.returns-then-fixed-i-ne1 c).Start) c.if-fixed-i-ne1.true)

pub returns-then-values-i-eq1 : goal.returns-then-values-i-eq1
unfolding bit
returns-then-values-i-eq1 c =
    let s = c in
    let p = c in
    rw p.input_pair-pair.ensures
    (one-tells s.args.n s.args.base s.requires.1 s.args.i (line (goal.at.returns-then-values-i-eq1 c).Start) p.if-fixed-i-ne1.false c.if-values-i-eq1.true)

pub returns-else-values-i-eq1 : goal.returns-else-values-i-eq1
unfolding bit
returns-else-values-i-eq1 c =
    let s = c in
    let p = c in
    rw p.input_pair-pair.ensures
    (zero-tells s.args.n s.args.base s.requires.1 s.args.i (line (goal.at.returns-else-values-i-eq1 c).Start) p.if-fixed-i-ne1.false c.if-values-i-eq1.false)
