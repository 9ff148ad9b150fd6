-- `lanes_settings::nevers::excluded_lanes` meets its contract: after i turns the word tells the first i lines.
use mathlib.Core.Path.{◌≡◌, refl}
use Prim.Native.Nat.{◌≤◌}
use native.Mathlib.Omega.{arith}
use lib.ListN.{get_or}
use Rattle.netlist.specs.StoredBlock.{nevers_at}
use Rattle.lanes_settings.proofs.NeverLaws.{line_at, lines_none, lines_more, lines-all}
use Rattle.lanes_settings.proofs.nevers.excluded_lanes.Goals.{After-nevers_at-first}
use Rattle.lanes_settings.proofs.nevers.excluded_lanes.Goals as goal

-- there are few lines, and they start near
small : (a : After-nevers_at-first)
    → (a.nevers_of-lines.result ≤ 65535) × (a.nevers_at-first.result ≤ 65535)
unfolding nevers_at
small a =
    let s = a in (
      omega (arith, a.shared_slice_known-1.given 3, a.nevers_of-lines.ensures),
      omega (arith, a.nevers_at-first.ensures, a.inputs_of.ensures, s.requires.few_inputs),
    )

pub line_lanes-excluded-requires : goal.line_lanes-excluded-requires
line_lanes-excluded-requires c =
    let s = c in
    (s.requires, omega (arith, small (goal.at.line_lanes-excluded-requires c).After-nevers_at-first))

pub loop-i-preserved : goal.loop-i-preserved
unfolding line_at
loop-i-preserved c =
    let s = c in
    let h = c in
    let stands = rw c.inputs_of.ensures at h.nevers_at-first.ensures in (
      omega arith,
      lines_more s.args.words.now h.loop-i.i refl h.loop-i.invariant.1 (rw stands at c.line_lanes-excluded.ensures),
    )

pub returns : goal.returns
returns c =
    let s = c in
    let h = c in
    let e : h.loop-i.i ≡ get_or s.args.words.now 3 0 = omega (arith, h.nevers_of-lines.ensures) in
    lines-all s.args.words.now (rw e at h.loop-i.invariant.1)

pub loop-i-init : goal.loop-i-init
loop-i-init c = (omega arith, lines_none c.args.words.now)

pub overflow_add-first : goal.overflow_add-first
overflow_add-first c = omega (arith, small (goal.at.overflow_add-first c).After-nevers_at-first)
