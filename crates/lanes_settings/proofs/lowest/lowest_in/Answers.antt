-- `lanes_settings::lowest::lowest_in` meets its contract: in the first batch that has such a setting, the lowest lane.
use mathlib.Core.Path.{ap, ◌∙◌}
use Prim.Native.Nat.{◌+◌, ◌^◌, ◌≤◌, ◌<◌}
use native.Mathlib.Omega.{arith}
use lib.ListN.{get_or}
use Rattle.theory_encoding.proofs.Readers.{whole_parts}
use Rattle.lanes_dual_rail.proofs.WordLaws.{lowest-marked, lowest-none}
use Rattle.lanes_dual_rail.proofs.InputLaws.{lanes_of-most}
use Rattle.lanes_settings.proofs.Counting.{few-settings}
use Rattle.lanes_settings.proofs.Batching.{lowest-in-batch, lowest-nowhere, batch-marks}
use Rattle.lanes_settings.proofs.lowest.lowest_in.Goals.{Start, Else-base-setting_count}
use Rattle.lanes_settings.proofs.lowest.lowest_in.Goals as goal

few : (s : Start) → get_or s.args.block.now.words.now 0 0 ≤ 12
few s = (whole_parts s.args.block.now.words.now s.args.block.now.well_formed).few_inputs

pub setting_count-requires : goal.setting_count-requires
setting_count-requires c = rw c.inputs_of.ensures (few (goal.at.setting_count-requires c).Start)

-- there is such a batch
inside : (c : Else-base-setting_count) → c.args.base < 2 ^ get_or c.args.block.now.words.now 0 0
inside c =
    omega (
      arith,
      rw c.inputs_of.ensures at c.setting_count.ensures,
      c.requires.within,
      c.if-base-setting_count.false,
    )

pub invariant_of-batch : goal.invariant_of-batch
invariant_of-batch c =
    record { judged = c.requires.judged (inside (goal.at.invariant_of-batch c).Else-base-setting_count) }

pub overflow_add-result : goal.overflow_add-result
overflow_add-result c =
    omega (
      arith,
      (lowest-marked _ c.in-Some.ensures).1,
      c.requires.within,
      few-settings (get_or c.args.block.now.words.now 0 0) (few (goal.at.overflow_add-result c).Start),
    )

pub returns-then-base-setting_count : goal.returns-then-base-setting_count
returns-then-base-setting_count c =
    lowest-nowhere c.requires
    (omega (arith, rw c.inputs_of.ensures at c.setting_count.ensures, c.if-base-setting_count.true))

pub returns-in-Some : goal.returns-in-Some
returns-in-Some c =
    ap (λ k. c.args.base + k) (lowest-marked _ c.in-Some.ensures).0
    ∙ lowest-in-batch c.requires (inside (goal.at.returns-in-Some c).Else-base-setting_count) c.unsound_lanes.ensures

pub returns-in-None : goal.returns-in-None
returns-in-None c =
    let first = inside (goal.at.returns-in-None c).Else-base-setting_count in
    let marked = c.unsound_lanes.ensures in
    absurd (batch-marks c.requires first marked (lowest-none _ (lanes_of-most _) marked.within c.in-None.ensures))
