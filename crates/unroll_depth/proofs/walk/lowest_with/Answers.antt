-- `unroll_depth::walk::lowest_with` meets its contract: while none is known, the batch's lowest lane.
use Prim.Native.Nat.{◌≤◌}
use native.Mathlib.Omega.{arith}
use lib.ListN.{get_or}
use Rattle.netlist.specs.StoredBlock.{decode}
use Rattle.netlist.specs.Rounds.{setting_count}
use Rattle.lanes_dual_rail.proofs.InputLaws.{lanes_of-most}
use Rattle.lanes_dual_rail.proofs.WordLaws.{lowest-marked, lowest-none}
use Rattle.lanes_settings.proofs.Counting.{few-settings}
use Rattle.unroll_depth.proofs.CountLaws.{settings-are, lowest-known, lowest-some}
use Rattle.unroll_depth.proofs.CountLaws.{lowest-none as none-unsound}
use Rattle.unroll_depth.proofs.walk.lowest_with.Goals.{Else-lowest-setting_count}
use Rattle.unroll_depth.proofs.walk.lowest_with.Goals as goal

-- none is known
unknown : (c : Else-lowest-setting_count) → setting_count (decode c.args.batch.now.words.now) ≤ c.args.lowest
unknown c =
    omega (
      arith,
      settings-are c.args.batch.now.words.now c.inputs_of.ensures c.setting_count.ensures,
      c.if-lowest-setting_count.false,
    )

pub returns-then-lowest-setting_count : goal.returns-then-lowest-setting_count
returns-then-lowest-setting_count c =
    lowest-known _ c.requires.lowest
    (omega (
      arith,
      settings-are c.args.batch.now.words.now c.inputs_of.ensures c.setting_count.ensures,
      c.if-lowest-setting_count.true,
    ))

pub returns-in-None : goal.returns-in-None
returns-in-None c =
    let unsound = c.unsound_lanes.ensures in
    none-unsound c.requires.lowest (unknown (goal.at.returns-in-None c).Else-lowest-setting_count) unsound (lanes_of-most _)
    c.requires.words_bound (lowest-none _ (lanes_of-most _) unsound.within c.in-None.ensures)

pub overflow_add-result : goal.overflow_add-result
overflow_add-result c =
    let ws = c.args.batch.now.words.now in
    omega (
      arith,
      (lowest-marked _ c.in-Some.ensures).1,
      c.requires.words_bound,
      settings-are ws c.inputs_of.ensures c.setting_count.ensures,
      rw c.inputs_of.ensures at c.setting_count.ensures,
      few-settings (get_or ws 0 0) c.args.batch.now.judged.few_inputs,
    )

pub returns-in-Some : goal.returns-in-Some
returns-in-Some c =
    let marked = lowest-marked _ c.in-Some.ensures in
    rw marked.0
    (lowest-some c.requires.lowest (unknown (goal.at.returns-in-Some c).Else-lowest-setting_count) c.unsound_lanes.ensures
    (lanes_of-most _) c.requires.words_bound marked.2)
