-- `op_compare_cells::settings::search_settings` meets its contract: no setting of a batch passed disagrees.
use mathlib.Core.Path.{◌≡◌}
use mathlib.Core.Bool.{Bool}
use Prim.Native.Nat.{ℕ, ◌+◌, ◌≤◌}
use native.Mathlib.Omega.{arith}
use lib.ListN.{get_or}
use Rattle.prelude.specs.Lists.{least}
use Rattle.prelude.proofs.Least.{least-le}
use Rattle.theory_encoding.proofs.Readers.{whole_parts}
use Rattle.lanes_dual_rail.proofs.WordLaws.{lowest-marked, lowest-none}
use Rattle.lanes_settings.proofs.Batching.{Place, place-first, place-next, lanes_of-some}
use Rattle.op_compare_cells.proofs.Searching.{agreed-none, agreed-more, found_none, found_here}
use Rattle.op_compare_cells.proofs.settings.search_settings.Goals.{In-loop-base}
use Rattle.op_compare_cells.proofs.settings.search_settings.Goals as goal

next : (l : In-loop-base) → Place l.inputs_of-n.result (l.loop-base.base + l.lane_count-batch.result)
next l =
    place-next l.lane_count-batch.ensures l.setting_count-count.ensures l.loop-base.invariant.place l.loop-base-test.true

at-most : (n : ℕ) (test : ℕ → Bool) {o : ℕ} → o ≡ least test n → o ≤ n
at-most n test e = omega (arith, e, least-le test n)

pub setting_count-count-requires : goal.setting_count-count-requires
setting_count-count-requires c = rw c.inputs_of-n.ensures (whole_parts _ c.args.block.planned.whole).few_inputs

pub loop-base-init : goal.loop-base-init
loop-base-init c = record { place = place-first _; agreed = agreed-none _ _ _ }

pub overflow_add-result : goal.overflow_add-result
overflow_add-result c =
    let outputs = (whole_parts _ c.args.block.planned.whole).few_outputs in
    omega (arith, at-most (get_or c.args.block.words.now 2 0) _ c.lowest_differing-o.ensures, outputs)

pub returns-in-Some : goal.returns-in-Some
returns-in-Some c =
    let marked = lowest-marked _ c.in-Some.ensures in
    found_here c.requires c.inputs_of-n.ensures c.evaluate_cells.ensures c.disagreeing_lanes.ensures
    c.loop-base.invariant.agreed c.judge_batch.ensures marked.2 c.setting_count-count.ensures c.loop-base.invariant.place
    c.loop-base-test.true marked.0 c.lowest_differing-o.ensures

pub loop-base-smaller : goal.loop-base-smaller
loop-base-smaller c =
    omega (arith, c.lane_count-batch.ensures, lanes_of-some c.inputs_of-n.result, c.loop-base-test.true)

pub loop-base-preserved : goal.loop-base-preserved
loop-base-preserved c =
    let word = c.disagreeing_lanes.ensures in
    record {
      place = next (goal.at.loop-base-preserved c).In-loop-base;
      agreed =
          agreed-more c.requires c.inputs_of-n.ensures c.evaluate_cells.ensures word c.loop-base.invariant.agreed
          c.lane_count-batch.ensures (lowest-none {lanes = 64} _ (omega arith) word.within c.in_default.ensures);
    }

pub returns : goal.returns
returns c =
    let many = c.setting_count-count.ensures in
    found_none c.inputs_of-n.ensures many c.loop-base.invariant.agreed
    (omega (arith, many, c.loop-base.invariant.place.within)) c.loop-base-test.false
