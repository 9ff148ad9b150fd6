-- `op_compare::settings::search_settings` meets its contract: no setting of a batch passed disagrees.
use Prim.Native.Nat.{◌+◌}
use mathlib.Core.Path.{refl}
use native.Mathlib.Omega.{arith}
use Rattle.netlist.specs.StoredBlock.{decode}
use Rattle.theory_encoding.proofs.Readers.{whole_parts}
use Rattle.lanes_dual_rail.proofs.InputLaws.{lanes_of-most}
use Rattle.lanes_dual_rail.proofs.WordLaws.{lowest-marked, lowest-none}
use Rattle.lanes_settings.proofs.Batching.{Place, place-first, place-next, lanes_of-some}
use Rattle.op_compare.specs.Ready.{BothJudged}
use Rattle.op_compare.proofs.Differences.{both-judged, search-accepted, search-passed, search-marked}
use Rattle.op_compare.proofs.Rooms.{lowest-few, setting-count}
use Rattle.op_compare.proofs.settings.search_settings.Goals.{After-judge_straight, In-loop-base}
use Rattle.op_compare.proofs.settings.search_settings.Goals as goal

next : (l : In-loop-base) → Place l.inputs_of-n.result (l.loop-base.base + l.lane_count-batch.result)
next l =
    place-next l.lane_count-batch.ensures l.setting_count-count.ensures l.loop-base.invariant.place l.loop-base-test.true

-- both blocks are decided
both : (d : After-judge_straight)
    → BothJudged d.args.ours.words.now d.args.theirs.now d.loop-base.base d.judge_batch.new.lanes d.judge_straight.new.lanes
both d = both-judged d.requires.pair refl d.judge_batch.ensures d.judge_straight.ensures

pub setting_count-count-requires : goal.setting_count-count-requires
setting_count-count-requires c = rw c.inputs_of-n.ensures (whole_parts _ c.requires.pair.our-whole).few_inputs

pub loop-base-init : goal.loop-base-init
loop-base-init c = record { place = place-first _; none = λ i l. absurd (omega arith) }

pub overflow_add-result : goal.overflow_add-result
overflow_add-result c = omega (arith, lowest-few _ c.requires.pair.our-whole _ c.lowest_differing-o.ensures)

pub returns-in-Some : goal.returns-in-Some
returns-in-Some c =
    let marked = lowest-marked _ c.in-Some.ensures in
    search-marked (both (goal.at.returns-in-Some c).After-judge_straight) c.disagreeing_lanes.ensures c.inputs_of-n.ensures
    c.loop-base.invariant.none marked.2 c.setting_count-count.ensures c.loop-base.invariant.place c.loop-base-test.true
    marked.0 c.lowest_differing-o.ensures

pub loop-base-smaller : goal.loop-base-smaller
loop-base-smaller c =
    omega (arith, c.lane_count-batch.ensures, lanes_of-some c.inputs_of-n.result, c.loop-base-test.true)

pub loop-base-preserved : goal.loop-base-preserved
loop-base-preserved c =
    let l = goal.at.loop-base-preserved c in
    let word = c.disagreeing_lanes.ensures in
    record {
      place = next l.In-loop-base;
      none =
          search-passed (both l.After-judge_straight) word c.inputs_of-n.ensures c.loop-base.invariant.none
          c.lane_count-batch.ensures (lowest-none _ (lanes_of-most _) word.within c.in_default.ensures);
    }

pub returns : goal.returns
returns c =
    let l = c in
    let many = c.setting_count-count.ensures in
    search-accepted (decode c.args.ours.words.now) (decode c.args.theirs.now) c.loop-base.base _
    (setting-count c.args.ours.words.now c.inputs_of-n.ensures many) c.loop-base.invariant.none
    (omega (arith, many, c.loop-base.invariant.place.within)) c.loop-base-test.false
