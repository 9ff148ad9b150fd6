-- `unroll_depth::walk::walk_loops` meets its contract: after each batch the passes are enough for its settings too, and
-- its lowest setting is known.
use mathlib.Core.Path.{◌≡◌, refl}
use Prim.Native.Nat.{◌+◌, ◌^◌, ◌≤◌, ◌<◌}
use native.Mathlib.Omega.{arith}
use borrow.Author.Tests.{leb-false}
use lib.ListN.{get_or}
use Rattle.netlist.specs.Limits.{max_copies}
use Rattle.netlist.specs.StoredBlock.{decode}
use Rattle.netlist.specs.Rounds.{setting_count}
use Rattle.theory_encoding.proofs.Readers.{whole_parts}
use Rattle.theory_encoding.proofs.Decoded.{decode-gate_count}
use Rattle.lanes_dual_rail.specs.Batches.{lanes_of}
use Rattle.lanes_settings.proofs.Batching.{Place, place-first, place-next, lanes_of-some}
use Rattle.unroll_depth.proofs.CountLaws.{counting-full, rest-none, rest_then, lowest-first}
use Rattle.unroll_depth.proofs.CountLaws.{settings-are, lowest-all}
use Rattle.unroll_depth.proofs.walk.walk_loops.Goals.{After-setting_count-settings, At-loop-base, In-loop-base, Start}
use Rattle.unroll_depth.proofs.walk.walk_loops.Goals as goal

few : (s : Start) → get_or s.args.block.words.now 0 0 ≤ 12
few s = (whole_parts s.args.block.words.now s.args.block.planned.whole).few_inputs

-- as many settings as the block has, and lanes as a batch has
settings : (c : After-setting_count-settings)
    → c.setting_count-settings.result ≡ setting_count (decode c.args.block.words.now)
settings c = settings-are c.args.block.words.now c.inputs_of-n.ensures c.setting_count-settings.ensures

powers-are : (c : After-setting_count-settings) → c.setting_count-settings.result ≡ 2 ^ get_or c.args.block.words.now 0 0
powers-are c = rw c.inputs_of-n.ensures at c.setting_count-settings.ensures

many : (l : At-loop-base) → l.lane_count-step.result ≡ lanes_of (get_or l.args.block.words.now 0 0)
many l = rw l.inputs_of-n.ensures at l.lane_count-step.ensures

-- a batch that is there, and the next
inside : (t : In-loop-base) → t.loop-base.base < 2 ^ get_or t.args.block.words.now 0 0
inside t = rw (← t.inputs_of-n.ensures, ← t.setting_count-settings.ensures) t.loop-base-test.true

next : (t : In-loop-base) → Place (get_or t.args.block.words.now 0 0) (t.loop-base.base + t.lane_count-step.result)
next t =
    place-next (rw t.inputs_of-n.ensures at t.lane_count-step.ensures)
    (rw t.inputs_of-n.ensures at t.setting_count-settings.ensures) t.loop-base.invariant.place t.loop-base-test.true

pub loop-base-init : goal.loop-base-init
loop-base-init c =
    let z = c in
    let s = z in
    record {
      place = place-first (get_or s.args.block.words.now 0 0);
      walked =
          record {
            counting = rw c.gates_of.ensures s.requires.counting;
            same = rest-none _ _;
            lowest = lowest-first (settings (goal.at.loop-base-init c).After-setting_count-settings);
          };
    }

pub returns-then-are_full : goal.returns-then-are_full
returns-then-are_full c =
    let a = c in
    let t = a in
    let l = t in
    let s = l in
    let i = l.loop-base.invariant.walked in
    let z = l in
    record {
      reached = setting_count (decode s.args.block.words.now);
      counting =
          counting-full (setting_count (decode s.args.block.words.now)) s.requires.listing i.counting
          (a.are_full.ensures c.if-are_full.true);
      all = λ few. refl;
      same = i.same;
      lowest =
          λ few. lowest-all i.lowest (λ unknown. absurd (omega (
            arith,
            unknown,
            settings (goal.at.returns-then-are_full c).After-setting_count-settings,
            t.if-found-settings.true,
          )));
    }

pub count_batch-found-requires : goal.count_batch-found-requires
count_batch-found-requires c =
    let o = goal.at.count_batch-found-requires c in
    let d = c in
    let t = d in
    let l = t in
    let s = l in
    let ws = s.args.block.words.now in
    let i = l.loop-base.invariant in
    let p = s.requires in
    record {
      held =
          record {
            judged = d.judge_batch.ensures;
            decoded = rw (decode-gate_count ws) s.args.block.planned.decoded;
            settings = omega (
              arith,
              i.place.whole (inside o.In-loop-base),
              settings o.After-setting_count-settings,
              powers-are o.After-setting_count-settings,
            );
          };
      listing = p.listing;
      counting = i.walked.counting;
      lowest = i.walked.lowest;
    }

pub loop-base-smaller : goal.loop-base-smaller
loop-base-smaller c =
    let settings = many (goal.at.loop-base-smaller c).At-loop-base in
    omega (arith, settings, lanes_of-some (get_or c.args.block.words.now 0 0), c.loop-base-test.true)

pub loop-base-preserved : goal.loop-base-preserved
loop-base-preserved c =
    let t = c in
    let l = t in
    let e = rw (← many (goal.at.loop-base-preserved c).At-loop-base) at c.count_batch-found.ensures.walked_batch in
    record {
      place = next (goal.at.loop-base-preserved c).In-loop-base;
      walked =
          record {
            counting = e.counting;
            same = rest_then l.loop-base.invariant.walked.same e.same;
            lowest = e.lowest;
          };
    }

pub returns-else-found-le-MAX_GATES : goal.returns-else-found-le-MAX_GATES
returns-else-found-le-MAX_GATES c =
    let l = c in
    let i = l.loop-base.invariant.walked in
    let many = leb-false l.loop-base.found.total max_copies c.if-found-le-MAX_GATES.false-raw in
    record {
      reached = l.loop-base.base;
      counting = i.counting;
      all = λ few. absurd (omega (arith, few, many));
      same = i.same;
      lowest = λ few. absurd (omega (arith, few, many));
    }

pub returns-after-loop-base : goal.returns-after-loop-base
returns-after-loop-base c =
    let o = goal.at.returns-after-loop-base c in
    let l = c in
    let s = l in
    let i = l.loop-base.invariant in
    let z = l in
    let all : l.loop-base.base ≡ setting_count (decode s.args.block.words.now) =
    omega (
      arith,
      i.place.within,
      settings o.After-setting_count-settings,
      powers-are o.After-setting_count-settings,
      c.loop-base-test.false,
    ) in
    record {
      reached = l.loop-base.base;
      counting = i.walked.counting;
      all = λ few. all;
      same = i.walked.same;
      lowest = λ few. lowest-all i.walked.lowest (λ unknown. omega (arith, all));
    }

pub setting_count-settings-requires : goal.setting_count-settings-requires
setting_count-settings-requires c = rw c.inputs_of-n.ensures (few (goal.at.setting_count-settings-requires c).Start)
