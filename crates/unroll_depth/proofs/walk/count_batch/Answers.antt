-- `unroll_depth::walk::count_batch` meets its contract: after g turns the first g groups are counted.
use mathlib.Core.Path.{◌≡◌, refl, ◌∙◌}
use native.Mathlib.Omega.{arith}
use borrow.Author.Tests.{leb-true, leb-false}
use lib.ListN.{length}
use Rattle.netlist.specs.Limits.{max_copies}
use Rattle.lanes_dual_rail.specs.LaneWords.{lane_size}
use Rattle.unroll_depth.proofs.CountLaws.{listing-counted, counting-counted, counting-start, counting-end}
use Rattle.unroll_depth.proofs.CountLaws.{rest-none, rest_then}
use Rattle.unroll_depth.proofs.walk.count_batch.Goals.{At-loop-group}
use Rattle.unroll_depth.proofs.walk.count_batch.Goals as goal

-- at the end
ended : (l : At-loop-group) → length l.loop-group.lanes ≡ lane_size
ended l = rw l.loop-group.invariant.settled l.requires.held.judged.settled.filled.long

pub loop-group-init : goal.loop-group-init
loop-group-init c =
    let p = c.requires in
    record {
      within = omega arith;
      counting = counting-start p.counting;
      same = rest-none _ _;
      settled = refl;
      room = omega arith;
    }

pub count_at-total-requires : goal.count_at-total-requires
count_at-total-requires c =
    let t = c in
    let l = t in
    let p = l.requires in
    let i = l.loop-group.invariant in
    let is = p.listing.count_is in
    record {
      held = rw i.settled p.held;
      fits = leb-true l.loop-group.total max_copies t.if-total-le-MAX_GATES.true-raw;
      listing = listing-counted p.listing;
      there = omega (arith, is, t.loop-group-test.true);
      counting = counting-counted is i.counting;
    }

pub loop-group-preserved : goal.loop-group-preserved
loop-group-preserved c =
    let t = c in
    let l = t in
    let i = l.loop-group.invariant in
    let e = c.count_at-total.ensures in
    let is = l.requires.listing.count_is in
    record {
      within = omega (arith, t.loop-group-test.true);
      counting = rw (← is) at e.counting;
      same = rest_then i.same (rw (← is) at e.same);
      settled = e.lanes ∙ i.settled;
      room = e.room;
    }

pub returns-else-total-le-MAX_GATES : goal.returns-else-total-le-MAX_GATES
returns-else-total-le-MAX_GATES c =
    let l = c in
    let i = l.loop-group.invariant in
    let many = leb-false l.loop-group.total max_copies c.if-total-le-MAX_GATES.false-raw in record {
      walked_batch = record {
        counting = counting-end i.counting (λ few. absurd (omega (arith, few, many)));
        same = i.same;
        lowest = l.lowest_with-lowest.ensures;
      };
      lanes_len = (ended (goal.at.returns-else-total-le-MAX_GATES c).At-loop-group, i.room);
    }

pub returns-after-loop-group : goal.returns-after-loop-group
returns-after-loop-group c =
    let l = c in
    let i = l.loop-group.invariant in record {
      walked_batch = record {
        counting = counting-end i.counting (λ few. c.loop-group-test.false);
        same = i.same;
        lowest = l.lowest_with-lowest.ensures;
      };
      lanes_len = (ended (goal.at.returns-after-loop-group c).At-loop-group, i.room);
    }

pub invariant_of-judged : goal.invariant_of-judged
invariant_of-judged c = record { judged = c.requires.held.judged }
