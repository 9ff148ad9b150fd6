-- `unroll_depth::group::count_group` meets its contract: the group's settled pairs are put aside, the passes made from
-- undefined, and the pairs put back.
use Rattle.unroll_depth.specs.Passes.{PassReady}
use Rattle.unroll_depth.proofs.GroupLaws.{group-nodes, group-few}
use Rattle.unroll_depth.proofs.PassLaws.{ready-passes, put_back}
use Rattle.unroll_depth.proofs.group.count_group.Goals.{After-run_passes}
use Rattle.unroll_depth.proofs.group.count_group.Goals as goal

-- what is known when the passes so far are made
ready : (r : After-run_passes) → let a = r.args in
    PassReady a.words.now a.graph.now a.members.now a.turn a.counted r.run_passes.new.lanes r.put_pairs.new.lanes
ready r =
    let q = r.requires in
    ready-passes q.batch q.so_far q.settled r.put_pairs.ensures r.clear_pairs.ensures r.run_passes.ensures

pub invariant_of-group : goal.invariant_of-group
invariant_of-group c = record { part = group-few c.requires.batch }

pub returns : goal.returns
returns c =
    let q = c.requires in record {
      counted = c.more_passes-needed.ensures.counted;
      kept = (
        put_back q.batch q.settled c.put_pairs.ensures c.clear_pairs.ensures c.run_passes.ensures
            c.more_passes-needed.ensures c.put_pairs-2.ensures,
        c.put_pairs.ensures.long,
      );
    }

pub run_passes-requires : goal.run_passes-requires
run_passes-requires c = group-nodes c.requires.batch

pub more_passes-needed-requires : goal.more_passes-needed-requires
more_passes-needed-requires c = ready (goal.at.more_passes-needed-requires c).After-run_passes
