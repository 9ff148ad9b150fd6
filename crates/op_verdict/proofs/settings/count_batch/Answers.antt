-- `op_verdict::settings::count_batch` meets its contract: below the first batch with another, those that may come are
-- settled.
use mathlib.Core.Path.{◌≡◌, refl, ◌∙◌}
use native.Mathlib.Omega.{arith}
use lib.ListN.{get_or}
use Rattle.netlist.specs.StoredBlock.{decode}
use Rattle.theory_encoding.proofs.Readers.{whole_parts}
use Rattle.lanes_dual_rail.specs.Batches.{lanes_of}
use Rattle.lanes_dual_rail.proofs.InputLaws.{lanes_of-most}
use Rattle.lanes_dual_rail.proofs.WordLaws.{tells-count}
use Rattle.op_verdict.proofs.Counts.{count-coming}
use Rattle.op_verdict.proofs.settings.count_batch.Goals.{After-lane_count}
use Rattle.op_verdict.proofs.settings.count_batch.Goals as goal

-- so many lanes has a batch
many : (c : After-lane_count)
    → c.lane_count.result ≡ lanes_of (get_or c.args.block.words.now 0 0)
many c = rw c.inputs_of.ensures at c.lane_count.ensures

pub overflow_add-base : goal.overflow_add-base
overflow_add-base c =
    let n = get_or c.args.block.words.now 0 0 in
    omega (arith, many (goal.at.overflow_add-base c).After-lane_count, lanes_of-most n, c.requires.near)

pub coming_lanes-requires : goal.coming_lanes-requires
coming_lanes-requires c =
    record {
      few_inputs = (whole_parts c.args.block.words.now c.args.block.planned.whole).few_inputs;
      aligned = c.requires.aligned;
    }

pub returns-then-base-lane_count : goal.returns-then-base-lane_count
returns-then-base-lane_count c =
    let n = get_or c.args.block.words.now 0 0 in
    let b = decode c.args.block.words.now in
    record {
      count =
          c.count_lanes.ensures
          ∙ tells-count (lanes_of-most n) c.coming_lanes.ensures
          ∙ count-coming b c.args.base (lanes_of n) c.requires.before
          (omega (arith, many (goal.at.returns-then-base-lane_count c).After-lane_count, c.if-base-lane_count.true));
      kept = λ h. refl;
    }

pub invariant_of-held : goal.invariant_of-held
invariant_of-held c = record { judged = c.requires.held c.if-base-first.true }
