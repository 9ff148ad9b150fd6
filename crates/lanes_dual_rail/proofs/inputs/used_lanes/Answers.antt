-- `lanes_dual_rail::inputs::used_lanes` meets its contract.
use borrow.Author.Rules.{rules}
use Rattle.lanes_dual_rail.proofs.InputLaws.{all_lanes, shifted-lanes, shifted-full}
use Rattle.lanes_dual_rail.specs.Batches.{lanes_of}
use Rattle.lanes_dual_rail.proofs.inputs.used_lanes.Goals as goal

pub returns-then-n-ge-LOW_INPUTS : goal.returns-then-n-ge-LOW_INPUTS
returns-then-n-ge-LOW_INPUTS c = all_lanes c.args.n c.if-n-ge-LOW_INPUTS.true

pub overflow_shl-result : goal.overflow_shl-result
overflow_shl-result c = let s = shifted-lanes c.args.n c.if-n-ge-LOW_INPUTS.false in rw s.0 s.1

pub overflow_sub-result : goal.overflow_sub-result
overflow_sub-result c =
    let s = shifted-lanes c.args.n c.if-n-ge-LOW_INPUTS.false in
    rw s.0 (shifted-full (lanes_of c.args.n) s.1).0

pub returns : goal.returns
returns c =
    let s = shifted-lanes c.args.n c.if-n-ge-LOW_INPUTS.false in
    rw s.0 (shifted-full (lanes_of c.args.n) s.1).1
