-- `op_render::listing::list_numbered` meets its contract: the numbers of the graph's groups are the block's, and list
-- them.
use native.Mathlib.Omega.{arith}
use lib.ListN.{get_or}
use Rattle.netlist.specs.StoredBlock.{decode}
use Rattle.unroll_order.specs.Listing.{Numbers}
use Rattle.unroll_order.proofs.Blocks.{graph-numbers}
use Rattle.op_render.proofs.Told.{groups-room, groups-listed}
use Rattle.op_render.proofs.listing.list_numbered.Goals.{After-number_groups-count}
use Rattle.op_render.proofs.listing.list_numbered.Goals as goal

numbers-are : (g : After-number_groups-count) → let ws = g.args.words.now in
    Numbers (decode ws) (get_or ws 1 0) g.number_groups-count.result g.number_groups-count.new.numbers
numbers-are g = graph-numbers g.requires (rw g.gates_of.ensures at g.number_groups-count.ensures)

pub list_groups-requires : goal.list_groups-requires
list_groups-requires c =
    let are = numbers-are (goal.at.list_groups-requires c).After-number_groups-count in
    groups-room c.args.words.now c.gates_of.ensures are (omega arith) (omega arith)

pub returns : goal.returns
returns c =
    let are = numbers-are (goal.at.returns c).After-number_groups-count in
    groups-listed c.args.words.now c.gates_of.ensures are (omega arith) c.list_groups.ensures

pub invariant_of-decoded : goal.invariant_of-decoded
invariant_of-decoded c = record { legal = rw c.gates_of.ensures c.requires.legal }
