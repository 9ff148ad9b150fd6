-- `op_gather::steps::write_gathered` meets its contract: the list is the one by groups, its places are the new numbers.
use Prim.Native.Nat.{◌≤◌}
use mathlib.Core.Path.{◌≡◌}
use native.Mathlib.Omega.{arith}
use lib.ListN.{length}
use Rattle.prelude.specs.Lists.{placed}
use Rattle.netlist.specs.StoredBlock.{decode}
use Rattle.netlist.specs.Gather.{gathered_order}
use Rattle.theory_encoding.proofs.Readers.{whole_parts}
use Rattle.unroll_order.proofs.Blocks.{assigned-numbers, count-few}
use Rattle.op_gather.proofs.Ordered.{members-room, listed-by-group, gathered-orders, gathered-written}
use Rattle.op_gather.proofs.steps.write_gathered.Goals.{After-find_places, After-list_members}
use Rattle.op_gather.proofs.steps.write_gathered.Goals as goal

-- the list, and each gate has its place in it
listed : (c : After-list_members)
    → c.list_members.new.members ≡ placed (gathered_order (decode c.args.block.now.words.now)) c.args.order.now
listed c =
    let whole = c.args.block.now.well_formed in
    let numbers = assigned-numbers c.args.block.now.words.now whole c.gates_of-m.ensures c.assign-count.ensures in
    listed-by-group _ whole _ c.gates_of-m.ensures numbers c.list_members.ensures
    (omega (arith, c.gates_of-m.ensures, c.requires.list_room))

places-room : (c : After-find_places) → c.gates_of-m.result ≤ length c.find_places.new.places
places-room c = omega (
  arith,
  c.find_places.auto.places,
  (whole_parts c.args.block.now.words.now
      c.args.block.now.well_formed).few_gates,
  c.gates_of-m.ensures,
)

pub assign-count-requires : goal.assign-count-requires
assign-count-requires c =
    omega (arith, (whole_parts c.args.block.now.words.now c.args.block.now.well_formed).few_gates)

pub list_members-requires : goal.list_members-requires
list_members-requires c =
    let whole = c.args.block.now.well_formed in
    let numbers = assigned-numbers c.args.block.now.words.now whole c.gates_of-m.ensures c.assign-count.ensures in
    let long = members-room _ whole _ c.gates_of-m.ensures numbers in
    record {
      few = numbers.few;
      few_groups = count-few numbers;
      few_members = omega (arith, long, numbers.few);
      member_room = omega (arith, long, c.requires.list_room, c.gates_of-m.ensures);
    }

pub find_places-requires : goal.find_places-requires
find_places-requires c = (
  omega (arith, c.gates_of-m.ensures, (whole_parts c.args.block.now.words.now c.args.block.now.well_formed).few_gates),
  omega (arith, c.gates_of-m.ensures, (whole_parts c.args.block.now.words.now c.args.block.now.well_formed).few_gates),
)

pub write_arranged-requires : goal.write_arranged-requires
write_arranged-requires c =
    let at = goal.at.write_arranged-requires c in
    let orders = gathered-orders c.args.block.now.words.now c.args.block.now.well_formed _ c.gates_of-m.ensures _ _ _
    (listed at.After-list_members) c.find_places.ensures (places-room at.After-find_places) in
    record {
      whole = c.args.block.now.well_formed;
      gates = orders.0;
      numbered = orders.1;
      table_room = omega (arith, (whole_parts c.args.block.now.words.now c.args.block.now.well_formed).few_gates);
      room = c.requires.room;
    }

pub returns : goal.returns
returns c =
    let at = goal.at.returns c in
    record {
      gathered_after = gathered-written c.args.block.now.words.now c.args.block.now.well_formed _ c.gates_of-m.ensures _ _ _
          (listed at.After-list_members) c.find_places.ensures (places-room at.After-find_places)
          c.args.gathered.now _ c.write_arranged.ensures;
      order_after = listed at.After-list_members;
    }
