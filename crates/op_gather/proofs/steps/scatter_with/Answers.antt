-- `op_gather::steps::scatter_with` meets its contract: the list's condition, the room's, and then the gates where the
-- list says.
use Prim.Native.Nat.{◌≤◌}
use mathlib.Core.Path.{refl}
use native.Mathlib.Omega.{arith}
use lib.ListN.{length}
use borrow.Author.Tests.{ltb-false}
use Rattle.netlist.specs.declared.Refusal.TheVariants.{NoRoom, NotAPermutation}
use Rattle.netlist.specs.Answers.{in_room}
use Rattle.theory_encoding.proofs.Readers.{whole_parts}
use Rattle.words_refusals.proofs.Promised.{passed, passed-false, failed, keeps-room, bare, keeps-bare, finished}
use Rattle.op_gather.proofs.Chain.{scatter-order, scatter-room, order-passes}
use Rattle.op_gather.proofs.Ordered.{scattered-orders, scattered-written}
use Rattle.op_gather.proofs.steps.scatter_with.Goals.{After-find_places-listed}
use Rattle.op_gather.proofs.steps.scatter_with.Goals as goal

-- each gate has its place
places-room : (c : After-find_places-listed) → c.gates_of.result ≤ length c.find_places-listed.new.places
places-room c = omega (
  arith,
  c.find_places-listed.auto.places,
  (whole_parts c.args.block.now.words.now
      c.args.block.now.well_formed).few_gates,
  c.gates_of.ensures,
)

pub find_places-listed-requires : goal.find_places-listed-requires
find_places-listed-requires c = (
  omega (arith, c.gates_of.ensures, (whole_parts c.args.block.now.words.now c.args.block.now.well_formed).few_gates),
  omega (arith, c.gates_of.ensures, (whole_parts c.args.block.now.words.now c.args.block.now.well_formed).few_gates),
)

pub returns-in_err-refuse_if : goal.returns-in_err-refuse_if
returns-in_err-refuse_if c =
    failed (in_room _) (keeps-room _) _ _ NotAPermutation
    (scatter-order c.args.block.now.words.now _ _ c.args.block.now.well_formed c.gates_of.ensures
    c.find_places-listed.ensures.told)
    c.refuse_if.ensures c.args.original.now c.in_err-refuse_if.was c.from_residual.ensures.1

pub returns-in_err-test_room : goal.returns-in_err-test_room
returns-in_err-test_room c =
    let passes = order-passes c.find_places-listed.ensures c.refuse_if.ensures c.in_ok-refuse_if.was in
    failed bare keeps-bare _ _ NoRoom
    (scatter-room c.args.block.now.words.now _ _ c.args.block.now.well_formed c.gates_of.ensures passes)
    c.test_room.ensures c.args.original.now c.in_err-test_room.was c.from_residual-in_err-test_room.ensures.1

pub write_arranged-requires : goal.write_arranged-requires
write_arranged-requires c =
    let passes = order-passes c.find_places-listed.ensures c.refuse_if.ensures c.in_ok-refuse_if.was in
    let orders = scattered-orders c.args.block.now.words.now c.args.block.now.well_formed _ c.gates_of.ensures _ _
    c.find_places-listed.ensures passes (places-room (goal.at.write_arranged-requires c).After-find_places-listed) in
    record {
      whole = c.args.block.now.well_formed;
      gates = orders.0;
      numbered = orders.1;
      table_room = omega (arith, (whole_parts c.args.block.now.words.now c.args.block.now.well_formed).few_gates);
      room = ltb-false _ _ (passed-false _ NoRoom c.test_room.ensures c.in_ok-test_room.was);
    }

pub returns : goal.returns
returns c =
    let passes = order-passes c.find_places-listed.ensures c.refuse_if.ensures c.in_ok-refuse_if.was in
    finished
    (passed bare keeps-bare _ _ NoRoom
    (scatter-room c.args.block.now.words.now _ _ c.args.block.now.well_formed c.gates_of.ensures passes) c.test_room.ensures
    c.in_ok-test_room.was)
    refl
    (scattered-written c.args.block.now.words.now c.args.block.now.well_formed _ c.gates_of.ensures _ _
    c.find_places-listed.ensures passes
    (places-room (goal.at.returns c).After-find_places-listed) c.args.original.now _ c.write_arranged.ensures)
