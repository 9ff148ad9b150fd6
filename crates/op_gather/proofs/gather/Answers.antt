-- `op_gather::gather` meets its contract: the words' condition, the rooms', and then both slices are filled.
use Prim.Native.Nat.{◌≤◌}
use mathlib.Core.Path.{refl}
use native.Mathlib.Omega.{arith}
use lib.ListN.{length}
use borrow.Author.Tests.{ltb-false}
use Rattle.prelude.proofs.Tests.{or-neither}
use Rattle.netlist.specs.declared.Refusal.TheVariants.{MalformedBlock, NoRoom}
use Rattle.netlist.specs.Gather.{gathered_words, gathered_order, gather, gather_list}
use Rattle.words_refusals.proofs.Promised.{test-ok, test-err, passed, passed-false, failed, bare, keeps-bare, finished}
use Rattle.op_gather.proofs.Chain.{gather-chain, gather-room}
use Rattle.op_gather.proofs.gather.Goals as goal

pub returns-in_err-block : goal.returns-in_err-block
unfolding gather gather_list
returns-in_err-block c = record {
  block =
      failed bare keeps-bare _ _ MalformedBlock (gather-chain _ _ _ gathered_words) c.check_words.ensures.tested
      c.args.gathered.now (test-err c.in_err-block.was) c.from_residual.ensures.1;
  list =
      (failed bare keeps-bare _ _ MalformedBlock (gather-chain _ _ _ gathered_order) c.check_words.ensures.tested
      c.args.order.now (test-err c.in_err-block.was) c.from_residual.ensures.1).leaves;
}

pub returns-in_err-check_rooms : goal.returns-in_err-check_rooms
unfolding gather gather_list
returns-in_err-check_rooms c =
    let whole = passed-false _ MalformedBlock c.check_words.ensures.tested (test-ok c.in_ok-block.was) in
    let why = c.from_residual-in_err-check_rooms.ensures.1 in
    record {
      block =
          failed bare keeps-bare _ _ NoRoom (gather-room _ _ _ gathered_words whole c.gates_of.ensures)
          c.check_rooms.ensures c.args.gathered.now c.in_err-check_rooms.was why;
      list =
          (failed bare keeps-bare _ _ NoRoom (gather-room _ _ _ gathered_order whole c.gates_of.ensures)
          c.check_rooms.ensures c.args.order.now c.in_err-check_rooms.was why).leaves;
    }

pub gather_block-requires : goal.gather_block-requires
gather_block-requires c =
    let fits = or-neither _ _ (passed-false _ NoRoom c.check_rooms.ensures c.in_ok-check_rooms.was) in
    let list : c.gates_of.result ≤ length c.args.order.now = ltb-false _ _ fits.1 in
    rw c.in_ok-block.ensures.block (record { room = ltb-false _ _ fits.0; list_room = omega (arith, c.gates_of.ensures) })

pub returns : goal.returns
unfolding gather gather_list
returns c =
    let whole = passed-false _ MalformedBlock c.check_words.ensures.tested (test-ok c.in_ok-block.was) in
    record {
      block =
          finished
          (passed bare keeps-bare _ _ NoRoom (gather-room _ _ _ gathered_words whole c.gates_of.ensures)
          c.check_rooms.ensures c.in_ok-check_rooms.was)
          refl (rw c.in_ok-block.ensures.block at c.gather_block.ensures.gathered_after);
      list =
          (finished
          (passed bare keeps-bare _ _ NoRoom (gather-room _ _ _ gathered_order whole c.gates_of.ensures)
          c.check_rooms.ensures c.in_ok-check_rooms.was)
          refl (rw c.in_ok-block.ensures.block at c.gather_block.ensures.order_after)).leaves;
    }
