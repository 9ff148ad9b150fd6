-- A turn takes one record, calls `advance` and `answer` with it, and puts what they leave in its place: what the turns
-- come to is in crates/op_sheet/proofs/Walked.antt.
use Rattle.std.proofs.Common.{◌≡◌, ◌<◌, length, sym, arith, add-one, ◌*◌}
use Rattle.op_sheet.proofs.Walked.{before-none, batch-first, turn-whole, turns_fit, turn-place, turn-record}
use Rattle.op_sheet.proofs.Walked.{turn-answers, turn-batch, turns-all}
use Rattle.exports.proofs.unloop_sheet.Invariants.{zeros}
use Rattle.exports.proofs.unloop_sheet.Goals as goal
use Rattle.exports.proofs.unloop_sheet.Goals.{After-place_at-i}

-- the turn's place is one of the records
place_in : (c : After-place_at-i) → c.place_at-i.result < length c.loop-t.records
place_in c =
    rw (c.place_at-i.ensures, c.loop-t.auto.records)
    (turn-place c.args.block.now c.args.records.now _ c.reply_to_sheet-reply.ensures zeros _ c.loop-t-test.true)

pub overflow_mul-turns : goal.overflow_mul-turns
overflow_mul-turns c =
    omega (arith, turns_fit c.args.block.now c.args.records.now _ c.reply_to_sheet-reply.ensures)

pub loop-t-init : goal.loop-t-init
loop-t-init c = record {
  records_are = sym (before-none c.args.block.now c.args.records.now);
  batch_at = batch-first c.args.block.now c.args.records.now zeros c.no_batch-batch.ensures;
}

pub offset_bounds-records-i : goal.offset_bounds-records-i
offset_bounds-records-i c = omega (arith, place_in (goal.at.offset_bounds-records-i c).After-place_at-i)

pub slice_copy_out-asked : goal.slice_copy_out-asked
slice_copy_out-asked c = place_in (goal.at.slice_copy_out-asked c).After-place_at-i

pub invariant_of-whole : goal.invariant_of-whole
invariant_of-whole c = record {
  well_formed = turn-whole c.args.block.now c.args.records.now _ c.reply_to_sheet-reply.ensures _ c.loop-t-test.true;
}

pub advance-batch-requires : goal.advance-batch-requires
advance-batch-requires c = (c.loop-t-test.true, c.loop-t.invariant.batch_at.room)

pub answer-requires-clause-answerable : goal.answer-requires-clause-answerable
answer-requires-clause-answerable c =
    let turn = rw (c.loop-t.invariant.records_are, c.place_at-i.ensures) at c.advance-batch.ensures in
    rw (c.loop-t.invariant.records_are, c.place_at-i.ensures)
    (turn-answers c.args.block.now c.args.records.now _ c.reply_to_sheet-reply.ensures zeros _ c.loop-t-test.true
    c.loop-t.invariant.batch_at turn)

pub offset_bounds-records-i-in-loop-t : goal.offset_bounds-records-i-in-loop-t
offset_bounds-records-i-in-loop-t c =
    omega (arith, place_in (goal.at.offset_bounds-records-i-in-loop-t c).After-place_at-i)

pub bounds-records-i : goal.bounds-records-i
bounds-records-i c = place_in (goal.at.bounds-records-i c).After-place_at-i

pub loop-t-preserved : goal.loop-t-preserved
loop-t-preserved c =
    let turn = rw (c.loop-t.invariant.records_are, c.place_at-i.ensures) at c.advance-batch.ensures in
    record {
      records_are = rw (add-one c.loop-t.t, c.answer.ensures, c.loop-t.invariant.records_are, c.place_at-i.ensures)
          (turn-record c.args.block.now c.args.records.now _ c.reply_to_sheet-reply.ensures zeros _
          c.loop-t-test.true);
      batch_at = rw (add-one c.loop-t.t)
          (turn-batch c.args.block.now c.args.records.now _ c.reply_to_sheet-reply.ensures zeros _
          c.loop-t-test.true c.loop-t.invariant.batch_at turn);
    }

pub returns-clause-leaves : goal.returns-clause-leaves
returns-clause-leaves c =
    let all : c.loop-t.t ≡ 2 * c.reply_to_sheet-reply.result.count = omega arith in
    rw (c.loop-t.invariant.records_are, all)
    (turns-all c.args.block.now c.args.records.now _ c.reply_to_sheet-reply.ensures)
