-- Before turn t the records are those of `before` (crates/op_sheet/proofs/Walked.antt), and the batch has what was read.
use Rattle.std.proofs.Common.{◌≡◌}
use Rattle.netlist.specs.declared.Record.{Record}
use Rattle.op_sheet.proofs.Walked.{before, BatchAt}
use Rattle.exports.proofs.unloop_sheet.Given as goal

-- what is read behind the last record
abbrev pub zeros : Record
zeros = record { fixed = 0; ones = 0; number = 0; defined = 0; values = 0 }

abbrev pub invariant-loop-t : goal.invariant-loop-t
invariant-loop-t l = record {
  records_are : l.records ≡ before l.block l.fn.records l.t;
  batch_at : BatchAt l.block l.fn.records zeros l.t l.batch;
}
