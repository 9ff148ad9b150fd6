-- `op_cover::whole_cover` meets its contract: the entries over the table of settled settings are the block's cover.
use mathlib.Core.Path.{◌≡◌, sym, ◌∙◌}
use Rattle.netlist.specs.Netlist.{input_count}
use Rattle.netlist.specs.StoredBlock.{decode}
use Rattle.theory_encoding.proofs.Decoded.{decode-input_count}
use Rattle.theory_encoding.proofs.Readers.{whole_parts}
use Rattle.op_cover.proofs.Flags.{table-room}
use Rattle.op_cover.proofs.Outcomes.{cover-short, cover-done}
use Rattle.op_cover.proofs.whole_cover.Goals.{After-inputs_of-inputs}
use Rattle.op_cover.proofs.whole_cover.Goals as goal

-- n is the block's number of inputs
inputs_are : (c : After-inputs_of-inputs)
    → c.inputs_of-inputs.result ≡ input_count (decode c.args.block.now.words.now)
inputs_are c = c.inputs_of-inputs.ensures ∙ sym (decode-input_count c.args.block.now.words.now)

pub invariant_of-cover_entries : goal.invariant_of-cover_entries
invariant_of-cover_entries c = record {
  few = rw c.inputs_of-inputs.ensures (whole_parts c.args.block.now.words.now c.args.block.now.well_formed).few_inputs;
  room = table-room c.tabulate.ensures (inputs_are (goal.at.invariant_of-cover_entries c).After-inputs_of-inputs);
}

pub returns-in_err-test_room : goal.returns-in_err-test_room
returns-in_err-test_room c =
    let inputs = inputs_are (goal.at.returns-in_err-test_room c).After-inputs_of-inputs in
    cover-short _ c.args.block.now.well_formed c.tabulate.ensures inputs c.cover_entries-count.ensures
    c.cover_entries-count.auto.out c.test_room.ensures c.in_err-test_room.was c.from_residual.ensures.1

pub returns : goal.returns
returns c =
    let inputs = inputs_are (goal.at.returns c).After-inputs_of-inputs in
    cover-done _ c.args.block.now.well_formed c.tabulate.ensures inputs c.cover_entries-count.ensures
    c.cover_entries-count.auto.out c.test_room.ensures c.in_ok-test_room.was
