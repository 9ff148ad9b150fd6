-- `op_write::lines::put_block` meets its contract: the four parts, one after the other, at the places that the header
-- gives.
use native.Mathlib.Omega.{arith}
use Rattle.netlist.specs.StoredBlock.{nevers_at, gates_at, outputs_at}
use Rattle.theory_encoding.proofs.Readers.{whole_parts}
use Rattle.op_write.proofs.Outcomes.{block-short, inputs-short, nevers-short, gates-short, outputs-short, block-put}
use Rattle.op_write.proofs.lines.put_block.Goals as goal

pub put_inputs-first-requires : goal.put_inputs-first-requires
put_inputs-first-requires c =
    let ws = c.args.block.now.words.now in
    let whole = c.args.block.now.well_formed in
    record {
      n_le_max_word = omega (arith, c.inputs_of-n.ensures, (whole_parts ws whole).few_inputs);
      short = inputs-short _ c.inputs_of-n.ensures (block-short ws whole);
    }

pub nevers_at-requires : goal.nevers_at-requires
nevers_at-requires c =
    let parts = whole_parts c.args.block.now.words.now c.args.block.now.well_formed in
    omega (arith, c.inputs_of-n.ensures, parts.few_inputs)

pub put_nevers-second-requires : goal.put_nevers-second-requires
unfolding nevers_at
put_nevers-second-requires c =
    let ws = c.args.block.now.words.now in
    let whole = c.args.block.now.well_formed in
    let parts = whole_parts ws whole in
    record {
      words_bound = (
        parts.few_inputs,
        omega (arith, parts.few_inputs, c.inputs_of-n.ensures, c.nevers_at.ensures),
        omega (arith, parts.few_nevers, c.nevers_of.ensures),
      );
      short =
          nevers-short _ c.inputs_of-n.ensures (block-short ws whole) c.put_inputs-first.ensures c.nevers_at.ensures
          c.nevers_of.ensures;
    }

pub put_gates-third-requires : goal.put_gates-third-requires
unfolding nevers_at gates_at
put_gates-third-requires c =
    let ws = c.args.block.now.words.now in
    let whole = c.args.block.now.well_formed in
    let parts = whole_parts ws whole in
    record {
      from_le_line_room = (
        omega (arith, parts.few_inputs, parts.few_nevers, c.gates_at.ensures),
        omega (arith, parts.few_gates, c.gates_of.ensures),
      );
      short =
          gates-short _ c.inputs_of-n.ensures (block-short ws whole) c.put_inputs-first.ensures c.nevers_at.ensures
          c.nevers_of.ensures c.put_nevers-second.ensures c.gates_at.ensures c.gates_of.ensures;
    }

pub put_outputs-requires : goal.put_outputs-requires
unfolding nevers_at gates_at outputs_at
put_outputs-requires c =
    let ws = c.args.block.now.words.now in
    let whole = c.args.block.now.well_formed in
    let parts = whole_parts ws whole in
    record {
      from_le_line_room = (
        omega (arith, parts.few_inputs, parts.few_nevers, parts.few_gates, c.outputs_at.ensures),
        omega (arith, parts.few_outputs, c.outputs_of.ensures),
      );
      short =
          outputs-short _ c.inputs_of-n.ensures (block-short ws whole) c.put_inputs-first.ensures c.nevers_at.ensures
          c.nevers_of.ensures c.put_nevers-second.ensures c.gates_at.ensures c.gates_of.ensures
          c.put_gates-third.ensures c.outputs_at.ensures c.outputs_of.ensures;
    }

pub returns : goal.returns
returns c =
    let short = block-short c.args.block.now.words.now c.args.block.now.well_formed in
    block-put _ c.inputs_of-n.ensures short c.put_inputs-first.ensures c.nevers_at.ensures c.nevers_of.ensures
    c.put_nevers-second.ensures c.gates_at.ensures c.gates_of.ensures c.put_gates-third.ensures c.outputs_at.ensures
    c.outputs_of.ensures c.put_outputs.ensures
