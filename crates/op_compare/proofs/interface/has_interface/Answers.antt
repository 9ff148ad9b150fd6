-- `op_compare::interface::has_interface` meets its contract, by a law for each way through it.
use native.Mathlib.Omega.{arith}
use Rattle.netlist.specs.StoredBlock.{nevers_at, gates_at, outputs_at}
use Rattle.theory_encoding.proofs.Readers.{whole_parts}
use Rattle.op_compare.proofs.Interfaces.{inputs-differ, outputs-differ, names-differ, names-same}
use Rattle.op_compare.proofs.interface.has_interface.Goals as goal

pub returns-then-inputs_of-n : goal.returns-then-inputs_of-n
returns-then-inputs_of-n c = inputs-differ _ _ c.inputs_of-n.ensures c.inputs_of.ensures c.if-inputs_of-n.true

pub returns-then-outputs_of-k : goal.returns-then-outputs_of-k
returns-then-outputs_of-k c = outputs-differ _ _ c.outputs_of-k.ensures c.outputs_of.ensures c.if-outputs_of-k.true

pub are_same-requires-clause-count_le_max_gates : goal.are_same-requires-clause-count_le_max_gates
are_same-requires-clause-count_le_max_gates c =
    omega (arith, c.inputs_of-n.ensures, (whole_parts c.args.ours.now.words.now c.args.ours.now.well_formed).few_inputs)

pub returns-then-not-are_same : goal.returns-then-not-are_same
returns-then-not-are_same c =
    names-differ _ _ c.inputs_of-n.ensures c.inputs_of.ensures c.if-inputs_of-n.false c.are_same.ensures
    c.if-not-are_same.true-raw

pub are_same-requires-2 : goal.are_same-requires-2
unfolding outputs_at gates_at nevers_at
are_same-requires-2 c =
    let a = whole_parts c.args.ours.now.words.now c.args.ours.now.well_formed in
    let b = whole_parts c.args.theirs.now.words.now c.args.theirs.now.well_formed in record {
      at_le_place_room = omega (arith, c.outputs_at-our_ports.ensures, a.few_inputs, a.few_nevers, a.few_gates);
      other_le_place_room = omega (arith, c.outputs_at-their_ports.ensures, b.few_inputs, b.few_nevers, b.few_gates);
      size_bound = omega arith;
      count_le_max_gates = omega (arith, c.outputs_of-k.ensures, a.few_outputs);
    }

pub returns : goal.returns
returns c =
    names-same _ _ c.inputs_of-n.ensures c.inputs_of.ensures c.if-inputs_of-n.false c.are_same.ensures
    c.if-not-are_same.false-raw c.outputs_of-k.ensures c.outputs_of.ensures c.if-outputs_of-k.false
    c.outputs_at-our_ports.ensures c.outputs_at-their_ports.ensures c.are_same-2.ensures
