-- `words_block::check_straight` meets its contract: a block is straight exactly when each gate keeps its rule with only
-- the inputs and the lower gates as nodes (`straight-is`).
use native.Mathlib.Omega.{arith}
use Rattle.netlist.specs.StoredBlock.{nevers_at, gates_at, outputs_at}
use Rattle.theory_encoding.proofs.Readers.{whole_parts}
use Rattle.words_block.proofs.StraightLaws.{straight-is}
use Rattle.words_block.proofs.check_straight.Goals as goal

pub read_lower-requires : goal.read_lower-requires
unfolding outputs_at gates_at nevers_at
read_lower-requires c =
    let s = c in
    let w = whole_parts s.args.block.now.words.now s.args.block.now.well_formed in
    rw (c.inputs_of-n.ensures, c.gates_of-m.ensures, c.gates_at-at.ensures)
    record {
      n_le_max_inputs = (w.few_inputs, omega (arith, w.few_inputs, w.few_nevers), w.few_gates);
      m_in_bounds = omega (arith, w.sized);
    }

pub returns : goal.returns
returns c =
    let after-inputs-of = c in
    let s = c in
    rw (
      ← straight-is s.args.block.now.words.now s.args.block.now.well_formed,
      ← c.gates_at-at.ensures,
      ← after-inputs-of.inputs_of-n.ensures,
      ← c.gates_of-m.ensures,
      ← c.read_lower.ensures,
    )
    c.refuse_if.ensures
