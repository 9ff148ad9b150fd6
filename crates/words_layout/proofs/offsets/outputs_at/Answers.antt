-- `words_layout::offsets::outputs_at` meets its contract.
use borrow.Author.Rules.{rules}
use native.Mathlib.Omega.{arith}
use Rattle.netlist.specs.StoredBlock.{nevers_at, gates_at, outputs_at}
use Rattle.words_layout.proofs.offsets.outputs_at.Goals as goal

pub outputs_behind-requires : goal.outputs_behind-requires
outputs_behind-requires c =
    let known = c.shared_slice_known-1 in
    record {
      n_le_max_word = omega (arith, known.given 0);
      l_le_max_word = omega (arith, known.given 3);
      m_le_max_word = omega (arith, known.given 1);
    }

pub returns : goal.returns
unfolding outputs_at gates_at nevers_at
returns c = search rules
