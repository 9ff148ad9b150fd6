-- `words_layout::offsets::outputs_behind` meets its contract: the outputs stand behind the gates.
use native.Mathlib.Omega.{arith}
use Rattle.netlist.specs.StoredBlock.{nevers_at, gates_at, outputs_at}
use Rattle.words_layout.proofs.offsets.outputs_behind.Goals as goal

pub overflow_add-result : goal.overflow_add-result
unfolding gates_at nevers_at
overflow_add-result c = omega arith

pub returns : goal.returns
unfolding outputs_at
returns c = omega arith
