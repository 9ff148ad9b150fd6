-- `words_layout::offsets::gates_behind` meets its contract: the gates stand behind the never lines.
use native.Mathlib.Omega.{arith}
use Rattle.netlist.specs.StoredBlock.{nevers_at, gates_at}
use Rattle.words_layout.proofs.offsets.gates_behind.Goals as goal

pub overflow_add-result : goal.overflow_add-result
unfolding nevers_at
overflow_add-result c = omega arith

pub returns : goal.returns
unfolding gates_at
returns c = omega arith
