-- `words_layout::offsets::gates_at` meets its contract.
use borrow.Author.Rules.{rules}
use Rattle.netlist.specs.StoredBlock.{nevers_at, gates_at}
use Rattle.words_layout.proofs.offsets.gates_at.Goals as goal

pub returns : goal.returns
unfolding gates_at nevers_at
returns c = search rules
