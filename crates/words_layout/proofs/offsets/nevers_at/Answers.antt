-- `words_layout::offsets::nevers_at` meets its contract.
use mathlib.Core.Path.{refl}
use Rattle.netlist.specs.StoredBlock.{nevers_at}
use Rattle.words_layout.proofs.offsets.nevers_at.Goals as goal

pub returns : goal.returns
unfolding nevers_at
returns c = refl
