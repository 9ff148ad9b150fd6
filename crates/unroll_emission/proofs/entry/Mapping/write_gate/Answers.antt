-- `unroll_emission::entry::Mapping::write_gate` meets its contract: the five words of gate j, of which the operands are
-- mapped.
use Rattle.unroll_emission.specs.Words.{copy_words}
use Rattle.unroll_emission.proofs.entry.Mapping.write_gate.Goals as goal

pub returns : goal.returns
unfolding copy_words
returns c = c.copy_entry.ensures
