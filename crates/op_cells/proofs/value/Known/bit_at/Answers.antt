-- `op_cells::value::Known::bit_at` meets its contract: it reads the operand's word.
use Rattle.op_cells.proofs.value.Known.bit_at.Goals as goal

pub returns : goal.returns
returns c = rw (← c.word_at.ensures) c.operand_bit.ensures
