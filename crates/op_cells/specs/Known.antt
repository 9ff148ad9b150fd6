-- What a cell reads as one value. Cited by the contracts of `value`. Assumes nothing.
--   bit_of, value_of        the bit that an operand's word stands for; the value of the cell at a place
use Rattle.std.specs.Prelude.{ℕ, List}
use Rattle.netlist.specs.StoredBlock.{operand_of}
use Rattle.netlist.specs.Cells.{cell_at, operand_bit, cell_value}
use Rattle.op_cells.specs.declared.value.Known.{Known}

abbrev pub bit_of : Known → ℕ → ℕ
bit_of k word = operand_bit k.setting.now k.found.now (operand_of k.inputs word)

abbrev pub value_of : Known → List ℕ → ℕ → ℕ
value_of k cells at = cell_value k.setting.now k.found.now (cell_at k.inputs cells at)
