-- `graph_simulation::table::gate_table` meets its contract: the array is the definition's tabulation, which antt
-- computes and compares once.
use mathlib.Core.Path.{refl}
use Rattle.netlist.specs.Values.{code, value_of, invert, is_defined}
use Rattle.netlist.specs.Kinds.{row, rows, row_of, is_not, is_xor, is_xnor, signature, signature_in, signatures, signature_of}
use Rattle.netlist.specs.Kinds.{fewest_operands, most_operands}
use Rattle.netlist.specs.Kinds.{arity_fits, ruled, ones, parity, gate_value}
use Rattle.netlist.specs.GateTable.{kind_at, codes_at, is_present, has_gap, present_values, entry_of, table_entry}
use Rattle.graph_simulation.proofs.GateTable.{table_is}
use Rattle.graph_simulation.proofs.table.gate_table.Goals as goal

pub returns : goal.returns
unfolding row rows row_of is_not is_xor is_xnor signature signature_in signatures signature_of fewest_operands most_operands
    arity_fits ruled ones parity
    gate_value code value_of invert is_defined kind_at codes_at is_present has_gap present_values entry_of table_entry
returns c = table_is _ refl refl
