-- `op_cells::truth::truth_words` meets its contract: the array is the definition's tabulation, which antt computes and
-- compares once.
use mathlib.Core.Path.{refl}
use Rattle.netlist.specs.Values.{code, value_of, invert, is_defined}
use Rattle.netlist.specs.Kinds.{row, rows, row_of, is_not, is_xor, is_xnor, is_kind, signature, signature_in, signatures}
use Rattle.netlist.specs.Kinds.{signature_of, fewest_operands, most_operands}
use Rattle.netlist.specs.Kinds.{arity_fits, ruled, ones, parity, gate_value}
use Rattle.netlist.specs.Assignments.{bit}
use Rattle.netlist.specs.Rounds.{setting_of}
use Rattle.netlist.specs.Cells.{truth_bit, truth_word}
use Rattle.op_cells.specs.Made.{truth_entry}
use Rattle.op_cells.proofs.TruthWords.{table_is}
use Rattle.op_cells.proofs.truth.truth_words.Goals as goal

pub returns : goal.returns
unfolding row rows row_of is_not is_xor is_xnor is_kind signature signature_in signatures signature_of fewest_operands
    most_operands arity_fits ruled ones parity
    gate_value code value_of invert is_defined bit setting_of truth_bit truth_word truth_entry
returns c = table_is _ refl
