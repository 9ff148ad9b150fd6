-- The bounds on words and written bytes are reached: a block at every limit, computed from the definitions.
-- Assumes nothing.
use mathlib.Core.Path.{◌≡◌, refl}
use mathlib.Core.Bool.{true}
use lib.ListN.{length}
use Rattle.netlist.specs.Limits.{max_block, max_written}
use Rattle.netlist.specs.Assignments.{bit, fixes, is_within, are_masks}
use Rattle.netlist.specs.Kinds.{row, rows, row_of, is_kind, signature_of, fewest_operands, most_operands, arity_fits, keyword}
use Rattle.netlist.specs.Names.{is_letter, is_digit, is_underscore, is_name_byte, is_name_start, is_legal_name, is_plain_name}
use Rattle.netlist.specs.StoredBlock.{name_words, never_words, node_word, gate_words, output_words, encode, is_node}
use Rattle.netlist.specs.StoredBlock.{is_operand, gate_fits, never_fits, is_well_formed}
use Rattle.netlist.specs.Syntax.{print_term, print_input, value_text, pair_text, print_pair, print_gate, print_output}
use Rattle.netlist.specs.Syntax.{print_lines, print_never, print}
use Rattle.netlist.specs.Writing.{digits, decimal, gate_name, node_name_of, term_of, terms_of, flat_line, pairs_of, flat_tree}
use Rattle.netlist.specs.Writing.{written_text}
use Rattle.theory_input_limit.specs.Largest.{long_name, long_never, long_gate, long_output, largest}

pub largest-well_formed : is_well_formed largest ≡ true
unfolding long_name long_never long_gate long_output largest is_well_formed is_legal_name is_plain_name is_letter is_digit
    is_underscore is_name_byte is_name_start never_fits
    are_masks is_within bit gate_fits is_kind arity_fits fewest_operands most_operands signature_of is_node is_operand
largest-well_formed = refl

pub largest-words : length (encode largest) ≡ max_block
unfolding long_name long_never long_gate long_output largest encode name_words never_words node_word gate_words output_words
largest-words = refl

pub largest-written : length (written_text largest) ≡ max_written
unfolding long_name long_never long_gate long_output largest digits decimal gate_name node_name_of term_of terms_of flat_line
    pairs_of flat_tree written_text print_term
    print_input value_text pair_text print_pair print_gate print_output print_lines print_never print keyword signature_of
    bit fixes
largest-written = refl
