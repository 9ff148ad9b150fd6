-- SPECIFICATION 9.11, 9.18: worked examples of Compare and of CompareCells, among them those that tell their
-- definitions from near misses, each as one claim.
use Rattle.std.specs.Prelude.{◌≡◌, refl, Bool, true, List, [], ◌∷◌, ◌++◌, ℕ}
use Prim.Native.String.{String}
use Rattle.prelude.specs.Lists.{same, all}
use Rattle.netlist.specs.Values.{code, value_of, invert, is_defined}
use Rattle.netlist.specs.Kinds.{row, rows, row_of, is_not, is_xor, is_xnor, is_kind, signature_of}
use Rattle.netlist.specs.Kinds.{fewest_operands, most_operands, arity_fits, keyword, ruled, ones, parity, gate_value}
use Rattle.netlist.specs.StoredBlock.{gates_at, outputs_at}
use Rattle.netlist.specs.Names.{is_letter, is_digit, is_underscore, is_name_byte, is_name_start, is_legal_name}
use Rattle.netlist.specs.Names.{is_plain_name}
use Rattle.netlist.specs.StoredBlock.{name_words, bytes_at, name_at, node_word, operand_of, gate_words, gate_at}
use Rattle.netlist.specs.StoredBlock.{output_words, output_at, encode}
use Rattle.netlist.specs.Names.{is_node_name}
use Rattle.netlist.specs.StoredBlock.{decode, is_node, is_operand, gate_fits, is_well_formed, is_malformed}
use Rattle.netlist.specs.Assignments.{bit}
use Rattle.netlist.specs.Rounds.{operand_value, evaluated, round, after_rounds, is_stable, rounds, settled}
use Rattle.netlist.specs.Rounds.{setting_of, setting_count, settled_under, outputs_under, is_settled, output_value}
use Rattle.netlist.specs.Groups.{gate_operand, read_by}
use Rattle.netlist.specs.Rendering.{is_straight}
use Rattle.netlist.specs.Parse.{pure, stop, on_test, if_next, expect, on_parsed, bind, name_bytes, name_after}
use Rattle.netlist.specs.Parse.{name_reader, kind_reader, spaced, terms_reader, expr_reader, leaf_or, term_reader}
use Rattle.netlist.specs.Parse.{add_input, add_gate, add_output, input_line, gate_line, output_line, at_end, line}
use Rattle.netlist.specs.Parse.{outputs_reader, gates_reader, text_reader, parse}
use Rattle.netlist.specs.Reading.{gates_in, line_gates, is_over_limit, mentions, lines_length, gate_lines_at}
use Rattle.netlist.specs.Reading.{output_lines_at, input_mention, gate_mention, port_mention, shown_mention}
use Rattle.netlist.specs.Reading.{term_mentions, operand_mentions, declared_nodes, declared_ports, used_names}
use Rattle.netlist.specs.Reading.{first_repeat, or_else, first_duplicate, first_outside, first_undeclared}
use Rattle.netlist.specs.Reading.{input_bindings, gate_bindings, bindings, lookup, term_node, terms_nodes, term_gates}
use Rattle.netlist.specs.Reading.{lines_gates, block_of}
use Rattle.netlist.specs.Answers.{refusal_number, refusal_detail, number_of, count_of, detail_of, refuse_if, refuse_at}
use Rattle.netlist.specs.Answers.{answer_of, left_in}
use Rattle.netlist.specs.Operations.{counted, read_tree, read_parsed, read_text}
use Rattle.netlist.specs.Compare.{same_names, ports, same_interface, differs, disagrees, lowest_disagreement}
use Rattle.netlist.specs.Compare.{lowest_differing, judged_at, compare_blocks, compare}
use Rattle.netlist.specs.Cells.{cell_count, cell_at, cells_in, is_earlier, reads_earlier, are_legal_cells, operand_bit}
use Rattle.netlist.specs.Cells.{number_of_bits, cell_value, run_from, cell_values}
use Rattle.netlist.specs.CompareCells.{is_listed, setting_bits, cell_shown, cell_differs, cells_disagree}
use Rattle.netlist.specs.CompareCells.{lowest_cell_disagreement, lowest_cell_differing, cells_judged_at}
use Rattle.netlist.specs.CompareCells.{compare_block_cells, compare_cells}
use Rattle.netlist.specs.Specimens.{report, block_words, with}
use Rattle.netlist.specs.StoredBlock.{nevers_at, never_words, never_at, never_fits}
use Rattle.netlist.specs.Assignments.{are_masks}
use Rattle.netlist.specs.Rounds.{is_excluded, is_counted, is_sound_at}
use Rattle.netlist.specs.Syntax.{print_never}
use Rattle.netlist.specs.Parse.{never_pairs, add_never, never_line, nevers_reader}
use Rattle.netlist.specs.Reading.{never_lines_at, never_mentions, excluded_names, lesser, first_repeat_in, assignment_of}
use Rattle.netlist.specs.Assignments.{fixes, agrees, is_within, mask_of, is_one}
use Rattle.netlist.specs.Syntax.{value_text, pair_text, print_pair, print_lines, print_input, print_gate, print_output}
use Rattle.netlist.specs.Syntax.{print_term}
use Rattle.netlist.specs.Parse.{bit_reader, pair_reader, spaced_pair, pairs_reader}
use Rattle.netlist.specs.Reading.{pair_mention, given_value}

-- ours and theirs as words, and the answer
pub record Comparison : Type 0 where
  pub ours : List ℕ
  pub theirs : List ℕ
  pub answer : List ℕ

unfoldable pub holds : Comparison → Bool
holds c = same (report (compare c.ours c.theirs)) c.answer

unfoldable pub texts : String → String → List ℕ → Comparison
texts ours theirs answer = record { ours = block_words ours; theirs = block_words theirs; answer = answer }

unfoldable pub accepted : List ℕ
accepted = 0 ∷ 0 ∷ 0 ∷ []

-- the loop of 9.4 with both gates shown; setting 1 is not settled, and under the others q is b and p is a
unfoldable pub looped : String
looped = "(in a)\n(in b)\n(gate p (and a q))\n(gate q (or b p))\n(out y q)\n(out z p)\n"

unfoldable pub comparisons : List Comparison
comparisons =
    -- a setting that is not settled does not count, and a block that is not sound is compared all the same
    texts looped "(in a)\n(in b)\n(out y b)\n(out z a)\n" accepted
    ∷ texts looped "(in a)\n(in b)\n(gate n (not b))\n(out y n)\n(out z a)\n" (0 ∷ 1 ∷ 0 ∷ [])
    -- the lowest setting, and there the lowest output, counted from 1
    ∷ texts looped "(in a)\n(in b)\n(out y b)\n(out z b)\n" (0 ∷ 2 ∷ 2 ∷ [])
    ∷ texts looped "(in a)\n(in b)\n(out y a)\n(out z b)\n" (0 ∷ 1 ∷ 2 ∷ [])
    -- no setting is settled
    ∷ texts "(gate p (not p))\n(out y p)\n" "(gate q (and 0 0))\n(out y q)\n" accepted
    -- a setting that ours excludes does not count; what theirs excludes does
    ∷ texts "(in a)\n(in b)\n(never (a 0))\n(gate p (and a q))\n(gate q (or b p))\n(out y q)\n(out z p)\n"
    "(in a)\n(in b)\n(out y b)\n(out z b)\n" accepted
    ∷ texts looped "(in a)\n(in b)\n(never (a 0))\n(out y b)\n(out z b)\n" (0 ∷ 2 ∷ 2 ∷ [])
    -- 12: a port in another place, another name, an input more
    ∷ texts looped "(in a)\n(in b)\n(out z a)\n(out y b)\n" (with 12 0)
    ∷ texts looped "(in a)\n(in c)\n(out y c)\n(out z a)\n" (with 12 0)
    ∷ texts looped "(in a)\n(in b)\n(in c)\n(out y b)\n(out z a)\n" (with 12 0)
    -- 10 before 12, and only of theirs
    ∷ texts looped looped (with 10 0)
    ∷ texts looped "(in c)\n(gate p (and c p))\n" (with 10 0)
    -- 6 before both, of either block
    ∷ record { ours = block_words looped; theirs = 0 ∷ 0 ∷ []; answer = with 6 0 }
    ∷ record { ours = []; theirs = block_words looped; answer = with 6 0 }
    ∷ []

-- All comparisons of blocks come out as stated.
pub comparisons-hold : all holds comparisons ≡ true
unfolding code value_of invert is_defined row rows row_of is_not is_xor is_xnor is_kind signature_of fewest_operands most_operands
    arity_fits keyword ruled ones parity gate_value gates_at outputs_at is_letter is_digit is_underscore is_name_byte is_name_start
    is_legal_name is_plain_name is_node_name name_words bytes_at name_at node_word operand_of gate_words gate_at output_words output_at
    encode decode is_node is_operand gate_fits is_well_formed is_malformed operand_value evaluated round after_rounds is_stable
    rounds settled bit setting_of setting_count settled_under is_settled output_value gate_operand read_by is_straight pure stop
    on_test if_next expect on_parsed bind name_bytes name_after name_reader kind_reader spaced terms_reader expr_reader leaf_or
    term_reader add_input add_gate add_output input_line gate_line output_line at_end line outputs_reader gates_reader text_reader
    parse gates_in line_gates is_over_limit mentions lines_length gate_lines_at output_lines_at input_mention gate_mention
    port_mention shown_mention term_mentions operand_mentions declared_nodes declared_ports used_names first_repeat or_else
    first_duplicate first_outside first_undeclared input_bindings gate_bindings bindings lookup term_node terms_nodes term_gates
    lines_gates block_of refusal_number refusal_detail number_of count_of detail_of refuse_if refuse_at answer_of left_in counted
    read_tree read_parsed read_text report block_words with same_names ports same_interface outputs_under differs disagrees
    lowest_disagreement lowest_differing judged_at compare_blocks compare holds texts accepted looped comparisons nevers_at
    never_words never_at never_fits are_masks is_excluded is_counted is_sound_at print_never never_pairs add_never never_line
    nevers_reader never_lines_at never_mentions excluded_names lesser first_repeat_in assignment_of fixes agrees is_within mask_of
    is_one value_text pair_text print_pair bit_reader pair_reader spaced_pair pairs_reader pair_mention given_value print_lines
    print_input print_gate print_output print_term
comparisons-hold = refl

-- ---- CompareCells: the block's words, the cells' words, the list of shown nodes, and the answer

pub record CellComparison : Type 0 where
  pub block : List ℕ
  pub cells : List ℕ
  pub shown : List ℕ
  pub answer : List ℕ

unfoldable pub cells_hold : CellComparison → Bool
cells_hold c = same (report (compare_cells c.block c.cells c.shown)) c.answer

unfoldable pub of_looped : List ℕ → List ℕ → List ℕ → CellComparison
of_looped cells shown answer = record { block = block_words looped; cells = cells; shown = shown; answer = answer }

-- one cell, which inverts input 1, and whose truth word asks only its first operand
unfoldable pub inverter : List ℕ
inverter = 1 ∷ 65534 ∷ 65534 ∷ 65534 ∷ 21845 ∷ []

unfoldable pub cell_comparisons : List CellComparison
cell_comparisons =
    -- inputs may be shown, and no cell at all is enough; the setting that is not settled does not count
    of_looped [] (1 ∷ 0 ∷ []) accepted
    ∷ of_looped (inverter ++ (2 ∷ 2 ∷ 65534 ∷ 65534 ∷ 21845 ∷ [])) (3 ∷ 0 ∷ []) accepted
    -- the lowest setting, and there the lowest output, counted from 1
    ∷ of_looped [] (0 ∷ 1 ∷ []) (0 ∷ 1 ∷ 2 ∷ [])
    ∷ of_looped [] (1 ∷ 1 ∷ []) (0 ∷ 2 ∷ 2 ∷ [])
    ∷ of_looped inverter (2 ∷ 0 ∷ []) (0 ∷ 1 ∷ 0 ∷ [])
    -- 6 of the block; 6 of the cells before 12 of the list; 12 before 6 of a word, which is no node or a constant
    ∷ record { block = []; cells = []; shown = []; answer = with 6 0 }
    ∷ of_looped (1 ∷ 0 ∷ 0 ∷ 0 ∷ []) [] (with 6 0)
    ∷ of_looped (2 ∷ 0 ∷ 0 ∷ 0 ∷ 0 ∷ []) (1 ∷ 0 ∷ []) (with 6 0)
    ∷ of_looped [] (2 ∷ []) (with 12 0)
    ∷ of_looped [] (1 ∷ 2 ∷ []) (with 6 0)
    ∷ of_looped inverter (2 ∷ 65534 ∷ []) (with 6 0)
    ∷ []

pub cell_comparisons-hold : all cells_hold cell_comparisons ≡ true
unfolding code value_of invert is_defined row rows row_of is_not is_xor is_xnor is_kind signature_of fewest_operands most_operands
    arity_fits keyword ruled ones parity gate_value gates_at outputs_at is_letter is_digit is_underscore is_name_byte is_name_start
    is_legal_name is_plain_name is_node_name name_words bytes_at name_at node_word operand_of gate_words gate_at output_words output_at
    encode decode is_node is_operand gate_fits is_well_formed is_malformed operand_value evaluated round after_rounds is_stable
    rounds settled bit setting_of setting_count settled_under is_settled output_value gate_operand read_by is_straight pure stop
    on_test if_next expect on_parsed bind name_bytes name_after name_reader kind_reader spaced terms_reader expr_reader leaf_or
    term_reader add_input add_gate add_output input_line gate_line output_line at_end line outputs_reader gates_reader text_reader
    parse gates_in line_gates is_over_limit mentions lines_length gate_lines_at output_lines_at input_mention gate_mention
    port_mention shown_mention term_mentions operand_mentions declared_nodes declared_ports used_names first_repeat or_else
    first_duplicate first_outside first_undeclared input_bindings gate_bindings bindings lookup term_node terms_nodes term_gates
    lines_gates block_of refusal_number refusal_detail number_of count_of detail_of refuse_if refuse_at answer_of left_in counted
    read_tree read_parsed read_text report block_words with outputs_under accepted looped nevers_at never_words never_at
    never_fits are_masks is_excluded is_counted is_sound_at print_never never_pairs add_never never_line nevers_reader never_lines_at
    never_mentions excluded_names lesser first_repeat_in assignment_of fixes agrees is_within mask_of is_one value_text pair_text
    print_pair bit_reader pair_reader spaced_pair pairs_reader pair_mention given_value print_lines print_input print_gate
    print_output print_term operand_bit cell_count cell_at cells_in is_earlier reads_earlier are_legal_cells number_of_bits
    cell_value run_from cell_values is_listed setting_bits cell_shown cell_differs cells_disagree lowest_cell_disagreement
    lowest_cell_differing cells_judged_at compare_block_cells compare_cells cells_hold of_looped inverter cell_comparisons
cell_comparisons-hold = refl
