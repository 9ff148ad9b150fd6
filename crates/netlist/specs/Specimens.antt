-- SPECIFICATION 9.1 to 9.10 and 9.13 to 9.17: the worked examples as one claim over one list, computed from the
-- definitions. The starred specimens stand at its head; behind them those that tell the definitions from their near
-- misses, and worked examples of the bench.
use Rattle.std.specs.Prelude.{ℕ, suc, ◌≡◌, refl, Bool, true, List, [], ◌∷◌, ◌++◌, map, length, replicate}
use Prim.Native.String.{String}
use Rattle.prelude.specs.Lists.{ascii, same, all, repeated, tab, joined}
use Rattle.netlist.specs.declared.Record.{Record}
use Rattle.netlist.specs.Limits.{max_inputs}
use Rattle.netlist.specs.Values.{undefined, code, value_of, invert, is_defined}
use Rattle.netlist.specs.Netlist.{gate_count}
use Rattle.netlist.specs.Kinds.{row, rows, row_of, is_not, is_xor, is_xnor, is_kind, signature_of, fewest_operands}
use Rattle.netlist.specs.Kinds.{most_operands, arity_fits, keyword, ruled, ones, parity, gate_value}
use Rattle.netlist.specs.StoredBlock.{gates_at, outputs_at}
use Rattle.netlist.specs.Names.{is_letter, is_digit, is_underscore, is_name_byte, is_name_start, is_legal_name}
use Rattle.netlist.specs.Names.{is_plain_name}
use Rattle.netlist.specs.StoredBlock.{name_words, bytes_at, name_at, node_word, operand_of, gate_words, gate_at}
use Rattle.netlist.specs.StoredBlock.{output_words, output_at, encode}
use Rattle.netlist.specs.Names.{is_node_name}
use Rattle.netlist.specs.StoredBlock.{decode, is_node, is_operand, gate_fits, is_well_formed, is_malformed}
use Rattle.netlist.specs.Assignments.{bit}
use Rattle.netlist.specs.Rounds.{operand_value, evaluated, round, after_rounds, is_stable, rounds, settled}
use Rattle.netlist.specs.Rounds.{setting_of, setting_count, settled_under, is_settled, settled_settings}
use Rattle.netlist.specs.Rounds.{lowest_unsettled, output_value, outputs_under}
use Rattle.netlist.specs.Assignments.{fixes, agrees, is_within}
use Rattle.netlist.specs.Cover.{is_sound_under, is_sound, without, is_minimal, assignments_at, assignments, cover}
use Rattle.netlist.specs.Cover.{cover_entries}
use Rattle.netlist.specs.Groups.{gate_operand, read_by, reads, has, grown, grown_times, reach, reaches, same_group}
use Rattle.netlist.specs.Groups.{group_of, is_ready, may_be_next, groups_after, groups, group_number, group_numbers}
use Rattle.netlist.specs.Passes.{before_passes, after_passes, are_settled, are_enough, pass_count, copy_count}
use Rattle.netlist.specs.Rendering.{passes, schedule, no_copies, copied_operand, copied, copies, newest_after}
use Rattle.netlist.specs.Rendering.{last_copies, rendering, is_straight, sweep_from, sweep}
use Rattle.netlist.specs.Syntax.{print_term, print_input, print_gate, print_output, print_lines, print}
use Rattle.netlist.specs.Parse.{pure, stop, on_test, if_next, expect, on_parsed, bind, name_bytes, name_after}
use Rattle.netlist.specs.Parse.{name_reader, kind_reader, spaced, terms_reader, expr_reader, leaf_or, term_reader}
use Rattle.netlist.specs.Parse.{add_input, add_gate, add_output, input_line, gate_line, output_line, at_end, line}
use Rattle.netlist.specs.Parse.{outputs_reader, gates_reader, text_reader, parse}
use Rattle.netlist.specs.Reading.{gates_in, line_gates, is_over_limit, mentions, lines_length, gate_lines_at}
use Rattle.netlist.specs.Reading.{output_lines_at, input_mention, gate_mention, port_mention, shown_mention}
use Rattle.netlist.specs.Reading.{term_mentions, operand_mentions, declared_nodes, declared_ports, used_names}
use Rattle.netlist.specs.Reading.{first_repeat, or_else, first_duplicate, first_outside, first_undeclared}
use Rattle.netlist.specs.Reading.{input_bindings, gate_bindings, bindings, lookup, term_node, terms_nodes, term_gates}
use Rattle.netlist.specs.Reading.{lines_gates, block_of}
use Rattle.netlist.specs.Writing.{digits, decimal, gate_name, node_name_of, term_of, terms_of, flat_line, flat_tree}
use Rattle.netlist.specs.Writing.{written_text}
use Rattle.netlist.specs.Line.{clamped, start_before, until_lf, line_start, line_end, line_length, line_at}
use Rattle.netlist.specs.Answers.{Outcome, refusal_number, refusal_detail, number_of, count_of, detail_of, refuse_if}
use Rattle.netlist.specs.Answers.{refuse_at, in_room, answer_of, left_in}
use Rattle.netlist.specs.Operations.{counted, read_tree, read_parsed, read_text, read, is_bad_setting, settle_block}
use Rattle.netlist.specs.Operations.{settle, verdict, cover_block, cover_of, groups_block, groups_of, render_block}
use Rattle.netlist.specs.Operations.{render_words, render, pass_block, pass, write_words, write}
use Rattle.netlist.specs.Assignments.{mask_of, is_one}
use Rattle.netlist.specs.Sheet.{input_byte, setting_bytes, is_bad_masks, output_values, showing, refused_record}
use Rattle.netlist.specs.Sheet.{settled_outputs, record_of, answered_record, sheet_records, sheet}
use Rattle.netlist.specs.Program.{chained, refusal_line, shown, unloop}
use Rattle.netlist.specs.Syntax.{value_text, pair_text, print_pair}
use Rattle.netlist.specs.Parse.{bit_reader, pair_reader, spaced_pair, pairs_reader}
use Rattle.netlist.specs.SetLine.{set_line_reader}
use Rattle.netlist.specs.Reading.{pair_mention, given_value}
use Rattle.netlist.specs.Bench.{given_names, given_values, port_text, show_line, pairs_outcome, parsed_outcome}
use Rattle.netlist.specs.Bench.{line_outcome, answer_line, line_answer, netlist_from, settings_from, netlist_part}
use Rattle.netlist.specs.Bench.{settings_part, last_line, lines_from, lines_of, line_answers, bench_after, bench}
use Rattle.netlist.specs.StoredBlock.{nevers_at, never_words, never_at, never_fits}
use Rattle.netlist.specs.Assignments.{are_masks}
use Rattle.netlist.specs.Rounds.{is_excluded, is_counted, is_sound_at}
use Rattle.netlist.specs.Syntax.{print_never}
use Rattle.netlist.specs.Parse.{never_pairs, add_never, never_line, nevers_reader}
use Rattle.netlist.specs.Reading.{never_lines_at, never_mentions, excluded_names, lesser, first_repeat_in, assignment_of}
use Rattle.netlist.specs.Writing.{pairs_of}
use Rattle.netlist.specs.Bring.{encode_before, brought, is_malformed_before, bring_words, bring}
use Rattle.netlist.specs.Steps.{step_at, run}
use Rattle.netlist.specs.Cells.{truth_bit, truth_word, cell_words, cells_of, make_words, make_cells, cell_count, cell_at}
use Rattle.netlist.specs.Cells.{cells_in, is_earlier, reads_earlier, are_legal_cells, is_bad_run, operand_bit}
use Rattle.netlist.specs.Cells.{number_of_bits, cell_value, run_from, cell_values, run_cells}
use Rattle.netlist.specs.Gather.{renumbered, renumbered_gate, renumbered_output, arranged, number_at, place_in}
use Rattle.netlist.specs.Gather.{gathered_order, gathered, lacks_room, gather_with, gathered_words, gather}
use Rattle.netlist.specs.Gather.{gather_list, is_permutation, inverse, scattered, scatter}

-- What is asked. Where an operation takes a block, the question gives the block's text or its words; `room` is the
-- slice's length.
pub data Question : Type 0 where
  to_read : List ℕ → (room : ℕ) → Question
  to_settle to_pass : List ℕ → (setting : List ℕ) → (room : ℕ) → Question
  to_judge : List ℕ → Question
  to_cover to_group to_render to_write to_bring : List ℕ → (room : ℕ) → Question
  to_show_line : List ℕ → (place : ℕ) → Question
  to_count_passes to_count_copies to_unloop : List ℕ → Question
  to_answer_line : List ℕ → (line : List ℕ) → (room : ℕ) → Question
  to_bench : List ℕ → Question
  to_fill : List ℕ → List Record → Question
  to_make_cells : List ℕ → (room : ℕ) → Question
  to_run_cells : (inputs : ℕ) → (cells setting : List ℕ) → (room : ℕ) → Question
  to_gather : List ℕ → (room list_room : ℕ) → Question
  to_scatter : List ℕ → (order : List ℕ) → (room : ℕ) → Question
  to_step : List ℕ → (setting gates : List ℕ) → Question

-- an answer as numbers: number, count and detail, and then the result
unfoldable pub report : Outcome → List ℕ
report o = number_of (answer_of o) ∷ count_of (answer_of o) ∷ detail_of (answer_of o) ∷ left_in o []

-- a record whose answer is not asked yet: what stands there is the caller's
unfoldable pub asks : ℕ → ℕ → Record
asks fixed ones = record { fixed = fixed; ones = ones; number = 9; defined = 9; values = 9 }

unfoldable pub fields : Record → List ℕ
fields r = r.fixed ∷ r.ones ∷ r.number ∷ r.defined ∷ r.values ∷ []

-- what the definitions answer to a question
unfoldable pub answered : Question → List ℕ
answered (to_read text room) = report (read text room)
answered (to_settle ws setting room) = report (settle ws setting room)
answered (to_pass ws setting room) = report (pass ws setting room)
answered (to_judge ws) = report (verdict ws)
answered (to_cover ws room) = report (cover_of ws room)
answered (to_group ws room) = report (groups_of ws room)
answered (to_render ws room) = report (render ws room)
answered (to_write ws room) = report (write ws room)
answered (to_bring ws room) = report (bring ws room)
answered (to_show_line text place) = line_at text place
answered (to_count_passes ws) = map (pass_count (decode ws)) (groups (decode ws))
answered (to_count_copies ws) = copy_count (decode ws) ∷ []
answered (to_unloop text) = unloop text
answered (to_answer_line ws line room) = report (answer_line ws line room)
answered (to_bench input) = bench input
answered (to_fill ws rs) = report (sheet ws (length rs)) ++ joined (map fields (sheet_records ws rs))
answered (to_make_cells ws room) = report (make_cells ws room)
answered (to_run_cells inputs cells setting room) = report (run_cells inputs cells setting room)
answered (to_gather ws room list_room) = report (gather ws room list_room) ++ left_in (gather_list ws room list_room) []
answered (to_scatter ws order room) = report (scatter ws order room)
answered (to_step ws setting gates) =
    map code (run (decode ws) (map value_of setting) gates (replicate (gate_count (decode ws)) undefined))

pub record Specimen : Type 0 where
  pub asked : Question
  pub answer : List ℕ

unfoldable pub right : Specimen → Bool
right s = same (answered s.asked) s.answer

-- the words of a text that is read
unfoldable pub block_words : String → List ℕ
block_words text = left_in (read_text (ascii text)) []

infixl 5 ◌⇒◌
unfoldable pub ◌⇒◌ : Question → List ℕ → Specimen
q ⇒ a = record { asked = q; answer = a }

-- refused with this number and detail
unfoldable pub with : ℕ → ℕ → List ℕ
with number detail = number ∷ 0 ∷ detail ∷ []

unfoldable pub specimen4 : String
specimen4 = "(in a)\n(in b)\n(gate p (and a q))\n(gate q (or b p))\n(out y q)\n"

unfoldable pub specimen6 : String
specimen6 =
    "(in a)\n(in b)\n(in c)\n(in d)\n(in x)\n(gate g1 (and x g6))\n(gate g2 (or a g1))\n(gate g3 (and b g2))\n(gate g4 (or x g3))\n(gate g5 (and c g4))\n(gate g6 (or d g5))\n(out y g6)\n"

unfoldable pub rendered6 : String
rendered6 =
    "(in a)\n(in b)\n(in c)\n(in d)\n(in x)\n(gate _0 (and x 0))\n(gate _1 (or a _0))\n(gate _2 (and b _1))\n(gate _3 (or x _2))\n(gate _4 (and c _3))\n(gate _5 (or d _4))\n(gate _6 (and x _5))\n(gate _7 (or a _6))\n(gate _8 (and b _7))\n(gate _9 (or x _8))\n(gate _10 (and c _9))\n(gate _11 (or d _10))\n(out y _11)\n"

-- a loop for a probe, which no output needs
unfoldable pub spare : String
spare = "(in a)\n(gate t (not t))\n(gate p (not a))\n(out y p)\n(out z a)\n"

-- xor and xnor of two, three and four operands
unfoldable pub parities : String
parities =
    "(in a)\n(in b)\n(in c)\n(in d)\n(gate p (xor a b))\n(gate q (xnor a b))\n(gate r (xor a b c))\n(gate s (xnor a b c))\n(gate t (xor a b c d))\n(gate u (xnor a b c d))\n"

-- xor in a loop that every setting opens: at s = 0 by p, at s = 1 by the inner `and`
unfoldable pub parity_loop : String
parity_loop = "(in a)\n(in s)\n(gate p (and s q))\n(gate q (xor a (and p (not s))))\n(out y q)\n"

-- the loop of specimen 4, with outputs
unfoldable pub shown4 : String
shown4 = "(in a)\n(in b)\n(gate p (and a q))\n(gate q (or b p))\n(out y q)\n(out z a)\n"

-- every row of the table of kinds, and `not`
unfoldable pub kinds : String
kinds =
    "(in a)\n(gate p (and a 0))\n(gate q (or 1 a))\n(gate r (nand a 0))\n(gate s (nor a 1 1 1))\n(gate t (not a))\n(gate u (nand a 1 1))\n(gate v (nor 0 0 a 0))\n"

-- two inputs, and ports whose order is neither that of the gates nor that of the letters
unfoldable pub board : String
board = "(in a)\n(in b)\n(gate g (and a b))\n(gate h (or a b))\n(out z h)\n(out y g)\n(out x a)\n"

-- a loop that never settles, and two inputs that are never both 1
unfoldable pub never11 : String
never11 = "(in a)\n(in b)\n(never (a 1) (b 1))\n(gate p (not p))\n(out y p)\n"

-- the loop of specimen 4, whose one unsettled setting never comes
unfoldable pub never4 : String
never4 = "(in a)\n(in b)\n(never (b 0) (a 1))\n(gate p (and a q))\n(gate q (or b p))\n(out y q)\n"

-- every setting excluded, one of them twice
unfoldable pub never_any : String
never_any = "(in a)\n(never (a 0))\n(never (a 1))\n(never (a 0))\n(gate p (not p))\n(out y p)\n"

-- gates whose groups' order is not theirs, with one that reads a later one
unfoldable pub unordered : String
unordered = "(gate a (not d))\n(gate b (not 0))\n(gate c (and a 1))\n(gate d (not 1))\n(out y c)\n"

-- the words of the block above with its groups side by side, and the gates' old numbers
unfoldable pub ordered : List ℕ
ordered =
    0 ∷ 4 ∷ 1 ∷ 0 ∷ 8 ∷ 65534 ∷ 0 ∷ 0 ∷ 0 ∷ 8 ∷ 65535 ∷ 0 ∷ 0 ∷ 0 ∷ 8 ∷ 1 ∷ 0 ∷ 0 ∷ 0 ∷ 17 ∷ 2 ∷ 65535 ∷ 0 ∷ 0 ∷ 121 ∷ 0
    ∷ 0 ∷ 0 ∷ 3 ∷ []

unfoldable pub order_of : List ℕ
order_of = 1 ∷ 3 ∷ 0 ∷ 2 ∷ []

-- the cells of a straight block with a constant and absent operands
unfoldable pub straight_cells : List ℕ
straight_cells =
    0 ∷ 65535 ∷ 65534 ∷ 65534 ∷ 34952 ∷ 0 ∷ 1 ∷ 65534 ∷ 65534 ∷ 38550 ∷ 2 ∷ 65534 ∷ 65534 ∷ 65534 ∷ 21845 ∷ []

-- n inputs with names of their own, and one input line more than the limit with the same name each
unfoldable pub input_lines : ℕ → List ℕ
input_lines n = joined (tab (λ i. ascii "(in a" ++ (decimal i ++ ascii ")\n")) n)

unfoldable pub too_many_inputs : List ℕ
too_many_inputs = repeated (suc max_inputs) (ascii "(in a)\n")

unfoldable pub specimens : List Specimen
specimens =
    -- The starred specimens of the scope, in its order. 9.1
    (to_read (ascii "") 4 ⇒ 0 ∷ 4 ∷ 0 ∷ 0 ∷ 0 ∷ 0 ∷ 0 ∷ [])
    ∷ (to_judge (block_words "") ⇒ 0 ∷ 1 ∷ 1 ∷ [])
    ∷ (to_cover (block_words "") 2 ⇒ 0 ∷ 1 ∷ 0 ∷ 0 ∷ 0 ∷ [])
    ∷ (to_render (block_words "") 4 ⇒ 0 ∷ 4 ∷ 0 ∷ 0 ∷ 0 ∷ 0 ∷ 0 ∷ [])
    -- 9.2
    ∷ (to_read (ascii "(in a)") 99 ⇒ with 2 6)
    ∷ (to_read (ascii "(in _a)\n") 99 ⇒ with 2 4)
    -- 9.2: a name twice, and one that is not declared
    ∷ (to_read (ascii "(in a)\n(in a)\n") 99 ⇒ with 4 11)
    ∷ (to_read (ascii "(in a)\n(gate p (not r))\n") 99 ⇒ with 5 20)
    -- 9.4
    ∷ (to_judge (block_words specimen4) ⇒ 0 ∷ 3 ∷ 1 ∷ [])
    ∷ (to_cover (block_words specimen4) 4 ⇒ 0 ∷ 2 ∷ 0 ∷ 1 ∷ 0 ∷ 2 ∷ 2 ∷ [])
    ∷ (to_render (block_words specimen4) 99 ⇒ with 9 1)
    -- 9.4: a gate that reads itself
    ∷ (to_render (block_words "(gate p (or p (not p)))\n(out y p)\n") 99 ⇒ with 9 0)
    ∷ (to_unloop (ascii "(gate p (or p 1))\n(out y p)\n") ⇒ ascii "(gate _0 (or 0 1))\n(out y _0)\n")
    -- 9.5
    ∷ (to_judge (block_words specimen6) ⇒ 0 ∷ 32 ∷ 32 ∷ [])
    ∷ (to_settle (block_words specimen6) (0 ∷ 1 ∷ 1 ∷ 0 ∷ 0 ∷ []) 6 ⇒ 0 ∷ 6 ∷ 0 ∷ 0 ∷ 0 ∷ 0 ∷ 0 ∷ 0 ∷ 0 ∷ [])
    ∷ (to_count_passes (block_words specimen6) ⇒ 2 ∷ [])
    ∷ (to_count_copies (block_words specimen6) ⇒ 12 ∷ [])
    ∷ (to_unloop (ascii specimen6) ⇒ ascii rendered6)
    -- 9.7: the whole of a rendered text
    ∷ (to_unloop (ascii "(in s)\n(gate p (and s q))\n(gate q (or s p))\n(out y q)\n")
    ⇒ ascii "(in s)\n(gate _0 (and s 0))\n(gate _1 (or s _0))\n(gate _2 (and s _1))\n(gate _3 (or s _2))\n(out y _3)\n")
    -- the other worked examples
    -- 9.4: a loop that no output needs, an output that shows an input, and no output at all
    ∷ (to_judge (block_words spare) ⇒ 0 ∷ 2 ∷ 2 ∷ [])
    ∷ (to_cover (block_words spare) 2 ⇒ 0 ∷ 1 ∷ 0 ∷ 0 ∷ 0 ∷ [])
    ∷ (to_unloop (ascii spare) ⇒ ascii "(in a)\n(gate _0 (not 0))\n(gate _1 (not a))\n(out y _1)\n(out z a)\n")
    ∷ (to_judge (block_words "(in a)\n(gate t (nand t a))\n") ⇒ 0 ∷ 2 ∷ 2 ∷ [])
    ∷ (to_cover (block_words "(in a)\n(gate t (nand t a))\n") 2 ⇒ 0 ∷ 1 ∷ 0 ∷ 0 ∷ 0 ∷ [])
    ∷ (to_unloop (ascii "(in a)\n(gate t (nand t a))\n") ⇒ ascii "(in a)\n(gate _0 (nand 0 a))\n")
    -- 9.2: places of refusal 2
    ∷ (to_read (ascii "(") 99 ⇒ with 2 1)
    ∷ (to_read (ascii "(x") 99 ⇒ with 2 1)
    ∷ (to_read (ascii "(in a") 99 ⇒ with 2 5)
    ∷ (to_read (ascii "(in a)\r\n") 99 ⇒ with 2 6)
    ∷ (to_read (ascii "(in a)\n\n") 99 ⇒ with 2 7)
    ∷ (to_read (ascii "(in abcdefghi)\n") 99 ⇒ with 2 12)
    ∷ (to_read (ascii "(gate p (no p))\n") 99 ⇒ with 2 11)
    ∷ (to_read (ascii "(gate p (and 01))\n") 99 ⇒ with 2 14)
    ∷ (to_read (ascii "(gate p (and p))\n") 99 ⇒ with 2 14)
    ∷ (to_read (ascii "(gate p (not p p))\n") 99 ⇒ with 2 14)
    ∷ (to_read (ascii "(gate p (and p p p p p))\n") 99 ⇒ with 2 20)
    ∷ (to_read (ascii "(gate p (not p)\n") 99 ⇒ with 2 15)
    ∷ (to_read (ascii "(gate p (x") 99 ⇒ with 2 10)
    ∷ (to_read (ascii "(gate p (xa") 99 ⇒ with 2 10)
    ∷ (to_read (ascii "(gate p (xo") 99 ⇒ with 2 11)
    ∷ (to_read (ascii "(gate p (xno ") 99 ⇒ with 2 12)
    ∷ (to_read (ascii "(gate p (xor p))\n") 99 ⇒ with 2 14)
    ∷ (to_read (ascii "(gate p (xnor p p p p p))\n") 99 ⇒ with 2 21)
    ∷ (to_read (ascii "(gate p q)\n") 99 ⇒ with 2 8)
    ∷ (to_read (ascii "(gate p (not (not (not (not (not (not (not (not (") 99 ⇒ with 2 48)
    ∷ (to_read (ascii "(out _y a)\n") 99 ⇒ with 2 5)
    ∷ (to_read (ascii "(out y 0)\n") 99 ⇒ with 2 7)
    ∷ (to_read (ascii "(gate p (not 0))\n(in a)\n") 99 ⇒ with 2 18)
    -- 9.2: the order of Read's conditions; the texts at the limit of 61,440 bytes are executed
    -- (tests/tests/specimens.rs)
    ∷ (to_read (too_many_inputs ++ ascii "(in") 0 ⇒ with 2 94)
    ∷ (to_read too_many_inputs 0 ⇒ with 3 0)
    ∷ (to_read (input_lines max_inputs) 0 ⇒ with 11 0)
    ∷ (to_read (input_lines (suc max_inputs)) 0 ⇒ with 3 0)
    ∷ (to_read (ascii "(in a)\n(in b)\n(in b)\n(in a)\n(gate p (not q))\n") 0 ⇒ with 4 18)
    ∷ (to_read (ascii "(in a)\n(out a p)\n(out a a)\n(out a a)\n") 0 ⇒ with 4 22)
    ∷ (to_read (ascii "(in a)\n(gate p (and q (not r)))\n(out q p)\n") 0 ⇒ with 5 20)
    ∷ (to_read (ascii "(gate p (not 0))\n(out y _a)\n") 0 ⇒ with 5 24)
    ∷ (to_read (ascii "(in a)\n") 7 ⇒ with 11 0)
    -- 9.3: gates are numbered by their closing bracket, and a name may be used before its line; no word is reserved
    ∷ (to_read (ascii "(in in)\n(gate gate (and (not in) (or gate _ 1)))\n(gate _ (not in))\n(out in gate)\n") 33
    ⇒ 0 ∷ 33 ∷ 0 ∷ 1 ∷ 4 ∷ 1 ∷ 0 ∷ 28265 ∷ 0 ∷ 0 ∷ 0
    ∷ 8 ∷ 0 ∷ 0 ∷ 0 ∷ 0 ∷ 26 ∷ 3 ∷ 4 ∷ 65535 ∷ 0 ∷ 17 ∷ 1 ∷ 2 ∷ 0 ∷ 0 ∷ 8 ∷ 0 ∷ 0 ∷ 0 ∷ 0
    ∷ 28265 ∷ 0 ∷ 0 ∷ 0 ∷ 3 ∷ [])
    -- 9.6: the table of kinds, at 2, 1 and 0; Pass gives Settle's values
    ∷ (to_settle (block_words kinds) (2 ∷ []) 7 ⇒ 0 ∷ 1 ∷ 0 ∷ 0 ∷ 1 ∷ 1 ∷ 0 ∷ 2 ∷ 2 ∷ 2 ∷ [])
    ∷ (to_settle (block_words kinds) (1 ∷ []) 7 ⇒ 0 ∷ 1 ∷ 0 ∷ 0 ∷ 1 ∷ 1 ∷ 0 ∷ 0 ∷ 0 ∷ 0 ∷ [])
    ∷ (to_settle (block_words kinds) (0 ∷ []) 7 ⇒ 0 ∷ 1 ∷ 0 ∷ 0 ∷ 1 ∷ 1 ∷ 0 ∷ 1 ∷ 1 ∷ 1 ∷ [])
    ∷ (to_pass (block_words kinds) (2 ∷ []) 7 ⇒ 0 ∷ 7 ∷ 0 ∷ 0 ∷ 1 ∷ 1 ∷ 0 ∷ 2 ∷ 2 ∷ 2 ∷ [])
    -- 9.6: xor and xnor at 0, 1 and undefined; of an undefined gate with itself
    ∷ (to_settle (block_words parities) (0 ∷ 0 ∷ 0 ∷ 0 ∷ []) 6 ⇒ 0 ∷ 1 ∷ 0 ∷ 0 ∷ 1 ∷ 0 ∷ 1 ∷ 0 ∷ 1 ∷ [])
    ∷ (to_settle (block_words parities) (1 ∷ 0 ∷ 0 ∷ 0 ∷ []) 6 ⇒ 0 ∷ 1 ∷ 0 ∷ 1 ∷ 0 ∷ 1 ∷ 0 ∷ 1 ∷ 0 ∷ [])
    ∷ (to_settle (block_words parities) (1 ∷ 1 ∷ 1 ∷ 0 ∷ []) 6 ⇒ 0 ∷ 1 ∷ 0 ∷ 0 ∷ 1 ∷ 1 ∷ 0 ∷ 1 ∷ 0 ∷ [])
    ∷ (to_settle (block_words parities) (1 ∷ 1 ∷ 1 ∷ 1 ∷ []) 6 ⇒ 0 ∷ 1 ∷ 0 ∷ 0 ∷ 1 ∷ 1 ∷ 0 ∷ 0 ∷ 1 ∷ [])
    ∷ (to_settle (block_words parities) (0 ∷ 1 ∷ 0 ∷ 2 ∷ []) 6 ⇒ 0 ∷ 1 ∷ 0 ∷ 1 ∷ 0 ∷ 1 ∷ 0 ∷ 2 ∷ 2 ∷ [])
    ∷ (to_settle (block_words parities) (2 ∷ 1 ∷ 1 ∷ 1 ∷ []) 6 ⇒ 0 ∷ 0 ∷ 0 ∷ 2 ∷ 2 ∷ 2 ∷ 2 ∷ 2 ∷ 2 ∷ [])
    ∷ (to_settle (block_words "(gate p (not p))\n(gate q (xor p p))\n(gate r (xnor p p))\n") [] 3
    ⇒ 0 ∷ 0 ∷ 0 ∷ 2 ∷ 2 ∷ 2 ∷ [])
    -- 9.7: a loop with xor, rendered whole
    ∷ (to_unloop (ascii parity_loop)
    ⇒ ascii "(in a)\n(in s)\n(gate _0 (not s))\n(gate _1 (and s 0))\n(gate _2 (and _1 _0))\n"
    ++ ascii "(gate _3 (xor a _2))\n(gate _4 (and s _3))\n(gate _5 (and _4 _0))\n(gate _6 (xor a _5))\n"
    ++ ascii "(out y _6)\n")
    -- 9.4, 9.6, 9.7: the order of conditions: 6 before 7 before 11, 10 before 7, 9 before 11
    ∷ (to_settle [] (3 ∷ []) 0 ⇒ with 6 0)
    ∷ (to_settle (block_words kinds) (3 ∷ []) 0 ⇒ with 7 0)
    ∷ (to_settle (block_words kinds) [] 0 ⇒ with 7 0)
    ∷ (to_settle (block_words kinds) (2 ∷ []) 6 ⇒ with 11 0)
    ∷ (to_pass (block_words specimen4) [] 0 ⇒ with 10 0)
    ∷ (to_pass (block_words kinds) [] 0 ⇒ with 7 0)
    ∷ (to_render (block_words specimen4) 0 ⇒ with 9 1)
    ∷ (to_render (block_words kinds) 42 ⇒ with 11 0)
    -- 9.7: the next group is the one with the lowest gate among those ready
    ∷ (to_group (block_words "(gate a (not d))\n(gate b (not 0))\n(gate c (and a 1))\n(gate d (not 1))\n") 4
    ⇒ 0 ∷ 4 ∷ 0 ∷ 2 ∷ 0 ∷ 3 ∷ 1 ∷ [])
    ∷ (to_group (block_words specimen4) 2 ⇒ 0 ∷ 1 ∷ 0 ∷ 0 ∷ 0 ∷ [])
    -- 9.7: forward references without a loop; a straight block renders to itself; depth 8
    ∷ (to_unloop (ascii "(in a)\n(gate p (not q))\n(gate q (not 1))\n(out y p)\n(out z a)\n")
    ⇒ ascii "(in a)\n(gate _0 (not 1))\n(gate _1 (not _0))\n(out y _1)\n(out z a)\n")
    ∷ (to_unloop (ascii "(in a)\n(gate _0 (not a))\n(gate _1 (and _0 a 1))\n(out y _0)\n")
    ⇒ ascii "(in a)\n(gate _0 (not a))\n(gate _1 (and _0 a 1))\n(out y _0)\n")
    ∷ (to_unloop (ascii "(gate p (not (not (not (not (not (not (not (not 1)))))))))\n")
    ⇒ ascii "(gate _0 (not 1))\n(gate _1 (not _0))\n(gate _2 (not _1))\n(gate _3 (not _2))\n(gate _4 (not _3))\n"
    ++ ascii "(gate _5 (not _4))\n(gate _6 (not _5))\n(gate _7 (not _6))\n")
    ∷ (to_unloop (ascii "(in _a)\n") ⇒ ascii "(refused 2 4)\n")
    -- 9.3, malformed: fewer than four words; one word too many; a zero byte inside a name; a name twice; an operand
    -- that is no node; kind 7; an xor of one; a `not` of two; an operand behind the count; an output that shows a
    -- constant. Four that are whole stand between them
    ∷ (to_write (0 ∷ 0 ∷ 0 ∷ []) 99 ⇒ with 6 0)
    ∷ (to_write (0 ∷ 0 ∷ 0 ∷ 0 ∷ 0 ∷ []) 99 ⇒ with 6 0)
    ∷ (to_write (1 ∷ 0 ∷ 0 ∷ 0 ∷ 97 ∷ 0 ∷ 0 ∷ 0 ∷ []) 7 ⇒ 0 ∷ 7 ∷ 0 ∷ ascii "(in a)\n")
    ∷ (to_write (1 ∷ 0 ∷ 0 ∷ 0 ∷ 97 ∷ 98 ∷ 0 ∷ 0 ∷ []) 99 ⇒ with 6 0)
    ∷ (to_write (2 ∷ 0 ∷ 0 ∷ 0 ∷ 97 ∷ 0 ∷ 0 ∷ 0 ∷ 97 ∷ 0 ∷ 0 ∷ 0 ∷ []) 99 ⇒ with 6 0)
    ∷ (to_write (0 ∷ 1 ∷ 0 ∷ 0 ∷ 8 ∷ 0 ∷ 0 ∷ 0 ∷ 0 ∷ []) 99 ⇒ 0 ∷ 19 ∷ 0 ∷ ascii "(gate _0 (not _0))\n")
    ∷ (to_write (0 ∷ 1 ∷ 0 ∷ 0 ∷ 21 ∷ 0 ∷ 0 ∷ 0 ∷ 0 ∷ []) 99 ⇒ 0 ∷ 22 ∷ 0 ∷ ascii "(gate _0 (xor _0 _0))\n")
    ∷ (to_write (0 ∷ 1 ∷ 0 ∷ 0 ∷ 22 ∷ 0 ∷ 0 ∷ 0 ∷ 0 ∷ []) 99 ⇒ 0 ∷ 23 ∷ 0 ∷ ascii "(gate _0 (xnor _0 _0))\n")
    ∷ (to_write (0 ∷ 1 ∷ 0 ∷ 0 ∷ 8 ∷ 1 ∷ 0 ∷ 0 ∷ 0 ∷ []) 99 ⇒ with 6 0)
    ∷ (to_write (0 ∷ 1 ∷ 0 ∷ 0 ∷ 23 ∷ 0 ∷ 0 ∷ 0 ∷ 0 ∷ []) 99 ⇒ with 6 0)
    ∷ (to_write (0 ∷ 1 ∷ 0 ∷ 0 ∷ 13 ∷ 0 ∷ 0 ∷ 0 ∷ 0 ∷ []) 99 ⇒ with 6 0)
    ∷ (to_write (0 ∷ 1 ∷ 0 ∷ 0 ∷ 16 ∷ 0 ∷ 0 ∷ 0 ∷ 0 ∷ []) 99 ⇒ with 6 0)
    ∷ (to_write (0 ∷ 1 ∷ 0 ∷ 0 ∷ 8 ∷ 0 ∷ 65534 ∷ 0 ∷ 0 ∷ []) 99 ⇒ with 6 0)
    ∷ (to_write (0 ∷ 0 ∷ 1 ∷ 0 ∷ 97 ∷ 0 ∷ 0 ∷ 0 ∷ 65534 ∷ []) 99 ⇒ with 6 0)
    -- 9.8: an LF belongs to the line it ends; a place past the end
    ∷ (to_show_line (ascii "ab\ncd") 2 ⇒ ascii "ab")
    ∷ (to_show_line (ascii "ab\ncd") 3 ⇒ ascii "cd")
    ∷ (to_show_line (ascii "ab\ncd") 99 ⇒ ascii "cd")
    ∷ (to_show_line (ascii "ab\n") 3 ⇒ [])
    -- 9.13, never lines: their words; one more than fits, a name again in one line and in two, and the least place of
    -- all repeats
    ∷ (to_read (ascii "(in a)\n(in b)\n(never (b 1) (a 0))\n") 14
    ⇒ 0 ∷ 14 ∷ 0 ∷ 2 ∷ 0 ∷ 0 ∷ 1 ∷ 97 ∷ 0 ∷ 0 ∷ 0 ∷ 98 ∷ 0 ∷ 0 ∷ 0 ∷ 3 ∷ 2 ∷ [])
    ∷ (to_read (ascii "(in a)\n" ++ repeated 8 (ascii "(never (a 1))\n")) 0 ⇒ with 11 0)
    ∷ (to_read (ascii "(in a)\n" ++ repeated 9 (ascii "(never (a 1))\n")) 0 ⇒ with 3 0)
    ∷ (to_read (ascii "(in a)\n(never (a 1) (a 0))\n(gate a (not q))\n") 0 ⇒ with 4 21)
    ∷ (to_read (ascii "(in a)\n(in a)\n(never (a 1) (a 1))\n") 0 ⇒ with 4 11)
    -- a name that no input declares, also where a gate does
    ∷ (to_read (ascii "(in a)\n(never (a 1) (p 1))\n(gate p (not q))\n") 0 ⇒ with 5 21)
    ∷ (to_read (ascii "(in a)\n(never (a 1))\n(gate p (not q))\n") 0 ⇒ with 5 34)
    ∷ (to_read (ascii "(never (_a 1) (b 1))\n") 0 ⇒ with 5 8)
    -- out of form: no pair; a value that is none; before an input, behind a gate; cut off
    ∷ (to_read (ascii "(never)\n") 0 ⇒ with 2 6)
    ∷ (to_read (ascii "(never (a u))\n") 0 ⇒ with 2 10)
    ∷ (to_read (ascii "(never (a 1))\n(in a)\n") 0 ⇒ with 2 15)
    ∷ (to_read (ascii "(gate p (not 0))\n(never (a 1))\n") 0 ⇒ with 2 18)
    ∷ (to_read (ascii "(na") 0 ⇒ with 2 2)
    ∷ (to_read (ascii "(never (a 1)") 0 ⇒ with 2 12)
    -- malformed: no input fixed; a bit at n; a value bit outside; one that is whole
    ∷ (to_write (1 ∷ 0 ∷ 0 ∷ 1 ∷ 97 ∷ 0 ∷ 0 ∷ 0 ∷ 0 ∷ 0 ∷ []) 99 ⇒ with 6 0)
    ∷ (to_write (1 ∷ 0 ∷ 0 ∷ 1 ∷ 97 ∷ 0 ∷ 0 ∷ 0 ∷ 3 ∷ 1 ∷ []) 99 ⇒ with 6 0)
    ∷ (to_write (1 ∷ 0 ∷ 0 ∷ 1 ∷ 97 ∷ 0 ∷ 0 ∷ 0 ∷ 1 ∷ 2 ∷ []) 99 ⇒ with 6 0)
    ∷ (to_write (1 ∷ 0 ∷ 0 ∷ 1 ∷ 97 ∷ 0 ∷ 0 ∷ 0 ∷ 1 ∷ 1 ∷ []) 99 ⇒ 0 ∷ 21 ∷ 0 ∷ ascii "(in a)\n(never (a 1))\n")
    -- a setting that never comes is neither counted nor reported, and is in no assignment's way; pairs are written by
    -- ascending input
    ∷ (to_judge (block_words never11) ⇒ 0 ∷ 0 ∷ 0 ∷ [])
    ∷ (to_cover (block_words never11) 2 ⇒ 0 ∷ 1 ∷ 0 ∷ 3 ∷ 3 ∷ [])
    ∷ (to_judge (block_words never4) ⇒ 0 ∷ 3 ∷ 4 ∷ [])
    ∷ (to_cover (block_words never4) 2 ⇒ 0 ∷ 1 ∷ 0 ∷ 0 ∷ 0 ∷ [])
    ∷ (to_unloop (ascii never4)
    ⇒ ascii
    "(in a)\n(in b)\n(never (a 1) (b 0))\n(gate _0 (and a 0))\n(gate _1 (or b _0))\n(gate _2 (and a _1))\n(gate _3 (or b _2))\n(out y _3)\n")
    ∷ (to_settle (block_words never4) (1 ∷ 0 ∷ []) 2 ⇒ 0 ∷ 0 ∷ 0 ∷ 2 ∷ 2 ∷ [])
    ∷ (to_judge (block_words "(in a)\n(never (a 0))\n(gate p (not a))\n(out y p)\n") ⇒ 0 ∷ 1 ∷ 2 ∷ [])
    -- all settings excluded
    ∷ (to_judge (block_words never_any) ⇒ 0 ∷ 0 ∷ 2 ∷ [])
    ∷ (to_cover (block_words never_any) 2 ⇒ 0 ∷ 1 ∷ 0 ∷ 0 ∷ 0 ∷ [])
    ∷ (to_unloop (ascii never_any)
    ⇒ ascii "(in a)\n(never (a 0))\n(never (a 1))\n(never (a 0))\n(gate _0 (not 0))\n(out y _0)\n")
    -- 9.13, Bring: a fourth count, 0; the words of today, or of more inputs than there were, are malformed to it
    ∷ (to_bring (1 ∷ 0 ∷ 0 ∷ 97 ∷ 0 ∷ 0 ∷ 0 ∷ []) 8 ⇒ 0 ∷ 8 ∷ 0 ∷ 1 ∷ 0 ∷ 0 ∷ 0 ∷ 97 ∷ 0 ∷ 0 ∷ 0 ∷ [])
    ∷ (to_bring (0 ∷ 0 ∷ 0 ∷ []) 3 ⇒ with 11 0)
    ∷ (to_bring (0 ∷ 0 ∷ 0 ∷ 0 ∷ []) 0 ⇒ with 6 0)
    ∷ (to_bring (0 ∷ 0 ∷ []) 0 ⇒ with 6 0)
    -- 9.14, cells: operands in order, absent ones constant 0; the word knows neither constants nor absent operands
    ∷ (to_make_cells (block_words "(in a)\n(gate p (and a 1))\n(gate q (xor a p 0))\n(gate r (not q))\n") 15
    ⇒ 0 ∷ 15 ∷ 0 ∷ straight_cells)
    ∷ (to_make_cells (block_words "(in a)\n(gate p (and a 1))\n") 4 ⇒ with 11 0)
    ∷ (to_make_cells (block_words specimen4) 0 ⇒ with 10 0)
    ∷ (to_make_cells [] 0 ⇒ with 6 0)
    -- operand i is bit i of the place in the truth word; cells made elsewhere
    ∷ (to_run_cells 1 straight_cells (1 ∷ []) 3 ⇒ 0 ∷ 3 ∷ 0 ∷ 1 ∷ 0 ∷ 1 ∷ [])
    ∷ (to_run_cells 1 straight_cells (0 ∷ []) 3 ⇒ 0 ∷ 3 ∷ 0 ∷ 0 ∷ 0 ∷ 1 ∷ [])
    ∷ (to_run_cells 0 (65535 ∷ 65534 ∷ 65534 ∷ 65534 ∷ 2 ∷ 0 ∷ 65534 ∷ 65534 ∷ 0 ∷ 512 ∷ []) [] 2
    ⇒ 0 ∷ 2 ∷ 0 ∷ 1 ∷ 1 ∷ [])
    ∷ (to_run_cells 12 [] (replicate 12 1) 0 ⇒ 0 ∷ 0 ∷ 0 ∷ [])
    -- malformed: an input too many, a cell cut off, one that reads itself, no node; then the setting, then the room
    ∷ (to_run_cells 13 [] (replicate 13 1) 0 ⇒ with 6 0)
    ∷ (to_run_cells 1 (0 ∷ 0 ∷ 0 ∷ 0 ∷ []) [] 0 ⇒ with 6 0)
    ∷ (to_run_cells 1 (0 ∷ 1 ∷ 0 ∷ 0 ∷ 0 ∷ []) (2 ∷ []) 0 ⇒ with 6 0)
    ∷ (to_run_cells 1 (0 ∷ 0 ∷ 0 ∷ 65533 ∷ 0 ∷ []) (0 ∷ []) 1 ⇒ with 6 0)
    ∷ (to_run_cells 1 straight_cells (2 ∷ []) 0 ⇒ with 7 0)
    ∷ (to_run_cells 1 straight_cells (0 ∷ 0 ∷ []) 0 ⇒ with 7 0)
    ∷ (to_run_cells 1 straight_cells (0 ∷ []) 2 ⇒ with 11 0)
    -- 9.15, gates by group and back
    ∷ (to_gather (block_words unordered) 29 4 ⇒ 0 ∷ 29 ∷ 0 ∷ ordered ++ order_of)
    ∷ (to_gather (block_words unordered) 28 4 ⇒ with 11 0)
    ∷ (to_gather (block_words unordered) 29 3 ⇒ with 11 0)
    -- a loop's gates are brought together, ascending
    ∷ (to_gather (block_words "(in s)\n(gate a (and s c))\n(gate b (not s))\n(gate c (or s a))\n(out y c)\n") 28 3
    ⇒ 0 ∷ 28 ∷ 0 ∷ 1 ∷ 3 ∷ 1 ∷ 0 ∷ 115 ∷ 0 ∷ 0 ∷ 0 ∷ 17 ∷ 0 ∷ 2 ∷ 0 ∷ 0 ∷ 18 ∷ 0 ∷ 1 ∷ 0 ∷ 0 ∷ 8 ∷ 0 ∷ 0 ∷ 0 ∷ 0 ∷ 121
    ∷ 0 ∷ 0 ∷ 0 ∷ 2 ∷ 0 ∷ 2 ∷ 1 ∷ [])
    ∷ (to_gather [] 0 0 ⇒ with 6 0)
    ∷ (to_scatter ordered order_of 29 ⇒ 0 ∷ 29 ∷ 0 ∷ block_words unordered)
    ∷ (to_scatter ordered order_of 28 ⇒ with 11 0)
    -- a list of another length, with a number that is no gate's, with one twice
    ∷ (to_scatter ordered (1 ∷ 3 ∷ 0 ∷ []) 0 ⇒ with 13 0)
    ∷ (to_scatter ordered (1 ∷ 3 ∷ 0 ∷ 4 ∷ []) 29 ⇒ with 13 0)
    ∷ (to_scatter ordered (1 ∷ 3 ∷ 0 ∷ 3 ∷ []) 29 ⇒ with 13 0)
    ∷ (to_scatter [] (1 ∷ []) 0 ⇒ with 6 0)
    -- 9.16, single gates in any order: none, one again, one left out; undefined isn't 0, and only that gate changes
    ∷ (to_step (block_words specimen4) (1 ∷ 0 ∷ []) [] ⇒ 2 ∷ 2 ∷ [])
    ∷ (to_step (block_words specimen4) (1 ∷ 0 ∷ []) (0 ∷ 1 ∷ 0 ∷ []) ⇒ 2 ∷ 2 ∷ [])
    ∷ (to_step (block_words specimen4) (1 ∷ 1 ∷ []) (1 ∷ []) ⇒ 2 ∷ 1 ∷ [])
    ∷ (to_step (block_words specimen4) (1 ∷ 1 ∷ []) (0 ∷ 1 ∷ 1 ∷ 0 ∷ []) ⇒ 1 ∷ 1 ∷ [])
    ∷ (to_step (block_words specimen4) (0 ∷ 2 ∷ []) (1 ∷ 0 ∷ 1 ∷ []) ⇒ 0 ∷ 2 ∷ [])
    -- 9.17, passes over a group: at least one, also where no gate ever gets a value, and under no setting
    ∷ (to_count_passes (block_words never_any) ⇒ 1 ∷ [])
    -- a ring that a constant opens: each gate reads the one before, or the one after, with the `and` last, and first
    ∷ (to_count_passes (block_words "(gate p (and 0 s))\n(gate q (not p))\n(gate r (not q))\n(gate s (not r))\n") ⇒ 1 ∷ [])
    ∷ (to_count_passes (block_words "(gate p (not q))\n(gate q (not r))\n(gate r (not s))\n(gate s (and 0 p))\n") ⇒ 4 ∷ [])
    ∷ (to_count_passes (block_words "(gate p (and 0 q))\n(gate q (not r))\n(gate r (not s))\n(gate s (not p))\n") ⇒ 3 ∷ [])
    -- gates that start at 0 would be settled after one pass; a setting that never comes would need two
    ∷ (to_count_passes (block_words "(gate p (and q 1))\n(gate q (and p 0))\n") ⇒ 2 ∷ [])
    ∷ (to_count_passes (block_words "(in s)\n(never (s 1))\n(gate p (and s q))\n(gate q (or s p))\n") ⇒ 1 ∷ [])
    -- only the setting that isn't settled needs a second pass; each group has a number of its own
    ∷ (to_count_passes (block_words "(in s)\n(gate t (nand t s q))\n(gate p (and s q))\n(gate q (or s p t))\n(out y t)\n")
    ⇒ 2 ∷ [])
    ∷ (to_count_passes (block_words parity_loop) ⇒ 1 ∷ 2 ∷ [])
    -- a set line: partial settings, ports in file order, and the order 6, 2, 4, 5, 11
    ∷ (to_answer_line (block_words board) (ascii "(set (b 0))\n") 25 ⇒ 0 ∷ 25 ∷ 0 ∷ ascii "(show (z u) (y 0) (x u))\n")
    ∷ (to_answer_line (block_words board) (ascii "(set (b 0))\n") 24 ⇒ with 11 0)
    ∷ (to_answer_line [] (ascii "(set") 0 ⇒ with 6 0)
    ∷ (to_answer_line (block_words board) (ascii "(set (q 1) (q 1") 0 ⇒ with 2 15)
    ∷ (to_answer_line (block_words board) (ascii "(set (q 1) (q 1))\n") 0 ⇒ with 4 12)
    ∷ (to_answer_line (block_words board) (ascii "(set (a 1) (g 1))\n") 0 ⇒ with 5 12)
    ∷ (to_answer_line (block_words board) (ascii "(set (_q 1))\n") 0 ⇒ with 5 6)
    -- a pair more than inputs; an LF too early; bytes behind the LF; a byte that is no value
    ∷ (to_answer_line (block_words board) (ascii "(set (a 1) (b 1) (a 1))\n") 0 ⇒ with 2 16)
    ∷ (to_answer_line (block_words "") (ascii "(set (a 1))\n") 0 ⇒ with 2 4)
    ∷ (to_answer_line (block_words board) (ascii "(set (a 1)\n") 0 ⇒ with 2 10)
    ∷ (to_answer_line (block_words board) (ascii "(set)\n\n") 0 ⇒ with 2 6)
    ∷ (to_answer_line (block_words board) (ascii "(set (a u))\n") 0 ⇒ with 2 8)
    -- the bench: a refused line is answered and the next one read; a last line cut off; an empty line among the set
    -- lines
    ∷ (to_bench
    (ascii board
    ++ ascii "\n(set (b 1) (a 0))\n(set)\n(set (a 2))\n\n(set (a 1) (a 0))\n(set (h 1))\n(set (a 1))\n(set (a")
    ⇒ ascii "(show (z 1) (y 0) (x 0))\n(show (z u) (y u) (x u))\n(refused 2 8)\n(refused 2 0)\n(refused 4 12)\n"
    ++ ascii "(refused 5 6)\n(show (z 1) (y u) (x 1))\n(refused 2 7)\n")
    ∷ (to_bench (ascii "(in a)\n\n(set (a 1))\n(set)") ⇒ ascii "(show)\n(refused 2 5)\n")
    -- an empty netlist; a netlist alone; a refused one ends the run; the netlist ends at the first empty line
    ∷ (to_bench (ascii "\n(set)\n") ⇒ ascii "(show)\n")
    ∷ (to_bench (ascii board) ⇒ [])
    ∷ (to_bench [] ⇒ [])
    ∷ (to_bench (ascii "(in a)\n(in a)\n\n(set)\n") ⇒ ascii "(refused 4 11)\n")
    ∷ (to_bench (ascii "(in a)\n\n\n(set)\n") ⇒ ascii "(refused 2 0)\n(show)\n")
    -- a sheet: settled outputs, inputs that are not fixed, a bit at n, a value bit on an input that is not fixed; and
    -- no records, and 6
    ∷ (to_fill (block_words shown4)
    (asks 3 2 ∷ asks 3 1 ∷ asks 0 0 ∷ asks 2 2 ∷ asks 1 0 ∷ asks 4 0 ∷ asks 3 4 ∷ asks 1 3 ∷ [])
    ⇒ 0 ∷ 8 ∷ 0 ∷ 3 ∷ 2 ∷ 0 ∷ 3 ∷ 1 ∷ 3 ∷ 1 ∷ 0 ∷ 2 ∷ 2 ∷ 0 ∷ 0 ∷ 0 ∷ 0 ∷ 0 ∷ 2 ∷ 2 ∷ 0 ∷ 1 ∷ 1 ∷ 1 ∷ 0 ∷ 0 ∷ 2 ∷ 0
    ∷ 4 ∷ 0 ∷ 7 ∷ 0 ∷ 0 ∷ 3 ∷ 4 ∷ 7 ∷ 0 ∷ 0 ∷ 1 ∷ 3 ∷ 7 ∷ 0 ∷ 0 ∷ [])
    ∷ (to_fill (block_words shown4) [] ⇒ 0 ∷ 0 ∷ 0 ∷ [])
    ∷ (to_fill [] (asks 1 3 ∷ []) ⇒ 6 ∷ 0 ∷ 0 ∷ 1 ∷ 3 ∷ 9 ∷ 9 ∷ 9 ∷ [])
    ∷ []

-- All specimens come out as stated.
pub specimens-hold : all right specimens ≡ true
unfolding code value_of invert is_defined row rows row_of is_not is_xor is_xnor is_kind signature_of fewest_operands most_operands
    arity_fits keyword ruled ones parity gate_value gates_at outputs_at is_letter is_digit is_underscore is_name_byte is_name_start
    is_legal_name is_plain_name is_node_name name_words bytes_at name_at node_word operand_of gate_words gate_at output_words output_at
    encode decode is_node is_operand gate_fits is_well_formed is_malformed operand_value evaluated round after_rounds is_stable
    rounds settled bit setting_of setting_count settled_under is_settled settled_settings lowest_unsettled fixes agrees
    is_sound_under is_sound without is_minimal is_within assignments_at assignments cover cover_entries gate_operand read_by
    reads has grown grown_times reach reaches same_group group_of is_ready may_be_next groups_after groups group_number
    group_numbers before_passes after_passes are_settled are_enough pass_count copy_count passes schedule no_copies
    copied_operand copied copies newest_after last_copies rendering is_straight sweep_from sweep print_term print_input
    print_gate print_output print_lines print pure stop on_test if_next expect on_parsed bind name_bytes name_after name_reader
    kind_reader spaced terms_reader expr_reader leaf_or term_reader add_input add_gate add_output input_line gate_line output_line
    at_end line outputs_reader gates_reader text_reader parse gates_in line_gates is_over_limit mentions lines_length gate_lines_at
    output_lines_at input_mention gate_mention port_mention shown_mention term_mentions operand_mentions declared_nodes
    declared_ports used_names first_repeat or_else first_duplicate first_outside first_undeclared input_bindings gate_bindings
    bindings lookup term_node terms_nodes term_gates lines_gates block_of digits decimal gate_name node_name_of term_of terms_of
    flat_line flat_tree written_text clamped start_before until_lf line_start line_end line_length line_at refusal_number
    refusal_detail number_of count_of detail_of refuse_if refuse_at in_room answer_of left_in counted read_tree read_parsed
    read_text read is_bad_setting settle_block settle verdict cover_block cover_of groups_block groups_of render_block
    render_words render pass_block pass write_words write input_byte setting_bytes is_bad_masks mask_of is_one output_values
    showing refused_record settled_outputs record_of answered_record sheet_records sheet chained refusal_line shown unloop
    output_value outputs_under value_text pair_text print_pair bit_reader pair_reader spaced_pair pairs_reader set_line_reader
    pair_mention given_names given_value given_values port_text show_line pairs_outcome parsed_outcome line_outcome answer_line
    line_answer netlist_from settings_from netlist_part settings_part last_line lines_from lines_of line_answers
    bench_after bench report asks fields answered right block_words ◌⇒◌ with specimen4 shown4 specimen6 rendered6 spare
    kinds board parities parity_loop specimens nevers_at never_words never_at never_fits are_masks is_excluded is_counted
    is_sound_at print_never never_pairs add_never never_line nevers_reader
    never_lines_at never_mentions excluded_names lesser first_repeat_in assignment_of pairs_of encode_before brought
    is_malformed_before bring_words bring never11
    never4 never_any input_lines too_many_inputs step_at run truth_bit truth_word cell_words cells_of make_words make_cells
    cell_count cell_at cells_in is_earlier
    reads_earlier are_legal_cells is_bad_run operand_bit number_of_bits cell_value run_from cell_values run_cells renumbered
    renumbered_gate renumbered_output
    arranged number_at place_in gathered_order gathered lacks_room gather_with gathered_words gather gather_list is_permutation
    inverse scattered scatter
    unordered ordered order_of straight_cells
specimens-hold = refl
