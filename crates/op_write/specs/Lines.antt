-- The lines that the functions write, each as the words of the block give it. proofs/WrittenText.antt shows that
-- together they are the written text of `netlist`.
use Rattle.std.specs.Prelude.{ℕ, ◌+◌, ◌*◌, ◌/◌, ◌%◌, cond, List, [], ◌++◌, get_or, eqb}
use Rattle.prelude.specs.Lists.{ascii}
use Rattle.netlist.specs.Assignments.{bit}
use Rattle.netlist.specs.Kinds.{keyword}
use Rattle.netlist.specs.StoredBlock.{name_size, never_size, gate_size, output_size, inputs_at, nevers_at, gates_at, outputs_at}
use Rattle.netlist.specs.StoredBlock.{name_at}
use Rattle.netlist.specs.Writing.{gate_name}
use Rattle.text_pieces.specs.Pieces.{pieces, operand_text, pair_piece}

-- the text of operand i of the gate whose first word is at `at`, with the space before it
unfoldable pub item_text : List ℕ → ℕ → ℕ → List ℕ
item_text ws at i = ascii " " ++ operand_text ws (at + 1 + i)

-- the text of the expression of the gate whose first word is at `at`
unfoldable pub expression_text : List ℕ → ℕ → List ℕ
expression_text ws at =
    ascii "(" ++ (keyword (get_or ws at 0 % 8) ++ (pieces (item_text ws at) (get_or ws at 0 / 8) ++ ascii ")"))

-- ---- the lines

unfoldable pub input_text : List ℕ → ℕ → List ℕ
input_text ws i = ascii "(in " ++ (name_at ws (inputs_at + name_size * i) ++ ascii ")\n")

-- the text of the pair of input i where the mask `fixed` has it: its value is the bit of `ones`
unfoldable pub fixed_text : List ℕ → ℕ → ℕ → ℕ → List ℕ
fixed_text ws fixed ones i = cond (eqb (bit fixed i) 1) (pair_piece ws (inputs_at + name_size * i) (48 + bit ones i)) []

-- the text of the never line whose masks are at `at`
unfoldable pub never_text : List ℕ → ℕ → List ℕ
never_text ws at =
    ascii "(never" ++ (pieces (fixed_text ws (get_or ws at 0) (get_or ws (at + 1) 0)) (get_or ws 0 0) ++ ascii ")\n")

-- the text of never line i of those from `at` on
unfoldable pub never_line_text : List ℕ → ℕ → ℕ → List ℕ
never_line_text ws at i = never_text ws (at + never_size * i)

-- the text of gate j of those from `at` on
unfoldable pub gate_text : List ℕ → ℕ → ℕ → List ℕ
gate_text ws at j =
    ascii "(gate " ++ (gate_name j ++ (ascii " " ++ (expression_text ws (at + gate_size * j) ++ ascii ")\n")))

-- the text of output o of those from `at` on
unfoldable pub output_text : List ℕ → ℕ → ℕ → List ℕ
output_text ws at o =
    ascii "(out "
    ++ (name_at ws (at + output_size * o)
    ++ (ascii " " ++ (operand_text ws (at + output_size * o + name_size) ++ ascii ")\n")))

-- the text of a block: lines of inputs, never lines, gates and outputs
unfoldable pub block_text : List ℕ → List ℕ
block_text ws =
    pieces (input_text ws) (get_or ws 0 0)
    ++ (pieces (never_line_text ws (nevers_at (get_or ws 0 0))) (get_or ws 3 0)
    ++ (pieces (gate_text ws (gates_at (get_or ws 0 0) (get_or ws 3 0))) (get_or ws 1 0)
    ++ pieces (output_text ws (outputs_at (get_or ws 0 0) (get_or ws 3 0) (get_or ws 1 0))) (get_or ws 2 0)))
