-- SPECIFICATION 7.15, 7.16: lookup cells. A cell has four operand words and a truth word of 16 bits. Making cells from
-- a straight block, and running cells, which may have been made elsewhere.
use Rattle.std.specs.Prelude.{ℕ, ◌+◌, ◌*◌, ◌/◌, ◌%◌, ◌^◌, Bool, true, false, cond, not, ◌&&◌, ◌||◌, List, [], ◌∷◌, ◌++◌, map, length, get_or, eqb, leb, ltb}
use Rattle.prelude.specs.Lists.{all, tab, joined, up_to, sum}
use Rattle.netlist.specs.declared.Refusal.TheVariants.{MalformedBlock, BadSetting, NotStraight}
use Rattle.netlist.specs.Limits.{max_inputs, max_gates}
use Rattle.netlist.specs.Values.{code}
use Rattle.netlist.specs.Assignments.{bit}
use Rattle.netlist.specs.Kinds.{gate_value}
use Rattle.netlist.specs.Netlist.{Operand, input, gate, constant, Gate, Block, input_count}
use Rattle.netlist.specs.StoredBlock.{operand_words, node_word, operand_of, decode, is_malformed}
use Rattle.netlist.specs.Rounds.{setting_of}
use Rattle.netlist.specs.Rendering.{is_straight}
use Rattle.netlist.specs.Answers.{Outcome, done, refuse_if, in_room}
use Rattle.netlist.specs.Operations.{counted}

-- words of a cell: operands, then the truth word
abbrev pub cell_size : ℕ
cell_size = operand_words + 1

-- ---- 7.15 Cells (6, 10, 11): a cell for each gate, in the same order; count: words

-- what kind k gives when each of `count` operands i is bit i of b; the other bits of b play no part
unfoldable pub truth_bit : ℕ → ℕ → ℕ → ℕ
truth_bit k count b = code (gate_value k (setting_of count b))

-- the truth word of a kind and an operand count: bit b is the value for the operand bits of b
unfoldable pub truth_word : ℕ → ℕ → ℕ
truth_word k count = sum (tab (λ b. truth_bit k count b * 2 ^ b) (2 ^ operand_words))

-- operands as in the block, constants too; absent ones are constant 0
unfoldable pub cell_words : ℕ → Gate → List ℕ
cell_words n g =
    tab (λ i. node_word n (get_or g.operands i (constant false))) operand_words
    ++ (truth_word g.kind (length g.operands) ∷ [])

unfoldable pub cells_of : Block → List ℕ
cells_of b = joined (map (cell_words (input_count b)) b.gates)

unfoldable pub make_words : List ℕ → Outcome
make_words ws =
    refuse_if (is_malformed ws) MalformedBlock
    (refuse_if (not (is_straight (decode ws))) NotStraight
    (counted (cells_of (decode ws))))

unfoldable pub make_cells : List ℕ → ℕ → Outcome
make_cells ws room = in_room room (make_words ws)

-- ---- 7.16 Run (6, 7, 11): the value of each cell, 0 or 1, from n inputs, the cells' words and a setting; count: cells

pub record Cell : Type 0 where
  pub operands : List Operand
  pub truth : ℕ

unfoldable pub cell_count : List ℕ → ℕ
cell_count ws = length ws / cell_size

unfoldable pub cell_at : ℕ → List ℕ → ℕ → Cell
cell_at n ws at = record {
  operands = tab (λ i. operand_of n (get_or ws (at + i) 0)) operand_words;
  truth = get_or ws (at + operand_words) 0;
}

unfoldable pub cells_in : ℕ → List ℕ → List Cell
cells_in n ws = tab (λ j. cell_at n ws (cell_size * j)) (cell_count ws)

-- an operand that cell j may read: an input, a constant, or a cell before it
unfoldable pub is_earlier : ℕ → Operand → Bool
is_earlier j (input i) = true
is_earlier j (gate i) = ltb i j
is_earlier j (constant c) = true

unfoldable pub reads_earlier : ℕ → List ℕ → ℕ → Bool
reads_earlier n ws j = all (is_earlier j) (cell_at n ws (cell_size * j)).operands

-- refusal 6 of a run: too many inputs or cells, a cell that is cut off, or an operand that is not there yet
unfoldable pub are_legal_cells : ℕ → List ℕ → Bool
are_legal_cells n ws =
    leb n max_inputs && leb (length ws) (cell_size * max_gates) && eqb (length ws % cell_size) 0
    && all (reads_earlier n ws) (up_to (cell_count ws))

-- refusal 7 of a run: another length than n, or a byte above 1
unfoldable pub is_bad_run : ℕ → List ℕ → Bool
is_bad_run n setting = not (eqb (length setting) n) || not (all (λ v. leb v 1) setting)

-- the bit of an operand, from the setting and the values of the cells so far
unfoldable pub operand_bit : List ℕ → List ℕ → Operand → ℕ
operand_bit setting found (input i) = get_or setting i 0
operand_bit setting found (gate j) = get_or found j 0
operand_bit setting found (constant c) = cond c 1 0

-- the number whose bit i is bit i of the list
unfoldable pub number_of_bits : List ℕ → ℕ
number_of_bits [] = 0
number_of_bits (v ∷ vs) = v + 2 * number_of_bits vs

-- the bit of the truth word that the operands choose
unfoldable pub cell_value : List ℕ → List ℕ → Cell → ℕ
cell_value setting found c = bit c.truth (number_of_bits (map (operand_bit setting found) c.operands))

-- the values of the cells, each evaluated once, in order, from the values found so far
unfoldable pub run_from : List ℕ → List ℕ → List Cell → List ℕ
run_from setting found [] = found
run_from setting found (c ∷ cs) = run_from setting (found ++ (cell_value setting found c ∷ [])) cs

unfoldable pub cell_values : ℕ → List ℕ → List ℕ → List ℕ
cell_values n ws setting = run_from setting [] (cells_in n ws)

unfoldable pub run_cells : ℕ → List ℕ → List ℕ → ℕ → Outcome
run_cells n ws setting room =
    in_room room
    (refuse_if (not (are_legal_cells n ws)) MalformedBlock
    (refuse_if (is_bad_run n setting) BadSetting
    (done (cell_values n ws setting) (cell_count ws) 0)))
