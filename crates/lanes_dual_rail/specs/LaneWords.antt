-- Pairs in one array of words: word 2 × place + v has the lanes at which what stands at the place has value v. Cited by
-- the contracts of this crate and of every crate that works on lanes.
--   pair_at, put_pair              the pair at a place, and the words with another one there
--   inputs_in, gates_in            the pairs of all inputs and of the first gates
--   Filled                       the words of the two constants are there
--   operand_word, operand_words           a gate's operands at a value: one of them, each of the four
--   some_word, every_word                 some of the four, every one of the four
--   rule_pair, parity_at, gate_pair_in     a gate's pair by its row, by parity, by its operation
-- Assumes nothing.
use Rattle.std.specs.Prelude.{ℕ, ◌+◌, ◌-◌, ◌*◌, ◌/◌, ◌%◌, ◌≡◌, true, false, cond, List, [], ◌∷◌, eqb, leb, length, get_or, set}
use Rattle.std.specs.Int.Bits.{bit_and, bit_or}
use Rattle.prelude.specs.Lists.{tab}
use Rattle.netlist.specs.Limits.{max_inputs}
use Rattle.graph_gates.specs.Places.{first_input, first_gate, place_count}
use Rattle.graph_gates.specs.Graph.{node_size, place_at}
use Rattle.lanes_dual_rail.specs.declared.Pair.{Pair}
use Rattle.lanes_dual_rail.specs.Pairs.{always, swapped, parity_pair}

abbrev pub lane_size : ℕ
lane_size = 2 * place_count

unfoldable pub pair_at : List ℕ → ℕ → Pair
pair_at w p = record { zeros = get_or w (2 * p) 0; ones = get_or w (2 * p + 1) 0 }

unfoldable pub put_pair : List ℕ → ℕ → Pair → List ℕ
put_pair w p q = set (set w (2 * p) q.zeros) (2 * p + 1) q.ones

-- the most inputs that a block may have; those past a block's own are undefined
unfoldable pub inputs_in : List ℕ → List Pair
inputs_in w = tab (λ i. pair_at w (first_input + i)) max_inputs

unfoldable pub gates_in : ℕ → List ℕ → List Pair
gates_in m w = tab (λ j. pair_at w (first_gate + j)) m

-- `used` has a bit at each lane in use
pub record Filled (used : ℕ) (w : List ℕ) : Type 0 where
  pub long : length w ≡ lane_size
  pub zero : pair_at w 0 ≡ always used false
  pub one : pair_at w 1 ≡ always used true

-- ---- one gate

-- the word at value v of operand i of gate j
unfoldable pub operand_word : List ℕ → ℕ → List ℕ → ℕ → ℕ → ℕ
operand_word graph j w v i = get_or w (2 * place_at graph j i + v) 0

-- the words at value v of the four operands of gate j
unfoldable pub operand_words : List ℕ → ℕ → List ℕ → ℕ → List ℕ
operand_words graph j w v =
    operand_word graph j w v 0 ∷ operand_word graph j w v 1 ∷ operand_word graph j w v 2 ∷ operand_word graph j w v 3 ∷ []

unfoldable pub some_word : List ℕ → ℕ → List ℕ → ℕ → ℕ
some_word graph j w v =
    bit_or (operand_word graph j w v 0)
    (bit_or (operand_word graph j w v 1) (bit_or (operand_word graph j w v 2) (operand_word graph j w v 3)))

unfoldable pub every_word : List ℕ → ℕ → List ℕ → ℕ → ℕ
every_word graph j w v =
    bit_and (operand_word graph j w v 0)
    (bit_and (operand_word graph j w v 1) (bit_and (operand_word graph j w v 2) (operand_word graph j w v 3)))

-- at the forced value f where some operand has the controlling value c, at the other where every operand has the other
unfoldable pub rule_pair : List ℕ → ℕ → List ℕ → ℕ → ℕ → Pair
rule_pair graph j w c f =
    cond (eqb f 0) (record { zeros = some_word graph j w c; ones = every_word graph j w (1 - c) })
    (record { zeros = every_word graph j w (1 - c); ones = some_word graph j w c })

-- the parity of the four operands, and where `f` is 1 that inverted
unfoldable pub parity_of : List ℕ → ℕ → List ℕ → Pair
parity_of graph j w =
    parity_pair (pair_at w (place_at graph j 0))
    (parity_pair (pair_at w (place_at graph j 1))
    (parity_pair (pair_at w (place_at graph j 2)) (pair_at w (place_at graph j 3))))

unfoldable pub parity_at : List ℕ → ℕ → List ℕ → ℕ → Pair
parity_at graph j w f = cond (eqb f 0) (parity_of graph j w) (swapped (parity_of graph j w))

-- by the gate's operation: its kind, and the two values of its row
unfoldable pub gate_pair_in : List ℕ → ℕ → List ℕ → Pair
gate_pair_in graph j w =
    let operation = get_or graph (node_size * j) 0 in
    cond (leb 5 (operation % 8)) (parity_at graph j w (operation / 128))
    (rule_pair graph j w (operation / 64 % 2) (operation / 128))
