-- SPECIFICATION 7.11: the text of a block, an expression of depth 1 for each gate.
use Rattle.std.specs.Prelude.{ℕ, zero, suc, ◌+◌, ◌/◌, ◌%◌, cond, List, [], ◌∷◌, ◌++◌, map, get_or, eqb, ltb}
use Rattle.prelude.specs.Lists.{ascii, keep, up_to, tab}
use Rattle.netlist.specs.Assignments.{bit, Assignment, fixes}
use Rattle.netlist.specs.Netlist.{Name, Operand, input, gate, constant, Output, Block, input_count, gate_count}
use Rattle.netlist.specs.Netlist.{gate_of}
use Rattle.netlist.specs.Syntax.{Term, Terms, name, literal, nil, cons, GateLine, Pair, Tree, print}

-- the decimal digits of a number, at most this many
unfoldable pub digits : ℕ → ℕ → List ℕ
digits zero v = []
digits (suc most) v =
    let front = digits most (v / 10) in
    cond (ltb v 10) ((48 + v) ∷ []) (front ++ ((48 + v % 10) ∷ []))

-- v has no more than v + 1 digits
unfoldable pub decimal : ℕ → List ℕ
decimal v = digits (suc v) v

-- gates have no stored names: `_` and the number
unfoldable pub gate_name : ℕ → Name
gate_name j = ascii "_" ++ decimal j

-- the name of the node that an operand is; an output shows no constant
unfoldable pub node_name_of : Block → Operand → Name
node_name_of b (input i) = get_or b.inputs i []
node_name_of b (gate j) = gate_name j
node_name_of b (constant c) = []

unfoldable pub term_of : Block → Operand → Term
term_of b (input i) = name (node_name_of b (input i))
term_of b (gate j) = name (node_name_of b (gate j))
term_of b (constant c) = literal c

unfoldable pub terms_of : Block → List Operand → Terms
terms_of b [] = nil
terms_of b (o ∷ os) = cons (term_of b o) (terms_of b os)

unfoldable pub flat_line : Block → ℕ → GateLine
flat_line b j = record { name = gate_name j; kind = (gate_of b j).kind; terms = terms_of b (gate_of b j).operands }

-- the pairs of a never line, by ascending input
unfoldable pub pairs_of : Block → Assignment → List Pair
pairs_of b a =
    map (λ i. record { name = get_or b.inputs i []; value = eqb (bit a.ones i) 1 })
    (keep (fixes a) (up_to (input_count b)))

unfoldable pub flat_tree : Block → Tree
flat_tree b =
    record {
      inputs = b.inputs;
      nevers = map (pairs_of b) b.nevers;
      gates = tab (flat_line b) (gate_count b);
      outputs = map (λ (o : Output). record { port = o.port; shown = node_name_of b o.node }) b.outputs;
    }

unfoldable pub written_text : Block → List ℕ
written_text b = print (flat_tree b)
