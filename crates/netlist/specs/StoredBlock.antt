-- SPECIFICATION 2: the words of a netlist, the netlist of a slice of words, and which words are malformed ("torn").
use Rattle.std.specs.Prelude.{ℕ, ◌+◌, ◌-◌, ◌*◌, ◌/◌, ◌%◌, Bool, true, false, cond, not, ◌&&◌, List, [], ◌∷◌, ◌++◌, map, length, get_or, eqb, leb, ltb}
use Rattle.prelude.specs.Lists.{same, all, tab, joined, trimmed, distinct}
use Rattle.netlist.specs.Limits.{max_inputs, max_nevers, max_gates, max_outputs}
use Rattle.netlist.specs.Assignments.{Assignment, are_masks}
use Rattle.netlist.specs.Kinds.{is_kind, arity_fits}
use Rattle.netlist.specs.Names.{is_plain_name}
use Rattle.netlist.specs.Netlist.{Name, Operand, input, gate, constant, Gate, Output, Block, input_count}
use Rattle.netlist.specs.Netlist.{gate_count, output_count, never_count}

-- ---- 2.1, where the parts stand: four counts, the names of inputs, the never lines, the gates, the outputs; a never
-- line is two masks, an output its port and a node

abbrev pub name_size : ℕ
name_size = 4

abbrev pub never_size : ℕ
never_size = 2

abbrev pub gate_size : ℕ
gate_size = 5

abbrev pub output_size : ℕ
output_size = 5

abbrev pub operand_words : ℕ
operand_words = 4

abbrev pub inputs_at : ℕ
inputs_at = 4

-- where the never lines stand behind n names; the gates behind l never lines as well; and the outputs behind m gates as
-- well
unfoldable pub nevers_at : ℕ → ℕ
nevers_at n = inputs_at + name_size * n

unfoldable pub gates_at : ℕ → ℕ → ℕ
gates_at n l = nevers_at n + never_size * l

unfoldable pub outputs_at : ℕ → ℕ → ℕ → ℕ
outputs_at n l m = gates_at n l + gate_size * m

-- ---- names

-- the four words of a name (2.2): two bytes to a word, the first of them low; zero bytes fill the last words
unfoldable pub name_words : Name → List ℕ
name_words s = tab (λ i. get_or s (2 * i) 0 + 256 * get_or s (2 * i + 1) 0) name_size

-- the eight bytes of the name whose words start at `at`
unfoldable pub bytes_at : List ℕ → ℕ → List ℕ
bytes_at ws at = joined (tab (λ i. get_or ws (at + i) 0 % 256 ∷ get_or ws (at + i) 0 / 256 ∷ []) name_size)

unfoldable pub name_at : List ℕ → ℕ → Name
name_at ws at = trimmed (bytes_at ws at)

-- ---- 2.2, never lines: the mask of fixed inputs, and that of those at 1

unfoldable pub never_words : Assignment → List ℕ
never_words a = a.fixed ∷ a.ones ∷ []

unfoldable pub never_at : List ℕ → ℕ → Assignment
never_at ws at = record { fixed = get_or ws at 0; ones = get_or ws (at + 1) 0 }

-- ---- 1.4, 2.3, nodes: inputs first, then gates; the two highest words are the constants

unfoldable pub node_word : ℕ → Operand → ℕ
node_word n (input i) = i
node_word n (gate j) = n + j
node_word n (constant false) = 65534
node_word n (constant true) = 65535

unfoldable pub operand_of : ℕ → ℕ → Operand
operand_of n w =
    cond (ltb w n) (input w)
    (cond (eqb w 65534) (constant false)
    (cond (eqb w 65535) (constant true) (gate (w - n))))

-- ---- 2.3, gates: kind and operand count in one word, then four operands, zero behind the count

unfoldable pub gate_words : ℕ → Gate → List ℕ
gate_words n g =
    (g.kind + 8 * length g.operands) ∷ tab (λ i. get_or (map (node_word n) g.operands) i 0) operand_words

unfoldable pub gate_at : ℕ → List ℕ → ℕ → Gate
gate_at n ws at =
    record { kind = get_or ws at 0 % 8; operands = tab (λ i. operand_of n (get_or ws (at + 1 + i) 0)) (get_or ws at 0 / 8) }

unfoldable pub output_words : ℕ → Output → List ℕ
output_words n o = name_words o.port ++ (node_word n o.node ∷ [])

unfoldable pub output_at : ℕ → List ℕ → ℕ → Output
output_at n ws at = record { port = name_at ws at; node = operand_of n (get_or ws (at + name_size) 0) }

-- ---- the whole block

unfoldable pub encode : Block → List ℕ
encode b =
    input_count b ∷ gate_count b ∷ output_count b ∷ never_count b
    ∷ joined (map name_words b.inputs)
    ++ joined (map never_words b.nevers)
    ++ joined (map (gate_words (input_count b)) b.gates)
    ++ joined (map (output_words (input_count b)) b.outputs)

unfoldable pub decode : List ℕ → Block
decode ws =
    let n = get_or ws 0 0 in
    let m = get_or ws 1 0 in
    let k = get_or ws 2 0 in
    let l = get_or ws 3 0 in
    record {
      inputs = tab (λ i. name_at ws (inputs_at + name_size * i)) n;
      nevers = tab (λ i. never_at ws (nevers_at n + never_size * i)) l;
      gates = tab (λ j. gate_at n ws (gates_at n l + gate_size * j)) m;
      outputs = tab (λ o. output_at n ws (outputs_at n l m + output_size * o)) k;
    }

-- ---- 2.4, the rules

-- an operand is an input or gate that is there: what an output may show
unfoldable pub is_node : Block → Operand → Bool
is_node b (input i) = ltb i (input_count b)
is_node b (gate j) = ltb j (gate_count b)
is_node b (constant c) = false

unfoldable pub is_operand : Block → Operand → Bool
is_operand b (input i) = is_node b (input i)
is_operand b (gate j) = is_node b (gate j)
is_operand b (constant c) = true

unfoldable pub gate_fits : Block → Gate → Bool
gate_fits b g = is_kind g.kind && arity_fits g.kind (length g.operands) && all (is_operand b) g.operands

-- a never line fixes some input, and only inputs that are there
unfoldable pub never_fits : Block → Assignment → Bool
never_fits b a = ltb 0 a.fixed && are_masks (input_count b) a.fixed a.ones

unfoldable pub is_well_formed : Block → Bool
is_well_formed b =
    leb (input_count b) max_inputs && leb (gate_count b) max_gates && leb (output_count b) max_outputs && leb (never_count b)
    max_nevers
    && all is_plain_name b.inputs && distinct b.inputs
    && all (never_fits b) b.nevers
    && all (gate_fits b) b.gates
    && all (λ o. is_plain_name o.port) b.outputs && distinct (map (λ (o : Output). o.port) b.outputs)
    && all (λ o. is_node b o.node) b.outputs

-- words are malformed ("torn"): not the encoding of any well-formed block
unfoldable pub is_malformed : List ℕ → Bool
is_malformed ws = not (is_well_formed (decode ws) && same (encode (decode ws)) ws)
