-- The rules of the stored block, one by one on the words, as the code tests them. proofs/ shows that together they say
-- "not malformed".
use Rattle.std.specs.Prelude.{ℕ, ◌+◌, ◌*◌, ◌/◌, ◌%◌, Bool, true, cond, not, ◌&&◌, ◌||◌, List, [], ◌∷◌, length, get_or, eqb, leb, ltb}
use Rattle.prelude.specs.Lists.{all, up_to}
use Rattle.netlist.specs.Limits.{max_inputs, max_nevers, max_gates, max_outputs}
use Rattle.netlist.specs.Assignments.{are_masks}
use Rattle.netlist.specs.Kinds.{is_kind, arity_fits}
use Rattle.netlist.specs.StoredBlock.{name_size, never_size, gate_size, output_size, operand_words, inputs_at}
use Rattle.netlist.specs.StoredBlock.{nevers_at, gates_at, outputs_at, bytes_at}
use Rattle.netlist.specs.Names.{is_letter, is_name_byte}

-- name bytes, and then only zeros
unfoldable pub padded : List ℕ → Bool
padded [] = true
padded (c ∷ cs) = cond (eqb c 0) (all (eqb 0) cs) (is_name_byte c && padded cs)

-- the rule of an input's name or a port: its eight bytes
unfoldable pub name_rule : List ℕ → ℕ → Bool
name_rule ws at = is_letter (get_or (bytes_at ws at) 0 0) && padded (bytes_at ws at)

unfoldable pub same_name : List ℕ → ℕ → ℕ → Bool
same_name ws at other = all (λ i. eqb (get_or ws (at + i) 0) (get_or ws (other + i) 0)) (up_to name_size)

-- `count` names from `at` on, `size` words apart: legal, and not twice
unfoldable pub names_rule : List ℕ → ℕ → ℕ → ℕ → Bool
names_rule ws at size count =
    all (λ j. name_rule ws (at + size * j) && all (λ i. not (same_name ws (at + size * i) (at + size * j))) (up_to j))
    (up_to count)

-- the rule of the never line whose two masks are at `at`, in a block of n inputs
unfoldable pub never_rule : List ℕ → ℕ → ℕ → Bool
never_rule ws n at = ltb 0 (get_or ws at 0) && are_masks n (get_or ws at 0) (get_or ws (at + 1) 0)

-- the rule of a node's word: an input or a gate; `nodes` is n + m
unfoldable pub node_rule : ℕ → ℕ → Bool
node_rule nodes w = ltb w nodes

unfoldable pub operand_rule : ℕ → ℕ → Bool
operand_rule nodes w = node_rule nodes w || eqb w 65534 || eqb w 65535

-- the rule of the gate whose first word is at `at`
unfoldable pub gate_rule : List ℕ → ℕ → ℕ → Bool
gate_rule ws nodes at =
    is_kind (get_or ws at 0 % 8) && arity_fits (get_or ws at 0 % 8) (get_or ws at 0 / 8)
    && all (λ i. cond (ltb i (get_or ws at 0 / 8)) (operand_rule nodes (get_or ws (at + 1 + i) 0))
    (eqb (get_or ws (at + 1 + i) 0) 0)) (up_to operand_words)

-- the rule of the head: the length that the counts give, and the limits
unfoldable pub header_rule : List ℕ → Bool
header_rule ws =
    leb inputs_at (length ws)
    && leb (get_or ws 0 0) max_inputs && leb (get_or ws 1 0) max_gates && leb (get_or ws 2 0) max_outputs && leb (get_or ws 3 0)
    max_nevers
    && eqb (length ws) (outputs_at (get_or ws 0 0) (get_or ws 3 0) (get_or ws 1 0) + output_size * get_or ws 2 0)

unfoldable pub intact : List ℕ → Bool
intact ws =
    let n = get_or ws 0 0 in
    let m = get_or ws 1 0 in
    let k = get_or ws 2 0 in
    let l = get_or ws 3 0 in
    header_rule ws
    && names_rule ws inputs_at name_size n
    && all (λ i. never_rule ws n (nevers_at n + never_size * i)) (up_to l)
    && all (λ j. gate_rule ws (n + m) (gates_at n l + gate_size * j)) (up_to m)
    && names_rule ws (outputs_at n l m) output_size k
    && all (λ o. node_rule (n + m) (get_or ws (outputs_at n l m + output_size * o + name_size) 0)) (up_to k)
