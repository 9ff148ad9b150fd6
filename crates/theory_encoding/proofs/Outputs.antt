-- Outputs in the stored block: an output and its five words are each other's. Cited by RoundTrip. Assumes nothing.
--   OutputStands: an output's words stand at a place
--   output_words-output_at, output_at-output_words: an output and its words are each other's
use mathlib.Core.Path.{◌≡◌, refl, ap, ap₂, ◌∙◌}
use mathlib.Core.Bool.{true}
use mathlib.Core.List.{List, [], ◌∷◌, ◌++◌}
use Prim.Native.Nat.{ℕ, ◌+◌, ◌≤◌, ◌<◌}
use native.Mathlib.Omega.{arith}
use lib.ListN.{length, get_or, get_or-append}
use lib.Seq.{get_or_at}
use Rattle.prelude.specs.Lists.{tab}
use Rattle.netlist.specs.Netlist.{Output, Block, input_count, gate_count}
use Rattle.netlist.specs.StoredBlock.{name_size, output_size, name_words, name_at, node_word, operand_of, output_words}
use Rattle.netlist.specs.StoredBlock.{output_at, is_node}
use Rattle.netlist.specs.Names.{is_plain_name}
use Rattle.theory_encoding.proofs.Names.{name_words-name_at, name_at-name_words, length-name_words}
use Rattle.theory_encoding.proofs.Nodes.{node_word-operand_of, operand_of-node_word, is_node-is_operand}

pub length-output_words : (n : ℕ) (o : Output) → length (output_words n o) ≡ output_size
unfolding output_words name_words
length-output_words n o = refl

-- the words of an output read from words are those words
pub output_words-output_at : (n : ℕ) (ws : List ℕ) (at : ℕ)
    → output_words n (output_at n ws at) ≡ tab (λ i. get_or ws (at + i) 0) output_size
unfolding output_words output_at
output_words-output_at n ws at =
    ap₂ (λ (xs : List ℕ) (w : ℕ). xs ++ (w ∷ [])) (name_words-name_at ws at)
    (node_word-operand_of n (get_or ws (at + name_size) 0))

-- an output's words stand at `at`
abbrev pub OutputStands : ℕ → List ℕ → ℕ → Output → Type 0
OutputStands n ws at o = (i : ℕ) → i < output_size → get_or ws (at + i) 0 ≡ get_or (output_words n o) i 0

-- where a legal output's words stand, that output is read
pub output_at-output_words : (b : Block) (ws : List ℕ) (at : ℕ) (o : Output) → input_count b + gate_count b ≤ 65534
    → is_plain_name o.port ≡ true
    → is_node b o.node ≡ true → OutputStands (input_count b) ws at o → output_at (input_count b) ws at ≡ o
unfolding output_at output_words
output_at-output_words b ws at o few plain node standing = λ i. record { port = port-is i; node = node-is i }
  where
    port-is : name_at ws at ≡ o.port
    port-is =
        name_at-name_words ws at o.port plain
        (λ i l. standing i (omega arith)
        ∙ get_or-append (name_words o.port) (node_word (input_count b) o.node ∷ []) 0 i
        (rw (length-name_words o.port) l))

    node-is : operand_of (input_count b) (get_or ws (at + name_size) 0) ≡ o.node
    node-is =
        ap (operand_of (input_count b))
        (standing name_size (omega arith)
        ∙ get_or_at (name_words o.port) (node_word (input_count b) o.node) [] 0 name_size
        (length-name_words o.port))
        ∙ operand_of-node_word b o.node few (is_node-is_operand b o.node node)
