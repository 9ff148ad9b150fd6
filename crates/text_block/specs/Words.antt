-- The words that Read writes, from the counts, the table of names and the words of never lines, gates and outputs.
-- Assumes nothing.
use Rattle.std.specs.Prelude.{ℕ, ◌+◌, ◌*◌, ◌≤◌, List, [], ◌∷◌, ◌++◌, length, get_or}
use Rattle.prelude.specs.Lists.{tab, joined}
use Rattle.netlist.specs.Limits.{max_inputs, max_nevers, max_gates, max_outputs}
use Rattle.netlist.specs.StoredBlock.{never_size, gate_size, output_size, outputs_at}
use Rattle.text_lines.specs.declared.counts.Counts.{Counts}
use Rattle.text_names.specs.Ports.{port_words}

-- the words of name i of a table of numbers
unfoldable pub name_of : List ℕ → ℕ → List ℕ
name_of names i = port_words (get_or names i 0)

unfoldable pub word_of : List ℕ → ℕ → ℕ
word_of words i = get_or words i 0

unfoldable pub tree_block_words : Counts → List ℕ → List ℕ → List ℕ → List ℕ → List ℕ
tree_block_words c names masks gates outputs =
    (c.inputs ∷ c.gates ∷ c.outputs ∷ c.nevers ∷ [])
    ++ joined (tab (name_of names) c.inputs)
    ++ tab (word_of masks) (never_size * c.nevers)
    ++ tab (word_of gates) (gate_size * c.gates)
    ++ tab (word_of outputs) (output_size * c.outputs)

-- the length of a block with these counts (SPECIFICATION 2.1)
unfoldable pub word_count : Counts → ℕ
word_count c = outputs_at c.inputs c.nevers c.gates + output_size * c.outputs

pub record PutReady (c : Counts) (names masks gates outputs block : List ℕ) : Type 0 where
  pub few_inputs : c.inputs ≤ max_inputs
  pub few_nevers : c.nevers ≤ max_nevers
  pub few_gates : c.gates ≤ max_gates
  pub few_outputs : c.outputs ≤ max_outputs
  pub named : c.inputs ≤ length names
  pub mask_room : never_size * c.nevers ≤ length masks
  pub gate_room : gate_size * c.gates ≤ length gates
  pub output_room : output_size * c.outputs ≤ length outputs
  pub room : word_count c ≤ length block
