-- What `resolve` needs of a text and its table of names, and what it answers and writes: Read's 5 (SPECIFICATION 7.3)
-- and the words of gates and outputs. Assumes nothing.
use Rattle.std.specs.Prelude.{ℕ, ◌*◌, ◌≤◌, ◌≡◌, false, List, map, length, take}
use Rattle.std.proofs.Math.Option.{Option}
use Rattle.prelude.specs.Lists.{placed, joined}
use Rattle.netlist.specs.declared.Refusal.TheVariants.{UndeclaredName}
use Rattle.words_refusals.specs.Tests.{Test}
use Rattle.words_refusals.specs.Tests.{test_at}
use Rattle.netlist.specs.Limits.{max_gates, max_outputs}
use Rattle.netlist.specs.StoredBlock.{output_size, gate_size, gate_words, output_words}
use Rattle.netlist.specs.Syntax.{Tree}
use Rattle.netlist.specs.Reading.{Mention, is_over_limit, gate_lines_at, declared_nodes, used_names, first_outside, bindings}
use Rattle.netlist.specs.Reading.{block_of}
use Rattle.text_lines.specs.declared.counts.Counts.{Counts}
use Rattle.text_lines.specs.Trees.{TextOf}
use Rattle.text_lines.specs.Counting.{tree_counts}
use Rattle.text_symbols.specs.Results.{declared, packed_names, node_words}

-- the text is this tree's, within the limits, its gate lines start there, these are its counts, and the tables hold its
-- declared names and their nodes
pub record TreeAt (t : Tree) (text : List ℕ) (end : ℕ) (c : Counts) (names words : List ℕ) : Type 0 where
  pub is : TextOf t text
  pub from : end ≡ gate_lines_at t
  pub counted : c ≡ tree_counts t
  pub within : is_over_limit t ≡ false
  pub numbers_are : take (length (declared t)) names ≡ packed_names t
  pub nodes_are : take (length (bindings t)) words ≡ node_words t

pub record ResolveReady (text : List ℕ) (end : ℕ) (c : Counts) (names words gates outputs : List ℕ) : Type 0 where
  pub tree : Tree
  pub here : TreeAt tree text end c names words
  pub gate_room : gate_size * max_gates ≤ length gates
  pub output_room : output_size * max_outputs ≤ length outputs

-- refusal 5 behind never lines: the first use of a name that no input or gate declares
unfoldable pub first_unknown : Tree → Option ℕ
first_unknown t = first_outside (map (λ (d : Mention). d.name) (declared_nodes t)) (used_names t)

pub record TreeDone (t : Tree) (gates gates' outputs outputs' : List ℕ) (r : Test) : Type 0 where
  pub answer : r ≡ test_at (first_unknown t) UndeclaredName
  pub gates_written : gates' ≡ placed (joined (map (gate_words (length t.inputs)) (block_of t).gates)) gates
  pub outputs_written : outputs' ≡ placed (joined (map (output_words (length t.inputs)) (block_of t).outputs)) outputs

-- what `resolve` answers and writes, of whatever tree the text is
pub record Resolved (text : List ℕ) (end : ℕ) (c : Counts) (names words gates gates' outputs outputs' : List ℕ)
    (r : Test) : Type 0 where
  pub done : (t : Tree) → TreeAt t text end c names words → TreeDone t gates gates' outputs outputs' r
