-- What the steps of Read need and tell, of the legal tree that the text prints. Assumes nothing.
use Rattle.std.specs.Prelude.{ℕ, ◌≤◌, ◌≡◌, false, List, map, length, take}
use Rattle.std.proofs.Math.Option.{none}
use Rattle.prelude.specs.Lists.{placed, joined}
use Rattle.netlist.specs.Limits.{max_text}
use Rattle.netlist.specs.StoredBlock.{never_words, gate_words, output_words}
use Rattle.netlist.specs.Syntax.{Tree}
use Rattle.netlist.specs.Reading.{is_over_limit, gate_lines_at, first_duplicate, excluded_names, first_outside}
use Rattle.netlist.specs.Reading.{first_undeclared, block_of}
use Rattle.text_lines.specs.declared.counts.Counts.{Counts}
use Rattle.text_lines.specs.Trees.{TextOf}
use Rattle.text_lines.specs.Counting.{tree_counts}
use Rattle.text_symbols.specs.Results.{declared, packed_names, NodesIndexed}
use Rattle.text_expressions.specs.Resolution.{TreeAt}
use Rattle.text_constraints.specs.declared.NeverTold.{NeverTold}
use Rattle.text_constraints.specs.Places.{Told}

-- the text is short enough and a legal tree's
pub record TreeText (text : List ℕ) : Type 0 where
  pub tree : Tree
  pub is : TextOf tree text
  pub short : length text ≤ max_text

-- the tree is within the limits, c are its counts, and its gate lines start at `end`
pub record Limited (t : Tree) (text : List ℕ) (end : ℕ) (c : Counts) : Type 0 where
  pub is : TextOf t text
  pub short : length text ≤ max_text
  pub within : is_over_limit t ≡ false
  pub from : end ≡ gate_lines_at t
  pub counted : c ≡ tree_counts t

-- what Read's step with tables asks: the text's never lines are read
pub record TablesReady (text : List ℕ) (end : ℕ) (c : Counts) (told : NeverTold) (masks : List ℕ) : Type 0 where
  pub tree : Tree
  pub limited : Limited tree text end c
  pub masks₀ : List ℕ
  pub nevers : Told tree masks₀ masks told

-- what Read's step over expressions asks: the tables stand, nothing repeats, and never lines name inputs alone
pub record TermsReady (text : List ℕ) (end : ℕ) (c : Counts) (names nodes index masks : List ℕ) : Type 0 where
  pub tree : Tree
  pub limited : Limited tree text end c
  pub here : TreeAt tree text end c names nodes
  pub indexed : NodesIndexed c names index
  pub single : first_duplicate tree ≡ none
  pub inside : first_outside tree.inputs (excluded_names tree) ≡ none
  pub masks₀ : List ℕ
  pub masks_written : masks ≡ placed (joined (map never_words (block_of tree).nevers)) masks₀

-- what Read's last step asks: no name is undeclared, and the words of never lines, gates and outputs stand
pub record WriteReady (text : List ℕ) (c : Counts) (names masks gates outputs : List ℕ) : Type 0 where
  pub tree : Tree
  pub is : TextOf tree text
  pub short : length text ≤ max_text
  pub within : is_over_limit tree ≡ false
  pub counted : c ≡ tree_counts tree
  pub numbers_are : take (length (declared tree)) names ≡ packed_names tree
  pub single : first_duplicate tree ≡ none
  pub known : first_undeclared tree ≡ none
  pub masks₀ : List ℕ
  pub gates₀ : List ℕ
  pub outputs₀ : List ℕ
  pub masks_written : masks ≡ placed (joined (map never_words (block_of tree).nevers)) masks₀
  pub gates_written : gates ≡ placed (joined (map (gate_words (length tree.inputs)) (block_of tree).gates)) gates₀
  pub outputs_written : outputs ≡ placed (joined (map (output_words (length tree.inputs)) (block_of tree).outputs))
      outputs₀
