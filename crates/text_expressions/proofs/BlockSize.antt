-- How many inputs, never lines, gates and outputs the block of a text's tree has, and so how many words.
-- Assumes nothing.
use mathlib.Core.Path.{◌≡◌, refl, ap₂, ◌∙◌}
use mathlib.Core.List.{List, [], ◌∷◌, map}
use Prim.Native.Nat.{ℕ, ◌+◌}
use lib.ListN.{length, length-append, length-map}
use Rattle.prelude.specs.Lists.{sum}
use Rattle.netlist.specs.Netlist.{gate_count, output_count, never_count}
use Rattle.netlist.specs.StoredBlock.{encode}
use Rattle.netlist.specs.Syntax.{apply, GateLine, Tree}
use Rattle.netlist.specs.Reading.{gates_in, line_gates, Binding, bindings, term_gates, lines_gates, block_of}
use Rattle.theory_encoding.proofs.Encoded.{length-encode}
use Rattle.text_lines.specs.declared.counts.Counts.{Counts}
use Rattle.text_lines.specs.Counting.{tree_counts}
use Rattle.text_block.specs.Words.{word_count}
use Rattle.text_expressions.proofs.Closings.{gates-count}

lines-gates : (gs : List GateLine) (bs : List Binding) (first : ℕ)
    → length (lines_gates gs bs first) ≡ sum (map line_gates gs)
unfolding lines_gates line_gates gates_in
lines-gates [] bs first = refl
lines-gates (g ∷ gs) bs first =
    length-append (term_gates (apply g.kind g.terms) bs first) (lines_gates gs bs (first + line_gates g))
    ∙ ap₂ (λ (a b : ℕ). a + b) (gates-count (apply g.kind g.terms) bs first)
    (lines-gates gs bs (first + line_gates g))

module _ (t : Tree) where
  pub block-gates : gate_count (block_of t) ≡ sum (map line_gates t.gates)
  unfolding block_of
  block-gates = lines-gates t.gates (bindings t) 0

  pub block-outputs : output_count (block_of t) ≡ length t.outputs
  unfolding block_of
  block-outputs = length-map t.outputs _

  pub block-inputs : (block_of t).inputs ≡ t.inputs
  unfolding block_of
  block-inputs = refl

  pub block-nevers : never_count (block_of t) ≡ length t.nevers
  unfolding block_of
  block-nevers = length-map t.nevers _

  pub block-length : (c : Counts) → c ≡ tree_counts t → length (encode (block_of t)) ≡ word_count c
  unfolding word_count tree_counts
  block-length c e = length-encode (block_of t) ∙ rw (e, block-inputs, block-gates, block-outputs, block-nevers) refl
