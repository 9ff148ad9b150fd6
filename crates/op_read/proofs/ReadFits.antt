-- What Read gives fits into a slice that has room for the largest block. Assumes nothing.
use mathlib.Core.Path.{◌≡◌, refl}
use mathlib.Core.Bool.{false}
use mathlib.Core.List.{List}
use Prim.Native.Nat.{ℕ, ◌≤◌}
use native.Mathlib.Omega.{arith}
use lib.ListN.{length}
use lib.Dec.{ltb}
use Rattle.netlist.specs.Limits.{max_text, max_block}
use Rattle.netlist.specs.StoredBlock.{nevers_at, gates_at, outputs_at, encode}
use Rattle.netlist.specs.Syntax.{Tree}
use Rattle.netlist.specs.Parse.{Parsed, got, stuck, parse}
use Rattle.netlist.specs.Reading.{is_over_limit, first_duplicate, first_undeclared, block_of}
use Rattle.netlist.specs.Operations.{read_tree, read_parsed, read_text}
use Rattle.theory_grammar.proofs.Limits.{limits-within}
use Rattle.text_lines.specs.Counting.{tree_counts}
use Rattle.text_block.specs.Words.{word_count}
use Rattle.text_expressions.proofs.BlockSize.{block-length}
use Rattle.text_pieces.proofs.Told.{Fits}
use Rattle.text_pieces.proofs.Sizes.{counted-fits, refused-fits, if-fits, at-fits}

module _ (room : ℕ) (h : max_block ≤ room) where
  read_length : (t : Tree) → is_over_limit t ≡ false → length (encode (block_of t)) ≤ room
  unfolding word_count tree_counts outputs_at gates_at nevers_at
  read_length t o =
      let l = limits-within t o in
      omega (arith, h, block-length t (tree_counts t) refl, l.inputs, l.nevers, l.gates, l.outputs)

  parsed-fits : (text : List ℕ) (p : Parsed Tree) → Fits room (read_parsed text p)
  unfolding read_parsed read_tree
  parsed-fits text (stuck left) = refused-fits room _
  parsed-fits text (got t rest) =
      if-fits room (is_over_limit t) _ _
      (λ o. at-fits room (first_duplicate t) _ _
      (at-fits room (first_undeclared t) _ _ (counted-fits room (encode (block_of t)) (read_length t o))))

  pub read_fits : (text : List ℕ) → Fits room (read_text text)
  unfolding read_text
  read_fits text = if-fits room (ltb max_text (length text)) _ _ (λ s. parsed-fits text (parse text))
