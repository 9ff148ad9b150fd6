-- What Write prints, Read gives back: the words of the block. Assumes nothing.
--   parse-written: a written text parses to the tree it was printed from
--   reading-written: reading it gives the block's words
--   reading-written-words: the same from words that are not malformed
use Prim.Native.Nat.{ℕ}
use mathlib.Core.Path.{◌≡◌, ap, ◌∙◌}
use mathlib.Core.Bool.{true, false, and-eq-true_iff}
use mathlib.Core.List.{List, []}
use native.Mathlib.Omega.{arith}
use lib.ListN.{length}
use borrow.Author.Tests.{le-ltb, not-false}
use Rattle.prelude.specs.Lists.{same}
use Rattle.prelude.proofs.Same.{same-eq}
use Rattle.netlist.specs.Limits.{max_text}
use Rattle.netlist.specs.Netlist.{Block}
use Rattle.netlist.specs.StoredBlock.{encode, decode, is_well_formed, is_malformed}
use Rattle.netlist.specs.Parse.{got, parse}
use Rattle.netlist.specs.Writing.{flat_tree, written_text}
use Rattle.netlist.specs.Answers.{refuse_if, refuse_at}
use Rattle.netlist.specs.Operations.{counted, read_tree, read_parsed, read_text}
use Rattle.theory_grammar.proofs.Complete.{parse-complete}
use Rattle.theory_grammar.proofs.WritingTree.{flat_tree-legal}
use Rattle.theory_grammar.proofs.WritingBlock.{block_of-flat_tree}
use Rattle.theory_grammar.proofs.WritingRefusals.{flat_tree-within, flat_tree-unrepeated, flat_tree-declared}
use Rattle.theory_grammar.proofs.WritingLength.{written-length}

-- A written text parses to the tree it was printed from.
pub parse-written : (b : Block) → is_well_formed b ≡ true → parse (written_text b) ≡ got (flat_tree b) []
unfolding written_text
parse-written b h = parse-complete (flat_tree b) (flat_tree-legal b h)

-- Round trip: reading what a well-formed block is written as gives its words.
pub reading-written : (b : Block) → is_well_formed b ≡ true → read_text (written_text b) ≡ counted (encode b)
unfolding read_text read_parsed read_tree refuse_if refuse_at
reading-written b h =
    rw (
      le-ltb max_text (length (written_text b)) (omega (arith, written-length b h)),
      parse-written b h,
      flat_tree-within b h,
      flat_tree-unrepeated b h,
      flat_tree-declared b h,
      block_of-flat_tree b h,
    )

-- Round trip on words: what Write makes of words that are not malformed, Read takes back to those words.
pub reading-written-words : (ws : List ℕ) → is_malformed ws ≡ false → read_text (written_text (decode ws)) ≡ counted ws
unfolding is_malformed
reading-written-words ws h =
    let f = (and-eq-true_iff (is_well_formed (decode ws)) (same (encode (decode ws)) ws)).0 (not-false _ h) in
    reading-written (decode ws) f.0 ∙ ap counted (same-eq (encode (decode ws)) ws f.1)
