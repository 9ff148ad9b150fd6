-- `op_compare_cells::table::table_word` meets its contract: every fifth word is a truth word, and the place of an
-- operand that is earlier fits a word.
use mathlib.Core.Path.{◌∙◌}
use Prim.Native.Nat.{◌<◌}
use lib.ListN.{get_or}
use Rattle.netlist.specs.StoredBlock.{operand_of}
use Rattle.graph_gates.specs.Places.{place_of}
use native.Mathlib.Omega.{arith}
use borrow.Author.Tests.{eq-eqb, ne_eqb}
use Rattle.op_compare_cells.specs.Table.{table_word}
use Rattle.op_compare_cells.proofs.Decoding.{legal-parts, place-small}
use Rattle.op_compare_cells.proofs.table.table_word.Goals.{Else-p-eq-OPERAND_WORDS}
use Rattle.op_compare_cells.proofs.table.table_word.Goals as goal

-- the operand's word is a word, and its place fits one
small : (c : Else-p-eq-OPERAND_WORDS)
    → let s =
    c in place_of (operand_of s.args.n (get_or s.args.cells.now s.args.p 0)) < 65536
small c =
    let s = c in
    place-small (legal-parts s.args.n s.args.cells.now s.requires.0) s.args.p s.requires.1 c.if-p-eq-OPERAND_WORDS.false

pub returns-then-p-eq-OPERAND_WORDS : goal.returns-then-p-eq-OPERAND_WORDS
unfolding table_word
returns-then-p-eq-OPERAND_WORDS c = rw (eq-eqb _ _ c.if-p-eq-OPERAND_WORDS.true)

pub place_of-requires : goal.place_of-requires
place_of-requires c =
    let known = c in
    let s = known in (
      (legal-parts s.args.n s.args.cells.now s.requires.0).few_inputs,
      omega (arith, known.shared_slice_known-2-1.given s.args.p),
    )

pub overflow_cast-result : goal.overflow_cast-result
overflow_cast-result c = omega (arith, c.place_of.ensures, small (goal.at.overflow_cast-result c).Else-p-eq-OPERAND_WORDS)

pub returns : goal.returns
unfolding table_word
returns c = c.place_of.ensures ∙ rw (ne_eqb _ _ c.if-p-eq-OPERAND_WORDS.false)
