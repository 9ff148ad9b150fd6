-- CompareCells' outcome as a chain of conditions, and what the tests passed say. Cited by `compare_cells` and `list`.
-- Assumes nothing.
use mathlib.Core.Path.{◌≡◌, refl, ◌∙◌}
use mathlib.Core.Bool.{false, not}
use mathlib.Core.List.{List}
use Prim.Native.Nat.{ℕ}
use lib.Dec.{eqb}
use lib.ListN.{length, get_or}
use borrow.Author.Tests.{eqb-true, ltb-true, not-false}
use Rattle.prelude.specs.Lists.{all}
use Rattle.prelude.proofs.Quantifiers.{all-at}
use Rattle.netlist.specs.declared.Refusal.TheVariants.{MalformedBlock, InterfaceMismatch}
use Rattle.netlist.specs.Netlist.{input_count, output_count}
use Rattle.netlist.specs.StoredBlock.{decode, is_malformed}
use Rattle.std.specs.declared.result.Result.TheVariants.{Ok}
use Rattle.netlist.specs.Answers.{Outcome, refuse_if}
use Rattle.netlist.specs.Cells.{are_legal_cells}
use Rattle.netlist.specs.CompareCells.{is_listed, compare_block_cells, compare_cells}
use Rattle.theory_encoding.proofs.Decoded.{decode-input_count, decode-output_count}
use Rattle.words_refusals.specs.Tests.{Test, test_of}
use Rattle.words_refusals.proofs.Promised.{passed, bare, keeps-bare}
use Rattle.op_compare_cells.specs.Ready.{Comparable}

module _ (ws cells shown : List ℕ) where
  -- what is left of the conditions behind each: behind the list's length, the list's form; behind the cells, that; ..
  abbrev pub list_on : Outcome
  list_on =
      refuse_if (not (all (is_listed (input_count (decode ws)) cells) shown)) MalformedBlock
      (compare_block_cells (decode ws) cells shown)

  abbrev pub length_on : Outcome
  length_on = refuse_if (not (eqb (length shown) (output_count (decode ws)))) InterfaceMismatch list_on

  abbrev pub cells_on : Outcome
  cells_on = refuse_if (not (are_legal_cells (input_count (decode ws)) cells)) MalformedBlock length_on

  pub compare-chain : compare_cells ws cells shown ≡ refuse_if (is_malformed ws) MalformedBlock cells_on
  unfolding compare_cells
  compare-chain = refl

  pub all-passed : is_malformed ws ≡ false → not (are_legal_cells (input_count (decode ws)) cells) ≡ false
      → not (eqb (length shown) (output_count (decode ws))) ≡ false
      → not (all (is_listed (input_count (decode ws)) cells) shown) ≡ false
      → Comparable ws cells shown
  unfolding is_listed
  all-passed p q r t =
      let n = input_count (decode ws) in
      let long : length shown ≡ get_or ws 2 0 =
      eqb-true (length shown) (output_count (decode ws)) (not-false (eqb (length shown) (output_count (decode ws))) r)
      ∙ decode-output_count ws in
      record {
        whole = p;
        legal = rw (decode-input_count ws) at (not-false (are_legal_cells n cells) q);
        long = long;
        listed = λ o l.
            rw (← decode-input_count ws)
            (ltb-true (get_or shown o 0) _
            (all-at (is_listed n cells) shown o 0 (not-false (all (is_listed n cells) shown) t) (rw long l)));
      }

-- the test of the cells is told of the word in which the block has its number of inputs
pub cells-told : (ws cells : List ℕ) {n : ℕ} {t : Test} → n ≡ get_or ws 0 0
    → t ≡ test_of (not (are_legal_cells n cells)) MalformedBlock
    → t ≡ test_of (not (are_legal_cells (input_count (decode ws)) cells)) MalformedBlock
cells-told ws cells m e = rw (decode-input_count ws, ← m) e

-- the outcome when the first tests have passed, from what each of them says
module _ (ws cells shown : List ℕ) {w : Test} (words : w ≡ test_of (is_malformed ws) MalformedBlock)
    (whole : w ≡ Ok tt) where
  pub words-passed : compare_cells ws cells shown ≡ cells_on ws cells shown
  words-passed = passed bare keeps-bare _ _ MalformedBlock (compare-chain ws cells shown) words whole

  module _ {n : ℕ} {t : Test} (inputs : n ≡ get_or ws 0 0)
      (told : t ≡ test_of (not (are_legal_cells n cells)) MalformedBlock) (legal : t ≡ Ok tt) where
    pub cells-passed : compare_cells ws cells shown ≡ length_on ws cells shown
    cells-passed = passed bare keeps-bare _ _ MalformedBlock words-passed (cells-told ws cells inputs told) legal

    pub length-passed : {l : Test}
        → l ≡ test_of (not (eqb (length shown) (output_count (decode ws)))) InterfaceMismatch
        → l ≡ Ok tt
        → compare_cells ws cells shown ≡ list_on ws cells shown
    length-passed e f = passed bare keeps-bare _ _ InterfaceMismatch cells-passed e f
