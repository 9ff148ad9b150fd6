-- Truth words, for every kind and operand count at once, each by one test that antt computes.
--   table_is      an array that passes the test is the table
--   truth-entry   the table holds the truth word of each gate's first word
--   truth-bit     bit b of a truth word is what the kind gives when operand i is bit i of b
-- Assumes nothing.
use mathlib.Core.Path.{◌≡◌, refl, ◌∙◌}
use mathlib.Core.Bool.{Bool, true, not, ◌||◌}
use mathlib.Core.List.{List}
use Prim.Native.Nat.{ℕ, ◌/◌, ◌%◌, ◌<◌}
use native.Mathlib.Omega.{arith}
use lib.ListN.{get_or}
use lib.Dec.{eqb}
use borrow.Author.Tests.{eqb-true}
use Rattle.prelude.specs.Lists.{same, all, tab, up_to}
use Rattle.prelude.proofs.Same.{same-eq}
use Rattle.prelude.proofs.Tab.{get_d-tab}
use Rattle.prelude.proofs.Quantifiers.{all-below}
use Rattle.netlist.specs.Values.{code, value_of, invert, is_defined}
use Rattle.netlist.specs.Kinds.{row, rows, row_of, is_not, is_xor, is_xnor, is_kind, signature, signature_in, signatures}
use Rattle.netlist.specs.Kinds.{signature_of, fewest_operands, most_operands}
use Rattle.netlist.specs.Kinds.{arity_fits, ruled, ones, parity, gate_value}
use Rattle.netlist.specs.Assignments.{bit}
use Rattle.netlist.specs.Rounds.{setting_of}
use Rattle.netlist.specs.Cells.{truth_bit, truth_word}
use Rattle.theory_encoding.proofs.Gates.{kind-small, arity-four}
use Rattle.op_cells.specs.Made.{GateHead, truth_entry, heads, truth_words}

-- ---- the table

pub head-low : (head : ℕ) → GateHead head → head < heads
head-low head h = omega (arith, kind-small (head % 8) h.kind, arity-four (head % 8) (head / 8) h.count)

-- an array that passes the test is the table
pub table_is : (xs : List ℕ) → same xs (tab truth_entry heads) ≡ true → xs ≡ truth_words
unfolding truth_words
table_is xs t = same-eq xs (tab truth_entry heads) t

pub truth-entry : (head : ℕ) → GateHead head → get_or truth_words head 0 ≡ truth_word (head % 8) (head / 8)
unfolding truth_words truth_entry
truth-entry head h = get_d-tab truth_entry heads head 0 (head-low head h) ∙ rw (h.kind, h.count)

-- ---- the bits

-- the test of one bit
is_true : ℕ → ℕ → ℕ → Bool
is_true k count b = not (arity_fits k count) || eqb (bit (truth_word k count) b) (truth_bit k count b)

all_true : all (λ k. all (λ count. all (is_true k count) (up_to 16)) (up_to 5)) (up_to 7) ≡ true
unfolding is_true row rows row_of is_not is_xor is_xnor signature signature_in signatures signature_of fewest_operands
    most_operands arity_fits ruled ones parity
    gate_value code value_of invert is_defined bit setting_of truth_bit truth_word
all_true = refl

module _ (k count b : ℕ) (known : is_kind k ≡ true) (fits : arity_fits k count ≡ true) (low : b < 16) where
  pub truth-bit : bit (truth_word k count) b ≡ truth_bit k count b
  unfolding is_true
  truth-bit =
      let kinds = all-below (λ k. all (λ count. all (is_true k count) (up_to 16)) (up_to 5)) 7 k all_true
      (omega (arith, kind-small k known)) in
      let counts = all-below (λ count. all (is_true k count) (up_to 16)) 5 count kinds
      (omega (arith, arity-four k count fits)) in
      let here : is_true k count b ≡ true = all-below (is_true k count) 16 b counts low in
      eqb-true (bit (truth_word k count) b) (truth_bit k count b) (rw fits at here)
