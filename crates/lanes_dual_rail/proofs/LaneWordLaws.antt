-- Pairs in one array of words: the rule of a gate's row over four places is the kind's rule over its operands, and what
-- a pair that is stored leaves.
--   and-full, or-none, and_none   words within the lanes in use
--   combined-neutral              the constant behind the last operand changes nothing
--   row-pair                      the pair of a kind with a row
--   not-pair                      the pair of a `not`, with constant 1 read once
--   place-operand                 what stands at a place is the operand's pair
--   gate_pair_in-evaluated          so the four places give the gate's pair
--   put_same, put_other, put-inputs, put-gates, put-filled, put-length    a pair stored
-- Assumes nothing.
use mathlib.Core.Path.{◌≡◌, refl, sym, ap, ◌∙◌}
use mathlib.Core.Logic.{⊎_elim}
use mathlib.Core.Bool.{Bool, true, false, cond}
use mathlib.Core.List.{List, [], ◌∷◌, map}
use Prim.Native.Nat.{ℕ, zero, suc, ◌+◌, ◌-◌, ◌*◌, ◌/◌, ◌%◌, ◌^◌, ◌≤◌, ◌<◌, min}
use native.Mathlib.Omega.{arith}
use borrow.Author.Tests.{lt-ltb, le-ltb, ne_eqb, leb-true, le-leb, lt-leb}
use lib.Bits.{bit_and, bit_or}
use lib.Pow.{ones_lt}
use lib.Dec.{leb}
use lib.ListN.{length, get_or, set, length-set}
use lib.Seq.{ext_get_or, get_or-set_same, get_or-set_other}
use Rattle.prelude.specs.Lists.{tab}
use Rattle.prelude.proofs.Tab.{length-tab, get_d-tab, map-tab, tab-ext}
use Rattle.prelude.proofs.Tests.{lt-or-le, eq-or-ne, and_left, and_right}
use Rattle.netlist.specs.Limits.{max_inputs, max_gates}
use Rattle.netlist.specs.Assignments.{bit}
use Rattle.netlist.specs.Kinds.{row_of, rows, row, is_not, is_xor, is_xnor, fewest_operands, most_operands, arity_fits}
use Rattle.netlist.specs.Netlist.{Operand}
use Rattle.words_layout.proofs.KindLaws.{not-counts, other-counts, kind-last}
use Rattle.graph_gates.specs.Places.{first_input, first_gate, operand_at}
use Rattle.graph_gates.specs.Graph.{controlling_of, forced_of, operation_word, operand_place, kind_at, count_at, place_at}
use Rattle.graph_gates.specs.Graph.{gate_at, Node}
use Rattle.lanes_dual_rail.specs.declared.Pair.{Pair}
use Rattle.lanes_dual_rail.specs.Pairs.{
  Proper,
  full,
  no_lanes,
  always,
  is_conjunction,
  is_parity,
  inverts,
  both_pair,
  either_pair,
  parity_pair,
  combined,
  neutral,
  folded,
  swapped,
  finished,
  pair_of,
}
use Rattle.lanes_dual_rail.specs.PairRounds.{operand_pair, evaluated_pair, LegalGate, AllProper}
use Rattle.lanes_dual_rail.specs.LaneWords.{
  pair_at,
  put_pair,
  inputs_in,
  gates_in,
  Filled,
  operand_word,
  some_word,
  every_word,
  rule_pair,
  parity_of,
  parity_at,
  gate_pair_in,
}
use Rattle.lanes_dual_rail.proofs.BitLaws.{bit-low, bit-zero, bit_high, bit-and, bit-or, bit-full, eq-by-bits}
use Rattle.lanes_dual_rail.proofs.RoundLaws.{operand_pair-proper}

-- ---- words within the lanes in use

pub and-full : (lanes a : ℕ) → a < 2 ^ lanes → bit_and a (full lanes) ≡ a
and-full lanes a h =
    eq-by-bits (bit_and a (full lanes)) a (λ s. bit-and a (full lanes) s ∙ ⊎_elim (inside s) (past s) (lt-or-le s lanes))
  where
    inside : (s : ℕ) → s < lanes → min (bit a s) (bit (full lanes) s) ≡ bit a s
    inside s l = let low = bit-low a s in rw (bit-full lanes s l) (omega arith)

    past : (s : ℕ) → lanes ≤ s → min (bit a s) (bit (full lanes) s) ≡ bit a s
    past s l = rw (bit_high a lanes s h l) (omega arith)

pub or-none : (a : ℕ) → bit_or a 0 ≡ a
or-none a = eq-by-bits (bit_or a 0) a (λ s. bit-or a 0 s ∙ rw (bit-zero s) (omega arith))

or_same : (a : ℕ) → bit_or a a ≡ a
or_same a = eq-by-bits (bit_or a a) a (λ s. bit-or a a s ∙ let low = bit-low a s in omega arith)

and_same : (a : ℕ) → bit_and a a ≡ a
and_same a = eq-by-bits (bit_and a a) a (λ s. bit-and a a s ∙ omega arith)

full-within : (lanes : ℕ) → full lanes < 2 ^ lanes
unfolding full
full-within lanes = ones_lt lanes

none_or : (a : ℕ) → bit_or 0 a ≡ a
none_or a = eq-by-bits (bit_or 0 a) a (λ s. bit-or 0 a s ∙ rw (bit-zero s) (omega arith))

pub and_none : (a : ℕ) → bit_and a 0 ≡ 0
and_none a = eq-by-bits (bit_and a 0) 0 (λ s. bit-and a 0 s ∙ rw (bit-zero s) (omega arith))

-- the constant behind the last operand changes nothing
pub combined-neutral : {lanes : ℕ} (k : ℕ) {p : Pair} → Proper lanes p → combined k p (neutral (full lanes) k) ≡ p
unfolding combined neutral both_pair either_pair parity_pair always
combined-neutral {lanes} k {p} h = go (is_conjunction k) (is_parity k)
  where
    zeros : bit_and p.zeros (full lanes) ≡ p.zeros
    zeros = and-full lanes p.zeros h.zeros_within

    ones : bit_and p.ones (full lanes) ≡ p.ones
    ones = and-full lanes p.ones h.ones_within

    go : (c d : Bool)
        → cond c (both_pair p (always (full lanes) c))
        (cond d (parity_pair p (always (full lanes) c)) (either_pair p (always (full lanes) c))) ≡ p
    go true d = rw (ones, or-none p.zeros) refl
    go false true =
        rw (zeros, ones, and_none p.zeros, and_none p.ones, or-none p.zeros, none_or p.ones) refl
    go false false = rw (zeros, or-none p.ones) refl

-- up to four operands, and the constant that changes nothing behind the last
folded-four : {lanes : ℕ} (k : ℕ) (p : ℕ → Pair) (count : ℕ) → 1 ≤ count → count ≤ 4
    → ((i : ℕ) → i < 4 → Proper lanes (p i))
    → ((i : ℕ) → i < 4 → count ≤ i → p i ≡ neutral (full lanes) k)
    → combined k (p 0) (combined k (p 1) (combined k (p 2) (p 3))) ≡ folded (full lanes) k (tab p count)
unfolding folded
folded-four k p zero l h proper none = absurd (omega arith)
folded-four k p (suc zero) l h proper none =
    let nothing = combined-neutral k (rw (none 3 (omega arith) (omega arith)) at (proper 3 (omega arith))) in
    rw (
      none 1 (omega arith) (omega arith),
      none 2 (omega arith) (omega arith),
      none 3 (omega arith) (omega arith),
      nothing,
      nothing,
    ) refl
folded-four k p (suc (suc zero)) l h proper none =
    let nothing = combined-neutral k (rw (none 3 (omega arith) (omega arith)) at (proper 3 (omega arith))) in
    rw (none 2 (omega arith) (omega arith), none 3 (omega arith) (omega arith), nothing) refl
folded-four k p (suc (suc (suc zero))) l h proper none = rw (none 3 (omega arith) (omega arith)) refl
folded-four k p (suc (suc (suc (suc zero)))) l h proper none = rw (combined-neutral k (proper 3 (omega arith))) refl
folded-four k p (suc (suc (suc (suc (suc count))))) l h proper none = absurd (omega arith)

-- ---- what stands at a place

module _ {used : ℕ} {w : List ℕ} (filled : Filled used w) (m : ℕ) where
  pub place-operand : (p : ℕ) → p < first_gate + m
      → pair_at w p ≡ operand_pair used (inputs_in w) (gates_in m w) (operand_at p)
  unfolding operand_at operand_pair inputs_in gates_in
  place-operand p l =
      ⊎_elim first (λ n. ⊎_elim second (λ o. ⊎_elim (an-input n o) a-gate (lt-or-le p first_gate)) (eq-or-ne p 1))
      (eq-or-ne p 0)
    where
      first : p ≡ 0 → pair_at w p ≡ operand_pair used (inputs_in w) (gates_in m w) (operand_at p)
      first e = rw e filled.zero

      second : p ≡ 1 → pair_at w p ≡ operand_pair used (inputs_in w) (gates_in m w) (operand_at p)
      second e = rw e filled.one

      an-input : (p ≡ 0 → ⊥) → (p ≡ 1 → ⊥) → p < first_gate
          → pair_at w p ≡ operand_pair used (inputs_in w) (gates_in m w) (operand_at p)
      an-input n o h =
          let e : first_input + (p - first_input) ≡ p = omega arith in
          rw (
            ne_eqb p 0 n,
            ne_eqb p 1 o,
            lt-ltb p first_gate h,
            get_d-tab (λ i. pair_at w (first_input + i)) max_inputs (p - first_input) no_lanes (omega arith),
            e,
          )

      a-gate : first_gate ≤ p → pair_at w p ≡ operand_pair used (inputs_in w) (gates_in m w) (operand_at p)
      a-gate h =
          let e : first_gate + (p - first_gate) ≡ p = omega arith in
          rw (
            ne_eqb p 0 (omega arith),
            ne_eqb p 1 (omega arith),
            le-ltb p first_gate h,
            get_d-tab (λ j. pair_at w (first_gate + j)) m (p - first_gate) no_lanes (omega arith),
            e,
          )

-- ---- one gate

pub parity-four : (graph : List ℕ) (j : ℕ) (w : List ℕ) {a b c d p q r : Pair} → a ≡ pair_at w (place_at graph j 0)
    → b ≡ pair_at w (place_at graph j 1)
    → c ≡ pair_at w (place_at graph j 2) → d ≡ pair_at w (place_at graph j 3) → p ≡ parity_pair c d → q ≡ parity_pair b p
    → r ≡ parity_pair a q
    → r ≡ parity_of graph j w
unfolding parity_of
parity-four graph j w e f g h i k l = l ∙ rw (k, i, h, g, f, e) refl

pub node-legal : {m : ℕ} {graph : List ℕ} {j : ℕ} → Node m graph j → LegalGate (gate_at graph j)
unfolding gate_at
node-legal {m} {graph} {j} n =
    record {
      kind = n.kind;
      count = rw (length-tab (λ i. operand_at (place_at graph j i)) (count_at graph j)) n.count;
    }

-- a row's values, and those of the other kinds
row_low : (k : ℕ) → k ≤ 6 → (controlling_of k ≤ 1) × (forced_of k ≤ 1)
unfolding controlling_of forced_of is_not is_xor is_xnor row_of rows row
row_low zero l = (omega arith, omega arith)
row_low (suc zero) l = (omega arith, omega arith)
row_low (suc (suc zero)) l = (omega arith, omega arith)
row_low (suc (suc (suc zero))) l = (omega arith, omega arith)
row_low (suc (suc (suc (suc zero)))) l = (omega arith, omega arith)
row_low (suc (suc (suc (suc (suc zero))))) l = (omega arith, omega arith)
row_low (suc (suc (suc (suc (suc (suc zero)))))) l = (omega arith, omega arith)
row_low (suc (suc (suc (suc (suc (suc (suc k))))))) l = absurd (omega arith)

-- the operand counts of a kind
counts-low : (k count : ℕ) → k ≤ 6 → arity_fits k count ≡ true → (1 ≤ count) × (count ≤ 4) × (k ≡ 0 → count ≡ 1)
unfolding arity_fits
counts-low k count l h = ⊎_elim single several (eq-or-ne k 0)
  where
    lo : fewest_operands k ≤ count
    lo = leb-true (fewest_operands k) count (and_left (leb (fewest_operands k) count) (leb count (most_operands k)) h)

    hi : count ≤ most_operands k
    hi = leb-true count (most_operands k) (and_right (leb (fewest_operands k) count) (leb count (most_operands k)) h)

    single : k ≡ 0 → (1 ≤ count) × (count ≤ 4) × (k ≡ 0 → count ≡ 1)
    single e =
        let lo' : 1 ≤ count = rw (e, not-counts.0) at lo in
        let hi' : count ≤ 1 = rw (e, not-counts.1) at hi in
        (lo', omega arith, λ f. omega arith)

    several : (k ≡ 0 → ⊥) → (1 ≤ count) × (count ≤ 4) × (k ≡ 0 → count ≡ 1)
    several n =
        let c = other-counts k (omega arith) l in
        (omega (arith, lo, c), omega (arith, hi, c), λ e. absurd (n e))

module _ {m : ℕ} {graph : List ℕ} {j : ℕ} (node : Node m graph j) where
  known : kind_at graph j ≤ 6
  known = kind-last (kind_at graph j) node.kind

  operation-is : get_or graph (5 * j) 0
      ≡ kind_at graph j + 8 * count_at graph j + 64 * controlling_of (kind_at graph j) + 128 * forced_of (kind_at graph j)
  unfolding operation_word gate_at
  operation-is = node.operation ∙ rw (length-tab (λ i. operand_at (place_at graph j i)) (count_at graph j)) refl

  pub operation-small : get_or graph (5 * j) 0 < 65536
  operation-small =
      let c = counts-low (kind_at graph j) (count_at graph j) known node.count in
      omega (arith, operation-is, known, c, row_low (kind_at graph j) known)

  operation-parts : (get_or graph (5 * j) 0 % 8 ≡ kind_at graph j)
      × (get_or graph (5 * j) 0 / 64 % 2 ≡ controlling_of (kind_at graph j))
      × (get_or graph (5 * j) 0 / 128 ≡ forced_of (kind_at graph j))
  operation-parts =
      let c = counts-low (kind_at graph j) (count_at graph j) known node.count in
      let r = row_low (kind_at graph j) known in
      let e = operation-is in
      (omega (arith, known, c, r, e), omega (arith, known, c, r, e), omega (arith, known, c, r, e))

  pub forced-low : get_or graph (5 * j) 0 / 128 ≤ 1
  forced-low = rw operation-parts.2 (row_low (kind_at graph j) known).1

  -- behind the last operand
  absent : (i : ℕ) → i < 4 → count_at graph j ≤ i → place_at graph j i ≡ 1 - controlling_of (kind_at graph j)
  unfolding operand_place gate_at
  absent i l h =
      node.place i l
      ∙ rw (length-tab (λ i. operand_at (place_at graph j i)) (count_at graph j), le-ltb i (count_at graph j) h) refl

-- the words of four pairs
word-zeros : (graph : List ℕ) (j : ℕ) (w : List ℕ) (i : ℕ)
    → operand_word graph j w 0 i ≡ (pair_at w (place_at graph j i)).zeros
unfolding operand_word pair_at
word-zeros graph j w i = let e : 2 * place_at graph j i + 0 ≡ 2 * place_at graph j i = omega arith in rw e refl

word_ones : (graph : List ℕ) (j : ℕ) (w : List ℕ) (i : ℕ)
    → operand_word graph j w 1 i ≡ (pair_at w (place_at graph j i)).ones
unfolding operand_word pair_at
word_ones graph j w i = refl

-- the rule of a kind, over four pairs
unfoldable four_pair : ℕ → Pair → Pair → Pair → Pair → Pair
four_pair k p q r s = finished k (combined k p (combined k q (combined k r s)))

module _ (graph : List ℕ) (j : ℕ) (w : List ℕ) where
  p : ℕ → Pair
  p i = pair_at w (place_at graph j i)

  four-rule : (k : ℕ) → 1 ≤ k → k ≤ 4
      → rule_pair graph j w (controlling_of k) (forced_of k) ≡ four_pair k (p 0) (p 1) (p 2) (p 3)
  unfolding p rule_pair some_word every_word controlling_of forced_of is_not is_xor is_xnor row_of rows row four_pair finished
      inverts combined is_conjunction is_parity
      both_pair either_pair swapped
  four-rule zero h l = absurd (omega arith)
  four-rule (suc zero) h l = simp (word-zeros graph j w, word_ones graph j w) refl
  four-rule (suc (suc zero)) h l = simp (word-zeros graph j w, word_ones graph j w) refl
  four-rule (suc (suc (suc zero))) h l = simp (word-zeros graph j w, word_ones graph j w) refl
  four-rule (suc (suc (suc (suc zero)))) h l = simp (word-zeros graph j w, word_ones graph j w) refl
  four-rule (suc (suc (suc (suc (suc k))))) h l = absurd (omega arith)

  four-parity : (k : ℕ) → 5 ≤ k → k ≤ 6 → parity_at graph j w (forced_of k) ≡ four_pair k (p 0) (p 1) (p 2) (p 3)
  unfolding p parity_at parity_of forced_of is_not is_xor is_xnor four_pair finished inverts combined is_conjunction is_parity
  four-parity k h l = ⊎_elim (λ e. rw e refl) (λ n. let e : k ≡ 6 = omega arith in rw e refl) (eq-or-ne k 5)

-- a kind with a row goes by it
pub row-pair : (graph : List ℕ) (j : ℕ) (w : List ℕ) (c f : ℕ) {r : Pair} → get_or graph (5 * j) 0 % 8 < 5
    → get_or graph (5 * j) 0 / 64 % 2 ≡ c → get_or graph (5 * j) 0 / 128 ≡ f → r ≡ rule_pair graph j w c f
    → r ≡ gate_pair_in graph j w
unfolding gate_pair_in
row-pair graph j w c f row controlling forced e =
    rw (lt-leb 5 (get_or graph (5 * j) 0 % 8) row, controlling, forced) e

-- a `not` reads constant 1 behind its operand, whatever its words are
pub not-pair : {m : ℕ} {graph : List ℕ} {j : ℕ} (w : List ℕ) {a one : Pair} → Node m graph j → kind_at graph j ≡ 0
    → a ≡ pair_at w (place_at graph j 0)
    → one ≡ pair_at w 1
    → record { zeros = bit_and a.ones one.ones; ones = bit_or a.zeros one.zeros } ≡ gate_pair_in graph j w
unfolding gate_pair_in rule_pair some_word every_word controlling_of forced_of is_not
not-pair {m} {graph} {j} w node kind e f =
    let parts = operation-parts node in
    let single = (counts-low (kind_at graph j) (count_at graph j) (known node) node.count).2 kind in
    let behind : (i : ℕ) → 1 ≤ i → i < 4 → place_at graph j i ≡ 1 =
    λ i l h. absent node i h (omega (arith, single)) ∙ rw kind refl in
    rw (e, f, parts.0, parts.1, parts.2, kind)
    (simp (
      word-zeros graph j w,
      word_ones graph j w,
      behind 1 (omega arith) (omega arith),
      behind 2 (omega arith) (omega arith),
      behind 3 (omega arith) (omega arith),
      or_same,
      and_same,
    )
    refl)

-- The gate's pair by its row, over four places, is the pair of its kind over its operands.
module _ {m lanes : ℕ} {graph : List ℕ} {j : ℕ} {w : List ℕ} (node : Node m graph j) (filled : Filled (full lanes) w)
    (inputs_proper : AllProper lanes (inputs_in w)) (gates_proper : AllProper lanes (gates_in m w)) where
  place-proper : (i : ℕ) → i < 4 → Proper lanes (p graph j w i)
  unfolding p
  place-proper i l =
      rw (place-operand filled m (place_at graph j i) (node.inside i l))
      (operand_pair-proper inputs_proper gates_proper (operand_at (place_at graph j i)))

  -- behind the last operand of a kind other than `not`
  absent-neutral : (k : ℕ) → kind_at graph j ≡ k → 1 ≤ k → k ≤ 6 → (i : ℕ) → i < 4 → count_at graph j ≤ i
      → p graph j w i ≡ neutral (full lanes) k
  unfolding p neutral is_conjunction controlling_of is_not is_xor is_xnor row_of rows row
  absent-neutral zero e h l i n c = absurd (omega arith)
  absent-neutral (suc zero) e h l i n c = rw (absent node i n c, e) filled.one
  absent-neutral (suc (suc zero)) e h l i n c = rw (absent node i n c, e) filled.zero
  absent-neutral (suc (suc (suc zero))) e h l i n c = rw (absent node i n c, e) filled.one
  absent-neutral (suc (suc (suc (suc zero)))) e h l i n c = rw (absent node i n c, e) filled.zero
  absent-neutral (suc (suc (suc (suc (suc zero))))) e h l i n c = rw (absent node i n c, e) filled.zero
  absent-neutral (suc (suc (suc (suc (suc (suc zero)))))) e h l i n c = rw (absent node i n c, e) filled.zero
  absent-neutral (suc (suc (suc (suc (suc (suc (suc k))))))) e h l i n c = absurd (omega arith)

  operands-are : map (operand_pair (full lanes) (inputs_in w) (gates_in m w)) (gate_at graph j).operands
      ≡ tab (p graph j w) (count_at graph j)
  unfolding p gate_at
  operands-are =
      map-tab (operand_pair (full lanes) (inputs_in w) (gates_in m w)) (λ i. operand_at (place_at graph j i))
      (count_at graph j)
      ∙ tab-ext (λ i. operand_pair (full lanes) (inputs_in w) (gates_in m w) (operand_at (place_at graph j i)))
      (p graph j w) (count_at graph j)
      (λ i l. sym (place-operand filled m (place_at graph j i) (node.inside i (omega (arith, few)))))
    where
      few : count_at graph j ≤ 4
      few = (counts-low (kind_at graph j) (count_at graph j) (known node) node.count).1

  -- a kind other than `not`
  by-four : (k : ℕ) → kind_at graph j ≡ k → 1 ≤ k → k ≤ 6
      → four_pair k (p graph j w 0) (p graph j w 1) (p graph j w 2) (p graph j w 3)
      ≡ pair_of (full lanes) k (tab (p graph j w) (count_at graph j))
  unfolding four_pair pair_of
  by-four k e h l =
      let c = counts-low (kind_at graph j) (count_at graph j) (known node) node.count in
      ap (finished k) (folded-four k (p graph j w) (count_at graph j) c.0 c.1 place-proper
      (absent-neutral k e h l))

  -- `not`
  by-not : kind_at graph j ≡ 0 → count_at graph j ≡ 1
      → rule_pair graph j w 0 1 ≡ pair_of (full lanes) 0 (tab (p graph j w) 1)
  unfolding rule_pair some_word every_word pair_of folded finished inverts combined is_conjunction is_parity neutral always
      either_pair swapped p controlling_of
      is_not
  by-not e one =
      let a : (i : ℕ) → 1 ≤ i → i < 4 → pair_at w (place_at graph j i) ≡ always (full lanes) true =
      λ i l h. rw (absent node i h (omega (arith, one)), e) filled.one in
      let both : bit_and (full lanes) (full lanes) ≡ full lanes = and-full lanes (full lanes) (full-within lanes) in
      let zeros = and-full lanes (p graph j w 0).zeros (place-proper 0 (omega arith)).zeros_within in
      let ones = and-full lanes (p graph j w 0).ones (place-proper 0 (omega arith)).ones_within in
      simp (
        word-zeros graph j w,
        word_ones graph j w,
        a 1 (omega arith) (omega arith),
        a 2 (omega arith) (omega arith),
        a 3 (omega arith) (omega arith),
        both,
        zeros,
        ones,
        or-none,
      )
      refl

  by_kind : (k : ℕ) → kind_at graph j ≡ k → k ≤ 6
      → cond (leb 5 k) (parity_at graph j w (forced_of k)) (rule_pair graph j w (controlling_of k) (forced_of k))
      ≡ pair_of (full lanes) k (tab (p graph j w) (count_at graph j))
  unfolding controlling_of forced_of is_not
  by_kind k e l = ⊎_elim not-gate (λ n. ⊎_elim (ruled n) parity-gate (lt-or-le k 5)) (eq-or-ne k 0)
    where
      not-gate : k ≡ 0
          → cond (leb 5 k) (parity_at graph j w (forced_of k)) (rule_pair graph j w (controlling_of k) (forced_of k))
          ≡ pair_of (full lanes) k (tab (p graph j w) (count_at graph j))
      not-gate z =
          let one = (counts-low (kind_at graph j) (count_at graph j) (known node) node.count).2 (e ∙ z) in
          rw (z, one) (by-not (e ∙ z) one)

      ruled : (k ≡ 0 → ⊥) → k < 5
          → cond (leb 5 k) (parity_at graph j w (forced_of k)) (rule_pair graph j w (controlling_of k) (forced_of k))
          ≡ pair_of (full lanes) k (tab (p graph j w) (count_at graph j))
      ruled n h = rw (lt-leb 5 k h) (four-rule graph j w k (omega arith) (omega arith) ∙ by-four k e (omega arith) l)

      parity-gate : 5 ≤ k
          → cond (leb 5 k) (parity_at graph j w (forced_of k)) (rule_pair graph j w (controlling_of k) (forced_of k))
          ≡ pair_of (full lanes) k (tab (p graph j w) (count_at graph j))
      parity-gate h = rw (le-leb 5 k h) (four-parity graph j w k h l ∙ by-four k e (omega arith) l)

  pub gate_pair_in-evaluated : gate_pair_in graph j w
      ≡ evaluated_pair (full lanes) (inputs_in w) (gates_in m w) (gate_at graph j)
  unfolding gate_pair_in evaluated_pair gate_at
  gate_pair_in-evaluated =
      let parts = operation-parts node in
      rw (parts.0, parts.1, parts.2)
      (by_kind (kind_at graph j) refl (known node) ∙ ap (pair_of (full lanes) (kind_at graph j)) (sym operands-are))

-- ---- a pair stored

pub put-length : (w : List ℕ) (p : ℕ) (q : Pair) → length (put_pair w p q) ≡ length w
unfolding put_pair
put-length w p q = length-set (set w (2 * p) q.zeros) (2 * p + 1) q.ones ∙ length-set w (2 * p) q.zeros

pub put_same : (w : List ℕ) (p : ℕ) (q : Pair) → 2 * p + 1 < length w → pair_at (put_pair w p q) p ≡ q
unfolding pair_at put_pair
put_same w p q l =
    rw (
      get_or-set_same (set w (2 * p) q.zeros) (2 * p + 1) q.ones 0 (rw (length-set w (2 * p) q.zeros) l),
      get_or-set_other (set w (2 * p) q.zeros) (2 * p + 1) (2 * p) q.ones 0 (omega arith),
      get_or-set_same w (2 * p) q.zeros 0 (omega arith),
    ) refl

pub put_other : (w : List ℕ) (p : ℕ) (q : Pair) (r : ℕ) → (r ≡ p → ⊥) → pair_at (put_pair w p q) r ≡ pair_at w r
unfolding pair_at put_pair
put_other w p q r d =
    rw (
      get_or-set_other (set w (2 * p) q.zeros) (2 * p + 1) (2 * r) q.ones 0 (omega arith),
      get_or-set_other (set w (2 * p) q.zeros) (2 * p + 1) (2 * r + 1) q.ones 0 (omega arith),
      get_or-set_other w (2 * p) (2 * r) q.zeros 0 (omega arith),
      get_or-set_other w (2 * p) (2 * r + 1) q.zeros 0 (omega arith),
    ) refl

-- at a gate
module _ (w : List ℕ) (j : ℕ) (q : Pair) where
  pub put-inputs : inputs_in (put_pair w (first_gate + j) q) ≡ inputs_in w
  unfolding inputs_in
  put-inputs =
      tab-ext (λ i. pair_at (put_pair w (first_gate + j) q) (first_input + i)) (λ i. pair_at w (first_input + i)) max_inputs
      (λ i l. put_other w (first_gate + j) q (first_input + i) (omega arith))

  pub put-gates : (m : ℕ) → j < m → 2 * (first_gate + m) ≤ length w
      → gates_in m (put_pair w (first_gate + j) q) ≡ set (gates_in m w) j q
  unfolding gates_in
  put-gates m l room =
      ext_get_or no_lanes (tab new m) (set (tab old m) j q)
      (length-tab new m ∙ sym (length-set (tab old m) j q ∙ length-tab old m))
      (λ i h. let h' : i < m = rw (length-tab new m) at h in get_d-tab new m i no_lanes h' ∙ ⊎_elim (same i) (other i h')
      (eq-or-ne i j))
    where
      old : ℕ → Pair
      old = λ i. pair_at w (first_gate + i)

      new : ℕ → Pair
      new = λ i. pair_at (put_pair w (first_gate + j) q) (first_gate + i)

      same : (i : ℕ) → i ≡ j → new i ≡ get_or (set (tab old m) j q) i no_lanes
      same i e =
          rw (e, put_same w (first_gate + j) q (omega arith))
          (sym (get_or-set_same (tab old m) j q no_lanes (rw (length-tab old m) l)))

      other : (i : ℕ) → i < m → (i ≡ j → ⊥) → new i ≡ get_or (set (tab old m) j q) i no_lanes
      other i h d =
          put_other w (first_gate + j) q (first_gate + i) (omega arith)
          ∙ sym (get_or-set_other (tab old m) j i q no_lanes d ∙ get_d-tab old m i no_lanes h)

  pub put-filled : {used : ℕ} → Filled used w → Filled used (put_pair w (first_gate + j) q)
  put-filled f =
      record {
        long = put-length w (first_gate + j) q ∙ f.long;
        zero = put_other w (first_gate + j) q 0 (omega arith) ∙ f.zero;
        one = put_other w (first_gate + j) q 1 (omega arith) ∙ f.one;
      }
