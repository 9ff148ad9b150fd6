-- What a batch of settings tells of a block and of cells, and the search over all of them.
--   differing-tells, differing-first   where an output shows another value; where one of the first outputs does
--   marks-disagreeing                  where the block and the cells disagree
--   lowest-there                       the lowest output that differs at a lane
--   search-accepted, search-found      no setting disagrees; one does, and no lower one
-- Assumes nothing.
use mathlib.Core.Path.{◌≡◌, refl, sym, ◌∙◌}
use mathlib.Core.Logic.{⊎_elim}
use mathlib.Core.Bool.{true, false, not}
use mathlib.Core.List.{List}
use Prim.Native.Nat.{ℕ, zero, suc, ◌+◌, ◌^◌, ◌≤◌, ◌<◌}
use native.Mathlib.Omega.{arith}
use lib.Bits.{bit_and, differ, and_le_l, xor_lt}
use lib.Dec.{eqb}
use lib.ListN.{get_or}
use lib.Pow.{pow_mono, ones_lt}
use borrow.Author.Tests.{lt-ltb, le-ltb}
use Rattle.prelude.specs.Lists.{any, up_to, least}
use Rattle.prelude.proofs.Tests.{lt-or-le}
use Rattle.prelude.proofs.Least.{least-le, least-below, least_at, least-is}
use Rattle.std.specs.declared.result.Result.TheVariants.{Ok}
use Rattle.netlist.specs.Limits.{max_inputs, max_gates}
use Rattle.netlist.specs.Values.{code}
use Rattle.netlist.specs.Netlist.{Block, input_count}
use Rattle.netlist.specs.Assignments.{bit}
use Rattle.netlist.specs.StoredBlock.{operand_of, decode}
use Rattle.netlist.specs.Rounds.{setting_count, is_counted}
use Rattle.netlist.specs.Answers.{answer_of}
use Rattle.netlist.specs.Cells.{cell_count, cells_in, cell_values}
use Rattle.netlist.specs.CompareCells.{cell_shown, cell_differs, cells_disagree, lowest_cell_disagreement}
use Rattle.netlist.specs.CompareCells.{lowest_cell_differing, cells_judged_at, compare_block_cells}
use Rattle.theory_encoding.proofs.Decoded.{decode-input_count, decode-output_count}
use Rattle.graph_gates.specs.Places.{first_gate, place_of}
use Rattle.graph_gates.proofs.Places.{place-input, place-gate, operand_at-word}
use Rattle.lanes_dual_rail.specs.declared.Pair.{Pair}
use Rattle.lanes_dual_rail.specs.Pairs.{marked_lanes, lane, Proper, full}
use Rattle.lanes_dual_rail.specs.Batches.{lanes_of}
use Rattle.lanes_dual_rail.proofs.BitLaws.{bit-low, bit-xor, bit-full}
use Rattle.lanes_dual_rail.proofs.InputLaws.{lanes_of-most}
use Rattle.lanes_dual_rail.specs.Words.{has_lane, Tells}
use Rattle.lanes_dual_rail.proofs.WordLaws.{tells_as, tells_none, tells-and, tells-or}
use Rattle.lanes_settings.specs.Lanes.{Judged}
use Rattle.lanes_settings.proofs.OutputLaws.{output-proper, output-lane, any-first}
use Rattle.op_compare_cells.specs.Choices.{choice_word}
use Rattle.op_compare_cells.specs.CellLanes.{Carries, place_bit, Evaluated}
use Rattle.op_compare_cells.proofs.Choosing.{choice-within, choice-low, choice-high}
use Rattle.op_compare_cells.specs.Words.{shown_word, differing_in, differing_word, differing_words, differs_at, Listed}
use Rattle.op_compare_cells.specs.Words.{Marks}

-- ---- a pair and a word at a lane

-- the two bits of a value
data Bits : ℕ → ℕ → Type 0 where
  none : Bits zero zero
  low : Bits (suc zero) zero
  high : Bits zero (suc zero)

bits : (z o : ℕ) → z + o ≤ 1 → Bits z o
bits zero zero h = none
bits zero (suc zero) h = high
bits zero (suc (suc o)) h = absurd (omega arith)
bits (suc zero) zero h = low
bits (suc zero) (suc o) h = absurd (omega arith)
bits (suc (suc z)) o h = absurd (omega arith)

-- where the word's bit is 0 the value has to be 0, where it is 1 the value has to be 1
other-low : {z o : ℕ} → Bits z o → eqb (differ 1 z) 1 ≡ not (eqb (code (marked_lanes z o)) 0)
unfolding marked_lanes code
other-low none = refl
other-low low = refl
other-low high = refl

other-high : {z o : ℕ} → Bits z o → eqb (differ 1 o) 1 ≡ not (eqb (code (marked_lanes z o)) 1)
unfolding marked_lanes code
other-high none = refl
other-high low = refl
other-high high = refl

module _ (lanes : ℕ) {p : Pair} {word : ℕ} (proper : Proper lanes p) (within : word < 2 ^ lanes) where
  differing_in-within : differing_in (full lanes) p word < 2 ^ lanes
  unfolding differing_in full
  differing_in-within =
      xor_lt lanes (full lanes) (choice_word p.zeros p.ones word) (ones_lt lanes)
      (choice-within lanes p.zeros p.ones word proper.zeros_within proper.ones_within within)

  differing_in-lane : (s : ℕ) → s < lanes
      → has_lane (differing_in (full lanes) p word) s ≡ not (eqb (code (lane s p)) (bit word s))
  unfolding differing_in has_lane lane
  differing_in-lane s l =
      rw (bit-xor (full lanes) (choice_word p.zeros p.ones word) s, bit-full lanes s l)
      (go (bit word s) refl (bit-low word s))
    where
      both : Bits (bit p.zeros s) (bit p.ones s)
      both = bits (bit p.zeros s) (bit p.ones s) (proper.apart s)

      go : (b : ℕ) → bit word s ≡ b → b < 2 → eqb (differ 1 (bit (choice_word p.zeros p.ones word) s)) 1
          ≡ not (eqb (code (marked_lanes (bit p.zeros s) (bit p.ones s))) b)
      go zero e h = rw (choice-low p.zeros p.ones word s e) (other-low both)
      go (suc zero) e h = rw (choice-high p.zeros p.ones word s e) (other-high both)
      go (suc (suc b)) e h = absurd (omega arith)

-- ---- one batch

-- the place of a listed node
pub listed-place : (n m w : ℕ) → n ≤ max_inputs → m ≤ max_gates → w < n + m → place_of (operand_of n w) < first_gate + m
listed-place n m w few fewer l =
    ⊎_elim (λ i. rw (place-input n w i) (omega arith)) (λ i. rw (place-gate n w i (omega arith)) (omega arith))
    (lt-or-le w n)

module _ (ws shown : List ℕ) {base : ℕ} {w nodes : List ℕ} (j : Judged ws (get_or ws 0 0) base w) (cells : List ℕ)
    (few : cell_count cells ≤ max_gates)
    (listed : Listed ws shown cells)
    (e : Evaluated (get_or ws 0 0) base (cells_in (get_or ws 0 0) cells) (cell_count cells) nodes) where
  abbrev b : Block
  b = decode ws

  abbrev n : ℕ
  n = get_or ws 0 0

  bit-shown : (o : ℕ) → o < get_or ws 2 0 → (t : ℕ)
      → place_bit n (cells_in n cells) (place_of (operand_of n (get_or shown o 0))) t
      ≡ cell_shown (input_count b) cells shown t o
  unfolding cell_shown place_bit cell_values
  bit-shown o there t =
      rw (
        decode-input_count ws,
        operand_at-word n (get_or shown o 0) j.few_inputs
            (omega (arith, listed o there, j.few_inputs)),
      )

  -- the word of a listed node has the bits that a run of the cells shows there
  shown-carried : (o : ℕ) → o < get_or ws 2 0
      → Carries (lanes_of n) base (λ s. cell_shown (input_count b) cells shown s o) (shown_word ws shown nodes o)
  unfolding shown_word
  shown-carried o there =
      let node = get_or shown o 0 in
      let c = e.each (place_of (operand_of n node))
      (listed-place n (cell_count cells) node j.few_inputs few (listed o there)) in
      record { within = c.within; each = λ s l. c.each s l ∙ bit-shown o there (base + s) }

  pub differing-tells : (o : ℕ) → o < get_or ws 2 0
      → Tells (lanes_of n) base (λ s. cell_differs b cells shown s o) (differing_word ws shown w nodes o)
  unfolding differing_word cell_differs
  differing-tells o there =
      let proper = output-proper j refl o there in
      let c = shown-carried o there in
      record {
        within = differing_in-within (lanes_of n) proper c.within;
        each =
            λ s l. differing_in-lane (lanes_of n) proper c.within s l
            ∙ rw (output-lane j refl o there s l, c.each s l);
      }

  differing-first : (k : ℕ) → k ≤ get_or ws 2 0
      → Tells (lanes_of n) base (λ s. any (cell_differs b cells shown s) (up_to k)) (differing_words ws shown w nodes k)
  unfolding differing_words
  differing-first zero l = tells_as (λ s. refl) tells_none
  differing-first (suc k) l =
      tells_as (λ s. sym (any-first (cell_differs b cells shown s) k))
      (tells-or (differing-first k (omega arith)) (differing-tells k (omega arith)))

  -- at the lanes of settings that count
  marked-lanes : {counted word : ℕ} → Tells (lanes_of n) base (is_counted b) counted
      → word ≡ differing_words ws shown w nodes (get_or ws 2 0)
      → Tells (lanes_of n) base (cells_disagree b cells shown) (bit_and counted word)
  unfolding cells_disagree
  marked-lanes t is =
      rw is (tells_as (λ s. rw (decode-output_count ws)) (tells-and t (differing-first (get_or ws 2 0) (omega arith))))

  -- the lowest output at a lane
  pub lowest-there : {s r : ℕ} → s < lanes_of n → r ≡ least (differs_at ws shown w nodes s) (get_or ws 2 0)
      → r ≡ lowest_cell_differing b cells shown (base + s)
  unfolding lowest_cell_differing differs_at
  lowest-there {s} {r} l is =
      let count = get_or ws 2 0 in
      let test = differs_at ws shown w nodes s in
      let most : r ≤ count = rw is (least-le test count) in
      let same : (o : ℕ) → o < count → test o ≡ cell_differs b cells shown (base + s) o =
      λ o there. (differing-tells o there).each s l in
      rw (decode-output_count ws)
      (sym (least-is (cell_differs b cells shown (base + s)) count r most
      (λ i below. sym (same i (omega arith)) ∙ least-below test count i (rw (← is) below))
      (λ there. sym (same r there) ∙ rw is (least_at test count (rw (← is) there)))))

pub marks-disagreeing : (ws shown : List ℕ) {base : ℕ} {w nodes : List ℕ} {counted word : ℕ}
    → Judged ws (get_or ws 0 0) base w
    → Tells (lanes_of (get_or ws 0 0)) base (is_counted (decode ws)) counted
    → word ≡ differing_words ws shown w nodes (get_or ws 2 0)
    → Marks ws shown base nodes (bit_and counted word)
marks-disagreeing ws shown {base} {w} {nodes} {counted} {word} j t is =
    record {
      within = counted-within;
      tells = λ cells few listed e. marked-lanes ws shown j cells few listed e t is;
    }
  where
    counted-within : bit_and counted word < 2 ^ 64
    counted-within =
        let most : 2 ^ lanes_of (get_or ws 0 0) ≤ 2 ^ 64 =
        pow_mono {i = lanes_of (get_or ws 0 0)} {j = 64} (lanes_of-most (get_or ws 0 0)) in
        omega (arith, and_le_l counted word, t.within)

-- ---- all settings

module _ (a : Block) (cells shown : List ℕ) (s count : ℕ) (e : count ≡ setting_count a)
    (before : (i : ℕ) → i < s → cells_disagree a cells shown i ≡ false) where
  -- no setting disagrees
  pub search-accepted : s ≤ count → count ≤ s → Ok (record { count = 0; detail = 0 }) ≡ answer_of (compare_block_cells a cells shown)
  unfolding compare_block_cells cells_judged_at lowest_cell_disagreement answer_of
  search-accepted l m =
      let is : least (cells_disagree a cells shown) (setting_count a) ≡ setting_count a =
      least-is (cells_disagree a cells shown) (setting_count a) (setting_count a) (omega arith)
      (λ i k. before i (omega arith)) (λ k. absurd (omega arith)) in
      rw (is, le-ltb (setting_count a) (setting_count a) (omega arith)) refl

  -- setting s does, and no lower one
  pub search-found : (o : ℕ) → s < count → cells_disagree a cells shown s ≡ true
      → o ≡ lowest_cell_differing a cells shown s
      → Ok (record { count = (o + 1); detail = s }) ≡ answer_of (compare_block_cells a cells shown)
  unfolding compare_block_cells cells_judged_at lowest_cell_disagreement answer_of
  search-found o l d f =
      let below : s < setting_count a = omega arith in
      let is : least (cells_disagree a cells shown) (setting_count a) ≡ s =
      least-is (cells_disagree a cells shown) (setting_count a) s (omega arith) before (λ k. d) in
      rw (is, lt-ltb s (setting_count a) below, f) refl
