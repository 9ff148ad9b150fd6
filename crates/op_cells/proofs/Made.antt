-- The cells of a block: word by word, as the code writes them, and read back as cells, as a run reads them.
--   length-cells_of, cells_of-count   how many words and cells there are
--   at-truth, at-operand, at-absent   the words of one cell
--   Making, made_more, made_all       all of them, one cell after the other
--   cell_for, cell-made, cells-made   the cells that a run reads
-- Assumes nothing.
use mathlib.Core.Path.{◌≡◌, refl, sym, ap, ◌∙◌}
use mathlib.Core.Logic.{⊎_elim}
use mathlib.Core.Bool.{true, false}
use mathlib.Core.List.{List, [], ◌∷◌, map}
use Prim.Native.Nat.{ℕ, ◌+◌, ◌*◌, ◌/◌, ◌%◌, ◌≤◌, ◌<◌}
use native.Mathlib.Omega.{arith}
use lib.ListN.{length, get_or, set, get_or-append, get_or-eq_default}
use Rattle.prelude.specs.Lists.{tab, placed}
use Rattle.prelude.proofs.Tests.{lt-or-le}
use Rattle.prelude.proofs.Tab.{get_d-tab, tab-ext, tab-get_d, map-tab}
use Rattle.prelude.proofs.Tabled.{Tabled, tabled-more, tabled-all}
use Rattle.prelude.proofs.Quantifiers.{all-at}
use Rattle.netlist.specs.Netlist.{Operand, constant, Gate, Block, input_count, gate_count, gate_of}
use Rattle.netlist.specs.StoredBlock.{operand_words, gates_at, node_word, operand_of, gate_at, is_operand, gate_fits}
use Rattle.netlist.specs.StoredBlock.{decode, is_well_formed}
use Rattle.netlist.specs.Cells.{cell_size, truth_word, cell_words, cells_of, Cell, cell_count, cell_at, cells_in}
use Rattle.theory_encoding.proofs.ListFacts.{length-joined, get_d-joined}
use Rattle.theory_encoding.proofs.Nodes.{node_word-operand_of, operand_of-node_word}
use Rattle.theory_encoding.proofs.Gates.{fits-operands}
use Rattle.theory_encoding.proofs.Decoded.{decode-input_count, decode-gate_count, decode-gate, gate_at-kind, gate_at-count}
use Rattle.theory_encoding.proofs.Decoded.{gate_at-operand}
use Rattle.theory_encoding.proofs.WellFormed.{no_gate, well_formed-parts, few-nodes}
use Rattle.theory_encoding.proofs.Readers.{well_formed-gate}
use Rattle.op_cells.specs.Made.{cell_word_at, cell_put}

-- operand i of a gate, constant 0 where it is absent
abbrev pub operand_for : Gate → ℕ → Operand
operand_for g i = get_or g.operands i (constant false)

-- ---- the words of one cell

module _ (n : ℕ) (g : Gate) where
  length-cell_words : length (cell_words n g) ≡ cell_size
  unfolding cell_words
  length-cell_words = refl

  word-operand : (i : ℕ) → i < operand_words → get_or (cell_words n g) i 0 ≡ node_word n (operand_for g i)
  unfolding cell_words
  word-operand i l =
      let words : ℕ → ℕ = λ i. node_word n (operand_for g i) in
      get_or-append (tab words operand_words) (truth_word g.kind (length g.operands) ∷ []) 0 i l
      ∙ get_d-tab words operand_words i 0 l

  word-truth : get_or (cell_words n g) operand_words 0 ≡ truth_word g.kind (length g.operands)
  unfolding cell_words
  word-truth = refl

module _ (ws : List ℕ) (at : ℕ) where
  abbrev head : ℕ
  head = get_or ws at 0

  abbrev n₀ : ℕ
  n₀ = get_or ws 0 0

  pub at-truth : cell_word_at ws at operand_words ≡ truth_word (head % 8) (head / 8)
  unfolding cell_word_at
  at-truth = word-truth n₀ (gate_at n₀ ws at) ∙ rw (gate_at-kind n₀ ws at, gate_at-count n₀ ws at)

  pub at-operand : (i : ℕ) → i < operand_words → i < head / 8 → cell_word_at ws at i ≡ get_or ws (at + 1 + i) 0
  unfolding cell_word_at
  at-operand i l k =
      word-operand n₀ (gate_at n₀ ws at) i l ∙ ap (node_word n₀) (gate_at-operand n₀ ws at i (constant false) k)
      ∙ node_word-operand_of n₀ (get_or ws (at + 1 + i) 0)

  pub at-absent : (i : ℕ) → i < operand_words → head / 8 ≤ i → cell_word_at ws at i ≡ 65534
  unfolding cell_word_at node_word
  at-absent i l k =
      let none : operand_for (gate_at n₀ ws at) i ≡ constant false =
      get_or-eq_default (gate_at n₀ ws at).operands (constant false) (rw (gate_at-count n₀ ws at) k) in
      word-operand n₀ (gate_at n₀ ws at) i l ∙ ap (node_word n₀) none

-- ---- all words

module _ (b : Block) where
  abbrev n : ℕ
  n = input_count b

  pub length-cells_of : length (cells_of b) ≡ cell_size * gate_count b
  unfolding cells_of
  length-cells_of = length-joined (cell_words n) cell_size (length-cell_words n) b.gates

  pub cells_of-count : cell_count (cells_of b) ≡ gate_count b
  unfolding cell_count
  cells_of-count = rw length-cells_of (omega arith)

  -- word i of cell j
  cells_of-word : (j i : ℕ) → j < gate_count b → i < cell_size
      → get_or (cells_of b) (cell_size * j + i) 0 ≡ get_or (cell_words n (gate_of b j)) i 0
  unfolding cells_of
  cells_of-word j i l k = get_d-joined (cell_words n) cell_size (length-cell_words n) b.gates j i no_gate 0 l k

-- word i of the cell that starts at word p, from the words of the block
made-word : (ws : List ℕ) (p i : ℕ) → p % cell_size ≡ 0 → p < cell_size * get_or ws 1 0 → i < cell_size
    → cell_word_at ws (gates_at (get_or ws 0 0) (get_or ws 3 0) + p) i ≡ get_or (cells_of (decode ws)) (p + i) 0
unfolding cell_word_at
made-word ws p i whole l k =
    let j = p / cell_size in
    let place : cell_size * j ≡ p = omega arith in
    let below : j < get_or ws 1 0 = omega arith in
    let word : get_or (cells_of (decode ws)) (cell_size * j + i) 0
    ≡ get_or (cell_words (input_count (decode ws)) (gate_of (decode ws) j)) i 0 =
    cells_of-word (decode ws) j i (rw (decode-gate_count ws) below) k in
    sym (rw (decode-input_count ws, decode-gate ws j below, place) at word)

abbrev made_word : List ℕ → ℕ → ℕ
made_word ws p = get_or (cells_of (decode ws)) p 0

-- whole cells stand in front of `cells`, up to word p
pub record Making (ws : List ℕ) (count : ℕ) (cells₀ cells : List ℕ) (p : ℕ) : Type 0 where
  pub whole : p % cell_size ≡ 0
  pub tabled : Tabled (made_word ws) count cells₀ cells p

-- one cell more
pub made_more : {ws cells₀ cells : List ℕ} {count at p : ℕ} → count ≡ cell_size * get_or ws 1 0 → count ≤ length cells₀
    → at ≡ gates_at (get_or ws 0 0) (get_or ws 3 0) → p < count → Making ws count cells₀ cells p
    → Making ws count cells₀ (cell_put ws (at + p) p cells) (p + cell_size)
unfolding cell_put
made_more {ws} {cells₀} {cells} {count} {at} {p} all room start l m =
    let one = next 0 p (p + 1) (omega arith) (omega arith) (omega arith) m.tabled in
    let two = next 1 (p + 1) (p + 2) (omega arith) (omega arith) (omega arith) one in
    let three = next 2 (p + 2) (p + 3) (omega arith) (omega arith) (omega arith) two in
    let four = next 3 (p + 3) (p + 4) (omega arith) (omega arith) (omega arith) three in
    record {
      whole = omega (arith, m.whole);
      tabled = next 4 (p + 4) (p + cell_size) (omega arith) (omega arith) (omega arith) four;
    }
  where
    next : {slice : List ℕ} (i q r : ℕ) → q ≡ p + i → r ≡ q + 1 → i < cell_size
        → Tabled (made_word ws) count cells₀ slice q
        → Tabled (made_word ws) count cells₀ (set slice q (cell_word_at ws (at + p) i)) r
    next i q r e f k t =
        let word = made-word ws p i m.whole (omega (arith, all)) k in
        let inside : q < count = omega (arith, m.whole, all, e) in
        rw f (tabled-more t inside room (rw (start, e) word))

pub made_all : {ws cells₀ cells : List ℕ} {count p : ℕ} → count ≡ cell_size * get_or ws 1 0 → count ≤ p
    → Making ws count cells₀ cells p → cells ≡ placed (cells_of (decode ws)) cells₀
made_all {ws} {cells₀} {cells} {count} all l m =
    tabled-all m.tabled l
    ∙ ap (λ (v : List _). placed v cells₀)
    (tab-get_d 0 (cells_of (decode ws)) count (length-cells_of (decode ws) ∙ rw (decode-gate_count ws, all)))

-- ---- the cells that a run reads

unfoldable pub cell_for : Gate → Cell
cell_for g = record { operands = tab (operand_for g) operand_words; truth = truth_word g.kind (length g.operands) }

-- an operand of a gate is there, and so is a constant for one that is absent
pub operand-there : (b : Block) (g : Gate) → gate_fits b g ≡ true → (i : ℕ) → is_operand b (operand_for g i) ≡ true
unfolding is_operand
operand-there b g h i =
    ⊎_elim (λ l. all-at (is_operand b) g.operands i (constant false) (fits-operands b g h) l)
    (λ l. let none : operand_for g i ≡ constant false = get_or-eq_default g.operands (constant false) l in rw none)
    (lt-or-le i (length g.operands))

module _ (b : Block) (h : is_well_formed b ≡ true) where
  abbrev nodes : ℕ
  nodes = input_count b

  pub cell-made : (j : ℕ) → j < gate_count b → cell_at nodes (cells_of b) (cell_size * j) ≡ cell_for (gate_of b j)
  unfolding cell_at cell_for
  cell-made j l = λ i. record { operands = operands-are i; truth = truth-is i }
    where
      word : ℕ → ℕ
      word i = get_or (cells_of b) (cell_size * j + i) 0

      g : Gate
      g = gate_of b j

      operand-is : (i : ℕ) → i < operand_words → operand_of nodes (word i) ≡ operand_for g i
      operand-is i k =
          ap (operand_of nodes) (cells_of-word b j i l (omega arith) ∙ word-operand nodes g i k)
          ∙ operand_of-node_word b (operand_for g i) (few-nodes b (well_formed-parts b h))
          (operand-there b g (well_formed-gate b h j l) i)

      operands-are : tab (λ i. operand_of nodes (get_or (cells_of b) (cell_size * j + i) 0)) operand_words
          ≡ tab (operand_for g) operand_words
      operands-are = tab-ext (λ i. operand_of nodes (word i)) (operand_for g) operand_words operand-is

      truth-is : get_or (cells_of b) (cell_size * j + operand_words) 0 ≡ truth_word g.kind (length g.operands)
      truth-is = cells_of-word b j operand_words l (omega arith) ∙ word-truth nodes g

  pub cells-made : cells_in nodes (cells_of b) ≡ map cell_for b.gates
  unfolding cells_in
  cells-made =
      rw (cells_of-count b)
      (tab-ext (λ j. cell_at nodes (cells_of b) (cell_size * j)) (λ j. cell_for (gate_of b j)) (gate_count b) cell-made
      ∙ sym (map-tab cell_for (gate_of b) (gate_count b))
      ∙ ap (map cell_for) (tab-get_d no_gate b.gates (gate_count b) refl))
