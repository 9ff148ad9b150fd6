-- Whatever Cells makes of what Render makes of a block is accepted for that block, with the rendering's own output
-- nodes, by the whole way to the board.
--   made-accepted       of words that render the original and of cells that run as they pass
--   promised-accepted   from the promises of the two operations, whenever both answer 0
-- Assumes nothing.
use mathlib.Core.Path.{◌≡◌, refl, sym, ap, ◌∙◌}
use mathlib.Core.Bool.{Bool, true, false, not}
use mathlib.Core.List.{List, [], map}
use Prim.Native.Nat.{ℕ, zero, suc, ◌+◌, ◌≤◌, ◌<◌}
use native.Mathlib.Omega.{arith}
use lib.ListN.{length, get_or, take, length-map}
use lib.Dec.{eqb}
use borrow.Author.Tests.{ltb-true, not-true}
use Rattle.prelude.specs.Lists.{all, tab}
use Rattle.prelude.proofs.Tests.{and_left, not-both}
use Rattle.prelude.proofs.Tab.{map-tab, tab-ext}
use Rattle.prelude.proofs.Quantifiers.{all-at}
use Rattle.netlist.specs.Answers.{Answer}
use Rattle.netlist.specs.Values.{Value, undefined, val, code}
use Rattle.netlist.specs.Assignments.{bit}
use Rattle.netlist.specs.Netlist.{Operand, input, gate, constant, Output, Block, input_count, gate_count, output_count}
use Rattle.netlist.specs.StoredBlock.{node_word, operand_of, decode, is_node, is_malformed}
use Rattle.netlist.specs.Rounds.{setting_of, setting_count, is_excluded, is_settled, is_counted, outputs_under}
use Rattle.netlist.specs.Answers.{done, number_of, count_of}
use Rattle.netlist.specs.Cells.{cell_count, cell_values, operand_bit}
use Rattle.netlist.specs.CompareCells.{setting_bits, cell_shown, AcceptsCells}
use Rattle.theory_encoding.proofs.ListFacts.{get_d_map}
use Rattle.theory_encoding.proofs.Nodes.{operand_of-node_word, is_node-is_operand}
use Rattle.theory_encoding.proofs.WellFormed.{well_formed-parts, few-nodes}
use Rattle.theory_encoding.proofs.RoundTrip.{whole-well_formed}
use Rattle.op_cells.specs.Promise.{RunsAs, CellsPromise}
use Rattle.op_render.specs.Promise.{port_of, Renders, render_number, RenderPromise}
use Rattle.theory_board.specs.WholeWay.{bytes_of_setting, shown_byte}
use Rattle.theory_board.proofs.Driven.{whole-way}
use Rattle.theory_cell_equivalence.specs.Sentences.{Fits, list_of, MadeIsAccepted}
use Rattle.theory_cell_equivalence.proofs.Answers.{answers_by}

-- a setting's bits are the bytes that a run takes
bits-bytes : (n s : ℕ) → setting_bits n s ≡ bytes_of_setting n s
unfolding setting_bits bytes_of_setting setting_of code bit
bits-bytes n s =
    tab-ext (bit s) (λ i. code (val (eqb (bit s i) 1))) n (λ i l. low (bit s i) (omega arith))
    ∙ sym (map-tab code (λ i. val (eqb (bit s i) 1)) n)
  where
    low : (v : ℕ) → v < 2 → v ≡ code (val (eqb v 1))
    low zero h = refl
    low (suc zero) h = refl
    low (suc (suc v)) h = absurd (omega arith)

-- a node's number is below the nodes'
node-below : (b : Block) (o : Operand) → is_node b o ≡ true → node_word (input_count b) o < input_count b + gate_count b
unfolding node_word is_node
node-below b (input i) t = omega (arith, ltb-true i (input_count b) t)
node-below b (gate j) t = omega (arith, ltb-true j (gate_count b) t)
node-below b (constant c) t = not-both t refl

module _ (ws out cells : List ℕ) (whole : is_malformed ws ≡ false) (r : Renders ws out) (c : RunsAs out cells) where
  abbrev n : ℕ
  n = input_count (decode ws)

  abbrev there : Block
  there = decode out

  abbrev node_of : Output → ℕ
  node_of o = node_word (input_count there) o.node

  same-inputs : input_count there ≡ n
  same-inputs = ap length r.same_inputs

  same-outputs : length there.outputs ≡ output_count (decode ws)
  same-outputs = sym (length-map there.outputs port_of) ∙ ap length r.same_ports
      ∙ length-map (decode ws).outputs port_of

  is-node : (o : ℕ) → o < length there.outputs → (d : Output) → is_node there (get_or there.outputs o d).node ≡ true
  is-node o l d = all-at (λ o. is_node there o.node) there.outputs o d
      (well_formed-parts there (whole-well_formed out r.not_torn)).nodes_there l

  -- the list has a node for each output
  length-list : length (list_of out) ≡ output_count (decode ws)
  unfolding list_of
  length-list = length-map there.outputs node_of ∙ same-outputs

  list_at : (o : ℕ) → o < length there.outputs → (d : Output)
      → get_or (list_of out) o 0 ≡ node_of (get_or there.outputs o d)
  unfolding list_of
  list_at o l d = get_d_map node_of there.outputs o d 0 l

  -- an output without a name, for reading past the end
  nothing : Output
  nothing = record { port = []; node = constant false }

  -- ---- what the listed nodes show

  abbrev bytes : ℕ → List ℕ
  bytes s = bytes_of_setting n s

  shown-is : (s o : ℕ) → o < length there.outputs
      → cell_shown n cells (list_of out) s o
      ≡ shown_byte (bytes s) (cell_values n cells (bytes s)) (get_or there.outputs o nothing)
  unfolding cell_shown shown_byte
  shown-is s o l =
      let node = (get_or there.outputs o nothing).node in
      let few = few-nodes there (well_formed-parts there (whole-well_formed out r.not_torn)) in
      let is : operand_of n (get_or (list_of out) o 0) ≡ node =
      rw (list_at o l nothing, ← same-inputs)
      (operand_of-node_word there node few (is_node-is_operand there node (is-node o l nothing))) in
      rw (is, bits-bytes n s)

  made-accepts : AcceptsCells (decode ws) cells (list_of out)
  unfolding is_counted
  made-accepts s l t o k =
      let below : o < length there.outputs = omega (arith, same-outputs) in
      let comes : is_excluded (decode ws) s ≡ false =
      not-true (is_excluded (decode ws) s) (and_left (not (is_excluded (decode ws) s)) (is_settled (decode ws) s) t) in
      let shows : map (shown_byte (bytes s) (cell_values n cells (bytes s))) there.outputs
      ≡ map code (outputs_under (decode ws) s) =
      ((whole-way ws out cells r c).shows s l comes).outputs in
      let many : length (outputs_under (decode ws) s) ≡ output_count (decode ws) =
      sym (length-map (outputs_under (decode ws) s) code) ∙ sym (ap length shows)
      ∙ length-map there.outputs (shown_byte (bytes s) (cell_values n cells (bytes s))) ∙ same-outputs in
      sym
      (shown-is s o below
      ∙ sym (get_d_map (shown_byte (bytes s) (cell_values n cells (bytes s))) there.outputs o nothing 0 below)
      ∙ ap (λ (vs : List ℕ). get_or vs o 0) shows
      ∙ get_d_map code (outputs_under (decode ws) s) o undefined 0 (omega (arith, many)))

  made-fits : Fits ws cells (list_of out)
  made-fits =
      record {
        block = whole;
        legal = rw same-inputs at c.agrees.legal;
        one_each = length-list;
        listed = λ o l.
            let below : o < length there.outputs = omega (arith, length-list, same-outputs) in
            rw (list_at o below nothing, ← same-inputs, c.agrees.one_each)
            (node-below there _ (is-node o below nothing));
      }

  pub made-accepted : MadeIsAccepted ws out cells
  made-accepted = (answers_by ws cells (list_of out)).accepted made-fits made-accepts

-- Render answers 0 only of a block
rendered-whole : (ws : List ℕ) (room : ℕ) → render_number ws room ≡ 0 → is_malformed ws ≡ false
unfolding render_number
rendered-whole ws room e = go (is_malformed ws) refl
  where
    go : (t : Bool) → is_malformed ws ≡ t → is_malformed ws ≡ false
    go true h = let z : ◌≡◌ {A = ℕ} 6 0 = rw h at e in absurd (omega arith)
    go false h = h

-- from the promises of Render and of Cells, whenever both answer 0
pub promised-accepted : {ws entry exit entry' exit' : List ℕ} {a a' : Answer} → RenderPromise ws entry a exit
    → number_of a ≡ 0
    → CellsPromise (take (count_of a) exit) entry' a' exit' → number_of a' ≡ 0
    → MadeIsAccepted ws (take (count_of a) exit) (take (count_of a') exit')
promised-accepted {ws} {entry} p z q z' =
    made-accepted _ _ _ (rendered-whole ws (length entry) (sym p.number ∙ z)) (p.renders z) (q.runs z')
