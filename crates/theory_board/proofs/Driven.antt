-- The whole way to the board: from what a rendering is (`Renders`) and what its cells are (`RunsAs`), and from nothing
-- else of either.
--   whole-way            of words that render the original and of cells that run as they pass
--   whole-way-made       where making is done with the cells
--   whole-way-promised   from the promises of the two operations, whenever both answer 0
-- Assumes nothing.
use Prim.Native.Nat.{ℕ, ◌≤◌, ◌<◌}
use mathlib.Core.Path.{◌≡◌, refl, sym, ap, ◌∙◌}
use mathlib.Core.Bool.{Bool, true, false}
use mathlib.Core.List.{List, [], ◌∷◌, map}
use lib.ListN.{length, take, length-map}
use lib.Dec.{eqb, leb}
use borrow.Author.Tests.{ltb-true}
use Rattle.prelude.specs.Lists.{all}
use Rattle.prelude.proofs.Tests.{and_left, and_right, not-both}
use Rattle.prelude.proofs.Tab.{length-tab}
use Rattle.prelude.proofs.Quantifiers.{all-tab-from}
use Rattle.netlist.specs.Answers.{Answer}
use Rattle.netlist.specs.Values.{Value, undefined, val, code}
use Rattle.netlist.specs.Assignments.{bit}
use Rattle.netlist.specs.Netlist.{Operand, input, gate, constant, Output, Block, input_count, gate_count}
use Rattle.netlist.specs.StoredBlock.{decode, is_node}
use Rattle.netlist.specs.Rounds.{operand_value, setting_of, setting_count, is_excluded, output_value, outputs_under}
use Rattle.netlist.specs.Rendering.{sweep}
use Rattle.netlist.specs.Answers.{done, number_of, count_of}
use Rattle.netlist.specs.Cells.{make_cells, cell_count, operand_bit, cell_values, run_cells}
use Rattle.theory_encoding.proofs.ListFacts.{get_d_map, all_map}
use Rattle.theory_encoding.proofs.WellFormed.{well_formed-parts}
use Rattle.theory_encoding.proofs.RoundTrip.{whole-well_formed}
use Rattle.theory_fixpoint.proofs.Values.{values-codes}
use Rattle.theory_fixpoint.proofs.Sweep.{length-sweep}
use Rattle.op_cells.specs.Promise.{is_two_valued, RunsAs, CellsPromise}
use Rattle.op_cells.proofs.Outcomes.{run-done, done-cells}
use Rattle.op_render.specs.Promise.{Renders, RenderPromise}
use Rattle.theory_board.specs.WholeWay.{bytes_of_setting, shown_byte, Drives}

-- ---- the bytes of a setting

module _ (n s : ℕ) where
  length-bytes : length (bytes_of_setting n s) ≡ n
  unfolding bytes_of_setting setting_of
  length-bytes = length-map (setting_of n s) code ∙ length-tab (λ i. val (eqb (bit s i) 1)) n

  bytes_low : is_two_valued (bytes_of_setting n s) ≡ true
  unfolding bytes_of_setting setting_of is_two_valued code
  bytes_low = all_map (λ v. leb v 1) code (setting_of n s)
      ∙ all-tab-from (λ v. leb (code v) 1) (λ i. val (eqb (bit s i) 1)) n (λ i l. low (eqb (bit s i) 1))
    where
      low : (t : Bool) → leb (code (val t)) 1 ≡ true
      low true = refl
      low false = refl

-- ---- what the outputs show

-- a node that is there is read alike in codes and in values
node-read : (b : Block) (x state : List Value) → length x ≡ input_count b → length state ≡ gate_count b → (o : Operand)
    → is_node b o ≡ true
    → operand_bit (map code x) (map code state) o ≡ code (operand_value x state o)
unfolding operand_bit operand_value is_node
node-read b x state e f (input i) t = get_d_map code x i undefined 0 (rw e (ltb-true i (input_count b) t))
node-read b x state e f (gate j) t = get_d_map code state j undefined 0 (rw f (ltb-true j (gate_count b) t))
node-read b x state e f (constant c) t = not-both t refl

outputs-read : (b : Block) (x state : List Value) → length x ≡ input_count b → length state ≡ gate_count b
    → (os : List Output)
    → all (λ o. is_node b o.node) os ≡ true
    → map (shown_byte (map code x) (map code state)) os ≡ map code (map (output_value x state) os)
unfolding shown_byte output_value
outputs-read b x state e f [] t = refl
outputs-read b x state e f (o ∷ os) t =
    rw (
      node-read b x state e f o.node (and_left (is_node b o.node) _ t),
      outputs-read b x state e f os (and_right (is_node b o.node) _ t),
    )

-- ---- the whole way

module _ (ws out cells : List ℕ) (r : Renders ws out) (c : RunsAs out cells) where
  abbrev n : ℕ
  n = input_count (decode ws)

  same_count : input_count (decode out) ≡ n
  same_count = ap length r.same_inputs

  module _ (s : ℕ) where
    abbrev x : List Value
    x = setting_of n s

    values-swept : cell_values n cells (bytes_of_setting n s) ≡ map code (sweep (decode out) x)
    unfolding bytes_of_setting
    values-swept =
        rw (same_count, values-codes x)
        at (c.agrees.swept (bytes_of_setting n s) (length-bytes n s ∙ sym same_count) (bytes_low n s))

    runs-at : (room : ℕ) → cell_count cells ≤ room
        → run_cells n cells (bytes_of_setting n s) room
        ≡ done (cell_values n cells (bytes_of_setting n s)) (cell_count cells) 0
    runs-at room l =
        run-done n cells (bytes_of_setting n s) room (rw same_count at c.agrees.legal) (length-bytes n s)
        (bytes_low n s) l

    outputs-at : s < setting_count (decode ws) → is_excluded (decode ws) s ≡ false
        → map (shown_byte (bytes_of_setting n s) (cell_values n cells (bytes_of_setting n s))) (decode out).outputs
        ≡ map code (outputs_under (decode ws) s)
    unfolding bytes_of_setting setting_of outputs_under
    outputs-at l e =
        let b = decode out in
        let nodes = (well_formed-parts b (whole-well_formed out r.not_torn)).nodes_there in
        let long : length x ≡ input_count b = length-tab (λ i. val (eqb (bit s i) 1)) n ∙ sym same_count in
        rw values-swept (outputs-read b x (sweep b x) long (length-sweep b x) b.outputs nodes
        ∙ ap (map code) (r.same_outputs s l e))

  pub whole-way : Drives ws out cells
  whole-way =
      record {
        same_inputs = r.same_inputs;
        same_ports = r.same_ports;
        legal = rw same_count at c.agrees.legal;
        shows = λ s l e. record { runs = runs-at s; outputs = outputs-at s l e };
      }

-- where making is done with the cells
pub whole-way-made : (ws out cells : List ℕ) (room : ℕ) {count detail : ℕ} → Renders ws out
    → make_cells out room ≡ done cells count detail → Drives ws out cells
whole-way-made ws out cells room r e = whole-way ws out cells r (done-cells out cells room e)

-- from the promises of Render and of Cells, whenever both answer 0
pub whole-way-promised : {ws entry exit entry' exit' : List ℕ} {a a' : Answer} → RenderPromise ws entry a exit
    → number_of a ≡ 0
    → CellsPromise (take (count_of a) exit) entry' a' exit' → number_of a' ≡ 0
    → Drives ws (take (count_of a) exit) (take (count_of a') exit')
whole-way-promised p z q z' = whole-way _ _ _ (p.renders z) (q.runs z')
