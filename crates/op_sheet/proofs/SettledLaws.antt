-- What the outputs show at the lanes of settled records.
--   fixed-decoded                   a graph's settled lanes are the block's
--   outputs-none, outputs-more      the outputs' pairs, one after the other
--   settled-lanes                   each lane shows what its record asks
--   zero-at, one-at                 the bits of an output at a lane
-- Assumes nothing.
use mathlib.Core.Path.{◌≡◌, refl, sym, ap, ◌∙◌}
use mathlib.Core.Logic.{⊎_elim}
use mathlib.Core.Bool.{Bool, true, false, cond, not}
use mathlib.Core.List.{List, [], map}
use Prim.Native.Nat.{ℕ, zero, suc, ◌+◌, ◌*◌, ◌/◌, ◌%◌, ◌^◌, ◌≤◌, ◌<◌}
use native.Mathlib.Omega.{arith}
use lib.ListN.{length, get_or, length-map, get_or-map}
use lib.Seq.{ext_get_or}
use Rattle.prelude.specs.Lists.{tab}
use Rattle.prelude.proofs.Elements.{get_d-defaults}
use Rattle.prelude.proofs.Tab.{length-tab, get_d-tab}
use Rattle.prelude.proofs.Tests.{eq-or-ne}
use Rattle.netlist.specs.Values.{Value, undefined, value_of, is_defined}
use Rattle.netlist.specs.Assignments.{bit, is_one}
use Rattle.netlist.specs.Netlist.{Operand, constant, Output, Block}
use Rattle.netlist.specs.StoredBlock.{name_size, output_size, outputs_at, operand_of, output_at, decode, is_malformed}
use Rattle.netlist.specs.Rounds.{operand_value, output_value, settled}
use Rattle.netlist.specs.Sheet.{setting_bytes, output_values, settled_outputs}
use Rattle.theory_encoding.proofs.Decoded.{decode-output_count}
use Rattle.theory_encoding.proofs.Readers.{whole_parts}
use Rattle.graph_gates.specs.Graph.{network, Decoded}
use Rattle.graph_gates.proofs.Network.{network-gates, count-gates, settled-gates}
use Rattle.lanes_dual_rail.specs.declared.Pair.{Pair}
use Rattle.lanes_dual_rail.specs.Pairs.{marked_lanes, lane}
use Rattle.lanes_dual_rail.specs.Batches.{lanes_of}
use Rattle.lanes_dual_rail.specs.LaneWords.{pair_at, put_pair, inputs_in}
use Rattle.lanes_dual_rail.proofs.RoundLaws.{operand_pair-lane}
use Rattle.lanes_dual_rail.proofs.LaneWordLaws.{put-length, put_same, put_other}
use Rattle.lanes_batch.specs.Layered.{LanesFixed}
use Rattle.lanes_batch.proofs.Inputs.{operand_value-inputs, settled-inputs}
use Rattle.lanes_settings.specs.Lanes.{output_pair}
use Rattle.lanes_settings.proofs.OutputLaws.{output-operand, output-is}
use Rattle.op_sheet.specs.Records.{RecordsStarted, OutputsPut, shown_at, ShownFor, SettledLanes}
use Rattle.op_sheet.proofs.SideLaws.{started-lane}

pub fixed-decoded : {b : Block} {m n : ℕ} {graph w after : List ℕ} → Decoded b m graph
    → LanesFixed (network m graph) n w after → LanesFixed b n w after
fixed-decoded {b} {m} {n} {graph} {w} {after} d s =
    let e = network-gates b m graph d in
    let count = count-gates (network m graph) b e in
    record {
      filled = s.filled;
      inputs_kept = s.inputs_kept;
      inputs_proper = s.inputs_proper;
      gates_proper = rw (← count) s.gates_proper;
      settled_lanes =
          λ k l. rw (← count)
          (s.settled_lanes k l ∙ settled-gates (network m graph) b e (map (lane k) (inputs_in after)));
    }

-- ---- the outputs' pairs, one after the other

pub outputs-none : (ws w shown : List ℕ) → length shown ≡ 32 → OutputsPut ws w 0 shown
outputs-none ws w shown long = record { long = long; put = λ o l. absurd (omega arith) }

pub outputs-more : {ws w shown : List ℕ} {o : ℕ} {p : Pair} → OutputsPut ws w o shown → o < 16
    → p ≡ output_pair ws (outputs_at (get_or ws 0 0) (get_or ws 3 0) (get_or ws 1 0)) (get_or ws 0 0) w o
    → OutputsPut ws w (o + 1) (put_pair shown o p)
outputs-more {ws} {w} {shown} {o} {p} s few is =
    record {
      long = put-length shown o p ∙ s.long;
      put = λ k l. ⊎_elim (λ e. rw e (put_same shown o p (omega (arith, s.long)) ∙ is))
          (λ d. put_other shown o p k d ∙ s.put k (omega arith)) (eq-or-ne k o);
    }

-- ---- each lane shows what its record asks

module _ (ws : List ℕ) (whole : is_malformed ws ≡ false) (count : ℕ) (fixed ones : List ℕ) {m : ℕ}
    {start w shown : List ℕ}
    (started : RecordsStarted m (get_or ws 0 0) count fixed ones start) (settling : LanesFixed (decode ws) 6 start w)
    (outputs : OutputsPut ws w (get_or ws 2 0) shown) where
  abbrev first : ℕ
  first = outputs_at (get_or ws 0 0) (get_or ws 3 0) (get_or ws 1 0)

  module _ (s : ℕ) (among : s < count) (small : s < 64) where
    abbrev x : List Value
    x = map value_of (setting_bytes (get_or ws 0 0) (get_or fixed s 0) (get_or ones s 0))

    -- the inputs at the lane, one by one
    inputs_are : (i : ℕ) → get_or (map (lane s) (inputs_in w)) i undefined ≡ get_or x i undefined
    inputs_are i =
        rw (settling.inputs_kept ∙ started.inputs)
        (started-lane (get_or ws 0 0) count fixed ones (whole_parts ws whole).few_inputs s among i)

    -- the value of an output's node
    node-value : (o : ℕ) → o < get_or ws 2 0 → lane s (pair_at shown o)
        ≡ operand_value x (settled (decode ws) x)
        (operand_of (get_or ws 0 0) (get_or ws (first + output_size * o + name_size) 0))
    unfolding lanes_of
    node-value o l =
        let b = decode ws in
        let node = operand_of (get_or ws 0 0) (get_or ws (first + output_size * o + name_size) 0) in
        let own : List Value = map (lane s) (inputs_in w) in
        ap (lane s) (outputs.put o l ∙ output-operand ws whole refl refl settling.filled o l)
        ∙ operand_pair-lane settling.inputs_proper settling.gates_proper s small node
        ∙ rw (settling.settled_lanes s small ∙ settled-inputs own x inputs_are b)
        (ap (λ (f : Operand → Value). f node) (operand_value-inputs own x inputs_are (settled b x)))

    lane-shows : ShownFor ws (get_or fixed s 0) (get_or ones s 0) s shown
    unfolding settled_outputs output_values shown_at output_value output_at
    lane-shows =
        let shows : Output → Value = output_value x (settled (decode ws) x) in
        let d : Output = record { port = []; node = constant false } in
        let many : length (map shows (decode ws).outputs) ≡ get_or ws 2 0 =
        length-map (decode ws).outputs shows ∙ decode-output_count ws in
        record {
          is = ext_get_or undefined (tab (λ o. lane s (pair_at shown o)) (get_or ws 2 0)) (map shows (decode ws).outputs)
              (length-tab (λ o. lane s (pair_at shown o)) (get_or ws 2 0) ∙ sym many)
              (λ o h. let l : o < get_or ws 2 0 = rw (length-tab (λ o. lane s (pair_at shown o)) (get_or ws 2 0)) at h in
              get_d-tab (λ o. lane s (pair_at shown o)) (get_or ws 2 0) o undefined l
              ∙ node-value o l
              ∙ ap shows (output-is ws whole refl refl o d l)
              ∙ sym (get_d-defaults (map shows (decode ws).outputs) o undefined (shows d) (rw many l)
              ∙ get_or-map shows (decode ws).outputs o d));
        }

  pub settled-lanes : count ≤ 64 → SettledLanes ws count fixed ones shown
  settled-lanes few = record { long = outputs.long; each = λ s l. lane-shows s l (omega arith) }

-- ---- the outputs at a lane

pub length-shown : (count : ℕ) (shown : List ℕ) (s : ℕ) → length (shown_at count shown s) ≡ count
unfolding shown_at
length-shown count shown s = length-tab (λ o. lane s (pair_at shown o)) count

pub shown-bit : (test : Value → Bool) (count : ℕ) (shown : List ℕ) (s o : ℕ) {b : ℕ} → o < count
    → b ≡ cond (test (lane s (pair_at shown o))) 1 0 → b ≡ cond (test (get_or (shown_at count shown s) o undefined)) 1 0
unfolding shown_at
shown-bit test count shown s o l e = rw (get_d-tab (λ o. lane s (pair_at shown o)) count o undefined l) e

pub not-false : (b : Bool) → not b ≡ false → b ≡ true
not-false true n = refl
not-false false n = sym n

-- the bits of an output, where it is 0 and where it is not

pub defined-zero : (s : ℕ) (p : Pair) → bit p.zeros s ≡ 1 → cond (is_defined (lane s p)) 1 0 ≡ suc zero
unfolding lane marked_lanes is_defined
defined-zero s p e = rw e refl

pub one-zero : (s : ℕ) (p : Pair) → bit p.zeros s ≡ 1 → cond (is_one (lane s p)) 1 0 ≡ zero
unfolding lane marked_lanes is_one
one-zero s p e = rw e refl

module _ (s : ℕ) (p : Pair) (other : bit p.zeros s ≡ 1 → ⊥) where
  lane-other : lane s p ≡ marked_lanes 0 (bit p.ones s)
  unfolding lane marked_lanes bit
  lane-other =
      let e : p.zeros / 2 ^ s % 2 ≡ 0 = go (p.zeros / 2 ^ s % 2) (omega arith) other in
      rw e refl
    where
      go : (z : ℕ) → z < 2 → (z ≡ 1 → ⊥) → z ≡ 0
      go zero l h = refl
      go (suc zero) l h = absurd (h refl)
      go (suc (suc z)) l h = absurd (omega arith)

  pub defined-other : bit p.ones s ≡ cond (is_defined (lane s p)) 1 0
  unfolding bit marked_lanes is_defined
  defined-other = rw lane-other (go (bit p.ones s) (omega arith))
    where
      go : (b : ℕ) → b < 2 → b ≡ cond (is_defined (marked_lanes 0 b)) 1 0
      go zero l = refl
      go (suc zero) l = refl
      go (suc (suc b)) l = absurd (omega arith)

  pub one-other : bit p.ones s ≡ cond (is_one (lane s p)) 1 0
  unfolding bit marked_lanes is_one
  one-other = rw lane-other (go (bit p.ones s) (omega arith))
    where
      go : (b : ℕ) → b < 2 → b ≡ cond (is_one (marked_lanes 0 b)) 1 0
      go zero l = refl
      go (suc zero) l = refl
      go (suc (suc b)) l = absurd (omega arith)
