-- A sweep of the copies is the run of single steps along the schedule over the state that holds, for each gate, the
-- value of its newest copy, and 0 where it has none. The agreement cites it.
--   evaluated-copied               a copy is evaluated as its gate is
--   sweep-is-run, last_copy-value   the sweep is the run, and a last copy has the run's value
-- Assumes nothing.
use Prim.Native.Nat.{ℕ, suc, ◌+◌, ◌<◌}
use mathlib.Core.Path.{◌≡◌, refl, sym, ap, ◌∙◌}
use mathlib.Core.Bool.{true, false}
use mathlib.Core.List.{List, [], ◌∷◌, ◌++◌, map}
use native.Mathlib.Omega.{arith}
use lib.ListN.{length, get_or, set, replicate, length-append, length-set, get_or-append}
use lib.Seq.{get_or_at}
use Rattle.prelude.specs.Lists.{member, joined}
use Rattle.prelude.proofs.Lists.{member-head, member-rest, map-set, map-replicate}
use Rattle.netlist.specs.Values.{Value, undefined, val}
use Rattle.netlist.specs.Netlist.{Operand, input, gate, constant, Gate, Block, gate_count, gate_of}
use Rattle.netlist.specs.Kinds.{gate_value}
use Rattle.netlist.specs.Rounds.{operand_value, evaluated}
use Rattle.netlist.specs.Groups.{gate_operand, read_by, reads}
use Rattle.netlist.specs.Rendering.{schedule, no_copies, copied_operand, copied, copies, newest_after, last_copies}
use Rattle.netlist.specs.Rendering.{rendering, sweep_from, sweep}
use Rattle.theory_encoding.proofs.ListFacts.{get_d_map}
use Rattle.netlist.specs.Steps.{step_at, run}
use Rattle.theory_reach.specs.Inside.{Inside}
use Rattle.theory_reach.proofs.ListFacts.{map_same}
use Rattle.theory_unrolling.specs.Copies.{IsCopy, AreCopies, values_of}
use Rattle.theory_unrolling.proofs.Copies.{no_copies-are_copies, length-no_copies, set-are_copies}
use Rattle.theory_unrolling.proofs.Block.{length-last_copies}

module _ (x found : List Value) (newest : List Operand) where
  -- an operand's copy has its value, read from the values of what stands for the gates
  operands-copied : (os : List Operand) → ((k : ℕ) → member k (joined (map gate_operand os)) ≡ true → k < length newest)
      → map (operand_value x found) (map (copied_operand newest) os) ≡ map (operand_value x (values_of x found newest)) os
  unfolding operand_value copied_operand gate_operand values_of
  operands-copied [] h = refl
  operands-copied (input i ∷ os) h = ap (λ (r : List Value). get_or x i undefined ∷ r) (operands-copied os h)
  operands-copied (constant c ∷ os) h = ap (λ (r : List Value). val c ∷ r) (operands-copied os h)
  operands-copied (gate j ∷ os) h =
      rw (get_d_map (operand_value x found) newest j (constant false) undefined
      (h j (member-head j (joined (map gate_operand os)))))
      (ap (λ (r : List Value). operand_value x found (get_or newest j (constant false)) ∷ r)
      (operands-copied os (λ k m. h k (member-rest k j (joined (map gate_operand os)) m))))

  -- A copy has the value of its gate, evaluated from the values of what stands for the gates.
  pub evaluated-copied : (g : Gate)
      → ((k : ℕ) → member k (joined (map gate_operand g.operands)) ≡ true → k < length newest)
      → evaluated x found (copied newest g) ≡ evaluated x (values_of x found newest) g
  unfolding evaluated copied
  evaluated-copied g h = ap (gate_value g.kind) (operands-copied g.operands h)

  -- Further values change nothing of what stands for the gates.
  pub values_of-more : (more : List Value) → AreCopies (length found) newest
      → values_of x (found ++ more) newest ≡ values_of x found newest
  unfolding values_of operand_value
  values_of-more more h =
      map_same (operand_value x (found ++ more)) (operand_value x found) newest (constant false)
      (λ i l. one (get_or newest i (constant false)) (h i))
    where
      one : (o : Operand) → IsCopy (length found) o → operand_value x (found ++ more) o ≡ operand_value x found o
      one (input i) h = refl
      one (gate c) h = get_or-append found more undefined c h
      one (constant c) h = refl

module _ (b : Block) (x : List Value) (inside : Inside b) where
  -- One copy more is one step.
  copy-is-step : (found : List Value) (newest : List Operand) (t j : ℕ) → length found ≡ t → length newest ≡ gate_count b
      → AreCopies t newest
      → values_of x (found ++ (evaluated x found (copied newest (gate_of b j)) ∷ [])) (set newest j (gate t))
      ≡ step_at b x j (values_of x found newest)
  unfolding values_of step_at operand_value reads read_by
  copy-is-step found newest t j e n h =
      let v : Value = evaluated x found (copied newest (gate_of b j)) in
      map-set (operand_value x (found ++ (v ∷ []))) newest j (gate t)
      ∙ ap (λ (l : List Value). set l j (get_or (found ++ (v ∷ [])) t undefined))
      (values_of-more x found newest (v ∷ []) (rw e h))
      ∙ ap (set (map (operand_value x found) newest) j)
      (get_or_at found v [] undefined t e ∙ evaluated-copied x found newest (gate_of b j) (λ k m. rw n (inside j k m)))

  -- A sweep that goes on over copies is the run over the gates copied.
  pub sweep_from-is-run : (js : List ℕ) (found : List Value) (newest : List Operand) (t : ℕ) → length found ≡ t
      → length newest ≡ gate_count b → AreCopies t newest
      → values_of x (sweep_from x found (copies b newest t js)) (newest_after newest t js)
      ≡ run b x js (values_of x found newest)
  unfolding sweep_from copies newest_after run
  sweep_from-is-run [] found newest t e n h = refl
  sweep_from-is-run (j ∷ js) found newest t e n h =
      sweep_from-is-run js (found ++ (evaluated x found (copied newest (gate_of b j)) ∷ []))
      (set newest j (gate t)) (suc t)
      (length-append found (evaluated x found (copied newest (gate_of b j)) ∷ [])
      ∙ (let l : length found + 1 ≡ suc t = omega arith in l))
      (length-set newest j (gate t) ∙ n) (set-are_copies t j newest h)
      ∙ ap (run b x js) (copy-is-step found newest t j e n h)

  -- A sweep of the rendering is the run of single steps along the schedule, from all 0, over the state that holds the
  -- value of each gate's newest copy.
  pub sweep-is-run : values_of x (sweep (rendering b) x) (last_copies b)
      ≡ run b x (schedule b) (replicate (gate_count b) (val false))
  unfolding sweep rendering last_copies values_of no_copies operand_value
  sweep-is-run =
      sweep_from-is-run (schedule b) [] (no_copies b) 0 refl (length-no_copies b) (no_copies-are_copies b)
      ∙ ap (run b x (schedule b)) start
    where
      start : values_of x [] (no_copies b) ≡ replicate (gate_count b) (val false)
      start = map-replicate (operand_value x []) (gate_count b) (constant false)

  -- The value of a gate's last copy in the sweep is the gate's value at the end of the run.
  pub last_copy-value : (j : ℕ) → j < gate_count b
      → operand_value x (sweep (rendering b) x) (get_or (last_copies b) j (constant false))
      ≡ get_or (run b x (schedule b) (replicate (gate_count b) (val false))) j undefined
  unfolding values_of
  last_copy-value j l =
      sym (get_d_map (operand_value x (sweep (rendering b) x)) (last_copies b) j (constant false) undefined
      (rw (length-last_copies b) l))
      ∙ ap (λ (v : List Value). get_or v j undefined) sweep-is-run
