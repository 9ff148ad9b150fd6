-- A rendering computes what the original settles to, under every setting that may come.
--   schedule-above        after a run along the schedule every gate is above its settled value
--   agreement             a gate whose settled value is 0 or 1 has it at its last copy, in every block
--   outputs-agree         under a settled setting the outputs' values are the original's
--   sound-outputs-agree   in a sound block under every setting that may come
-- Assumes nothing.
use Prim.Native.Nat.{ℕ, zero, suc, ◌≤◌, ◌<◌}
use mathlib.Core.Path.{◌≡◌, refl, sym, ap, ap₂, ◌∙◌}
use mathlib.Core.Logic.{◌⊎◌, inl, inr}
use mathlib.Core.Bool.{Bool, true, false, false≢true}
use mathlib.Core.List.{List, [], ◌∷◌, map}
use native.Mathlib.Omega.{arith}
use borrow.Author.Tests.{ltb-true}
use lib.ListN.{length, get_or, take, replicate, length-replicate}
use lib.Seq.{take-length}
use Rattle.prelude.specs.Lists.{all}
use Rattle.prelude.proofs.Tests.{and_left, and_right}
use Rattle.prelude.proofs.Lists.{member-cases}
use Rattle.netlist.specs.Values.{Value, undefined, val, is_defined}
use Rattle.netlist.specs.Netlist.{Operand, input, gate, constant, Output, Block, input_count, gate_count}
use Rattle.netlist.specs.StoredBlock.{is_node, is_well_formed}
use Rattle.netlist.specs.Rounds.{operand_value, output_value, setting_of, setting_count, settled_under, outputs_under}
use Rattle.netlist.specs.Rounds.{is_settled, is_excluded}
use Rattle.netlist.specs.Cover.{is_sound}
use Rattle.netlist.specs.Groups.{groups}
use Rattle.netlist.specs.Rendering.{passes, schedule, copied_operand, last_copies, rendering, sweep}
use Rattle.theory_encoding.proofs.WellFormed.{well_formed-parts}
use Rattle.theory_fixpoint.specs.Order.{Below, BelowOn, Listed}
use Rattle.netlist.specs.Steps.{run}
use Rattle.netlist.specs.Passes.{before_passes, after_passes, pass_count}
use Rattle.theory_fixpoint.proofs.Values.{below-of-undefined, below-of-eq, below-trans, below-defined}
use Rattle.theory_fixpoint.proofs.AnyOrder.{length_run, run-append, run-mono-on}
use Rattle.theory_reach.specs.Inside.{Inside}
use Rattle.theory_reach.proofs.Inside.{well_formed-inside}
use Rattle.theory_reach.proofs.Order.{groups-all}
use Rattle.theory_unrolling.specs.Copies.{schedule_of, group_at, gates_before}
use Rattle.theory_unrolling.proofs.Follows.{gates_before-next, group-follows}
use Rattle.theory_unrolling.proofs.PassCount.{length_before, before-inside, before-below, settled-state}
use Rattle.theory_unrolling.proofs.PassCount.{enough-at, pass_count-enough}
use Rattle.theory_unrolling.proofs.Schedule.{passes-member, schedule_of-take, schedule_of-all}
use Rattle.theory_unrolling.proofs.Sound.{sound-settled_at}
use Rattle.theory_unrolling.proofs.Run.{last_copy-value}

module _ (b : Block) where
  module _ (s : ℕ) (l : s < setting_count b) (may_come : is_excluded b s ≡ false) where
    -- Under a setting that may come, the passes over a group, from a state where the groups before it are above their
    -- settled values, put it above its own: they do so from undefined, and a run keeps the order of two states.
    group-above : (t : ℕ) → t < length (groups b) → (v : List Value) → length v ≡ gate_count b
        → BelowOn (Listed (gates_before b t)) (settled_under b s) v
        → BelowOn (λ k. Listed (gates_before b t) k ⊎ Listed (group_at b t) k) (settled_under b s)
        (run b (setting_of (input_count b) s) (passes b (group_at b t)) v)
    unfolding passes after_passes
    group-above t there v sized earlier j here =
        below-trans
        (below-of-eq
        (ap (λ (u : List Value). get_or u j undefined)
        (sym (settled-state b group s (pass_count b group)
        (enough-at b group (pass_count b group) (pass_count-enough b t there) s l may_come)))))
        (run-mono-on b (setting_of (input_count b) s) Known (passes b group)
        (λ i k m r. (group-follows b t there).inside i k (passes-member b group i m) r)
        (before_passes b group s) v (length_before b group s ∙ sym sized) start j here)
      where
        group : List ℕ
        group = group_at b t

        Known : ℕ → Type 0
        Known k = Listed (gates_before b t) k ⊎ Listed group k

        start : BelowOn Known (before_passes b group s) v
        start k (inl m) = below-trans (before-below b group s k) (earlier k m)
        start k (inr m) = below-of-undefined (get_or v k undefined) (before-inside b group s k m)

    module _ (v : List Value) (sized : length v ≡ gate_count b) where
      -- After the passes over the first groups, from any start, their gates are above the settled values.
      pub groups-above : (t : ℕ) → t ≤ length (groups b)
          → BelowOn (Listed (gates_before b t)) (settled_under b s)
          (run b (setting_of (input_count b) s) (schedule_of b (take t (groups b))) v)
      groups-above zero h = λ j m. absurd (false≢true m)
      groups-above (suc t) h =
          let x = setting_of (input_count b) s in
          let before = run b x (schedule_of b (take t (groups b))) v in
          let r = group-above t h before (length_run b x (schedule_of b (take t (groups b))) v ∙ sized)
          (groups-above t (omega arith)) in
          λ j m.
          rw (schedule_of-take b t h, run-append b x (schedule_of b (take t (groups b))) (passes b (group_at b t)) v)
          (r j (member-cases j (gates_before b t) (group_at b t) (rw (gates_before-next b t h) at m)))

      -- After a run along the schedule, from any start, every gate is above its settled value.
      pub schedule-above : Inside b → (j : ℕ) → j < gate_count b
          → Below (get_or (settled_under b s) j undefined)
          (get_or (run b (setting_of (input_count b) s) (schedule b) v) j undefined)
      schedule-above inside j k =
          rw (schedule_of-all b) at
          (groups-above (length (groups b)) (omega arith) j (rw (take-length (groups b)) (groups-all b inside j k)))

    -- In every block, under every setting that may come, a gate whose settled value is 0 or 1 has it at its last copy.
    pub agreement : Inside b → (j : ℕ) → j < gate_count b → let x = setting_of (input_count b) s in
        Below (get_or (settled_under b s) j undefined)
        (operand_value x (sweep (rendering b) x) (get_or (last_copies b) j (constant false)))
    agreement inside j k =
        below-trans (schedule-above (replicate (gate_count b) (val false)) (length-replicate (gate_count b) (val false))
        inside j k)
        (below-of-eq (sym (last_copy-value b (setting_of (input_count b) s) inside j k)))

    -- So has an output that shows 0 or 1: the gates that it does not show may be undefined.
    node-agrees : is_well_formed b ≡ true → (o : Operand) → is_node b o ≡ true → let x = setting_of (input_count b) s in
        is_defined (operand_value x (settled_under b s) o) ≡ true
        → operand_value x (sweep (rendering b) x) (copied_operand (last_copies b) o) ≡ operand_value x (settled_under b s) o
    unfolding operand_value copied_operand is_node
    node-agrees w (input i) k d = refl
    node-agrees w (constant c) k d = refl
    node-agrees w (gate j) k d =
        let x = setting_of (input_count b) s in
        sym
        (below-defined (get_or (settled_under b s) j undefined)
        (operand_value x (sweep (rendering b) x) (get_or (last_copies b) j (constant false)))
        (agreement (well_formed-inside b w) j (ltb-true j (gate_count b) k)) d)

  -- what an output of the rendering shows
  shown : Output → Output
  shown o = record { port = o.port; node = copied_operand (last_copies b) o.node }

  rendering-shown : (rendering b).outputs ≡ map shown b.outputs
  unfolding rendering shown
  rendering-shown = refl

  -- Under a settled setting that may come the outputs' values, read from a sweep of the rendering, are the original's,
  -- output by output.
  pub outputs-agree : is_well_formed b ≡ true → (s : ℕ) → s < setting_count b → is_excluded b s ≡ false
      → is_settled b s ≡ true
      → let x = setting_of (input_count b) s in
      map (output_value x (sweep (rendering b) x)) (rendering b).outputs
      ≡ map (output_value x (settled_under b s)) b.outputs
  unfolding output_value shown is_settled outputs_under
  outputs-agree w s l e h = ap (map (output_value x (sweep (rendering b) x))) rendering-shown
      ∙ go b.outputs (well_formed-parts b w).nodes_there h
    where
      x : List Value
      x = setting_of (input_count b) s

      there : Output → Bool
      there o = is_node b o.node

      defined : Output → Value
      defined o = output_value x (settled_under b s) o

      go : (os : List Output) → all there os ≡ true → all is_defined (map defined os) ≡ true
          → map (output_value x (sweep (rendering b) x)) (map shown os) ≡ map defined os
      go [] k d = refl
      go (o ∷ os) k d =
          ap₂ (λ (v : Value) (vs : List Value). v ∷ vs)
          (node-agrees s l e w o.node (and_left (there o) (all there os) k)
          (and_left (is_defined (defined o)) (all is_defined (map defined os)) d))
          (go os (and_right (there o) (all there os) k)
          (and_right (is_defined (defined o)) (all is_defined (map defined os)) d))

  -- In a sound block they are under every setting that may come.
  pub sound-outputs-agree : is_well_formed b ≡ true → is_sound b ≡ true → (s : ℕ) → s < setting_count b
      → is_excluded b s ≡ false
      → let x = setting_of (input_count b) s in
      map (output_value x (sweep (rendering b) x)) (rendering b).outputs
      ≡ map (output_value x (settled_under b s)) b.outputs
  sound-outputs-agree w h s l e = outputs-agree w s l e (sound-settled_at b h s l e)
