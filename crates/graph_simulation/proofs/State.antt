-- The values of what stands at each place, against the definitions' lists of inputs and gates. Cited by whoever
-- evaluates a gate of a graph.
--   place-value    what stands at a place
--   evaluated-at   a gate's value from the inputs and the state
--   legal-gate     every gate of a graph can be evaluated
-- Assumes nothing.
use mathlib.Core.Path.{◌≡◌, refl, sym, ap, ◌∙◌}
use mathlib.Core.Logic.{⊎_elim}
use mathlib.Core.List.{List, []}
use Prim.Native.Nat.{ℕ, ◌+◌, ◌-◌, ◌*◌, ◌≤◌, ◌<◌}
use native.Mathlib.Omega.{arith}
use lib.ListN.{length, get_or}
use borrow.Author.Tests.{ne_eqb, lt-ltb, le-ltb}
use Rattle.prelude.specs.Lists.{tab}
use Rattle.prelude.proofs.Tests.{lt-or-le, eq-or-ne}
use Rattle.prelude.proofs.Tab.{get_d-tab, length-tab, map-tab, tab-ext}
use Rattle.netlist.specs.Limits.{max_inputs}
use Rattle.netlist.specs.Values.{Value, undefined, code, value_of}
use Rattle.netlist.specs.Kinds.{gate_value}
use Rattle.netlist.specs.Netlist.{gate_of}
use Rattle.netlist.specs.Rounds.{operand_value, evaluated}
use Rattle.graph_gates.specs.Places.{first_input, first_gate, operand_at}
use Rattle.graph_gates.specs.Graph.{node_size, operation_word, kind_at, count_at, place_at, gate_at, gates_in, network}
use Rattle.graph_gates.specs.Graph.{Graph}
use Rattle.words_layout.proofs.KindLaws.{kind-last}
use Rattle.graph_gates.proofs.Rules.{controlling-small, forced-small}
use Rattle.graph_gates.proofs.Chains.{count_most}
use Rattle.graph_simulation.specs.State.{Coded, inputs_in, state_in, LegalGate, slot_value, gate_code}

module _ (m : ℕ) {values : List ℕ} (c : Coded values) where
  pub place-value : (p : ℕ) → p < first_gate + m
      → operand_value (inputs_in values) (state_in m values) (operand_at p) ≡ value_of (get_or values p 0)
  unfolding operand_at operand_value inputs_in state_in value_of
  place-value p l =
      ⊎_elim zero-place
      (λ ne. ⊎_elim one_place (λ nf. ⊎_elim (input-place ne nf) (gate-place ne nf) (lt-or-le p first_gate))
      (eq-or-ne p 1))
      (eq-or-ne p 0)
    where
      zero-place : p ≡ 0 → operand_value (inputs_in values) (state_in m values) (operand_at p) ≡ value_of (get_or values p 0)
      zero-place e = rw (e, c.zero) refl

      one_place : p ≡ 1 → operand_value (inputs_in values) (state_in m values) (operand_at p) ≡ value_of (get_or values p 0)
      one_place e = rw (e, c.one) refl

      input-place : (p ≡ 0 → ⊥) → (p ≡ 1 → ⊥) → p < first_gate
          → operand_value (inputs_in values) (state_in m values) (operand_at p) ≡ value_of (get_or values p 0)
      input-place ne nf h =
          let back : first_input + (p - first_input) ≡ p = omega arith in
          rw (ne_eqb p 0 ne, ne_eqb p 1 nf, lt-ltb p first_gate h)
          (get_d-tab (λ i. value_of (get_or values (first_input + i) 0)) max_inputs (p - first_input) undefined (omega arith)
          ∙ rw back refl)

      gate-place : (p ≡ 0 → ⊥) → (p ≡ 1 → ⊥) → first_gate ≤ p
          → operand_value (inputs_in values) (state_in m values) (operand_at p) ≡ value_of (get_or values p 0)
      gate-place ne nf h =
          let back : first_gate + (p - first_gate) ≡ p = omega arith in
          rw (ne_eqb p 0 ne, ne_eqb p 1 nf, le-ltb p first_gate h)
          (get_d-tab (λ j. value_of (get_or values (first_gate + j) 0)) m (p - first_gate) undefined (omega arith)
          ∙ rw back refl)

module _ {m : ℕ} {graph : List ℕ} (g : Graph m graph) where
  pub gate-of : (j : ℕ) → j < m → gate_of (network m graph) j ≡ gate_at graph j
  unfolding network gates_in
  gate-of j l = get_d-tab (gate_at graph) m j (record { kind = 0; operands = [] }) l

  operation-small : (j : ℕ) → j < m → get_or graph (node_size * j) 0 ≤ 65535
  unfolding operation_word gate_at
  operation-small j l =
      let n = g.node j l in
      let k = kind_at graph j in
      let many : length (gate_at graph j).operands ≡ count_at graph j =
      length-tab (λ i. operand_at (place_at graph j i)) (count_at graph j) in
      omega (
        arith,
        n.operation,
        many,
        kind-last k n.kind,
        count_most k (count_at graph j) n.kind n.count,
        controlling-small k n.kind,
        forced-small k n.kind,
      )

  pub legal-gate : (j : ℕ) → j < m → LegalGate graph j
  legal-gate j l =
      let n = g.node j l in
      record {
        below = omega (arith, g.few);
        kind = n.kind;
        count = n.count;
        inside = λ i il. omega (arith, n.inside i il, g.few);
        small = operation-small j l;
      }

  pub evaluated-at : {values : List ℕ} → Coded values → (j : ℕ) → j < m
      → gate_code graph values j ≡ code (evaluated (inputs_in values) (state_in m values) (gate_of (network m graph) j))
  unfolding gate_code evaluated gate_at slot_value
  evaluated-at {values} c j l =
      let n = g.node j l in
      let few = count_most (kind_at graph j) (count_at graph j) n.kind n.count in
      let same : tab (slot_value graph values j) (count_at graph j)
      ≡ tab (λ i. operand_value (inputs_in values) (state_in m values) (operand_at (place_at graph j i))) (count_at graph j) =
      tab-ext (slot_value graph values j) (λ i. operand_value (inputs_in values) (state_in m values)
      (operand_at (place_at graph j i))) (count_at graph j)
      (λ i il. sym (place-value m c (place_at graph j i) (n.inside i (omega arith)))) in
      rw (gate-of j l)
      (ap (λ (vs : List Value). code (gate_value (kind_at graph j) vs))
      (same ∙ sym (map-tab (operand_value (inputs_in values) (state_in m values)) (λ i. operand_at (place_at graph j i))
      (count_at graph j))))
