-- What an output of a block shows, from the values of what stands at each place. Cited by the bench. Assumes nothing.
--   shown-ready   the word behind an output's port names a place
--   shown-code    what stands there is what the output shows
use mathlib.Core.Path.{◌≡◌, refl, sym, ap, ◌∙◌}
use mathlib.Core.Logic.{⊎_elim}
use mathlib.Core.Bool.{false}
use mathlib.Core.List.{List}
use Prim.Native.Nat.{ℕ, ◌+◌, ◌*◌, ◌<◌}
use native.Mathlib.Omega.{arith}
use lib.ListN.{get_or}
use Rattle.prelude.proofs.Tests.{lt-or-le}
use Rattle.netlist.specs.Values.{code, value_of}
use Rattle.netlist.specs.Netlist.{Output}
use Rattle.netlist.specs.StoredBlock.{name_size, output_size, nevers_at, gates_at, outputs_at, output_at, operand_of, decode}
use Rattle.netlist.specs.StoredBlock.{is_malformed}
use Rattle.netlist.specs.Rounds.{operand_value, output_value}
use Rattle.theory_encoding.proofs.Readers.{whole_parts, whole-node}
use Rattle.theory_encoding.proofs.Decoded.{decode-output}
use Rattle.graph_gates.specs.Places.{first_gate, place_of}
use Rattle.graph_gates.proofs.Places.{place-input, place-gate, operand_at-word}
use Rattle.graph_simulation.specs.State.{Coded, inputs_in, state_in, ShownAt}
use Rattle.graph_simulation.proofs.Codes.{code_same}
use Rattle.graph_simulation.proofs.State.{place-value}

module _ (ws : List ℕ) (whole : is_malformed ws ≡ false) (o : ℕ) (l : o < get_or ws 2 0) where
  abbrev n : ℕ
  n = get_or ws 0 0

  abbrev m : ℕ
  m = get_or ws 1 0

  -- where the output's words start, and its node's word
  abbrev port : ℕ
  port = outputs_at n (get_or ws 3 0) m + output_size * o

  abbrev word : ℕ
  word = get_or ws (port + name_size) 0

  place-there : place_of (operand_of n word) < first_gate + m
  place-there =
      let w = whole-node ws whole o l in
      let parts = whole_parts ws whole in
      ⊎_elim
      (λ i. rw (place-input n word i) (omega (arith, parts.few_inputs)))
      (λ i. rw (place-gate n word i (omega (arith, w, parts.few_inputs, parts.few_gates))) (omega (arith, w)))
      (lt-or-le word n)

  pub shown-ready : ShownAt ws n port
  unfolding outputs_at gates_at nevers_at
  shown-ready =
      let parts = whole_parts ws whole in
      record {
        near = omega (arith, parts.few_inputs, parts.few_nevers, parts.few_gates, parts.few_outputs);
        few = parts.few_inputs;
        word = omega (arith, whole-node ws whole o l, parts.few_inputs, parts.few_gates);
        inside = omega (arith, place-there, parts.few_gates);
      }

  pub shown-code : {values : List ℕ} (d : Output) → Coded values
      → get_or values (place_of (operand_of n word)) 0
      ≡ code (output_value (inputs_in values) (state_in m values) (get_or (decode ws).outputs o d))
  unfolding output_value output_at
  shown-code {values} d c =
      let parts = whole_parts ws whole in
      let p = place_of (operand_of n word) in
      let there : operand_value (inputs_in values) (state_in m values) (operand_of n word) ≡ value_of (get_or values p 0) =
      rw (operand_at-word n word parts.few_inputs
      (omega (arith, whole-node ws whole o l, parts.few_inputs, parts.few_gates))) at
      (place-value m c p place-there) in
      sym (code_same (get_or values p 0) (c.most p)) ∙ ap code (sym there) ∙ rw (decode-output ws o d l) refl
