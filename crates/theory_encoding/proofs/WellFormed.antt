-- A well-formed block, rule by rule: the rules' names, taken apart and put together, and a law for a block with
-- another's interface (Render). Cited by RoundTrip, Readers and by whoever shows a block well-formed. Assumes nothing.
--   WellFormed: the rules of a well-formed block, each as a fact
--   well_formed-parts, well_formed-from: the test and the facts
--   few-nodes: no node has the number of a constant
--   well_formed-interface: a block with another's inputs and outputs is well-formed when its gates are
use mathlib.Core.Path.{◌≡◌, sym, ap, ◌∙◌}
use mathlib.Core.Bool.{true, false}
use mathlib.Core.List.{[], map}
use Prim.Native.Nat.{ℕ, ◌+◌, ◌≤◌, ◌<◌}
use native.Mathlib.Omega.{arith}
use lib.ListN.{get_or, length-map}
use borrow.Author.Tests.{leb-true, le-leb}
use Rattle.prelude.specs.Lists.{all, distinct}
use Rattle.prelude.proofs.Quantifiers.{all_from}
use Rattle.netlist.specs.Limits.{max_inputs, max_nevers, max_gates, max_outputs}
use Rattle.netlist.specs.Assignments.{Assignment}
use Rattle.netlist.specs.Netlist.{Name, constant, Gate, Output, Block, input_count, gate_count, output_count, never_count}
use Rattle.netlist.specs.Netlist.{gate_of}
use Rattle.netlist.specs.StoredBlock.{never_fits, gate_fits, is_node, is_well_formed}
use Rattle.netlist.specs.Names.{is_plain_name}
use Rattle.theory_encoding.proofs.ListFacts.{and_parts, all_map}

-- what a list of gates, of never lines and of outputs holds past its end
abbrev pub no_gate : Gate
no_gate = record { kind = 0; operands = [] }

abbrev pub no_never : Assignment
no_never = record { fixed = 0; ones = 0 }

abbrev pub no_output : Output
no_output = record { port = []; node = constant false }

-- the rules of a well-formed block (SPECIFICATION 2.4): limits, names, kinds, counts, nodes
pub record WellFormed (b : Block) : Type 0 where
  pub few_inputs : input_count b ≤ max_inputs
  pub few_gates : gate_count b ≤ max_gates
  pub few_outputs : output_count b ≤ max_outputs
  pub few_nevers : never_count b ≤ max_nevers
  pub input_names : all is_plain_name b.inputs ≡ true
  pub inputs_distinct : distinct b.inputs ≡ true
  pub nevers_fit : all (never_fits b) b.nevers ≡ true
  pub gates_fit : all (gate_fits b) b.gates ≡ true
  pub port_names : all (λ o. is_plain_name o.port) b.outputs ≡ true
  pub ports_distinct : distinct (map (λ (o : Output). o.port) b.outputs) ≡ true
  pub nodes_there : all (λ o. is_node b o.node) b.outputs ≡ true

-- a block is well-formed when it meets the rules
pub well_formed-from : (b : Block) → WellFormed b → is_well_formed b ≡ true
unfolding is_well_formed
well_formed-from b w =
    let inputs = le-leb (input_count b) max_inputs w.few_inputs in
    let gates = le-leb (gate_count b) max_gates w.few_gates in
    let outputs = le-leb (output_count b) max_outputs w.few_outputs in
    let nevers = le-leb (never_count b) max_nevers w.few_nevers in
    rw (
      inputs,
      gates,
      outputs,
      nevers,
      w.input_names,
      w.inputs_distinct,
      w.nevers_fit,
      w.gates_fit,
      w.port_names,
      w.ports_distinct,
      w.nodes_there,
    )

-- what "well-formed" says, rule by rule
pub well_formed-parts : (b : Block) → is_well_formed b ≡ true → WellFormed b
unfolding is_well_formed
well_formed-parts b h =
    let h10 = and_parts _ _ h in
    let h9 = and_parts _ _ h10.0 in
    let h8 = and_parts _ _ h9.0 in
    let h7 = and_parts _ _ h8.0 in
    let h6 = and_parts _ _ h7.0 in
    let h5 = and_parts _ _ h6.0 in
    let h4 = and_parts _ _ h5.0 in
    let h3 = and_parts _ _ h4.0 in
    let h2 = and_parts _ _ h3.0 in
    let h1 = and_parts _ _ h2.0 in
    record {
      few_inputs = leb-true (input_count b) max_inputs h1.0;
      few_gates = leb-true (gate_count b) max_gates h1.1;
      few_outputs = leb-true (output_count b) max_outputs h2.1;
      few_nevers = leb-true (never_count b) max_nevers h3.1;
      input_names = h4.1;
      inputs_distinct = h5.1;
      nevers_fit = h6.1;
      gates_fit = h7.1;
      port_names = h8.1;
      ports_distinct = h9.1;
      nodes_there = h10.1;
    }

-- the numbers of nodes are below those of the constants
pub few-nodes : (b : Block) → WellFormed b → input_count b + gate_count b ≤ 65534
few-nodes b w = omega (arith, w.few_inputs, w.few_gates)

-- A block with the inputs, the never lines and the ports of a well-formed one is well-formed, if it has no more gates
-- than allowed, its gates fit and its outputs show nodes that are there.
pub well_formed-interface : (b c : Block) → is_well_formed b ≡ true
    → c.inputs ≡ b.inputs
    → c.nevers ≡ b.nevers
    → map (λ (o : Output). o.port) c.outputs ≡ map (λ (o : Output). o.port) b.outputs
    → gate_count c ≤ max_gates
    → ((j : ℕ) → j < gate_count c → gate_fits c (gate_of c j) ≡ true)
    → ((i : ℕ) (d : Output) → i < output_count c → is_node c (get_or c.outputs i d).node ≡ true)
    → is_well_formed c ≡ true
unfolding never_fits
well_formed-interface b c h inputs nevers ports few fit there =
    well_formed-from c
    (record {
      few_inputs = rw inputs w.few_inputs;
      few_gates = few;
      few_outputs = rw (sym (length-map c.outputs port-of), ports, length-map b.outputs port-of) w.few_outputs;
      few_nevers = rw nevers w.few_nevers;
      input_names = rw inputs w.input_names;
      inputs_distinct = rw inputs w.inputs_distinct;
      nevers_fit = rw (nevers, inputs) w.nevers_fit;
      gates_fit = all_from (gate_fits c) c.gates no_gate fit;
      port_names = sym (all_map is_plain_name port-of c.outputs) ∙ ap (all is_plain_name) ports
          ∙ all_map is_plain_name port-of b.outputs ∙ w.port_names;
      ports_distinct = rw ports w.ports_distinct;
      nodes_there = all_from (λ o. is_node c o.node) c.outputs no_output (λ i l. there i no_output l);
    })
  where
    w : WellFormed b
    w = well_formed-parts b h

    port-of : Output → Name
    port-of o = o.port
