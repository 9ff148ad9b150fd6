-- The rules of the stored block, word by word, together say "not malformed". Cited by the proof of the code that tests
-- the rules. Assumes nothing.
--   Intact: the rules on the words, each as a fact
--   intact-parts, intact-from: the test and the facts
--   intact-well_formed, intact-encode: words that meet the rules hold a well-formed block and are its words
--   encoded-intact: the other way round
--   intact-torn: the main law: the rules are "not malformed"
use mathlib.Core.Path.{◌≡◌, refl, sym, ap, ◌∙◌}
use mathlib.Core.Bool.{Bool, true, not, ◌&&◌}
use mathlib.Core.List.{List}
use Prim.Native.Nat.{ℕ, ◌+◌, ◌*◌, ◌≤◌, ◌<◌}
use native.Mathlib.Omega.{arith}
use lib.ListN.{length, get_or}
use borrow.Author.Tests.{leb-true, le-leb, eqb-true, eq-eqb}
use Rattle.prelude.specs.Lists.{all, tab, same, distinct}
use Rattle.prelude.proofs.Tests.{and_left, and_right, and_intro, same_test}
use Rattle.prelude.proofs.Same.{same-eq, eq-same}
use Rattle.prelude.proofs.Quantifiers.{all-tab-at, all-tab-from, all-below, below_all}
use Rattle.netlist.specs.Limits.{max_inputs, max_nevers, max_gates, max_outputs}
use Rattle.netlist.specs.Assignments.{Assignment}
use Rattle.netlist.specs.Netlist.{Name, Gate, Output}
use Rattle.netlist.specs.StoredBlock.{name_size, never_size, gate_size, output_size, inputs_at, nevers_at, gates_at, outputs_at}
use Rattle.netlist.specs.StoredBlock.{name_at, never_at}
use Rattle.netlist.specs.Names.{is_plain_name}
use Rattle.netlist.specs.StoredBlock.{gate_at, output_at, is_node, never_fits}
use Rattle.netlist.specs.StoredBlock.{gate_fits, encode, decode, is_well_formed, is_malformed}
use Rattle.theory_encoding.specs.Rules.{names_rule, never_rule, node_rule, gate_rule, header_rule, intact}
use Rattle.theory_encoding.proofs.ListFacts.{and_parts, all_map}
use Rattle.theory_encoding.proofs.Names.{names_rule-names}
use Rattle.theory_encoding.proofs.Nodes.{is_node-operand_of}
use Rattle.theory_encoding.proofs.Gates.{GateStands, gate_rule-unused, gate_rule-fits, gate_rule-from}
use Rattle.theory_encoding.proofs.Gates.{stands-unused}
use Rattle.theory_encoding.proofs.WellFormed.{WellFormed, well_formed-parts, well_formed-from}
use Rattle.theory_encoding.proofs.Encoded.{length-encode, encode-gate}
use Rattle.theory_encoding.proofs.Decoded.{decode-input_count, decode-gate_count, decode-output_count}
use Rattle.theory_encoding.proofs.Decoded.{decode-never_count, decode-gate, decode-ports}
use Rattle.theory_encoding.proofs.RoundTrip.{encode-decode}

-- the rules, each as a fact
pub record Intact (ws : List ℕ) (n m k : ℕ) : Type 0 where
  pub long : inputs_at ≤ length ws
  pub few_inputs : n ≤ max_inputs
  pub few_gates : m ≤ max_gates
  pub few_outputs : k ≤ max_outputs
  pub few_nevers : get_or ws 3 0 ≤ max_nevers
  pub sized : length ws ≡ outputs_at n (get_or ws 3 0) m + output_size * k
  pub input_names : names_rule ws inputs_at name_size n ≡ true
  pub nevers : (i : ℕ) → i < get_or ws 3 0 → never_rule ws n (nevers_at n + never_size * i) ≡ true
  pub gates : (j : ℕ) → j < m → gate_rule ws (n + m) (gates_at n (get_or ws 3 0) + gate_size * j) ≡ true
  pub ports : names_rule ws (outputs_at n (get_or ws 3 0) m) output_size k ≡ true
  pub nodes : (o : ℕ) → o < k
      → node_rule (n + m) (get_or ws (outputs_at n (get_or ws 3 0) m + output_size * o + name_size) 0) ≡ true

module _ (ws : List ℕ) where
  never-test : ℕ → Bool
  never-test i = never_rule ws (get_or ws 0 0) (nevers_at (get_or ws 0 0) + never_size * i)

  gate-test : ℕ → Bool
  gate-test j = gate_rule ws (get_or ws 0 0 + get_or ws 1 0) (gates_at (get_or ws 0 0) (get_or ws 3 0) + gate_size * j)

  node-test : ℕ → Bool
  node-test o = node_rule (get_or ws 0 0 + get_or ws 1 0)
      (get_or ws (outputs_at (get_or ws 0 0) (get_or ws 3 0) (get_or ws 1 0) + output_size * o + name_size) 0)

  -- what "intact" says, rule by rule
  pub intact-parts : intact ws ≡ true → Intact ws (get_or ws 0 0) (get_or ws 1 0) (get_or ws 2 0)
  unfolding intact header_rule never-test gate-test node-test
  intact-parts h =
      let h5 = and_parts _ _ h in
      let h4 = and_parts _ _ h5.0 in
      let h3 = and_parts _ _ h4.0 in
      let h2 = and_parts _ _ h3.0 in
      let h1 = and_parts _ _ h2.0 in
      let g5 = and_parts _ _ h1.0 in
      let g4 = and_parts _ _ g5.0 in
      let g3 = and_parts _ _ g4.0 in
      let g2 = and_parts _ _ g3.0 in
      let g1 = and_parts _ _ g2.0 in
      record {
        long = leb-true inputs_at (length ws) g1.0;
        few_inputs = leb-true (get_or ws 0 0) max_inputs g1.1;
        few_gates = leb-true (get_or ws 1 0) max_gates g2.1;
        few_outputs = leb-true (get_or ws 2 0) max_outputs g3.1;
        few_nevers = leb-true (get_or ws 3 0) max_nevers g4.1;
        sized = eqb-true (length ws) (outputs_at (get_or ws 0 0) (get_or ws 3 0) (get_or ws 1 0) + output_size * get_or ws 2 0)
            g5.1;
        input_names = h1.1;
        nevers = λ i l. all-below never-test (get_or ws 3 0) i h2.1 l;
        gates = λ j l. all-below gate-test (get_or ws 1 0) j h3.1 l;
        ports = h4.1;
        nodes = λ o l. all-below node-test (get_or ws 2 0) o h5.1 l;
      }

  -- the rules together
  pub intact-from : Intact ws (get_or ws 0 0) (get_or ws 1 0) (get_or ws 2 0) → intact ws ≡ true
  unfolding intact header_rule never-test gate-test node-test
  intact-from w =
      let long = le-leb inputs_at (length ws) w.long in
      let inputs = le-leb (get_or ws 0 0) max_inputs w.few_inputs in
      let gates = le-leb (get_or ws 1 0) max_gates w.few_gates in
      let outputs = le-leb (get_or ws 2 0) max_outputs w.few_outputs in
      let nevers = le-leb (get_or ws 3 0) max_nevers w.few_nevers in
      let sized = eq-eqb (length ws) (outputs_at (get_or ws 0 0) (get_or ws 3 0) (get_or ws 1 0) + output_size * get_or ws 2 0)
      w.sized in
      rw (
        long,
        inputs,
        gates,
        outputs,
        nevers,
        sized,
        w.input_names,
        below_all never-test (get_or ws 3 0) w.nevers,
        below_all gate-test (get_or ws 1 0) w.gates,
        w.ports,
      )
      (below_all node-test (get_or ws 2 0) w.nodes)

-- ---- the rules say that the words are those of a well-formed block

port-of : Output → Name
port-of o = o.port

module _ (ws : List ℕ) where
  name : ℕ → Name
  name i = name_at ws (inputs_at + name_size * i)

  port : ℕ → Name
  port o = name_at ws (outputs_at (get_or ws 0 0) (get_or ws 3 0) (get_or ws 1 0) + output_size * o)

  never-at : ℕ → Assignment
  never-at i = never_at ws (nevers_at (get_or ws 0 0) + never_size * i)

  never-rule : (i : ℕ) → never_fits (decode ws) (never-at i)
      ≡ never_rule ws (get_or ws 0 0) (nevers_at (get_or ws 0 0) + never_size * i)
  unfolding never_fits never_rule never-at never_at
  never-rule i = rw (decode-input_count ws)

  gate-at : ℕ → Gate
  gate-at j = gate_at (get_or ws 0 0) ws (gates_at (get_or ws 0 0) (get_or ws 3 0) + gate_size * j)

  output-at : ℕ → Output
  output-at o = output_at (get_or ws 0 0) ws (outputs_at (get_or ws 0 0) (get_or ws 3 0) (get_or ws 1 0) + output_size * o)

  -- words that meet the rules hold a well-formed block
  pub intact-well_formed : intact ws ≡ true → is_well_formed (decode ws) ≡ true
  unfolding decode output_at name port never-at gate-at output-at port-of
  intact-well_formed h =
      well_formed-from (decode ws)
      (record {
        few_inputs = rw (decode-input_count ws) w.few_inputs;
        few_gates = rw (decode-gate_count ws) w.few_gates;
        few_outputs = rw (decode-output_count ws) w.few_outputs;
        few_nevers = rw (decode-never_count ws) w.few_nevers;
        input_names = and_left (all is_plain_name (tab name (get_or ws 0 0))) (distinct (tab name (get_or ws 0 0))) names;
        inputs_distinct = and_right (all is_plain_name (tab name (get_or ws 0 0))) (distinct (tab name (get_or ws 0 0))) names;
        nevers_fit = all-tab-from (never_fits (decode ws)) never-at (get_or ws 3 0) (λ i l. never-rule i ∙ w.nevers i l);
        gates_fit =
            all-tab-from (gate_fits (decode ws)) gate-at (get_or ws 1 0)
            (λ j l. gate_rule-fits ws (gates_at (get_or ws 0 0) (get_or ws 3 0) + gate_size * j) (decode ws) (get_or ws 0 0)
            (get_or ws 1 0) (decode-input_count ws)
            (decode-gate_count ws) (w.gates j l));
        port_names =
            sym (all_map is_plain_name port-of (decode ws).outputs)
            ∙ ap (all is_plain_name) (decode-ports ws)
            ∙ and_left (all is_plain_name (tab port (get_or ws 2 0))) (distinct (tab port (get_or ws 2 0))) ports;
        ports_distinct = ap distinct (decode-ports ws)
            ∙ and_right (all is_plain_name (tab port (get_or ws 2 0))) (distinct (tab port (get_or ws 2 0))) ports;
        nodes_there =
            all-tab-from (λ o. is_node (decode ws) o.node) output-at (get_or ws 2 0)
            (λ o l. is_node-operand_of (decode ws) (get_or ws 0 0) (get_or ws 1 0)
            (get_or ws (outputs_at (get_or ws 0 0) (get_or ws 3 0) (get_or ws 1 0) + output_size * o + name_size) 0)
            (decode-input_count ws) (decode-gate_count ws) few ∙ w.nodes o l);
      })
    where
      w : Intact ws (get_or ws 0 0) (get_or ws 1 0) (get_or ws 2 0)
      w = intact-parts ws h

      few : get_or ws 0 0 + get_or ws 1 0 ≤ 65534
      few = omega (arith, w.few_inputs, w.few_gates)

      names : all is_plain_name (tab name (get_or ws 0 0)) && distinct (tab name (get_or ws 0 0)) ≡ true
      names = sym (names_rule-names ws inputs_at name_size (get_or ws 0 0)) ∙ w.input_names

      ports : all is_plain_name (tab port (get_or ws 2 0)) && distinct (tab port (get_or ws 2 0)) ≡ true
      ports = sym (names_rule-names ws (outputs_at (get_or ws 0 0) (get_or ws 3 0) (get_or ws 1 0)) output_size (get_or ws 2 0))
          ∙ w.ports

  -- words that keep the rules are the words of the block that they hold
  pub intact-encode : intact ws ≡ true → encode (decode ws) ≡ ws
  intact-encode h =
      encode-decode ws (get_or ws 0 0) (get_or ws 1 0) (get_or ws 2 0) (get_or ws 3 0) refl refl refl refl w.sized
      (λ j l. gate_rule-unused ws (get_or ws 0 0 + get_or ws 1 0) (gates_at (get_or ws 0 0) (get_or ws 3 0) + gate_size * j)
      (w.gates j l))
    where
      w : Intact ws (get_or ws 0 0) (get_or ws 1 0) (get_or ws 2 0)
      w = intact-parts ws h

  -- words that are the words of the block that they hold have its length
  encoded-length : encode (decode ws) ≡ ws
      → length ws ≡ outputs_at (get_or ws 0 0) (get_or ws 3 0) (get_or ws 1 0) + output_size * get_or ws 2 0
  encoded-length e = sym (ap length e) ∙ length-encode (decode ws)
      ∙ rw (decode-input_count ws, decode-gate_count ws, decode-output_count ws, decode-never_count ws)

  -- the words of a block's gates stand in words that are the block's
  gate-stands : encode (decode ws) ≡ ws → (j : ℕ) → j < get_or ws 1 0
      → GateStands (get_or ws 0 0) ws (gates_at (get_or ws 0 0) (get_or ws 3 0) + gate_size * j) (gate-at j)
  unfolding gate-at
  gate-stands e j l =
      rw (e, decode-input_count ws, decode-never_count ws, decode-gate ws j l)
      at (encode-gate (decode ws) j (rw (decode-gate_count ws) l))

  -- the words of a well-formed block meet the rules
  pub encoded-intact : is_well_formed (decode ws) ≡ true → encode (decode ws) ≡ ws → intact ws ≡ true
  unfolding decode output_at outputs_at gates_at nevers_at name port never-at gate-at output-at port-of
  encoded-intact h e =
      intact-from ws
      (record {
        long = rw sized long;
        few_inputs = rw (decode-input_count ws) at w.few_inputs;
        few_gates = rw (decode-gate_count ws) at w.few_gates;
        few_outputs = rw (decode-output_count ws) at w.few_outputs;
        few_nevers = rw (decode-never_count ws) at w.few_nevers;
        sized = sized;
        input_names =
            names_rule-names ws inputs_at name_size (get_or ws 0 0)
            ∙ and_intro (all is_plain_name (tab name (get_or ws 0 0))) (distinct (tab name (get_or ws 0 0))) w.input_names
            w.inputs_distinct;
        nevers = λ i l. sym (never-rule i)
            ∙ all-tab-at (never_fits (decode ws)) never-at (get_or ws 3 0) i w.nevers_fit l;
        gates =
            λ j l. gate_rule-from ws (gates_at (get_or ws 0 0) (get_or ws 3 0) + gate_size * j) (decode ws) (get_or ws 0 0)
            (get_or ws 1 0) (decode-input_count ws)
            (decode-gate_count ws) (all-tab-at (gate_fits (decode ws)) gate-at (get_or ws 1 0) j w.gates_fit l)
            (stands-unused (get_or ws 0 0) ws (gates_at (get_or ws 0 0) (get_or ws 3 0) + gate_size * j) (gate-stands e j l));
        ports =
            names_rule-names ws (outputs_at (get_or ws 0 0) (get_or ws 3 0) (get_or ws 1 0)) output_size (get_or ws 2 0)
            ∙ and_intro (all is_plain_name (tab port (get_or ws 2 0))) (distinct (tab port (get_or ws 2 0)))
            (sym (ap (all is_plain_name) (decode-ports ws)) ∙ all_map is_plain_name port-of (decode ws).outputs
            ∙ w.port_names)
            (sym (ap distinct (decode-ports ws)) ∙ w.ports_distinct);
        nodes =
            λ o l. sym (is_node-operand_of (decode ws) (get_or ws 0 0) (get_or ws 1 0)
            (get_or ws (outputs_at (get_or ws 0 0) (get_or ws 3 0) (get_or ws 1 0) + output_size * o + name_size) 0)
            (decode-input_count ws) (decode-gate_count ws) few)
            ∙ all-tab-at (λ o. is_node (decode ws) o.node) output-at (get_or ws 2 0) o w.nodes_there l;
      })
    where
      w : WellFormed (decode ws)
      w = well_formed-parts (decode ws) h

      few : get_or ws 0 0 + get_or ws 1 0 ≤ 65534
      few = omega (arith, rw (decode-input_count ws) at w.few_inputs, rw (decode-gate_count ws) at w.few_gates)

      sized : length ws ≡ outputs_at (get_or ws 0 0) (get_or ws 3 0) (get_or ws 1 0) + output_size * get_or ws 2 0
      sized = encoded-length e

      long : inputs_at ≤ outputs_at (get_or ws 0 0) (get_or ws 3 0) (get_or ws 1 0) + output_size * get_or ws 2 0
      long = omega arith

-- The rules, word by word, together are "not malformed".
pub intact-torn : (ws : List ℕ) → is_malformed ws ≡ not (intact ws)
unfolding is_malformed
intact-torn ws =
    ap not
    (same_test (is_well_formed (decode ws) && same (encode (decode ws)) ws) (intact ws)
    (λ h. encoded-intact ws (and_left (is_well_formed (decode ws)) (same (encode (decode ws)) ws) h)
    (same-eq (encode (decode ws)) ws (and_right (is_well_formed (decode ws)) (same (encode (decode ws)) ws) h)))
    (λ h. and_intro (is_well_formed (decode ws)) (same (encode (decode ws)) ws) (intact-well_formed ws h)
    (eq-same (encode (decode ws)) ws (intact-encode ws h))))
