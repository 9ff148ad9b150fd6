-- A replaced netlist under one setting: where the two blocks show the same under the values that their nets have,
-- everything else settles as before. No round of the new netlist gets above the original's settled values, and no round
-- of the original gets above the new one's.
--   port-shows                 the new block shows at each port the settled value of the group's gate
--   *-down                     what the new netlist's rounds reach is below the original's settled values
--   free_up, new-up, *-up      the original's settled values are below the new one's: first at the gates that do not
--                              depend on the group, then at the new block's gates, then at all gates outside
--   one-setting                so they are the same
-- Assumes nothing.
use Prim.Native.Nat.{ℕ, zero, suc, ◌<◌}
use mathlib.Core.Path.{◌≡◌, refl, sym, ap, ◌∙◌}
use mathlib.Core.Logic.{⊎_elim}
use mathlib.Core.Bool.{true, false}
use mathlib.Core.List.{List, []}
use native.Mathlib.Omega.{arith}
use lib.ListN.{length, get_or, length-map}
use lib.Seq.{ext_get_or}
use borrow.Author.Tests.{ltb-true}
use Rattle.prelude.specs.Lists.{member}
use Rattle.prelude.proofs.Tests.{bool_cases}
use Rattle.theory_encoding.proofs.ListFacts.{get_d_map}
use Rattle.netlist.specs.Values.{Value, undefined, val}
use Rattle.netlist.specs.Netlist.{Operand, input, gate, constant, Gate, Output, Block, input_count, gate_count}
use Rattle.netlist.specs.Netlist.{output_count, gate_of}
use Rattle.netlist.specs.StoredBlock.{is_node, is_operand}
use Rattle.netlist.specs.Rounds.{operand_value, evaluated, after_rounds, rounds, settled, output_value}
use Rattle.netlist.specs.Groups.{step, reads}
use Rattle.netlist.specs.Gather.{number_at, place_in, renumbered}
use Rattle.theory_fixpoint.specs.Order.{Below}
use Rattle.theory_fixpoint.proofs.Values.{below-of-undefined, below-of-eq, below-refl, below-trans, below-antisym}
use Rattle.theory_fixpoint.proofs.ListFacts.{get_d-replicate-default}
use Rattle.theory_fixpoint.proofs.Rounds.{get_d-round, evaluated-settled}
use Rattle.theory_fixpoint.proofs.LeastState.{after_rounds-below-settled}
use Rattle.theory_replacement.specs.Placing.{is_complete, nodes, rewired, in_place, Cut, net_values, shown_under}
use Rattle.theory_replacement.specs.Placing.{uses_input, DependsOnNone}
use Rattle.theory_replacement.specs.Replaced.{new_number, behind_outside, new_nets, new_operand, stand_in, replaced}
use Rattle.theory_replacement.specs.Claim.{SameValues, StandsAt, FitsAt}
use Rattle.theory_replacement.proofs.Rewired.{evaluated-up, evaluated-down, among_reads, length-nodes}
use Rattle.theory_replacement.proofs.Rewired.{complete-operand, complete-node}
use Rattle.theory_replacement.proofs.InPlace.{Stands, operand-settled}
use Rattle.theory_replacement.proofs.Numbers.{place_found, new_net-at, gate-outside, gate-new, outputs-replaced}
use Rattle.theory_replacement.proofs.Numbers.{node-replaced}
use Rattle.theory_replacement.proofs.Seen.{gate-there, input-there, NewOperand, new-operand, new-node, FreeNet}
use Rattle.theory_replacement.proofs.Seen.{free-net, free-outside, Seen, seen-operand}
use Rattle.theory_replacement.proofs.Seen.{seen-node}

-- A bound that every round keeps at the gates of a set holds of the settled values there.
pub settled-bound : (b : Block) (x : List Value) (S : ℕ → Type 0) (bound : ℕ → Value)
    → ((r : ℕ) → ((j : ℕ) → S j → Below (get_or (after_rounds b x r) j undefined) (bound j))
    → (j : ℕ) → S j → Below (evaluated x (after_rounds b x r) (gate_of b j)) (bound j))
    → (j : ℕ) → S j → Below (get_or (settled b x) j undefined) (bound j)
unfolding settled after_rounds
settled-bound b x S bound next j s = go (rounds b x) j s
  where
    go : (r j : ℕ) → S j → Below (get_or (after_rounds b x r) j undefined) (bound j)
    go zero j s = below-of-undefined (bound j) (get_d-replicate-default (gate_count b) j undefined)
    go (suc r) j s = rw (get_d-round b x (after_rounds b x r) j) (next r (go r) j s)

-- what an output shows, by its place
pub shown-at : (h : Block) (y : List Value) (p : ℕ) → p < output_count h
    → get_or (shown_under h y) p undefined ≡ operand_value y (settled h y) (get_or (nodes h) p (constant false))
unfolding shown_under output_value nodes
shown-at h y p l =
    get_d_map (output_value y (settled h y)) h.outputs p (record { port = []; node = constant false }) undefined l
    ∙ ap (operand_value y (settled h y))
    (sym (get_d_map (λ (o : Output). o.node) h.outputs p (record { port = []; node = constant false })
    (constant false) l))

pub length-shown : (h : Block) (y : List Value) → length (shown_under h y) ≡ output_count h
unfolding shown_under
length-shown h y = length-map h.outputs (output_value y (settled h y))

module _ (b : Block) (cut : Cut) (own new : Block) (whole : is_complete b ≡ true) (stands : StandsAt b cut own)
    (fits : FitsAt b cut new) where
  -- ---- the group's own block, gate by gate

  own-stands : Stands b cut.nets (number_at cut.gates) own
  unfolding number_at
  own-stands =
      record {
        complete = stands.complete;
        inputs = stands.inputs;
        gates =
            λ t l. let no_gate : Gate = record { kind = 0; operands = [] } in
            let long : length own.gates ≡ length cut.gates =
            sym (length-map own.gates (rewired (in_place cut.nets (number_at cut.gates))))
            ∙ ap length stands.gates ∙ length-map cut.gates (gate_of b) in
            let l' : t < length cut.gates = omega arith in
            sym (get_d_map (gate_of b) cut.gates t 0 no_gate l')
            ∙ ap (λ (gs : List Gate). get_or gs t no_gate) (sym stands.gates)
            ∙ get_d_map (rewired (in_place cut.nets (number_at cut.gates))) own.gates t no_gate no_gate l;
      }

  ports-long : length cut.ports ≡ output_count own
  ports-long =
      sym (length-map cut.ports gate) ∙ sym (ap length stands.outputs)
      ∙ length-map (nodes own) (in_place cut.nets (number_at cut.gates)) ∙ length-nodes own

  port-node : (p : ℕ) → p < length cut.ports
      → in_place cut.nets (number_at cut.gates) (get_or (nodes own) p (constant false))
      ≡ gate (number_at cut.ports p)
  unfolding number_at
  port-node p l =
      let l' : p < length (nodes own) = rw (length-nodes own, ← ports-long) l in
      sym (get_d_map (in_place cut.nets (number_at cut.gates)) (nodes own) p (constant false) (constant false) l')
      ∙ ap (λ (os : List Operand). get_or os p (constant false)) stands.outputs ∙ get_d_map gate cut.ports p 0
      (constant false) l

  module _ (x : List Value)
      (agree : shown_under own (net_values b x cut.nets) ≡ shown_under new (net_values b x cut.nets)) where
    abbrev y : List Value
    y = net_values b x cut.nets

    abbrev after : Block
    after = replaced b cut new

    -- what the new block shows at a port, by its own settled values under the values of the nets
    abbrev port_node : ℕ → Operand
    port_node k = get_or (nodes new) (place_in cut.ports k) (constant false)

    same-outputs : output_count own ≡ output_count new
    same-outputs = sym (length-shown own y) ∙ ap length agree ∙ length-shown new y

    port-below : (k : ℕ) → member k cut.ports ≡ true → place_in cut.ports k < output_count new
    port-below k m =
        let l = (place_found cut.ports k m).0 in let e = ports-long in let f = same-outputs in omega arith

    port-shows : (k : ℕ) → member k cut.ports ≡ true
        → operand_value y (settled new y) (port_node k) ≡ get_or (settled b x) k undefined
    unfolding operand_value
    port-shows k m =
        let p : ℕ = place_in cut.ports k in
        let l : p < length cut.ports = (place_found cut.ports k m).0 in
        let l' : p < output_count own = rw (← ports-long) l in
        let l'' : p < output_count new = port-below k m in
        sym (shown-at new y p l'') ∙ sym (ap (λ (vs : List Value). get_or vs p undefined) agree) ∙ shown-at own y p l'
        ∙ operand-settled b x cut.nets (number_at cut.gates) own own-stands (get_or (nodes own) p (constant false))
        (complete-node own stands.complete p l')
        ∙ ap (operand_value x (settled b x)) (port-node p l)
        ∙ ap (λ (j : ℕ). get_or (settled b x) j undefined) (place_found cut.ports k m).1

    net-value : (i : ℕ) → i < input_count new
        → get_or y i undefined ≡ operand_value x (settled b x) (get_or cut.nets i (constant false))
    unfolding net_values
    net-value i l =
        get_d_map (operand_value x (settled b x)) cut.nets i (constant false) undefined (rw (← fits.inputs) l)

    -- ---- the new netlist's rounds are below the original's settled values

    module _ (v : List Value)
        (outside_below : (j : ℕ) → j < gate_count b → member j cut.gates ≡ false
        → Below (get_or v (new_number b cut j) undefined) (get_or (settled b x) j undefined))
        (new_below : (t : ℕ) → t < gate_count new
        → Below (get_or v (behind_outside b cut t) undefined) (get_or (settled new y) t undefined)) where
      net-down : (o : Operand) → FreeNet b cut o
          → Below (operand_value x v (renumbered (new_number b cut) o)) (operand_value x (settled b x) o)
      unfolding operand_value renumbered
      net-down (input i) f = below-refl (get_or x i undefined)
      net-down (gate k) f = outside_below k (gate-there b k f.there) (free-outside b cut k (f.free k refl))
      net-down (constant c) f = below-refl (val c)

      input-down : (i : ℕ) → i < input_count new → uses_input new i ≡ true
          → Below (operand_value x v (get_or (new_nets b cut) i (constant false))) (get_or y i undefined)
      input-down i l u =
          rw (new_net-at b cut i (rw (← fits.inputs) l), net-value i l)
          (net-down (get_or cut.nets i (constant false)) (free-net b cut own new stands fits i l u))

      new-down : (o : Operand) → NewOperand new o
          → Below (operand_value x v (new_operand b cut o)) (operand_value y (settled new y) o)
      unfolding operand_value new_operand in_place is_operand is_node
      new-down (input i) n = input-down i (input-there new i n.there) (n.used i refl)
      new-down (gate t) n = new_below t (ltb-true t (gate_count new) n.there)
      new-down (constant c) n = below-refl (val c)

      port-down : (k : ℕ) → member k cut.ports ≡ true
          → Below (operand_value x v (new_operand b cut (port_node k))) (get_or (settled b x) k undefined)
      port-down k m =
          below-trans (new-down (port_node k) (new-node new fits.complete (place_in cut.ports k) (port-below k m)))
          (below-of-eq (port-shows k m))

      stand-down : (o : Operand) → Seen b cut o
          → Below (operand_value x v (stand_in b cut new o)) (operand_value x (settled b x) o)
      unfolding operand_value stand_in
      stand-down (input i) s = below-refl (get_or x i undefined)
      stand-down (gate k) s =
          ⊎_elim (λ m. rw m (port-down k (s.port k refl m))) (λ m. rw m (outside_below k (gate-there b k s.there) m))
          (bool_cases (member k cut.gates))
      stand-down (constant c) s = below-refl (val c)

      outside-next : (j : ℕ) → j < gate_count b → member j cut.gates ≡ false
          → Below (evaluated x v (gate_of after (new_number b cut j))) (get_or (settled b x) j undefined)
      outside-next j l m =
          rw (gate-outside b cut new j l m)
          (below-trans
          (evaluated-down x (settled b x) x v (stand_in b cut new) (gate_of b j)
          (λ o a. stand-down o (seen-operand b cut own whole stands j m o a)))
          (below-of-eq (evaluated-settled b x j)))

      new-next : (t : ℕ) → t < gate_count new
          → Below (evaluated x v (gate_of after (behind_outside b cut t))) (get_or (settled new y) t undefined)
      new-next t l =
          rw (gate-new b cut new t l)
          (below-trans
          (evaluated-down y (settled new y) x v (new_operand b cut) (gate_of new t)
          (λ o a. new-down o (new-operand new fits.complete t o a)))
          (below-of-eq (evaluated-settled new y t)))

    record Down (v : List Value) : Type 0 where
      outside_below : (j : ℕ) → j < gate_count b → member j cut.gates ≡ false
          → Below (get_or v (new_number b cut j) undefined) (get_or (settled b x) j undefined)
      new_below : (t : ℕ) → t < gate_count new
          → Below (get_or v (behind_outside b cut t) undefined) (get_or (settled new y) t undefined)

    rounds-down : (r : ℕ) → Down (after_rounds after x r)
    unfolding after_rounds
    rounds-down zero =
        record {
          outside_below =
              λ j l m. below-of-undefined (get_or (settled b x) j undefined)
              (get_d-replicate-default (gate_count after) (new_number b cut j) undefined);
          new_below =
              λ t l. below-of-undefined (get_or (settled new y) t undefined)
              (get_d-replicate-default (gate_count after) (behind_outside b cut t) undefined);
        }
    rounds-down (suc r) =
        let d = rounds-down r in
        let v : List Value = after_rounds after x r in
        record {
          outside_below =
              λ j l m. rw (get_d-round after x v (new_number b cut j))
              (outside-next v d.outside_below d.new_below j l m);
          new_below =
              λ t l. rw (get_d-round after x v (behind_outside b cut t)) (new-next v d.outside_below d.new_below t l);
        }

    down : Down (settled after x)
    unfolding settled
    down = rounds-down (rounds after x)

    -- ---- the original's settled values are below the new netlist's

    -- at the gates that do not depend on the group,
    record Free (k : ℕ) : Type 0 where
      there : k < gate_count b
      free : DependsOnNone b cut.gates k

    free-reads : (j k : ℕ) → Free j → reads b j k ≡ true → is_operand b (gate k) ≡ true → Free k
    free-reads j k f r h = record { there = gate-there b k h; free = λ i m p. f.free i m (step r p) }

    free-operand : (v : List Value) (j : ℕ) → Free j
        → ((k : ℕ) → Free k → Below (get_or v k undefined) (get_or (settled after x) (new_number b cut k) undefined))
        → (o : Operand) → is_operand b o ≡ true → ((k : ℕ) → o ≡ gate k → reads b j k ≡ true)
        → Below (operand_value x v o) (operand_value x (settled after x) (stand_in b cut new o))
    unfolding operand_value stand_in
    free-operand v j f before (input i) h r = below-refl (get_or x i undefined)
    free-operand v j f before (gate k) h r =
        let g : Free k = free-reads j k f (r k refl) h in
        rw (free-outside b cut k g.free) (before k g)
    free-operand v j f before (constant c) h r = below-refl (val c)

    free_up : (k : ℕ) → Free k
        → Below (get_or (settled b x) k undefined) (get_or (settled after x) (new_number b cut k) undefined)
    free_up =
        settled-bound b x Free (λ k. get_or (settled after x) (new_number b cut k) undefined)
        (λ r before j f.
        below-trans
        (evaluated-up x (after_rounds b x r) x (settled after x) (stand_in b cut new) (gate_of b j)
        (λ o a. free-operand (after_rounds b x r) j f before o (complete-operand b whole j o a)
        (λ k e. among_reads b j k (rw e at a))))
        (below-of-eq
        (ap (evaluated x (settled after x)) (sym (gate-outside b cut new j f.there (free-outside b cut j f.free)))
        ∙ evaluated-settled after x (new_number b cut j))))

    net-up : (o : Operand) → FreeNet b cut o
        → Below (operand_value x (settled b x) o) (operand_value x (settled after x) (renumbered (new_number b cut) o))
    unfolding operand_value renumbered
    net-up (input i) f = below-refl (get_or x i undefined)
    net-up (gate k) f = free_up k (record { there = gate-there b k f.there; free = f.free k refl })
    net-up (constant c) f = below-refl (val c)

    input-up : (i : ℕ) → i < input_count new → uses_input new i ≡ true
        → Below (get_or y i undefined) (operand_value x (settled after x) (get_or (new_nets b cut) i (constant false)))
    input-up i l u =
        rw (new_net-at b cut i (rw (← fits.inputs) l), net-value i l)
        (net-up (get_or cut.nets i (constant false)) (free-net b cut own new stands fits i l u))

    -- at the new block's gates,
    operand-up : (v : List Value)
        → ((t : ℕ) → t < gate_count new
        → Below (get_or v t undefined) (get_or (settled after x) (behind_outside b cut t) undefined))
        → (o : Operand) → NewOperand new o
        → Below (operand_value y v o) (operand_value x (settled after x) (new_operand b cut o))
    unfolding operand_value new_operand in_place is_operand is_node
    operand-up v before (input i) n = input-up i (input-there new i n.there) (n.used i refl)
    operand-up v before (gate t) n = before t (ltb-true t (gate_count new) n.there)
    operand-up v before (constant c) n = below-refl (val c)

    new-up : (t : ℕ) → t < gate_count new
        → Below (get_or (settled new y) t undefined) (get_or (settled after x) (behind_outside b cut t) undefined)
    new-up =
        settled-bound new y (λ t. t < gate_count new) (λ t. get_or (settled after x) (behind_outside b cut t) undefined)
        (λ r before t l.
        below-trans
        (evaluated-up y (after_rounds new y r) x (settled after x) (new_operand b cut) (gate_of new t)
        (λ o a. operand-up (after_rounds new y r) before o (new-operand new fits.complete t o a)))
        (below-of-eq
        (ap (evaluated x (settled after x)) (sym (gate-new b cut new t l)) ∙ evaluated-settled after x
        (behind_outside b cut t))))

    port-up : (k : ℕ) → member k cut.ports ≡ true
        → Below (get_or (settled b x) k undefined) (operand_value x (settled after x) (new_operand b cut (port_node k)))
    port-up k m =
        below-trans (below-of-eq (sym (port-shows k m)))
        (operand-up (settled new y) new-up (port_node k)
        (new-node new fits.complete (place_in cut.ports k) (port-below k m)))

    -- In a state below the settled values, and outside the group below those of the replaced netlist, an operand's
    -- value is below that of what stands for it.
    stand-up : (v : List Value) → ((k : ℕ) → Below (get_or v k undefined) (get_or (settled b x) k undefined))
        → ((k : ℕ) → k < gate_count b → member k cut.gates ≡ false
        → Below (get_or v k undefined) (get_or (settled after x) (new_number b cut k) undefined))
        → (o : Operand) → Seen b cut o
        → Below (operand_value x v o) (operand_value x (settled after x) (stand_in b cut new o))
    unfolding operand_value stand_in
    stand-up v low before (input i) s = below-refl (get_or x i undefined)
    stand-up v low before (gate k) s =
        ⊎_elim (λ m. rw m (below-trans (low k) (port-up k (s.port k refl m))))
        (λ m. rw m (before k (gate-there b k s.there) m))
        (bool_cases (member k cut.gates))
    stand-up v low before (constant c) s = below-refl (val c)

    record Outside (j : ℕ) : Type 0 where
      there : j < gate_count b
      out : member j cut.gates ≡ false

    outside-up : (j : ℕ) → Outside j
        → Below (get_or (settled b x) j undefined) (get_or (settled after x) (new_number b cut j) undefined)
    outside-up =
        settled-bound b x Outside (λ j. get_or (settled after x) (new_number b cut j) undefined)
        (λ r before j s.
        below-trans
        (evaluated-up x (after_rounds b x r) x (settled after x) (stand_in b cut new) (gate_of b j)
        (λ o a. stand-up (after_rounds b x r) (after_rounds-below-settled b x r)
        (λ k l m. before k (record { there = l; out = m })) o
        (seen-operand b cut own whole stands j s.out o a)))
        (below-of-eq
        (ap (evaluated x (settled after x)) (sym (gate-outside b cut new j s.there s.out))
        ∙ evaluated-settled after x (new_number b cut j))))

    -- ---- so they are the same

    gates-same : (j : ℕ) → j < gate_count b → member j cut.gates ≡ false
        → get_or (settled after x) (new_number b cut j) undefined ≡ get_or (settled b x) j undefined
    gates-same j l m = below-antisym _ _ (down.outside_below j l m) (outside-up j (record { there = l; out = m }))

    pub operand-kept : (o : Operand) → Seen b cut o
        → operand_value x (settled after x) (stand_in b cut new o) ≡ operand_value x (settled b x) o
    operand-kept o s =
        below-antisym _ _ (stand-down (settled after x) down.outside_below down.new_below o s)
        (stand-up (settled b x) (λ k. below-refl (get_or (settled b x) k undefined))
        (λ k l m. outside-up k (record { there = l; out = m })) o s)

    outputs-same : shown_under after x ≡ shown_under b x
    outputs-same =
        ext_get_or undefined (shown_under after x) (shown_under b x)
        (length-shown after x ∙ outputs-replaced b cut new ∙ sym (length-shown b x))
        (λ p l. let l' : p < output_count after = rw (length-shown after x) at l in
        let l'' : p < output_count b = rw (outputs-replaced b cut new) at l' in
        shown-at after x p l' ∙ ap (operand_value x (settled after x)) (node-replaced b cut new p l'')
        ∙ operand-kept (get_or (nodes b) p (constant false)) (seen-node b cut own whole stands p l'') ∙ sym
        (shown-at b x p l''))

    pub one-setting : SameValues b cut new x
    one-setting = record { gates = gates-same; outputs = outputs-same }
