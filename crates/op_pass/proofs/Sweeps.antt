-- The values that a sweep has found so far, gate by gate. Assumes nothing.
--   Sweeping                                     the gates below j have the sweep's values, and the others none
--   sweeping-none, sweeping-more, sweeping-end   no gate, one more, all
--   sweep-of                                     the sweep of a block, from its graph's
use mathlib.Core.Path.{◌≡◌, refl, sym, ap, ◌∙◌}
use mathlib.Core.Logic.{⊎_elim}
use mathlib.Core.List.{List, [], ◌∷◌, ◌++◌, map}
use Prim.Native.Nat.{ℕ, ◌+◌, ◌≤◌, ◌<◌}
use native.Mathlib.Omega.{arith}
use lib.ListN.{length, get_or, set, take, length-set, get_or-eq_default}
use lib.Seq.{get_or-set_same, get_or-set_other, get_or-take, length-take-le, ext_get_or}
use Rattle.prelude.specs.Lists.{tab, placed}
use Rattle.prelude.proofs.Tests.{lt-or-le, eq-or-ne}
use Rattle.netlist.specs.Limits.{max_gates}
use Rattle.netlist.specs.Values.{Value, undefined, code, value_of}
use Rattle.netlist.specs.Netlist.{Gate, Block, gate_of}
use Rattle.netlist.specs.StoredBlock.{decode}
use Rattle.netlist.specs.Rounds.{evaluated}
use Rattle.netlist.specs.Rendering.{sweep_from, sweep}
use Rattle.theory_fixpoint.proofs.Values.{value_of-code}
use Rattle.theory_fixpoint.proofs.Sweep.{length-sweep, get_d-sweep}
use Rattle.graph_gates.specs.Places.{first_gate}
use Rattle.graph_gates.specs.Graph.{network, Graph, Decoded}
use Rattle.graph_gates.proofs.Network.{network-gates, network-count}
use Rattle.graph_simulation.specs.State.{Coded, inputs_in, state_in, gate_code}
use Rattle.graph_simulation.proofs.Codes.{code-most}
use Rattle.graph_simulation.proofs.State.{evaluated-at}
use Rattle.graph_simulation.specs.Rounded.{Unsettled, Starting}
use Rattle.op_pass.specs.Swept.{SweptIn, sweep_codes}
use Rattle.graph_simulation.proofs.Updates.{state-at, length-state_in, inputs-same}
use Rattle.graph_simulation.proofs.Rounds.{evaluated-same, starting-inputs, state-codes}

pub record Sweeping (m : ℕ) (graph start values : List ℕ) (j : ℕ) : Type 0 where
  pub coded : Coded values
  pub low : (p : ℕ) → p < first_gate → get_or values p 0 ≡ get_or start p 0
  pub below : (k : ℕ) → k < j → get_or values (first_gate + k) 0
      ≡ code (get_or (sweep (network m graph) (inputs_in start)) k undefined)
  pub above : (k : ℕ) → j ≤ k → k < max_gates → get_or values (first_gate + k) 0 ≡ 2

module _ {m : ℕ} {graph : List ℕ} (start : List ℕ) (g : Graph m graph) where
  abbrev b : Block
  b = network m graph

  abbrev x : List Value
  x = inputs_in start

  abbrev s : List Value
  s = sweep b x

  long : length s ≡ m
  long = length-sweep b x ∙ network-count m graph

  pub sweeping-none : Unsettled start → Sweeping m graph start start 0
  sweeping-none u =
      record { coded = u.coded; low = λ p l. refl; below = λ k l. absurd (omega arith); above = λ k l. u.none k }

  module _ {values : List ℕ} {j : ℕ} (h : Sweeping m graph start values j) (jl : j < m) where
    -- the state so far, as the sweep reads it
    states : (k : ℕ) → get_or (state_in m values) k undefined ≡ get_or (take j s) k undefined
    unfolding value_of
    states k = ⊎_elim earlier later (lt-or-le k j)
      where
        earlier : k < j → get_or (state_in m values) k undefined ≡ get_or (take j s) k undefined
        earlier l =
            state-at m h.coded k (omega arith) ∙ ap value_of (h.below k l) ∙ value_of-code (get_or s k undefined)
            ∙ sym (get_or-take j s k undefined l)

        past : j ≤ k → get_or (take j s) k undefined ≡ undefined
        past l =
            let short : length (take j s) ≤ k = rw (length-take-le j s (omega (arith, long))) l in
            get_or-eq_default (take j s) undefined short

        later : j ≤ k → get_or (state_in m values) k undefined ≡ get_or (take j s) k undefined
        later l =
            ⊎_elim
            (λ kl. state-at m h.coded k kl ∙ ap value_of (h.above k l (omega (arith, g.few))) ∙ sym (past l))
            (λ kl. let far : length (state_in m values) ≤ k = rw (length-state_in m values) kl in
            get_or-eq_default (state_in m values) undefined far ∙ sym (past l))
            (lt-or-le k m)

    -- gate j's value
    next : {r : ℕ} → r ≡ gate_code graph values j → r ≡ code (get_or s j undefined)
    next e =
        let inputs : inputs_in values ≡ x = inputs-same values start h.low in
        e ∙ evaluated-at g h.coded j jl
        ∙ ap code
        (ap (λ (f : Gate → Value). f (gate_of b j)) (evaluated-same (inputs_in values) x (λ i. ap (λ
        (l : List Value). get_or l i undefined) inputs) (state_in m values) (take j s) states)
        ∙ sym (get_d-sweep b x j (rw (network-count m graph) jl)))

    pub sweeping-more : (r : ℕ) → r ≡ gate_code graph values j
        → Sweeping m graph start (set values (first_gate + j) r) (j + 1)
    sweeping-more r e =
        record {
          coded =
              record {
                long = length-set values (first_gate + j) r ∙ h.coded.long;
                zero = other 0 (λ q. omega arith) ∙ h.coded.zero;
                one = other 1 (λ q. omega arith) ∙ h.coded.one;
                most = λ p. ⊎_elim (small p) (λ ne. rw (other p ne) (h.coded.most p)) (eq-or-ne p (first_gate + j));
              };
          low = λ p l. other p (λ q. omega arith) ∙ h.low p l;
          below =
              λ k l. ⊎_elim (λ q. found k q) (λ ne. other (first_gate + k) (λ q. ne (omega arith))
              ∙ h.below k (omega arith)) (eq-or-ne k j);
          above = λ k l kl. other (first_gate + k) (λ q. omega arith) ∙ h.above k (omega arith) kl;
        }
      where
        other : (p : ℕ) → (p ≡ first_gate + j → ⊥) → get_or (set values (first_gate + j) r) p 0 ≡ get_or values p 0
        other p ne = get_or-set_other values (first_gate + j) p r 0 ne

        at-it : get_or (set values (first_gate + j) r) (first_gate + j) 0 ≡ r
        at-it = get_or-set_same values (first_gate + j) r 0 (omega (arith, h.coded.long, g.few))

        small : (p : ℕ) → p ≡ first_gate + j → get_or (set values (first_gate + j) r) p 0 ≤ 2
        small p q =
            let is : get_or (set values (first_gate + j) r) p 0 ≡ code (get_or s j undefined) =
            ap (λ (i : ℕ). get_or (set values (first_gate + j) r) i 0) q ∙ at-it ∙ next e in
            omega (arith, code-most (get_or s j undefined))

        found : (k : ℕ) → k ≡ j → get_or (set values (first_gate + j) r) (first_gate + k) 0 ≡ code (get_or s k undefined)
        found k q =
            ap (λ (i : ℕ). get_or (set values (first_gate + j) r) (first_gate + i) 0) q ∙ at-it ∙ next e
            ∙ ap (λ (i : ℕ). code (get_or s i undefined)) (sym q)

  pub sweeping-end : {values : List ℕ} {j : ℕ} → Sweeping m graph start values j → m ≤ j → SweptIn m graph start values
  sweeping-end {values} h l =
      record {
        coded = h.coded;
        inputs = inputs-same values start h.low;
        state =
            ext_get_or undefined (state_in m values) s (length-state_in m values ∙ sym long)
            (λ k kl. let below : k < m = rw (length-state_in m values) at kl in
            state-at m h.coded k below ∙ ap value_of (h.below k (omega arith)) ∙ value_of-code (get_or s k undefined));
      }

-- ---- what sweeping a block's graph finds

sweep_from-same : (x y : List Value) → ((i : ℕ) → get_or x i undefined ≡ get_or y i undefined)
    → (found : List Value) (gs : List Gate)
    → sweep_from x found gs ≡ sweep_from y found gs
unfolding sweep_from
sweep_from-same x y inputs found [] = refl
sweep_from-same x y inputs found (g ∷ gs) =
    let e : evaluated x found g ≡ evaluated y found g =
    ap (λ (f : Gate → Value). f g) (evaluated-same x y inputs found found (λ j. refl)) in
    rw e (sweep_from-same x y inputs (found ++ (evaluated y found g ∷ [])) gs)

module _ {c : Block} {m : ℕ} {graph : List ℕ} (d : Decoded c m graph) {x : List Value} {values : List ℕ}
    (s : Starting x values) where
  pub sweep-of : sweep (network m graph) (inputs_in values) ≡ sweep c x
  unfolding sweep
  sweep-of = rw (network-gates c m graph d) (sweep_from-same (inputs_in values) x (starting-inputs s) [] c.gates)

pub swept-bytes : (ws : List ℕ) {graph start values out' : List ℕ} (setting out : List ℕ)
    → Decoded (decode ws) (get_or ws 1 0) graph
    → Starting (map value_of setting) start → (m : ℕ) → m ≡ get_or ws 1 0 → SweptIn m graph start values
    → out' ≡ placed (tab (λ j. get_or values (first_gate + j) 0) m) out → out' ≡ placed (sweep_codes ws setting) out
unfolding sweep_codes
swept-bytes ws {graph} {start} {values} setting out d s m e r o =
    let c : SweptIn (get_or ws 1 0) graph start values = rw e at r in
    let found : state_in m values ≡ sweep (decode ws) (map value_of setting) = rw e (c.state ∙ sweep-of d s) in
    o ∙ ap (λ (codes : List ℕ). placed codes out) (state-codes m r.coded ∙ ap (map code) found)
