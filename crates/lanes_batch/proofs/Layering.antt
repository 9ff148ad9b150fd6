-- Batches decided layer by layer, in one array of words: the start, a gate's step, a sweep over a part of the order, a
-- layer more, and the end.
--   network-gate, part-nodes                the gates of a graph
--   lanes-one, lanes-swept, lanes-underway  one gate, a list of gates, and what is left on the way
--   part-among, among-part                  positions of a part of the order
--   advanced-swept, -still, -decided        sweeps over a part
--   straight-start, -more, -fixed           a straight block, gate by gate
--   settled-decoded                         a graph's settled values are the block's
--   fresh-underway, reached-start, reached-one, reached-loop, reached-fixed   layers
--   started-fresh, fixed-batch              a batch of settings
-- Assumes nothing.
use mathlib.Core.Path.{◌≡◌, refl, sym, ap, ap₂, ◌∙◌}
use mathlib.Core.Logic.{inl, ⊎_elim}
use mathlib.Core.Bool.{Bool, true, false, not, ◌||◌, true≢false, false≢true}
use mathlib.Core.List.{List, [], ◌∷◌, map}
use Prim.Native.Nat.{ℕ, ◌+◌, ◌-◌, ◌%◌, ◌≤◌, ◌<◌}
use native.Mathlib.Omega.{arith}
use borrow.Author.Tests.{eq-eqb, eqb-true}
use lib.Dec.{eqb}
use lib.ListN.{length, get_or, set, replicate, length-map, length-replicate, get_or-eq_default}
use lib.Seq.{get_or-set_same, get_or-set_other}
use Rattle.prelude.specs.Lists.{tab, member}
use Rattle.prelude.proofs.Tab.{length-tab, get_d-tab}
use Rattle.prelude.proofs.Tests.{lt-or-le}
use Rattle.prelude.proofs.Lists.{map-replicate, member-left, member_right, member-head}
use Rattle.prelude.proofs.Quantifiers.{member-at, member-from}
use Rattle.netlist.specs.Limits.{max_inputs}
use Rattle.netlist.specs.Values.{Value, undefined, val}
use Rattle.netlist.specs.Netlist.{Block, gate_count, gate_of}
use Rattle.netlist.specs.Groups.{reads}
use Rattle.netlist.specs.Rounds.{evaluated, setting_of}
use Rattle.netlist.specs.Steps.{step_at, run}
use Rattle.netlist.specs.Rendering.{is_straight}
use Rattle.theory_reach.proofs.Straight.{straight-reads}
use Rattle.theory_fixpoint.proofs.Values.{below-of-eq}
use Rattle.theory_fixpoint.proofs.Evaluation.{evaluated-agree}
use Rattle.theory_fixpoint.proofs.AnyOrder.{start-below-settled, run-elsewhere, fixed-settled}
use Rattle.theory_fixpoint.proofs.InPlace.{start-rising, run-fixed}
use Rattle.theory_fixpoint.proofs.ListFacts.{get_d-replicate-default}
use Rattle.graph_gates.specs.Places.{first_gate}
use Rattle.graph_gates.specs.Graph.{gate_at, Graph, network, Decoded}
use Rattle.graph_gates.specs.Graph.{gates_in as gates_of}
use Rattle.graph_gates.proofs.Network.{node-wider, network-gates, network-count, count-gates, read_by-gates, settled-gates}
use Rattle.graph_scc.specs.Layers.{LoopEnd, Layers}
use Rattle.lanes_dual_rail.specs.declared.Pair.{Pair}
use Rattle.lanes_dual_rail.specs.Pairs.{lane, full, no_lanes}
use Rattle.lanes_dual_rail.specs.PairRounds.{evaluated_pair, LegalGate}
use Rattle.lanes_dual_rail.specs.Batches.{lanes_of}
use Rattle.lanes_dual_rail.specs.LaneWords.{pair_at, inputs_in, gates_in, gate_pair_in}
use Rattle.lanes_dual_rail.proofs.LaneLaws.{nothing-lane, nothing-proper}
use Rattle.lanes_dual_rail.proofs.RoundLaws.{get_d-lane}
use Rattle.lanes_dual_rail.proofs.LaneWordLaws.{node-legal, gate_pair_in-evaluated, put-inputs, put-gates, put-filled}
use Rattle.lanes_batch.specs.Batch.{place_of}
use Rattle.lanes_batch.specs.Layered.{is_other, GateStored, GateEvaluated, GatesEvaluated, no_gate, gate_more, Part}
use Rattle.lanes_batch.specs.Layered.{OrderPart, part, Among}
use Rattle.lanes_batch.specs.Layered.{LanesUnderway, LanesSwept, value_at, evaluated_at, Still}
use Rattle.lanes_batch.specs.Layered.{PartAdvanced, PartDecided}
use Rattle.lanes_batch.specs.Layered.{start_inputs, LanesStarted, Reached, LayersSettled}
use Rattle.lanes_batch.specs.Layered.{LanesFresh, LanesFixed}
use Rattle.lanes_batch.specs.Layered.{StraightUnder, StraightFixed, LanesSettled}
use Rattle.lanes_batch.proofs.Sweeping.{swept_none, swept-one, swept-then, swept-underway, lane-defined}
use Rattle.lanes_batch.proofs.Inputs.{settled-inputs, start_inputs-proper, start_inputs-lane}

-- ---- the gates of a graph

pub network-gate : (m : ℕ) (graph : List ℕ) (j : ℕ) → j < m → gate_of (network m graph) j ≡ gate_at graph j
unfolding network gates_of
network-gate m graph j l = get_d-tab (gate_at graph) m j _ l

pub part-nodes : {m : ℕ} {graph order : List ℕ} {from end : ℕ} → Graph m graph → OrderPart m order from end
    → Part graph order from end
part-nodes g p =
    record {
      ordered = p.ordered;
      within = omega (arith, p.within, g.few);
      few = λ i l h. omega (arith, p.inside i l h, g.few);
      node = λ i l h. node-wider g.few (g.node _ (p.inside i l h));
    }

-- ---- one gate, and a list of gates

other-no : (p q : Pair) → is_other p q ≡ false → p ≡ q
unfolding is_other
other-no p q = go (eqb p.zeros q.zeros) (eqb p.ones q.ones) refl refl
  where
    go : (t u : Bool) → eqb p.zeros q.zeros ≡ t → eqb p.ones q.ones ≡ u → not t || not u ≡ false → p ≡ q
    go true true e f h =
        ap₂ {C = Pair} (λ (z o : ℕ). record { zeros = z; ones = o }) (eqb-true p.zeros q.zeros e)
        (eqb-true p.ones q.ones f)
    go true false e f h = absurd (true≢false h)
    go false u e f h = absurd (true≢false h)

other-yes : (p q : Pair) → is_other p q ≡ true → p.zeros ≡ q.zeros → p.ones ≡ q.ones → ⊥
unfolding is_other
other-yes p q h e f = false≢true (sym (rw (eq-eqb p.zeros q.zeros e, eq-eqb p.ones q.ones f)) ∙ h)

gate-pair : (m : ℕ) (w : List ℕ) (j : ℕ) → j < m → get_or (gates_in m w) j no_lanes ≡ pair_at w (first_gate + j)
unfolding gates_in
gate-pair m w j l = get_d-tab (λ j. pair_at w (first_gate + j)) m j no_lanes l

gates-long : (m : ℕ) (w : List ℕ) → length (gates_in m w) ≡ m
unfolding gates_in
gates-long m w = length-tab (λ j. pair_at w (first_gate + j)) m

module _ {m n : ℕ} {graph : List ℕ} where
  pub lanes-one : {w after : List ℕ} {changed : Bool} (j : ℕ) → Graph m graph → j < m → LanesUnderway m n graph w
      → GateEvaluated graph j w after changed
      → LanesSwept m n graph (j ∷ []) w after changed
  lanes-one {w} {after} {changed} j g l u e =
      record {
        filled = rw e.words_are (put-filled w j q u.filled);
        inputs_kept = rw e.words_are (put-inputs w j q);
        swept =
            rw (e.words_are, put-gates w j q m l (omega (arith, u.filled.long, g.few)))
            (swept-one j u.underway (rw (network-count m graph) l) legal is (λ h. same (sym e.changed_is ∙ h))
            (λ h. other (sym e.changed_is ∙ h)));
      }
    where
      q : Pair
      q = gate_pair_in graph j w

      was : get_or (gates_in m w) j no_lanes ≡ pair_at w (first_gate + j)
      was = gate-pair m w j l

      legal : LegalGate (gate_of (network m graph) j)
      legal = rw (network-gate m graph j l) (node-legal (g.node j l))

      is : q ≡ evaluated_pair (full (lanes_of n)) (inputs_in w) (gates_in m w) (gate_of (network m graph) j)
      is =
          rw (network-gate m graph j l)
          (gate_pair_in-evaluated (g.node j l) u.filled u.underway.inputs_proper u.underway.proper)

      same : is_other q (pair_at w (first_gate + j)) ≡ false → q ≡ get_or (gates_in m w) j no_lanes
      same h = rw was (other-no q (pair_at w (first_gate + j)) h)

      other : is_other q (pair_at w (first_gate + j)) ≡ true → q.zeros ≡ (get_or (gates_in m w) j no_lanes).zeros
          → q.ones ≡ (get_or (gates_in m w) j no_lanes).ones → ⊥
      other h ez eo =
          other-yes q (pair_at w (first_gate + j)) h (ez ∙ ap (λ (p : Pair). p.zeros) was)
          (eo ∙ ap (λ (p : Pair). p.ones) was)

  pub lanes-underway : {js w after : List ℕ} {changed : Bool} → LanesUnderway m n graph w
      → LanesSwept m n graph js w after changed
      → LanesUnderway m n graph after
  lanes-underway u s =
      record {
        filled = s.filled;
        underway = rw s.inputs_kept (swept-underway u.underway s.swept);
      }

  pub lanes-swept : {w js after : List ℕ} {changed : Bool} → Graph m graph → ((j : ℕ) → member j js ≡ true → j < m)
      → LanesUnderway m n graph w
      → GatesEvaluated graph w js after changed → LanesSwept m n graph js w after changed
  lanes-swept g inside u no_gate = record { filled = u.filled; inputs_kept = refl; swept = swept_none _ u.underway }
  lanes-swept {js} g inside u (gate_more {js = before} h j e) =
      let f = lanes-swept g (λ k l. inside k (member-left k before (j ∷ []) l)) u h in
      let s = lanes-one j g (inside j (member_right j before (j ∷ []) (member-head j []))) (lanes-underway u f) e in
      record {
        filled = s.filled;
        inputs_kept = s.inputs_kept ∙ f.inputs_kept;
        swept = swept-then j f.swept (rw f.inputs_kept at s.swept);
      }

-- ---- positions of a part of the order

pub place_inside : (back : Bool) (count i : ℕ) → i < count → place_of back count i < count
unfolding place_of
place_inside true count i l = omega arith
place_inside false count i l = l

place_twice : (back : Bool) (count i : ℕ) → i < count → place_of back count (place_of back count i) ≡ i
unfolding place_of
place_twice true count i l = omega arith
place_twice false count i l = refl

module _ (back : Bool) (order : List ℕ) (from end : ℕ) where
  f : ℕ → ℕ
  f i = get_or order (from + place_of back (end - from) i) 0

  pub part-among : (j : ℕ) → member j (part back order from end) ≡ true → Among order from end j
  unfolding part f
  part-among j h =
      let w : (i : ℕ) × (i < length (tab f (end - from))) × (get_or (tab f (end - from)) i 0 ≡ j) =
      member-at j (tab f (end - from)) h in
      let l : w.0 < end - from = rw (length-tab f (end - from)) at w.1 in
      let p = place_inside back (end - from) w.0 l in
      record {
        at = from + place_of back (end - from) w.0;
        low = omega arith;
        high = omega arith;
        is = sym (get_d-tab f (end - from) w.0 0 l) ∙ w.2;
      }

  pub among-part : (i : ℕ) → from ≤ i → i < end → member (get_or order i 0) (part back order from end) ≡ true
  unfolding part f
  among-part i l h =
      let k = place_of back (end - from) (i - from) in
      let p : k < end - from = place_inside back (end - from) (i - from) (omega arith) in
      let e : from + place_of back (end - from) k ≡ i =
      rw (place_twice back (end - from) (i - from) (omega arith)) (omega arith) in
      member-from (get_or order i 0) (tab f (end - from)) k (rw (length-tab f (end - from)) p)
      (get_d-tab f (end - from) k 0 p ∙ ap (λ (a : ℕ). get_or order a 0) e)

-- ---- sweeps over a part

not-member : (j : ℕ) (js : List ℕ) → (member j js ≡ true → ⊥) → member j js ≡ false
not-member j js h = go (member j js) refl
  where
    go : (t : Bool) → member j js ≡ t → t ≡ false
    go true e = absurd (h e)
    go false e = refl

values-long : (m s : ℕ) (w : List ℕ) → length (map (lane s) (gates_in m w)) ≡ m
values-long m s w = length-map (gates_in m w) (lane s) ∙ gates-long m w

module _ {m n : ℕ} {graph order : List ℕ} {from end : ℕ} where
  -- gates there were evaluated, and nothing is told
  pub advanced-swept : (back : Bool) {w after : List ℕ} {changed : Bool} → LanesUnderway m n graph w
      → LanesSwept m n graph (part back order from end) w after changed
      → PartAdvanced m n graph order from end w after false
  unfolding value_at
  advanced-swept back {w} u s =
      record {
        underway = lanes-underway u s;
        inputs_kept = s.inputs_kept;
        kept = λ i l j h.
            rw (s.swept.lanewise i l)
            (run-elsewhere (network m graph) (map (lane i) (inputs_in w)) (part back order from end)
            (map (lane i) (gates_in m w)) j
            (not-member j (part back order from end) (λ e. h (part-among back order from end j e))));
        still = λ e. absurd (false≢true e);
      }

  -- a sweep that changes nothing
  pub advanced-still : (back : Bool) {w after : List ℕ} {changed : Bool} → OrderPart m order from end
      → LanesUnderway m n graph w
      → LanesSwept m n graph (part back order from end) w after changed → changed ≡ false
      → PartAdvanced m n graph order from end w after true
  unfolding value_at evaluated_at
  advanced-still back {w} {after} p u s none =
      let a = advanced-swept back u s in
      record {
        underway = a.underway;
        inputs_kept = a.inputs_kept;
        kept = a.kept;
        still = λ e i l h k q. rw (s.inputs_kept, s.swept.still none) (fixed i l h k q);
      }
    where
      fixed : (i : ℕ) → from ≤ i → i < end → (k : ℕ) → k < lanes_of n
          → evaluated (map (lane k) (inputs_in w)) (map (lane k) (gates_in m w))
          (gate_of (network m graph) (get_or order i 0))
          ≡ get_or (map (lane k) (gates_in m w)) (get_or order i 0) undefined
      fixed i l h k q =
          let b = network m graph in
          let x = map (lane k) (inputs_in w) in
          let v = map (lane k) (gates_in m w) in
          let same : run b x (part back order from end) v ≡ v =
          sym (s.swept.lanewise k q) ∙ ap (map (lane k)) (s.swept.still none) in
          run-fixed b x (part back order from end) v (u.underway.rising k q)
          (λ c. below-of-eq (ap (λ (z : List Value). get_or z c undefined) same))
          (get_or order i 0) (among-part back order from end i l h) (rw (values-long m k w) (p.inside i l h))

  -- no lane is undefined any more, where that is told
  pub advanced-decided : {w after : List ℕ} {used : ℕ} (done : Bool) → OrderPart m order from end
      → PartAdvanced m n graph order from end w after false
      → used ≡ full (lanes_of n) → (done ≡ true → PartDecided used order from end after)
      → PartAdvanced m n graph order from end w after done
  unfolding value_at evaluated_at
  advanced-decided {w} {after} {used} done p a in_use d =
      record { underway = a.underway; inputs_kept = a.inputs_kept; kept = a.kept; still = λ e. fixed (d e) }
    where
      fixed : PartDecided used order from end after → (i : ℕ) → from ≤ i → i < end → (k : ℕ) → k < lanes_of n
          → evaluated (map (lane k) (inputs_in after)) (map (lane k) (gates_in m after))
          (gate_of (network m graph) (get_or order i 0))
          ≡ get_or (map (lane k) (gates_in m after)) (get_or order i 0) undefined
      fixed t i l h k q =
          let j = get_or order i 0 in
          let defined = lane-defined (lanes_of n) (pair_at after (first_gate + j)) (t.each i l h ∙ in_use) k q in
          let is : get_or (map (lane k) (gates_in m after)) j undefined ≡ val defined.0 =
          get_d-lane k (gates_in m after) j ∙ rw (gate-pair m after j (p.inside i l h)) defined.1 in
          a.underway.underway.rising k q j defined.0 is ∙ sym is

-- a sweep over a part, from its steps
pub part-swept : {m n : ℕ} {graph order : List ℕ} {from end : ℕ} {w after : List ℕ} {changed : Bool} (back : Bool)
    → Graph m graph → OrderPart m order from end
    → LanesUnderway m n graph w → GatesEvaluated graph w (part back order from end) after changed
    → LanesSwept m n graph (part back order from end) w after changed
part-swept {m} {n} {graph} {order} {from} {end} back g p u e =
    lanes-swept g (λ j h. let a = part-among back order from end j h in rw a.is at (p.inside a.at a.low
    a.high)) u e

-- ---- layers

pub fresh-underway : {m n : ℕ} {graph w : List ℕ} → LanesFresh m n w → LanesUnderway m n graph w
fresh-underway {m} {n} {graph} {w} s =
    let x = inputs_in w in
    let b = network m graph in
    let values : (i : ℕ) → map (lane i) (replicate m no_lanes) ≡ replicate m undefined =
    λ i. map-replicate (lane i) m no_lanes ∙ rw (nothing-lane i) in
    record {
      filled = s.filled;
      underway =
          rw s.gates
          (record {
            inputs_proper = s.inputs_proper;
            proper = record { each = λ k. rw (get_d-replicate-default m k no_lanes) (nothing-proper (lanes_of n)) };
            long = length-replicate m no_lanes ∙ sym (network-count m graph);
            rising = λ i l. rw (values i) (start-rising b (map (lane i) x) m);
            below = λ i l. rw (values i) (rw (network-count m graph) at (start-below-settled b (map (lane i) x)));
          });
    }

pub reached-start : {m n : ℕ} {graph order ends w : List ℕ} → LanesFresh m n w → Reached m n graph order ends 0 w
reached-start s =
    record {
      underway = fresh-underway s;
      closed = λ k l. absurd (omega arith);
      still = λ k l. absurd (omega arith);
    }

-- a batch's lanes are such ones, and the values that are found there are those of its settings
pub started-fresh : {m n base : ℕ} {w : List ℕ} → n ≤ max_inputs → LanesStarted m n base w → LanesFresh m n w
started-fresh {n = n} {base = base} few s =
    record { filled = s.filled; inputs_proper = rw s.inputs (start_inputs-proper n base few); gates = s.gates }

pub fixed-batch : {b : Block} {m n base : ℕ} {w after : List ℕ} → n ≤ max_inputs → base % 64 ≡ 0
    → LanesStarted m n base w → LanesFixed b n w after
    → LanesSettled b n base after
fixed-batch {b} {m} {n} {base} {w} {after} few aligned s f =
    let inputs : inputs_in after ≡ start_inputs n base = f.inputs_kept ∙ s.inputs in
    record {
      filled = f.filled;
      inputs = inputs;
      inputs_proper = f.inputs_proper;
      gates_proper = f.gates_proper;
      settled_lanes = λ k l. f.settled_lanes k l
          ∙ rw inputs (settled-inputs (map (lane k) (start_inputs n base)) (setting_of n (base + k))
          (start_inputs-lane n base few aligned k l) b);
    }

-- a gate past the last has no value
value-past : (m : ℕ) (w : List ℕ) (s j : ℕ) → m ≤ j → value_at m w s j ≡ undefined
unfolding value_at
value-past m w s j l =
    let long : length (map (lane s) (gates_in m w)) ≤ j = rw (values-long m s w) l in
    get_or-eq_default (map (lane s) (gates_in m w)) undefined long

module _ {m : ℕ} {graph order ends : List ℕ} (layers : Layers m graph order ends) where
  -- what a gate at position k reads stands at positions before the end of its layer
  read-before : (k r : ℕ) → k < m → r < m → reads (network m graph) (get_or order k 0) r ≡ true
      → (p : ℕ) × (p < get_or ends k 0) × (p < m) × (get_or order p 0 ≡ r)
  read-before k r l h e =
      let w = layers.every r h in
      (w.0, layers.reads k w.0 l w.1 (rw w.2 e), w.1, w.2)

  -- a gate's evaluation depends on what it reads alone
  evaluated-kept : (w after : List ℕ) (k s : ℕ) → k < m → inputs_in after ≡ inputs_in w
      → ((p : ℕ) → p < m → p < get_or ends k 0 → value_at m after s (get_or order p 0) ≡ value_at m w s (get_or order p 0))
      → evaluated_at m graph after s (get_or order k 0) ≡ evaluated_at m graph w s (get_or order k 0)
  unfolding evaluated_at value_at
  evaluated-kept w after k s l inputs agree =
      rw inputs
      (evaluated-agree (map (lane s) (inputs_in w)) (map (lane s) (gates_in m after)) (map (lane s) (gates_in m w))
      (network m graph) (get_or order k 0)
      (λ r e. ⊎_elim (λ h. let p = read-before k r l h e in rw p.3 at (agree p.0 p.2 p.1))
      (λ h. value-past m after s r h ∙ sym (value-past m w s r h)) (lt-or-le r m)))

  -- the layers below i stay still where their gates keep their values
  still_kept : {n : ℕ} {w : List ℕ} (after : List ℕ) (i : ℕ) → i ≤ m → Reached m n graph order ends i w
      → inputs_in after ≡ inputs_in w
      → ((s : ℕ) → s < lanes_of n → (k : ℕ) → k < i → value_at m after s (get_or order k 0) ≡ value_at m w s
      (get_or order k 0))
      → (k : ℕ) → k < i → Still m n graph after (get_or order k 0)
  still_kept {n} {w} after i few r inputs agree k l s h =
      evaluated-kept w after k s (omega arith) inputs (λ p q e. let c = r.closed k l in agree s h p (omega arith))
      ∙ r.still k l s h ∙ sym (agree s h k l)

  -- positions below i and gates at positions from i on
  apart : (i k e : ℕ) → e ≤ m → k < i → Among order i e (get_or order k 0) → ⊥
  apart i k e most l a =
      let same : a.at ≡ k = layers.once a.at k (omega (arith, a.high)) (omega (arith, a.low, a.high)) a.is in
      let low = a.low in
      omega arith

  -- a gate that lies on no loop
  pub reached-one : {n : ℕ} {w after : List ℕ} (i : ℕ) → Graph m graph → i < m → get_or ends i 0 ≡ i
      → Reached m n graph order ends i w
      → GateStored graph (get_or order i 0) w after → LayersSettled m n graph order ends i w after (i + 1)
  unfolding run step_at evaluated_at value_at
  reached-one {n} {w} {after} i g l straight r e =
      record {
        reached = record {
          underway = lanes-underway r.underway s;
          closed =
              λ k h. ⊎_elim (λ b. let c = r.closed k b in omega arith)
              (λ b. let same : k ≡ i = omega arith in rw (same, straight) (omega arith))
              (lt-or-le k i);
          still =
              λ k h. ⊎_elim (still_kept after i (omega arith) r s.inputs_kept
              (λ c q p b. elsewhere c q p (omega arith) (omega arith)) k) (here-still k h)
              (lt-or-le k i);
        };
        inputs_kept = s.inputs_kept;
        more = omega arith;
        within = omega arith;
      }
    where
      j : ℕ
      j = get_or order i 0

      inside : j < m
      inside = layers.inside i l

      s : LanesSwept m n graph (j ∷ []) w after (is_other (gate_pair_in graph j w) (pair_at w (first_gate + j)))
      s = lanes-one j g inside r.underway (record { words_are = e.words_are; changed_is = refl })

      stepped : (c : ℕ) → c < lanes_of n
          → map (lane c) (gates_in m after) ≡ set (map (lane c) (gates_in m w)) j (evaluated_at m graph w c j)
      stepped c q = s.swept.lanewise c q

      elsewhere : (c : ℕ) → c < lanes_of n → (p : ℕ) → p < m → (p ≡ i → ⊥)
          → value_at m after c (get_or order p 0) ≡ value_at m w c (get_or order p 0)
      elsewhere c q p h d =
          rw (stepped c q)
          (get_or-set_other (map (lane c) (gates_in m w)) j (get_or order p 0) (evaluated_at m graph w c j) undefined
          (λ f. d (layers.once p i h l f)))

      here-still : (k : ℕ) → k < i + 1 → i ≤ k → Still m n graph after (get_or order k 0)
      here-still k h b c q =
          let same : k ≡ i = omega arith in
          rw same
          (evaluated-kept w after i c l s.inputs_kept
          (λ p o f. elsewhere c q p o (λ z. let y = straight in omega arith))
          ∙ sym (ap (λ (v : List Value). get_or v j undefined) (stepped c q)
          ∙ get_or-set_same (map (lane c) (gates_in m w)) j (evaluated_at m graph w c j) undefined
          (rw (values-long m c w) inside)))

  pub loop-end : (i : ℕ) → i < m → (get_or ends i 0 ≡ i → ⊥) → LoopEnd m ends i
  loop-end i l d = ⊎_elim (λ e. absurd (d e)) (λ e. e) (layers.end i l).cases

  -- a loop
  pub reached-loop : {n : ℕ} {w after : List ℕ} (i : ℕ) → i < m → (get_or ends i 0 ≡ i → ⊥)
      → Reached m n graph order ends i w
      → PartAdvanced m n graph order i (get_or ends i 0) w after true
      → LayersSettled m n graph order ends i w after (get_or ends i 0)
  reached-loop {n} {w} {after} i l d r a =
      let e = loop-end i l d in
      let behind = e.behind in
      record {
        reached = record {
          underway = a.underway;
          closed =
              λ k h. ⊎_elim (λ b. let c = r.closed k b in omega arith) (λ b. let same = e.same k b h in omega arith)
              (lt-or-le k i);
          still = λ k h. ⊎_elim
              (still_kept after i (omega arith) r a.inputs_kept
              (λ c q p b. a.kept c q (get_or order p 0) (apart i p (get_or ends i 0) e.within b)) k)
              (λ b. a.still refl k b h)
              (lt-or-le k i);
        };
        inputs_kept = a.inputs_kept;
        more = behind;
        within = e.within;
      }

  -- all layers
  pub reached-fixed : {n : ℕ} {start w : List ℕ} → Reached m n graph order ends m w → inputs_in w ≡ inputs_in start
      → LanesFixed (network m graph) n start w
  unfolding evaluated_at value_at
  reached-fixed {n} {start} {w} r inputs =
      record {
        filled = r.underway.filled;
        inputs_kept = inputs;
        inputs_proper = r.underway.underway.inputs_proper;
        gates_proper = rw (network-count m graph) r.underway.underway.proper;
        settled_lanes = λ s l. rw (network-count m graph)
            (fixed-settled b (map (lane s) (inputs_in w)) (map (lane s) (gates_in m w))
            (values-long m s w ∙ sym (network-count m graph))
            (r.underway.underway.below s l) (fixed s l));
      }
    where
      b : Block
      b = network m graph

      fixed : (s : ℕ) → s < lanes_of n → (j : ℕ) → j < gate_count b
          → evaluated (map (lane s) (inputs_in w)) (map (lane s) (gates_in m w)) (gate_of b j)
          ≡ get_or (map (lane s) (gates_in m w)) j undefined
      fixed s l j h =
          let p = layers.every j (rw (network-count m graph) at h) in
          rw p.2 at (r.still p.0 p.1 s l)

-- ---- a straight block's gates, as they come

as-come : ℕ → List ℕ
as-come m = tab (λ i. i) m

as-come-at : (m i : ℕ) → i < m → get_or (as-come m) i 0 ≡ i
unfolding as-come
as-come-at m i l = get_d-tab (λ i. i) m i 0 l

straight-layers : (m : ℕ) (graph : List ℕ) → is_straight (network m graph) ≡ true
    → Layers m graph (as-come m) (as-come m)
straight-layers m graph h =
    record {
      inside = λ i l. rw (as-come-at m i l) l;
      every = λ j l. (j, l, as-come-at m j l);
      once = λ i k l q e. sym (as-come-at m i l) ∙ e ∙ as-come-at m k q;
      end = λ i l. record { cases = inl (as-come-at m i l) };
      reads = λ i k l q e.
          rw (as-come-at m i l) (straight-reads (network m graph) h i k (rw (as-come-at m i l, as-come-at m k q) at e));
    }

pub straight-start : (m : ℕ) (graph w : List ℕ) → StraightUnder m graph w 0 w
straight-start m graph w = record { each = λ n s. (record { reached = reached-start s }, refl) }

module _ (m : ℕ) (graph : List ℕ) (h : is_straight (network m graph) ≡ true) where
  -- one gate more
  pub straight-more : {i : ℕ} {start w after : List ℕ} → Graph m graph → i < m → StraightUnder m graph start i w
      → GateStored graph i w after → StraightUnder m graph start (i + 1) after
  unfolding as-come
  straight-more {i} {start} {w} {after} g l r e =
      let e' : GateStored graph (get_or (as-come m) i 0) w after = rw (as-come-at m i l) e in
      record {
        each = λ n f.
            let p = r.each n f in
            let s = reached-one (straight-layers m graph h) i g l (as-come-at m i l) p.0.reached e' in
            (record { reached = s.reached }, s.inputs_kept ∙ p.1);
      }

  -- all of them
  pub straight-fixed : {start w : List ℕ} → StraightUnder m graph start m w → StraightFixed m graph start w
  unfolding as-come
  straight-fixed r =
      record { each = λ n f. let p = r.each n f in reached-fixed (straight-layers m graph h) p.0.reached p.1 }

-- ---- a block's words

-- what is settled in a graph is settled in the block that it was decoded from
pub settled-decoded : {b : Block} {m n base : ℕ} {graph w : List ℕ} → Decoded b m graph
    → LanesSettled (network m graph) n base w → LanesSettled b n base w
settled-decoded {b} {m} {n} {base} {graph} {w} d s =
    let e = network-gates b m graph d in
    let count = count-gates (network m graph) b e in
    record {
      filled = s.filled;
      inputs = s.inputs;
      inputs_proper = s.inputs_proper;
      gates_proper = rw (← count) s.gates_proper;
      settled_lanes =
          λ k l. rw (← count) (s.settled_lanes k l ∙ settled-gates (network m graph) b e (setting_of n (base + k)));
    }

-- a straight block's network is straight
pub straight-decoded : {b : Block} {m : ℕ} {graph : List ℕ} → Decoded b m graph → is_straight b ≡ true
    → is_straight (network m graph) ≡ true
unfolding is_straight
straight-decoded {b} {m} {graph} d h =
    let e = network-gates b m graph d in
    rw (read_by-gates (network m graph) b e, e) h
