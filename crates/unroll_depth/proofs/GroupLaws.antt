-- One group's gates evaluated, pass after pass, on pairs of words.
--   ran-none, ran_then, ran-stepped      gates evaluated one after the other
--   group-there, -nodes, -few, -long     the gates of a group
--   kept_put                             the settled pairs of the group put aside
--   cleared-passed, passed-run, -more    no pass yet, so many, one more
--   agree-settled                        the pairs agree at a lane exactly where the group is settled
--   restored                             the settled pairs put back
-- Assumes nothing.
use mathlib.Core.Path.{◌≡◌, refl, sym, ap, ◌∙◌}
use mathlib.Core.Logic.{◌⊎◌, inl, inr, ⊎_elim}
use mathlib.Core.Bool.{Bool, true, false, cond, ◌||◌}
use mathlib.Core.List.{List, [], ◌∷◌, ◌++◌, map, append_assoc, append-nil}
use Prim.Native.Nat.{ℕ, ◌+◌, ◌-◌, ◌%◌, ◌≤◌, ◌<◌}
use native.Mathlib.Numerals.{add-one}
use native.Mathlib.Omega.{arith}
use lib.Dec.{eqb}
use lib.ListN.{length, get_or, set, length-map, get_or-eq_default}
use lib.Seq.{ext_get_or}
use Rattle.prelude.specs.Lists.{all, member, repeated}
use Rattle.prelude.proofs.Tests.{not-both, bool_cases, lt-or-le}
use Rattle.prelude.proofs.Tab.{length-tab, get_d-tab, tab-ext}
use Rattle.prelude.proofs.Lists.{map-set, member-left, member_right, member-head, member-rest}
use Rattle.netlist.specs.Limits.{max_inputs, max_gates}
use Rattle.netlist.specs.Values.{Value, undefined, code}
use Rattle.netlist.specs.Netlist.{Block, input_count, gate_count, gate_of}
use Rattle.netlist.specs.StoredBlock.{decode}
use Rattle.netlist.specs.Rounds.{evaluated, setting_of, settled_under}
use Rattle.netlist.specs.Steps.{step_at, run}
use Rattle.netlist.specs.Passes.{before_passes, after_passes, are_settled}
use Rattle.theory_fixpoint.proofs.AnyOrder.{run-append}
use Rattle.theory_unrolling.proofs.PassCount.{length_before, before_at, after_next}
use Rattle.graph_gates.specs.Places.{first_input, first_gate}
use Rattle.graph_gates.specs.Graph.{gate_at, network, Decoded}
use Rattle.graph_gates.proofs.Network.{network-gates, gate_of-gates}
use Rattle.lanes_dual_rail.specs.declared.Pair.{Pair}
use Rattle.lanes_dual_rail.specs.Pairs.{lane, Proper, full, no_lanes}
use Rattle.lanes_dual_rail.specs.PairRounds.{evaluated_pair, LegalGate, AllProper}
use Rattle.lanes_dual_rail.specs.Batches.{lanes_of}
use Rattle.lanes_dual_rail.specs.LaneWords.{pair_at, inputs_in, gates_in, gate_pair_in}
use Rattle.lanes_dual_rail.proofs.LaneLaws.{nothing-lane, nothing-proper}
use Rattle.lanes_dual_rail.proofs.RoundLaws.{get_d-lane, evaluated_pair-lane, evaluated_pair-proper}
use Rattle.lanes_dual_rail.proofs.LaneWordLaws.{node-legal, gate_pair_in-evaluated, put-inputs, put-gates, put-filled}
use Rattle.lanes_dual_rail.proofs.LaneWordLaws.{put_other}
use Rattle.lanes_batch.specs.Layered.{GateEvaluated, GatesEvaluated, no_gate, gate_more, Part, OrderPart, start_inputs}
use Rattle.lanes_batch.specs.Layered.{LanesSettled}
use Rattle.lanes_batch.proofs.Sweeping.{set-proper}
use Rattle.lanes_batch.proofs.Layering.{network-gate, part-nodes, part-among}
use Rattle.lanes_batch.proofs.Inputs.{run-inputs, start_inputs-lane}
use Rattle.unroll_depth.specs.declared.passes.Turn.{Turn}
use Rattle.unroll_depth.specs.Pairs.{group_of, Apart, Put, ProperAt, agree_at}
use Rattle.unroll_depth.specs.Passes.{Held, Ran, Stepped, Passed, Kept, GroupBatch}
use Rattle.unroll_depth.proofs.PairLaws.{part-long, same-pairs}

-- ---- gates evaluated one after the other

evaluated-then : {graph w mid after js ks : List ℕ} {r s : Bool} → GatesEvaluated graph w js mid r
    → GatesEvaluated graph mid ks after s
    → Ran graph (js ++ ks) w after
evaluated-then {js = js} {r = r} f no_gate = record { changed = r; evaluated = rw (append-nil js) f }
evaluated-then {graph} {w} {mid} {after} {js} f (gate_more {js = ks} {s = s} g j e) =
    let h = evaluated-then f g in
    record { changed = s || h.changed; evaluated = rw (← append_assoc js ks (j ∷ [])) (gate_more h.evaluated j e) }

pub ran-none : (graph w : List ℕ) → Ran graph [] w w
ran-none graph w = record { changed = false; evaluated = no_gate }

pub ran_then : {graph w mid after js ks : List ℕ} {s : Bool} → Ran graph js w mid → GatesEvaluated graph mid ks after s
    → Ran graph (js ++ ks) w after
ran_then f g = evaluated-then f.evaluated g

gates-at : (m : ℕ) (w : List ℕ) (j : ℕ) → j < m → get_or (gates_in m w) j no_lanes ≡ pair_at w (first_gate + j)
unfolding gates_in
gates-at m w j l = get_d-tab (λ j. pair_at w (first_gate + j)) m j no_lanes l

gates-long : (m : ℕ) (w : List ℕ) → length (gates_in m w) ≡ m
unfolding gates_in
gates-long m w = length-tab (λ j. pair_at w (first_gate + j)) m

gate-is : {b : Block} {graph : List ℕ} → Decoded b (gate_count b) graph → (j : ℕ) → j < gate_count b
    → gate_at graph j ≡ gate_of b j
gate-is {b} {graph} d j l =
    sym (network-gate (gate_count b) graph j l)
    ∙ gate_of-gates (network (gate_count b) graph) b (network-gates b (gate_count b) graph d) j

module _ {b : Block} {n : ℕ} where
  stepped-none : {w : List ℕ} → Held b n w → Stepped b n [] w w
  unfolding run
  stepped-none h = record { held = h; inputs_kept = refl; outside = λ p a. refl; lanewise = λ s l. refl }

  stepped_then : {js ks w mid after : List ℕ} → Stepped b n js w mid → Stepped b n ks mid after
      → Stepped b n (js ++ ks) w after
  stepped_then {js} {ks} {w} f g =
      record {
        held = g.held;
        inputs_kept = g.inputs_kept ∙ f.inputs_kept;
        outside =
            λ p a. g.outside p (λ j m. a j (member_right j js ks m))
            ∙ f.outside p (λ j m. a j (member-left j js ks m));
        lanewise = λ s l.
            let x = map (lane s) (inputs_in w) in
            g.lanewise s l
            ∙ rw (f.inputs_kept, f.lanewise s l) (sym (run-append b x js ks (map (lane s) (gates_in (gate_count b) w))));
      }

  module _ {graph : List ℕ} (d : Decoded b (gate_count b) graph) where
    stepped-one : {w after : List ℕ} {changed : Bool} (j : ℕ) → j < gate_count b → Held b n w
        → GateEvaluated graph j w after changed
        → Stepped b n (j ∷ []) w after
    unfolding run step_at
    stepped-one {w} {after} j l h e =
        record {
          held =
              record {
                filled = rw e.words_are (put-filled w j q h.filled);
                inputs_proper = rw inputs h.inputs_proper;
                gates_proper = rw gates (set-proper j h.gates_proper is_proper);
              };
          inputs_kept = inputs;
          outside = λ p a. rw e.words_are (put_other w (first_gate + j) q p (a j (member-head j [])));
          lanewise =
              λ s k. ap (map (lane s)) gates ∙ map-set (lane s) (gates_in m w) j q
              ∙ ap (set (map (lane s) (gates_in m w)) j) (value s k);
        }
      where
        m : ℕ
        m = gate_count b

        q : Pair
        q = gate_pair_in graph j w

        inputs : inputs_in after ≡ inputs_in w
        inputs = rw e.words_are (put-inputs w j q)

        gates : gates_in m after ≡ set (gates_in m w) j q
        gates = rw e.words_are (put-gates w j q m l (omega (arith, h.filled.long, d.legal.few)))

        legal : LegalGate (gate_of b j)
        legal = rw (← gate-is d j l) (node-legal (d.legal.node j l))

        is : q ≡ evaluated_pair (full (lanes_of n)) (inputs_in w) (gates_in m w) (gate_of b j)
        is =
            rw (← gate-is d j l)
            (gate_pair_in-evaluated (d.legal.node j l) h.filled h.inputs_proper h.gates_proper)

        is_proper : Proper (lanes_of n) q
        is_proper = rw is (evaluated_pair-proper h.inputs_proper h.gates_proper (gate_of b j))

        value : (s : ℕ) → s < lanes_of n
            → lane s q ≡ evaluated (map (lane s) (inputs_in w)) (map (lane s) (gates_in m w)) (gate_of b j)
        value s k = rw is (evaluated_pair-lane h.inputs_proper h.gates_proper s k (gate_of b j) legal)

    -- several gates
    pub evaluated-stepped : {w js after : List ℕ} {changed : Bool} → ((j : ℕ) → member j js ≡ true → j < gate_count b)
        → Held b n w
        → GatesEvaluated graph w js after changed → Stepped b n js w after
    evaluated-stepped there h no_gate = stepped-none h
    evaluated-stepped there h (gate_more {js = before} g j e) =
        let s = evaluated-stepped (λ k m. there k (member-left k before (j ∷ []) m)) h g in
        stepped_then s (stepped-one j (there j (member_right j before (j ∷ []) (member-head j []))) s.held e)

    pub ran-stepped : {js w after : List ℕ} → ((j : ℕ) → member j js ≡ true → j < gate_count b) → Held b n w
        → Ran graph js w after
        → Stepped b n js w after
    ran-stepped there h r = evaluated-stepped there h r.evaluated

-- ---- the gates of a group

module _ {ws graph members : List ℕ} {turn : Turn} (g : GroupBatch ws graph members turn) where
  pub group-there : (j : ℕ) → member j (group_of members turn) ≡ true → j < gate_count (decode ws)
  group-there j h =
      let a = part-among false members turn.from turn.end j h in
      rw a.is at (g.positions.inside a.at a.low a.high)

  pub group-nodes : Part graph members turn.from turn.end
  group-nodes = part-nodes g.decoded.legal g.positions

  pub group-few : OrderPart max_gates members turn.from turn.end
  group-few =
      let few = g.decoded.legal.few in
      record {
        ordered = g.positions.ordered;
        within = omega (arith, g.positions.within);
        inside = λ i l h. omega (arith, g.positions.inside i l h);
      }

  pub group-long : length (group_of members turn) ≡ turn.end - turn.from
  group-long = part-long members turn.from turn.end

-- ---- places that are none of the group's gates'

apart-before : (group : List ℕ) (p : ℕ) → p < first_gate → Apart group p
apart-before group p l j m e = omega arith

apart-gate : (group : List ℕ) (i : ℕ) → member i group ≡ false → Apart group (first_gate + i)
apart-gate group i h j m e = let f : j ≡ i = omega arith in not-both (rw f at m) h

-- pairs that are the same at each place of one of the group's gates, and at each other place, are the same
by-places : (group w after : List ℕ)
    → ((j : ℕ) → member j group ≡ true → pair_at after (first_gate + j) ≡ pair_at w (first_gate + j))
    → ((p : ℕ) → Apart group p → pair_at after p ≡ pair_at w p) → (p : ℕ) → pair_at after p ≡ pair_at w p
by-places group w after inside outside p = ⊎_elim (λ h. outside p (apart-before group p h)) gate (lt-or-le p first_gate)
  where
    gate : first_gate ≤ p → pair_at after p ≡ pair_at w p
    gate h =
        let e : first_gate + (p - first_gate) ≡ p = omega arith in
        rw e at
        (⊎_elim (inside (p - first_gate))
        (λ m. outside (first_gate + (p - first_gate)) (apart-gate group (p - first_gate) m))
        (bool_cases (member (p - first_gate) group)))

-- The settled words put aside, the others changed at the group's gates alone: put back they are the settled ones.
pub restored : {group w aside aside' changed back : List ℕ} → Put group w aside aside' → length changed ≡ length w
    → ((p : ℕ) → Apart group p → pair_at changed p ≡ pair_at w p) → Put group aside' changed back → back ≡ w
restored {group} {w} {aside} {aside'} {changed} {back} saved long outside put =
    same-pairs w back (put.long ∙ long)
    (by-places group w back (λ j m. put.inside j m ∙ saved.inside j m) (λ p a. put.outside p a ∙ outside p a))

-- ---- the settled pairs, put aside and cleared

pair-none : (p : ℕ) → pair_at [] p ≡ no_lanes
unfolding pair_at no_lanes
pair-none p = refl

module _ {b : Block} {n base : ℕ} {w : List ℕ} (settled : LanesSettled b n base w) (many : n ≡ input_count b) where
  -- the value of gate j at a lane
  settled-lane : (s : ℕ) → s < lanes_of n → (j : ℕ) → j < gate_count b
      → lane s (pair_at w (first_gate + j)) ≡ get_or (settled_under b (base + s)) j undefined
  unfolding settled_under
  settled-lane s l j h =
      rw (← gates-at (gate_count b) w j h, ← get_d-lane s (gates_in (gate_count b) w) j, settled.settled_lanes s l, many)
      refl

  settled-proper : (j : ℕ) → j < gate_count b → Proper (lanes_of n) (pair_at w (first_gate + j))
  settled-proper j h = rw (← gates-at (gate_count b) w j h) (settled.gates_proper.each j)

  pub kept_put : {group aside kept : List ℕ} → ((j : ℕ) → member j group ≡ true → j < gate_count b)
      → Put group w aside kept → Kept b n base group kept
  kept_put there p =
      record {
        proper = λ j m. rw (p.inside j m) (settled-proper j (there j m));
        settled_at = λ s l j m. rw (p.inside j m) (settled-lane s l j (there j m));
      }

  module _ {group after : List ℕ} (p : Put group [] w after) where
    cleared-inputs : inputs_in after ≡ inputs_in w
    unfolding inputs_in
    cleared-inputs =
        tab-ext (λ i. pair_at after (first_input + i)) (λ i. pair_at w (first_input + i)) max_inputs
        (λ i l. p.outside (first_input + i) (apart-before group (first_input + i) (omega arith)))

    cleared-pair : (j : ℕ) → pair_at after (first_gate + j) ≡ cond (member j group) no_lanes (pair_at w (first_gate + j))
    cleared-pair j = go (bool_cases (member j group))
      where
        go : (member j group ≡ true) ⊎ (member j group ≡ false)
            → pair_at after (first_gate + j) ≡ cond (member j group) no_lanes (pair_at w (first_gate + j))
        go (inl m) = rw m (p.inside j m ∙ pair-none (first_gate + j))
        go (inr m) = rw m (p.outside (first_gate + j) (apart-gate group j m))

    cleared-proper : AllProper (lanes_of n) (gates_in (gate_count b) after)
    cleared-proper = record { each = λ j. ⊎_elim (inside j) (past j) (lt-or-le j (gate_count b)) }
      where
        either : (j : ℕ) → j < gate_count b → (m : Bool) → Proper (lanes_of n) (cond m no_lanes (pair_at w (first_gate + j)))
        either j h true = nothing-proper (lanes_of n)
        either j h false = settled-proper j h

        inside : (j : ℕ) → j < gate_count b → Proper (lanes_of n) (get_or (gates_in (gate_count b) after) j no_lanes)
        inside j h = rw (gates-at (gate_count b) after j h, cleared-pair j) (either j h (member j group))

        past : (j : ℕ) → gate_count b ≤ j → Proper (lanes_of n) (get_or (gates_in (gate_count b) after) j no_lanes)
        past j h =
            let e : get_or (gates_in (gate_count b) after) j no_lanes ≡ no_lanes =
            get_or-eq_default (gates_in (gate_count b) after) no_lanes {n = j}
            (rw (gates-long (gate_count b) after) h) in
            rw e (nothing-proper (lanes_of n))

    cleared-lanes : (s : ℕ) → s < lanes_of n
        → map (lane s) (gates_in (gate_count b) after) ≡ before_passes b group (base + s)
    cleared-lanes s l =
        ext_get_or undefined (map (lane s) gs) (before_passes b group (base + s))
        (long ∙ sym (length_before b group (base + s)))
        (λ j h. let k : j < gate_count b = rw long at h in
        get_d-lane s gs j ∙ ap (lane s) (gates-at (gate_count b) after j k ∙ cleared-pair j) ∙ either j k (member j group)
        ∙ sym (before_at b group (base + s) j))
      where
        gs : List Pair
        gs = gates_in (gate_count b) after

        long : length (map (lane s) gs) ≡ gate_count b
        long = length-map gs (lane s) ∙ gates-long (gate_count b) after

        either : (j : ℕ) → j < gate_count b → (m : Bool)
            → lane s (cond m no_lanes (pair_at w (first_gate + j)))
            ≡ cond m undefined (get_or (settled_under b (base + s)) j undefined)
        either j h true = nothing-lane s
        either j h false = settled-lane s l j h

    -- with the group's gates undefined no pass is made yet
    pub cleared-passed : Passed b n base group 0 after
    unfolding after_passes run
    cleared-passed =
        record {
          held =
              record {
                filled =
                    record {
                      long = p.long ∙ settled.filled.long;
                      zero = p.outside 0 (apart-before group 0 (omega arith)) ∙ settled.filled.zero;
                      one = p.outside 1 (apart-before group 1 (omega arith)) ∙ settled.filled.one;
                    };
                inputs_proper = rw cleared-inputs settled.inputs_proper;
                gates_proper = cleared-proper;
              };
          inputs = cleared-inputs ∙ settled.inputs;
          lanewise = cleared-lanes;
        }

-- ---- passes

-- gates evaluated from the batch's inputs are evaluated under its settings
run-setting : (b : Block) (n base : ℕ) → n ≡ input_count b → n ≤ max_inputs → base % 64 ≡ 0 → (w js : List ℕ)
    → inputs_in w ≡ start_inputs n base
    → (s : ℕ) → s < lanes_of n → (state : List Value)
    → run b (map (lane s) (inputs_in w)) js state ≡ run b (setting_of (input_count b) (base + s)) js state
run-setting b n base many few aligned w js inputs s l state =
    rw (inputs, ← many)
    (run-inputs (map (lane s) (start_inputs n base)) (setting_of n (base + s)) (start_inputs-lane n base few aligned s l) b
    js state)

module _ {b : Block} {n base : ℕ} (many : n ≡ input_count b) (few : n ≤ max_inputs) (aligned : base % 64 ≡ 0)
    {group w after : List ℕ} where
  pub passed-run : (p : ℕ) → Passed b n base group 0 w → Stepped b n (repeated p group) w after
      → Passed b n base group p after
  unfolding after_passes run
  passed-run p c g =
      record {
        held = g.held;
        inputs = g.inputs_kept ∙ c.inputs;
        lanewise = λ s l.
            g.lanewise s l
            ∙ run-setting b n base many few aligned w (repeated p group) c.inputs s l
            (map (lane s) (gates_in (gate_count b) w)) ∙ rw (c.lanewise s l) refl;
      }

  pub passed-more : {p : ℕ} → Passed b n base group p w → Stepped b n group w after
      → Passed b n base group (p + 1) after
  passed-more {p} c g =
      record {
        held = g.held;
        inputs = g.inputs_kept ∙ c.inputs;
        lanewise = λ s l.
            g.lanewise s l
            ∙ run-setting b n base many few aligned w group c.inputs s l (map (lane s) (gates_in (gate_count b) w))
            ∙ rw (c.lanewise s l, add-one p) (sym (after_next b group (base + s) p));
      }

all_same : (p q : ℕ → Bool) (xs : List ℕ) → ((x : ℕ) → member x xs ≡ true → p x ≡ q x) → all p xs ≡ all q xs
all_same p q [] h = refl
all_same p q (x ∷ xs) h = rw (h x (member-head x xs), all_same p q xs (λ y m. h y (member-rest y x xs m)))

-- The pairs agree with the settled ones at a lane exactly where the group is settled.
pub agree-settled : {b : Block} {n base p : ℕ} {group w kept : List ℕ}
    → ((j : ℕ) → member j group ≡ true → j < gate_count b)
    → Passed b n base group p w → Kept b n base group kept → (s : ℕ) → s < lanes_of n
    → agree_at group w kept s ≡ are_settled b group (base + s) p
unfolding agree_at are_settled
agree-settled {b} {n} {base} {p} {group} {w} {kept} there c k s l =
    all_same (λ j. eqb (code (lane s (pair_at w (first_gate + j)))) (code (lane s (pair_at kept (first_gate + j)))))
    (λ j. eqb (code (get_or (after_passes b group (base + s) p) j undefined))
    (code (get_or (settled_under b (base + s)) j undefined))) group
    (λ j m. rw (value j (there j m), k.settled_at s l j m))
  where
    value : (j : ℕ) → j < gate_count b
        → lane s (pair_at w (first_gate + j)) ≡ get_or (after_passes b group (base + s) p) j undefined
    value j h = rw (← gates-at (gate_count b) w j h, ← get_d-lane s (gates_in (gate_count b) w) j, c.lanewise s l)

-- proper pairs at the group's gates
pub passed-proper : {b : Block} {n base p : ℕ} {group w : List ℕ} → ((j : ℕ) → member j group ≡ true → j < gate_count b)
    → Passed b n base group p w → ProperAt (lanes_of n) group w
passed-proper {b} {w = w} there c j m = rw (← gates-at (gate_count b) w j (there j m)) (c.held.gates_proper.each j)
