-- What rounds, single steps, reads and groups say of a block depends on its gates alone. So what is shown of a graph's
-- network holds of every block whose gates the graph has. Cited by whoever works on a graph and promises something of a
-- block. Assumes nothing.
--   node-wider                        a legal gate of m is one of any graph's
--   network-gates, network-count      the network's gates are the block's
--   ..-gates                          the same gates, the same answer
use mathlib.Core.Path.{◌≡◌, refl, ap, fun_ext}
use mathlib.Core.Bool.{Bool}
use mathlib.Core.List.{List, [], ◌∷◌, ◌++◌}
use Prim.Native.Nat.{ℕ, zero, suc, ◌≤◌}
use native.Mathlib.Omega.{arith}
use lib.ListN.{length}
use lib.Dec.{eqb}
use Rattle.prelude.specs.Lists.{tab, least}
use Rattle.prelude.proofs.Tab.{length-tab}
use Rattle.netlist.specs.Limits.{max_gates}
use Rattle.netlist.specs.Values.{Value}
use Rattle.netlist.specs.Netlist.{Block, gate_count, gate_of}
use Rattle.netlist.specs.Rounds.{round, after_rounds, is_stable, rounds, settled}
use Rattle.netlist.specs.Steps.{step_at, run}
use Rattle.netlist.specs.Groups.{read_by, reads, grown, grown_times, reach, reaches, same_group, group_of}
use Rattle.netlist.specs.Groups.{is_ready, may_be_next, groups_after}
use Rattle.netlist.specs.Groups.{groups, group_number, group_numbers}
use Rattle.graph_gates.specs.Graph.{gates_in, network, Node, Decoded}

pub node-wider : {m : ℕ} {graph : List ℕ} {j : ℕ} → m ≤ max_gates → Node m graph j → Node max_gates graph j
node-wider few n =
    record {
      kind = n.kind;
      count = n.count;
      operation = n.operation;
      place = n.place;
      inside = λ i l. omega (arith, n.inside i l);
    }

pub network-gates : (b : Block) (m : ℕ) (graph : List ℕ) → Decoded b m graph → (network m graph).gates ≡ b.gates
unfolding network
network-gates b m graph d = d.gates

pub network-count : (m : ℕ) (graph : List ℕ) → gate_count (network m graph) ≡ m
unfolding network gates_in
network-count m graph = length-tab _ m

module _ (b c : Block) (e : b.gates ≡ c.gates) where
  pub count-gates : gate_count b ≡ gate_count c
  count-gates = ap length e

  pub gate_of-gates : (j : ℕ) → gate_of b j ≡ gate_of c j
  gate_of-gates j = rw e refl

  -- ---- rounds

  pub after_rounds-gates : (x : List Value) (r : ℕ) → after_rounds b x r ≡ after_rounds c x r
  unfolding after_rounds round
  after_rounds-gates x zero = rw e refl
  after_rounds-gates x (suc r) = rw (after_rounds-gates x r, e) refl

  stable-gates : (x : List Value) → is_stable b x ≡ is_stable c x
  unfolding is_stable
  stable-gates x = fun_ext (λ r. rw (after_rounds-gates x (suc r), after_rounds-gates x r) refl)

  pub rounds-gates : (x : List Value) → rounds b x ≡ rounds c x
  unfolding rounds
  rounds-gates x = rw (stable-gates x, e) refl

  pub settled-gates : (x : List Value) → settled b x ≡ settled c x
  unfolding settled
  settled-gates x = rw (rounds-gates x) (after_rounds-gates x (rounds c x))

  -- ---- single steps

  pub step_at-gates : (x : List Value) (j : ℕ) (state : List Value) → step_at b x j state ≡ step_at c x j state
  unfolding step_at
  step_at-gates x j state = rw e refl

  pub run-gates : (x : List Value) (js : List ℕ) (state : List Value) → run b x js state ≡ run c x js state
  unfolding run
  run-gates x [] state = refl
  run-gates x (j ∷ js) state = rw (step_at-gates x j state) (run-gates x js (step_at c x j state))

  -- ---- reads and groups

  pub read_by-gates : read_by b ≡ read_by c
  unfolding read_by
  read_by-gates = fun_ext (λ i. rw e refl)

  pub reads-gates : (i j : ℕ) → reads b i j ≡ reads c i j
  unfolding reads
  reads-gates i j = rw read_by-gates refl

  grown-gates : (s : List Bool) → grown b s ≡ grown c s
  unfolding grown reads
  grown-gates s = rw (read_by-gates, e) refl

  grown_times-gates : (t : ℕ) (s : List Bool) → grown_times b t s ≡ grown_times c t s
  unfolding grown_times
  grown_times-gates zero s = refl
  grown_times-gates (suc t) s = rw (grown_times-gates t s) (grown-gates (grown_times c t s))

  pub reaches-gates : reaches b ≡ reaches c
  unfolding reaches reach
  reaches-gates = fun_ext (λ i. fun_ext (λ j. rw (grown_times-gates (gate_count b) (tab (eqb i) (gate_count b)), e) refl))

  pub same_group-gates : (i : ℕ) → same_group b i ≡ same_group c i
  unfolding same_group
  same_group-gates i = fun_ext (λ j. rw reaches-gates refl)

  pub group_of-gates : group_of b ≡ group_of c
  unfolding group_of
  group_of-gates = fun_ext (λ j. rw (same_group-gates j, e) refl)

  next-gates : (done : List ℕ) → may_be_next b done ≡ may_be_next c done
  unfolding may_be_next is_ready
  next-gates done = fun_ext (λ j. rw (group_of-gates, read_by-gates) refl)

  groups_after-gates : (more : ℕ) (done : List ℕ) → groups_after b more done ≡ groups_after c more done
  unfolding groups_after
  groups_after-gates zero done = refl
  groups_after-gates (suc more) done =
      rw (
        groups_after-gates more (done ++ group_of b (least (may_be_next b done) (gate_count b))),
        next-gates done,
        group_of-gates,
        e,
      ) refl

  pub groups-gates : groups b ≡ groups c
  unfolding groups
  groups-gates = rw (groups_after-gates (gate_count b) [], e) refl

  group_number-gates : group_number b ≡ group_number c
  unfolding group_number
  group_number-gates = fun_ext (λ j. rw groups-gates refl)

  pub group_numbers-gates : group_numbers b ≡ group_numbers c
  unfolding group_numbers
  group_numbers-gates = rw (group_number-gates, e) refl
