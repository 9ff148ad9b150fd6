-- Rounds in an array until one changes nothing: what the loop of Settle keeps, and what it ends with. Assumes nothing.
--   Rounding                                     after `count` rounds that changed something, and one more
--   rounding-none, rounding-more, rounding-end   the first, a further one, and the one that changed nothing
--   settled-of, rounds-of                        the settled values of a block, from its graph's
--   state-codes                                  the codes of an array's gates
use mathlib.Core.Path.{◌≡◌, refl, sym, ap, ◌∙◌, fun_ext}
use mathlib.Core.Logic.{⊎_elim}
use mathlib.Core.Bool.{Bool, true, false}
use mathlib.Core.List.{List, map}
use Prim.Native.Nat.{ℕ, zero, suc, ◌+◌, ◌≤◌, ◌<◌}
use native.Mathlib.Numerals.{add-one}
use native.Mathlib.Omega.{arith}
use lib.ListN.{length, get_or, replicate, get_or-eq_default}
use lib.Seq.{ext_get_or}
use Rattle.prelude.specs.Lists.{same, least, tab}
use Rattle.prelude.proofs.Tests.{not-true-false, lt-or-le}
use Rattle.prelude.proofs.Tab.{get_d-tab, length-tab, map-tab, tab-ext}
use Rattle.netlist.specs.Limits.{max_inputs}
use Rattle.netlist.specs.Values.{Value, undefined, code, value_of}
use Rattle.netlist.specs.Kinds.{gate_value}
use Rattle.netlist.specs.Netlist.{Operand, input, gate, constant, Gate, Block, gate_count}
use Rattle.netlist.specs.Rounds.{operand_value, evaluated, round, after_rounds, is_stable, rounds, settled}
use Rattle.theory_fixpoint.proofs.Values.{code-injective}
use Rattle.theory_fixpoint.proofs.Rounds.{length-round, stable-eq, eq-stable, rounds-more, rounds-end}
use Rattle.theory_fixpoint.proofs.Rounds.{after_rounds-settled}
use Rattle.graph_gates.specs.Places.{first_input, first_gate}
use Rattle.graph_gates.specs.Graph.{network, Graph, Decoded}
use Rattle.graph_gates.specs.Fanout.{Fanout}
use Rattle.graph_gates.proofs.Network.{network-gates, network-count, rounds-gates, settled-gates}
use Rattle.graph_simulation.specs.State.{Coded, inputs_in, state_in}
use Rattle.graph_simulation.proofs.Codes.{code_same}
use Rattle.graph_simulation.specs.Rounded.{PreparedFor, Starting, SettledIn}
use Rattle.graph_simulation.specs.Changes.{defined_from, Round, Turned}
use Rattle.graph_simulation.proofs.Updates.{defined-same, code-at, length-state_in, found-is}

-- ---- inputs with the same values

module _ (x y : List Value) (inputs : (i : ℕ) → get_or x i undefined ≡ get_or y i undefined) (s t : List Value)
    (states : (j : ℕ) → get_or s j undefined ≡ get_or t j undefined) where
  operand_same : (o : Operand) → operand_value x s o ≡ operand_value y t o
  unfolding operand_value
  operand_same (input i) = inputs i
  operand_same (gate j) = states j
  operand_same (constant c) = refl

  pub operands_same : operand_value x s ≡ operand_value y t
  operands_same = fun_ext operand_same

  pub evaluated-same : evaluated x s ≡ evaluated y t
  unfolding evaluated
  evaluated-same = fun_ext (λ g. ap (λ (f : Operand → Value). gate_value g.kind (map f g.operands)) operands_same)

module _ (b : Block) (x y : List Value) (inputs : (i : ℕ) → get_or x i undefined ≡ get_or y i undefined) where
  after_same : (r : ℕ) → after_rounds b x r ≡ after_rounds b y r
  unfolding after_rounds round
  after_same zero = refl
  after_same (suc r) =
      ap (λ (f : Gate → Value). map f b.gates)
      (evaluated-same x y inputs (after_rounds b x r) (after_rounds b x r) (λ j. refl))
      ∙ ap (λ (s : List Value). map (evaluated y s) b.gates) (after_same r)

  rounds-same : rounds b x ≡ rounds b y
  unfolding rounds is_stable
  rounds-same =
      ap (λ (f : ℕ → Bool). least f (gate_count b))
      (fun_ext (λ r. ap (λ (s : List Value). same (map code s) (map code (after_rounds b x r))) (after_same (suc r))
      ∙ ap (λ (s : List Value). same (map code (after_rounds b y (suc r))) (map code s)) (after_same r)))

  settled_same : settled b x ≡ settled b y
  unfolding settled
  settled_same = after_same (rounds b x) ∙ ap (after_rounds b y) rounds-same

-- the inputs of an array that starts with x
pub starting-inputs : {x : List Value} {values : List ℕ} → Starting x values → (i : ℕ)
    → get_or (inputs_in values) i undefined ≡ get_or x i undefined
unfolding inputs_in
starting-inputs {x} {values} s i =
    ⊎_elim
    (λ l. get_d-tab (λ i. value_of (get_or values (first_input + i) 0)) max_inputs i undefined l ∙ s.given i l)
    (λ l. let long : length (inputs_in values) ≤
    i = rw (length-tab (λ i. value_of (get_or values (first_input + i) 0)) max_inputs) l in
    let few : length x ≤ i = omega (arith, s.few) in
    get_or-eq_default (inputs_in values) undefined long ∙ sym (get_or-eq_default x undefined few))
    (lt-or-le i max_inputs)

-- ---- what settling a block's graph finds

module _ {c : Block} {m : ℕ} {graph : List ℕ} (d : Decoded c m graph) {x : List Value} {values : List ℕ}
    (s : Starting x values) where
  pub settled-of : settled (network m graph) (inputs_in values) ≡ settled c x
  settled-of =
      settled-gates (network m graph) c (network-gates c m graph d) (inputs_in values)
      ∙ settled_same c (inputs_in values) x (starting-inputs s)

  pub rounds-of : rounds (network m graph) (inputs_in values) ≡ rounds c x
  rounds-of =
      rounds-gates (network m graph) c (network-gates c m graph d) (inputs_in values)
      ∙ rounds-same c (inputs_in values) x (starting-inputs s)

-- ---- the rounds

-- `values` has the state after `count` rounds that changed something, and `found` the one after a round more
pub record Rounding (m : ℕ) (graph start values found queue : List ℕ) (head tail count : ℕ) : Type 0 where
  pub reached : count ≤ rounds (network m graph) (inputs_in start)
  pub made : Round m graph values found queue head tail
  pub inputs : inputs_in values ≡ inputs_in start
  pub last : state_in m values ≡ after_rounds (network m graph) (inputs_in start) count

module _ {m : ℕ} {graph : List ℕ} (start : List ℕ) (g : Graph m graph) where
  abbrev b : Block
  b = network m graph

  abbrev x : List Value
  x = inputs_in start

  -- the state a round later
  abbrev later : List ℕ → List Value
  later values = round b (inputs_in values) (state_in m values)

  pub rounding-none : {found queue : List ℕ} {tail : ℕ} → state_in m start ≡ replicate m undefined
      → Round m graph start found queue 0 tail
      → Rounding m graph start start found queue 0 tail 0
  unfolding after_rounds
  rounding-none first r =
      record { reached = omega arith; made = r; inputs = refl; last = rw (network-count m graph) first }

  module _ {values found queue : List ℕ} {head tail count : ℕ}
      (r : Rounding m graph start values found queue head tail count) where
    later-is : later values ≡ after_rounds b x (suc count)
    unfolding after_rounds
    later-is = rw (r.inputs, r.last) refl

    -- a gate is queued only if it changed
    unstable : head < tail → is_stable b x count ≡ false
    unstable some = not-true-false (is_stable b x count) none
      where
        none : is_stable b x count ≡ true → ⊥
        none h =
            let stays : later values ≡ state_in m values = later-is ∙ stable-eq b x count h ∙ sym r.last in
            let many : defined_from 0 found m ≡ defined_from first_gate values m =
            defined-same 0 found first_gate values m
            (λ j l. let z : 0 + j ≡ j = omega arith in
            rw z
            (found-is g found r.made.coded j l (r.made.done j l)
            ∙ ap (λ (s : List Value). code (get_or s j undefined)) stays ∙ code-at m r.made.coded j l)) in
            omega (arith, r.made.before, r.made.counted)

    -- a round that changed something
    pub rounding-more : {values' found' queue' : List ℕ} {end : ℕ} → head < tail
        → Turned m graph values values' found' queue' tail end
        → Rounding m graph start values' found' queue' tail end (count + 1)
    rounding-more some t =
        rw add-one
        (record {
          reached = rounds-more b x count r.reached (unstable some);
          made = t.made;
          inputs = t.inputs ∙ r.inputs;
          last = t.state ∙ later-is;
        })

    -- the first that changed nothing
    pub rounding-end : tail ≤ head → SettledIn m graph start values count
    rounding-end none =
        let last : rounds b x ≡ count = rounds-end b x count r.reached stable in
        record {
          coded = r.made.coded;
          inputs = r.inputs;
          state = r.last ∙ after_rounds-settled b x count (omega arith);
          reported = sym last;
        }
      where
        unchanged : (j : ℕ) → j < m → get_or found j 0 ≡ get_or values (first_gate + j) 0
        unchanged j l = ⊎_elim (λ e. e) (λ q. absurd (omega (arith, q.1, q.2))) (r.made.told j l)

        stays : later values ≡ state_in m values
        stays =
            ext_get_or undefined (later values) (state_in m values)
            (length-round b (inputs_in values) (state_in m values) ∙ network-count m graph
            ∙ sym (length-state_in m values))
            (λ j l. let below : j < m = rw (
              length-round b (inputs_in values) (state_in m values),
              network-count m graph,
            ) at l in
            code-injective (get_or (later values) j undefined) (get_or (state_in m values) j undefined)
            (sym (found-is g found r.made.coded j below (r.made.done j below)) ∙ unchanged j below
            ∙ sym (code-at m r.made.coded j below)))

        stable : is_stable b x count ≡ true
        stable = eq-stable b x count (sym later-is ∙ stays ∙ r.last)

-- ---- the codes of an array's gates

pub state-codes : (m : ℕ) {values : List ℕ} → Coded values
    → tab (λ j. get_or values (first_gate + j) 0) m ≡ map code (state_in m values)
unfolding state_in
state-codes m {values} c =
    tab-ext (λ j. get_or values (first_gate + j) 0) (λ j. code (value_of (get_or values (first_gate + j) 0))) m
    (λ j l. sym (code_same (get_or values (first_gate + j) 0) (c.most (first_gate + j))))
    ∙ sym (map-tab code (λ j. value_of (get_or values (first_gate + j) 0)) m)

-- ---- what is prepared for a block

pub legal-for : {ws graph fanout : List ℕ} → PreparedFor ws graph fanout → {m : ℕ} → m ≡ get_or ws 1 0 → Graph m graph
legal-for p e = rw e p.decoded.legal

pub linked-for : {ws graph fanout : List ℕ} → PreparedFor ws graph fanout → {m : ℕ} → m ≡ get_or ws 1 0
    → ∥ Fanout m graph fanout ∥₁
linked-for p e = ∣ rw e p.linked ∣₁
