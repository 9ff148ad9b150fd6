-- The settled values ask the inputs' values alone: what stands behind the last input and is undefined changes nothing.
--   settled-inputs, run-inputs   inputs that are the same one by one give the same settled values, and the same values
--                                after single steps
--   start_inputs-lane          the inputs' pairs of a batch are, at a lane, its setting
-- Assumes nothing.
use mathlib.Core.Path.{◌≡◌, refl, sym, ap, ◌∙◌, fun_ext}
use mathlib.Core.Logic.{⊎_elim}
use mathlib.Core.List.{List, [], ◌∷◌, map}
use Prim.Native.Nat.{ℕ, zero, suc, ◌+◌, ◌%◌, ◌≤◌, ◌<◌}
use borrow.Author.Tests.{lt-ltb, le-ltb}
use lib.ListN.{get_or, get_or-eq_default}
use Rattle.prelude.specs.Lists.{tab}
use Rattle.prelude.proofs.Tab.{length-tab, get_d-tab}
use Rattle.prelude.proofs.Tests.{lt-or-le}
use Rattle.netlist.specs.Limits.{max_inputs}
use Rattle.netlist.specs.Values.{Value, undefined}
use Rattle.netlist.specs.Kinds.{gate_value}
use Rattle.netlist.specs.Netlist.{Operand, input, gate, constant, Block}
use Rattle.netlist.specs.Steps.{step_at, run}
use Rattle.netlist.specs.Rounds.{operand_value, evaluated, round, after_rounds, is_stable, rounds, settled, setting_of}
use Rattle.lanes_dual_rail.specs.Pairs.{lane, no_lanes}
use Rattle.lanes_dual_rail.specs.PairRounds.{AllProper}
use Rattle.lanes_dual_rail.specs.Batches.{lanes_of, input_pair, input_pairs}
use Rattle.lanes_dual_rail.proofs.RoundLaws.{get_d-lane}
use Rattle.lanes_dual_rail.proofs.InputLaws.{input_pairs-proper, input_pairs-lane}
use Rattle.lanes_batch.specs.Layered.{start_inputs}
use Rattle.lanes_batch.proofs.Starting.{padded-at}

module _ (x y : List Value) (e : (i : ℕ) → get_or x i undefined ≡ get_or y i undefined) where
  operand-inputs : (state : List Value) (o : Operand) → operand_value x state o ≡ operand_value y state o
  unfolding operand_value
  operand-inputs state (input i) = e i
  operand-inputs state (gate j) = refl
  operand-inputs state (constant b) = refl

  pub operand_value-inputs : (state : List Value) → operand_value x state ≡ operand_value y state
  operand_value-inputs state = fun_ext (operand-inputs state)

  evaluated-inputs : (state : List Value) → evaluated x state ≡ evaluated y state
  unfolding evaluated
  evaluated-inputs state =
      fun_ext (λ g. ap (λ (h : Operand → Value). gate_value g.kind (map h g.operands)) (operand_value-inputs state))

  after_rounds-inputs : (b : Block) (r : ℕ) → after_rounds b x r ≡ after_rounds b y r
  unfolding after_rounds round
  after_rounds-inputs b zero = refl
  after_rounds-inputs b (suc r) = rw (after_rounds-inputs b r, evaluated-inputs (after_rounds b y r)) refl

  stable-inputs : (b : Block) → is_stable b x ≡ is_stable b y
  unfolding is_stable
  stable-inputs b = fun_ext (λ r. rw (after_rounds-inputs b (suc r), after_rounds-inputs b r) refl)

  rounds-inputs : (b : Block) → rounds b x ≡ rounds b y
  unfolding rounds
  rounds-inputs b = rw (stable-inputs b) refl

  pub settled-inputs : (b : Block) → settled b x ≡ settled b y
  unfolding settled
  settled-inputs b = rw (rounds-inputs b) (after_rounds-inputs b (rounds b y))

  pub run-inputs : (b : Block) (js : List ℕ) (state : List Value) → run b x js state ≡ run b y js state
  unfolding run step_at
  run-inputs b [] state = refl
  run-inputs b (j ∷ js) state = rw (evaluated-inputs state) (run-inputs b js (step_at b y j state))

module _ (n base : ℕ) (few : n ≤ max_inputs) where
  -- past the block's own inputs nothing is said
  start_inputs-at : (i : ℕ) → get_or (start_inputs n base) i no_lanes ≡ get_or (input_pairs n base) i no_lanes
  unfolding start_inputs input_pairs
  start_inputs-at i =
      padded-at n (input_pair n base) few i
      ∙ ⊎_elim (λ l. rw (lt-ltb i n l) (sym (get_d-tab (input_pair n base) n i no_lanes l)))
      (λ h. rw (le-ltb i n h) (sym (get_or-eq_default (tab (input_pair n base) n) no_lanes
      (rw (length-tab (input_pair n base) n) h)))) (lt-or-le i n)

  pub start_inputs-proper : AllProper (lanes_of n) (start_inputs n base)
  start_inputs-proper = record { each = λ k. rw (start_inputs-at k) ((input_pairs-proper n base).each k) }

  pub start_inputs-lane : base % 64 ≡ 0 → (s : ℕ) → s < lanes_of n → (i : ℕ)
      → get_or (map (lane s) (start_inputs n base)) i undefined ≡ get_or (setting_of n (base + s)) i undefined
  start_inputs-lane aligned s l i =
      get_d-lane s (start_inputs n base) i ∙ rw (start_inputs-at i) (sym (get_d-lane s (input_pairs n base) i))
      ∙ ap (λ (x : List Value). get_or x i undefined) (input_pairs-lane n base aligned s l)
