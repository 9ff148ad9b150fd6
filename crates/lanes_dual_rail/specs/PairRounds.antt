-- Rounds on pairs: as netlist/specs/Rounds.antt, with a pair of words for each value. proofs/Rounds.antt says that they
-- agree at every lane.
-- Assumes nothing.
use Rattle.std.specs.Prelude.{ℕ, zero, suc, ◌≡◌, true, List, map, length, get_or, replicate}
use Rattle.netlist.specs.Kinds.{is_kind, arity_fits}
use Rattle.netlist.specs.Netlist.{Operand, input, gate, constant, Gate, Block, gate_count}
use Rattle.lanes_dual_rail.specs.declared.Pair.{Pair}
use Rattle.lanes_dual_rail.specs.Pairs.{Proper, no_lanes, always, pair_of}

-- `used` has a bit at each lane in use
unfoldable pub operand_pair : ℕ → List Pair → List Pair → Operand → Pair
operand_pair used x state (input i) = get_or x i no_lanes
operand_pair used x state (gate j) = get_or state j no_lanes
operand_pair used x state (constant b) = always used b

unfoldable pub evaluated_pair : ℕ → List Pair → List Pair → Gate → Pair
evaluated_pair used x state g = pair_of used g.kind (map (operand_pair used x state) g.operands)

unfoldable pub pair_round : Block → ℕ → List Pair → List Pair → List Pair
pair_round b used x state = map (evaluated_pair used x state) b.gates

unfoldable pub after_pair_rounds : Block → ℕ → List Pair → ℕ → List Pair
after_pair_rounds b used x zero = replicate (gate_count b) no_lanes
after_pair_rounds b used x (suc r) = pair_round b used x (after_pair_rounds b used x r)

-- the gate is of a kind, with as many operands as the kind allows
pub record LegalGate (g : Gate) : Type 0 where
  pub kind : is_kind g.kind ≡ true
  pub count : arity_fits g.kind (length g.operands) ≡ true

-- every pair of a list is proper
pub record AllProper (lanes : ℕ) (ps : List Pair) : Type 0 where
  pub each : (k : ℕ) → Proper lanes (get_or ps k no_lanes)
