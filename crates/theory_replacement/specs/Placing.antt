-- A block that stands in a larger netlist: its inputs are nets of the netlist, its gates are gates of it. The netlist
-- is the record Block too, with as many inputs and gates as one likes. Assumes nothing.
use Rattle.std.specs.Prelude.{ℕ, ◌≡◌, Bool, true, false, ◌&&◌, ◌||◌, List, map, get_or, eqb}
use Rattle.prelude.specs.Lists.{all, any, member}
use Rattle.netlist.specs.Values.{Value}
use Rattle.netlist.specs.Netlist.{Operand, input, gate, constant, Gate, Output, Block}
use Rattle.netlist.specs.StoredBlock.{is_operand}
use Rattle.netlist.specs.Rounds.{operand_value, output_value, settled}
use Rattle.netlist.specs.Groups.{OperandPath}

-- the inputs and gates that gates read and outputs show are there
unfoldable pub is_complete : Block → Bool
is_complete b =
    all (λ (g : Gate). all (is_operand b) g.operands) b.gates
    && all (λ (o : Output). is_operand b o.node) b.outputs

-- what the outputs show: inputs, gates or constants
unfoldable pub nodes : Block → List Operand
nodes b = map (λ (o : Output). o.node) b.outputs

-- a gate of the same kind with its operands changed one by one
unfoldable pub rewired : (Operand → Operand) → Gate → Gate
rewired change g = record { kind = g.kind; operands = map change g.operands }

-- An operand of a block as an operand of the netlist that it stands in: input i is net number i, and gate t has number
-- `number t` there.
unfoldable pub in_place : List Operand → (ℕ → ℕ) → Operand → Operand
in_place nets number (input i) = get_or nets i (constant false)
in_place nets number (gate t) = gate (number t)
in_place nets number (constant c) = constant c

-- Where a block stands: gate t of it is the netlist's gate number t of `gates`, input i of it is net number i of
-- `nets`, and output p of it shows gate number p of `ports`.
pub record Cut : Type 0 where
  pub gates : List ℕ
  pub nets : List Operand
  pub ports : List ℕ

-- the values of the nets when the netlist has settled; x are the values of its inputs
unfoldable pub net_values : Block → List Value → List Operand → List Value
net_values b x nets = map (operand_value x (settled b x)) nets

-- what the outputs of a block show when it has settled; y are the values of its inputs
unfoldable pub shown_under : Block → List Value → List Value
shown_under h y = map (output_value y (settled h y)) h.outputs

-- input i is read by a gate or shown by an output
unfoldable pub is_input : ℕ → Operand → Bool
is_input i (input k) = eqb i k
is_input i (gate j) = false
is_input i (constant c) = false

unfoldable pub uses_input : Block → ℕ → Bool
uses_input h i =
    any (λ (g : Gate). any (is_input i) g.operands) h.gates
    || any (λ (o : Output). is_input i o.node) h.outputs

-- gate k depends on none of the gates listed: no chain of reads leads from it to one of them, not even one of no step
abbrev pub DependsOnNone : Block → List ℕ → ℕ → Type 0
DependsOnNone b gates k = (j : ℕ) → member j gates ≡ true → OperandPath b k j → ⊥
