-- SPECIFICATION 6.1, 6.2: the rendering, which unrolls every loop; straight blocks, which are in topological order by
-- number; and a sweep, which evaluates such a block once.
use Rattle.std.specs.Prelude.{ℕ, suc, Bool, false, List, [], ◌∷◌, ◌++◌, map, get_or, set, replicate, ltb}
use Rattle.prelude.specs.Lists.{all, joined, repeated, up_to}
use Rattle.netlist.specs.Values.{Value}
use Rattle.netlist.specs.Netlist.{Operand, input, gate, constant, Gate, Output, Block, gate_count, gate_of}
use Rattle.netlist.specs.Rounds.{evaluated}
use Rattle.netlist.specs.Groups.{groups, read_by}
use Rattle.netlist.specs.Passes.{pass_count}

-- The gates in the order in which they are copied: group after group, each as many times over as it needs, ascending
-- every time.
unfoldable pub passes : Block → List ℕ → List ℕ
passes b group = repeated (pass_count b group) group

unfoldable pub schedule : Block → List ℕ
schedule b = joined (map (passes b) (groups b))

-- What stands for each gate now: its newest copy, or constant 0 before the first. Of a gate of an earlier group the
-- newest copy is the last.
unfoldable pub no_copies : Block → List Operand
no_copies b = replicate (gate_count b) (constant false)

-- an operand in a copy: a gate becomes what stands for it now, inputs and constants stay as they are
unfoldable pub copied_operand : List Operand → Operand → Operand
copied_operand newest (input i) = input i
copied_operand newest (constant c) = constant c
copied_operand newest (gate j) = get_or newest j (constant false)

unfoldable pub copied : List Operand → Gate → Gate
copied newest g = record { kind = g.kind; operands = map (copied_operand newest) g.operands }

-- the copies of the gates listed, when t stand before them
unfoldable pub copies : Block → List Operand → ℕ → List ℕ → List Gate
copies b newest t [] = []
copies b newest t (j ∷ js) = copied newest (gate_of b j) ∷ copies b (set newest j (gate t)) (suc t) js

-- what stands for each gate after the copies of the gates listed
unfoldable pub newest_after : List Operand → ℕ → List ℕ → List Operand
newest_after newest t [] = newest
newest_after newest t (j ∷ js) = newest_after (set newest j (gate t)) (suc t) js

unfoldable pub last_copies : Block → List Operand
last_copies b = newest_after (no_copies b) 0 (schedule b)

-- the rendering: the copies as gates; names and never lines stay, outputs show last copies, or the input that they
-- showed
unfoldable pub rendering : Block → Block
rendering b =
    record {
      inputs = b.inputs;
      nevers = b.nevers;
      gates = copies b (no_copies b) 0 (schedule b);
      outputs =
          map (λ (o : Output). record { port = o.port; node = copied_operand (last_copies b) o.node }) b.outputs;
    }

-- a block is straight: every gate that is read has a lower number than the gate that reads it
unfoldable pub is_straight : Block → Bool
is_straight b = all (λ j. all (λ i. ltb i j) (read_by b j)) (up_to (gate_count b))

-- One sweep: each gate once, ascending, from the values found so far. Meant for straight blocks; elsewhere a higher
-- gate reads as undefined.
unfoldable pub sweep_from : List Value → List Value → List Gate → List Value
sweep_from x found [] = found
sweep_from x found (g ∷ gs) = sweep_from x (found ++ (evaluated x found g ∷ [])) gs

unfoldable pub sweep : Block → List Value → List Value
sweep b x = sweep_from x [] b.gates
