-- What stands for the gates while a rendering is made, which is an unrolling: each loop's gates are copied several
-- times. The laws of this crate are stated with these. Assumes nothing.
use Rattle.std.specs.Prelude.{ℕ, ◌<◌, ◌≡◌, false, List, [], map, get_or, take}
use Rattle.prelude.specs.Lists.{joined}
use Rattle.netlist.specs.Values.{Value}
use Rattle.netlist.specs.Netlist.{Operand, input, gate, constant, Block}
use Rattle.netlist.specs.Rounds.{operand_value}
use Rattle.netlist.specs.Groups.{groups}
use Rattle.netlist.specs.Rendering.{passes, schedule, no_copies, newest_after}

-- what can stand for a gate when t copies are made: one of them, or constant 0
abbrev pub IsCopy : ℕ → Operand → Type 0
IsCopy t (input i) = ⊥
IsCopy t (gate c) = c < t
IsCopy t (constant c) = c ≡ false

-- for every gate of a list one of t copies stands, or constant 0
abbrev pub AreCopies : ℕ → List Operand → Type 0
AreCopies t newest = (j : ℕ) → IsCopy t (get_or newest j (constant false))

-- the values of the copies that stand for the gates
unfoldable pub values_of : List Value → List Value → List Operand → List Value
values_of x state newest = map (operand_value x state) newest

-- the order in which the gates of these groups are copied
unfoldable pub schedule_of : Block → List (List ℕ) → List ℕ
schedule_of b gs = joined (map (passes b) gs)

-- group number t
abbrev pub group_at : Block → ℕ → List ℕ
group_at b t = get_or (groups b) t []

-- the gates of the first t groups
abbrev pub gates_before : Block → ℕ → List ℕ
gates_before b t = joined (take t (groups b))

-- what stands for each gate at the moment when copy i is made
unfoldable pub newest_at : Block → ℕ → List Operand
newest_at b i = newest_after (no_copies b) 0 (take i (schedule b))
