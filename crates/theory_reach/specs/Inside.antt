-- Conditions on a block's gates and on sets of them, which the laws of strongly connected components ("groups") assume
-- or show. Assumes nothing.
use Rattle.std.specs.Prelude.{ℕ, ◌<◌, ◌≡◌, Bool, true, List}
use Rattle.netlist.specs.Netlist.{Block, gate_count}
use Rattle.netlist.specs.Groups.{reads, has, same_group}

-- every gate that a gate reads is there
abbrev pub Inside : Block → Type 0
Inside b = (i k : ℕ) → reads b i k ≡ true → k < gate_count b

-- a set is closed under reads: with a gate, it has the gates that the gate reads
abbrev pub Closed : Block → List Bool → Type 0
Closed b set = (i j : ℕ) → i < gate_count b → j < gate_count b → has set i ≡ true → reads b i j ≡ true → has set j ≡ true

-- no gate reaches itself through another
abbrev pub Loopless : Block → Type 0
Loopless b = (i j : ℕ) → same_group b i j ≡ true → i ≡ j
