-- Layers: the gates in an order, where a gate that lies on no loop reads only gates before it, and the gates of a loop
-- lie side by side and read no gate behind their loop. Whoever evaluates along it goes once over a gate of the first
-- sort, and over a loop until nothing in it changes. Cited by whoever evaluates gates. Assumes nothing.
--   LoopEnd     a position whose layer is a loop, and where the loop ends
--   LayerEnd    the end of a position's layer
--   Layers      an order of all gates, in layers
use Rattle.std.specs.Prelude.{ℕ, ◌≤◌, ◌<◌, ◌≡◌, ◌⊎◌, true, List, get_or}
use Rattle.netlist.specs.Groups.{reads}
use Rattle.graph_gates.specs.Graph.{network}

pub record LoopEnd (m : ℕ) (ends : List ℕ) (i : ℕ) : Type 0 where
  pub behind : i < get_or ends i 0
  pub within : get_or ends i 0 ≤ m
  pub same : (k : ℕ) → i ≤ k → k < get_or ends i 0 → get_or ends k 0 ≡ get_or ends i 0

-- the end of position i's layer: i itself for a gate that reads only gates before it, else the end of the loop that it
-- lies in
pub record LayerEnd (m : ℕ) (ends : List ℕ) (i : ℕ) : Type 0 where
  pub cases : (get_or ends i 0 ≡ i) ⊎ LoopEnd m ends i

pub record Layers (m : ℕ) (graph order ends : List ℕ) : Type 0 where
  pub inside : (i : ℕ) → i < m → get_or order i 0 < m
  pub every : (j : ℕ) → j < m → (i : ℕ) × (i < m) × (get_or order i 0 ≡ j)
  pub once : (i k : ℕ) → i < m → k < m → get_or order i 0 ≡ get_or order k 0 → i ≡ k
  pub end : (i : ℕ) → i < m → LayerEnd m ends i
  pub reads : (i k : ℕ) → i < m → k < m → reads (network m graph) (get_or order i 0) (get_or order k 0) ≡ true
      → k < get_or ends i 0
