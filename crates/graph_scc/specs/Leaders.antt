-- The leader of a strongly connected component is its lowest gate; and the certificate by which a cheap check shows
-- that layers are components (McConnell, Mehlhorn, Näher and Schweitzer, "Certifying algorithms", 2011). Cited by the
-- contracts of this crate and of crates/op_groups. Assumes nothing.
--   leader_of               the lowest gate of a gate's component
--   Leads                  a table of leaders
--   last_of                 the last position of a position's layer
--   HasParent, HasLowLink  one step from the last gate of a layer to a position's gate, and one step back
--   CertifiedAt, Certified the certificate at a position, and at all: then the layers are the components
--   LeadingOn              the lowest gates of the components, while the gates are walked
use Rattle.std.specs.Prelude.{ℕ, ◌+◌, ◌-◌, ◌*◌, ◌/◌, ◌≤◌, ◌<◌, ◌≡◌, ◌⊎◌, true, cond, List, length, get_or, set, eqb}
use Rattle.prelude.specs.Lists.{least}
use Rattle.netlist.specs.Limits.{max_gates}
use Rattle.netlist.specs.Netlist.{Block, gate_count}
use Rattle.netlist.specs.Groups.{reads, same_group}
use Rattle.words_layout.specs.Bounds.{max_word}
use Rattle.graph_gates.specs.Graph.{network}
use Rattle.graph_scc.specs.Search.{Layered}

unfoldable pub leader_of : Block → ℕ → ℕ
leader_of b j = least (same_group b j) (gate_count b)

pub record Leads (b : Block) (m : ℕ) (leaders : List ℕ) : Type 0 where
  pub each : (j : ℕ) → j < m → get_or leaders j 0 ≡ leader_of b j

-- ---- the certificate

unfoldable pub last_of : List ℕ → ℕ → ℕ
last_of ends i = cond (eqb (get_or ends i 0) i) i (get_or ends i 0 - 1)

-- a gate behind position i, in the same layer, reads the gate at position i
pub record HasParent (m : ℕ) (graph order ends : List ℕ) (i : ℕ) : Type 0 where
  pub from : ℕ
  pub behind : i < from
  pub within : from ≤ last_of ends i
  pub reading : reads (network m graph) (get_or order from 0) (get_or order i 0) ≡ true

-- the code's certified::WORD_VALUES, above every position
abbrev pub word_values : ℕ
word_values = 65536

-- how far position i is from its layer's last gate, as the search noted it: how early a gate its gate was found to
-- reach, and then when the search left it
unfoldable pub distance_at : List ℕ → List ℕ → ℕ → ℕ
distance_at order notes i = word_values * (get_or notes (4 * get_or order i 0 + 1) 0 / 8) + i

-- the gate at position i reads a gate of its layer that is nearer to the layer's last
pub record HasLowLink (m : ℕ) (graph order ends notes : List ℕ) (i : ℕ) : Type 0 where
  pub to : ℕ
  pub below : to < m
  pub same : last_of ends to ≡ last_of ends i
  pub nearer : distance_at order notes to < distance_at order notes i
  pub reading : reads (network m graph) (get_or order i 0) (get_or order to 0) ≡ true

pub record CertifiedAt (m : ℕ) (graph order ends notes : List ℕ) (i : ℕ) : Type 0 where
  pub cases : (last_of ends i ≡ i) ⊎ (HasParent m graph order ends i × HasLowLink m graph order ends notes i)

pub record Certified (m : ℕ) (graph order ends positions notes : List ℕ) : Type 0 where
  pub layered : Layered m graph order ends positions
  pub certified_at : (i : ℕ) → i < m → CertifiedAt m graph order ends notes i

-- ---- the lowest gates

-- the code's leaders::NONE
abbrev pub no_gate : ℕ
no_gate = 65535

-- `key` is a number below m for each gate, the same exactly for the gates of one component
pub record Keyed (b : Block) (m : ℕ) (key : ℕ → ℕ) : Type 0 where
  pub below : (j : ℕ) → j < m → key j < m
  pub same : (i j : ℕ) → i < m → j < m → same_group b i j ≡ true → key i ≡ key j
  pub back : (i j : ℕ) → i < m → j < m → key i ≡ key j → same_group b i j ≡ true

-- the key of gate j: the last position of its layer
abbrev pub layer_key : List ℕ → List ℕ → ℕ → ℕ
layer_key ends positions j = last_of ends (get_or positions j 0)

-- r is the first of the gates below k with key e, or none has it
pub record FirstWith (key : ℕ → ℕ) (k e r : ℕ) : Type 0 where
  pub cases : ((r ≡ no_gate) × ((j : ℕ) → j < k → key j ≡ e → ⊥))
      ⊎ ((r < k) × (key r ≡ e) × ((j : ℕ) → j < r → key j ≡ e → ⊥))

-- the gates below k have their leaders
pub record LeadingOn (b : Block) (m : ℕ) (key : ℕ → ℕ) (k : ℕ) (firsts leaders : List ℕ) : Type 0 where
  pub first_room : length firsts ≡ max_gates
  pub leader_room : length leaders ≡ max_gates
  pub lowest : (e : ℕ) → e < m → FirstWith key k e (get_or firsts e 0)
  pub leads : (j : ℕ) → j < k → get_or leaders j 0 ≡ leader_of b j

-- what `first_of` does: the first gate with a key, noted or found
pub record FirstOf (key k : ℕ) (firsts firsts' : List ℕ) (r : ℕ) : Type 0 where
  pub small : r ≤ max_word
  pub cases : ((get_or firsts key 0 ≡ no_gate) × (firsts' ≡ set firsts key k) × (r ≡ k))
      ⊎ ((get_or firsts key 0 ≡ no_gate → ⊥) × (firsts' ≡ firsts) × (r ≡ get_or firsts key 0))
