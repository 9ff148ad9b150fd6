-- A strongly connected component by transitive closure: the gates that a gate reaches, and those that reach it, each
-- set grown gate by gate as long as a gate can be added. Cited by the contracts of this crate alone.
-- Assumes nothing.
--   Walk, Edge      a path of reads, and a single read, in one of the two directions
--   Open            a gate that can be added
--   Target          one, or that there is none
--   Reached         a set that is grown and sound
use Rattle.std.specs.Prelude.{ℕ, ◌+◌, ◌<◌, ◌≡◌, Bool, true, false, not, ◌&&◌, List, length, get_or, eqb}
use Rattle.std.specs.declared.option.Option.{Option}
use Rattle.std.specs.Option.{MatchOption}
use Rattle.prelude.specs.Lists.{count_below}
use Rattle.netlist.specs.Limits.{max_gates}
use Rattle.netlist.specs.Netlist.{Block}
use Rattle.netlist.specs.Groups.{reads, OperandPath}
use Rattle.graph_gates.specs.Places.{first_gate}
use Rattle.graph_gates.specs.Graph.{network, place_at}
use Rattle.graph_scc.specs.Leaders.{leader_of}

-- from gate i to gate j along reads, or against them
unfoldable pub Walk : Block → Bool → ℕ → ℕ → Type 0
Walk b false i j = OperandPath b i j
Walk b true i j = OperandPath b j i

unfoldable pub Edge : Block → Bool → ℕ → ℕ → Type 0
Edge b false i j = reads b i j ≡ true
Edge b true i j = reads b j i ≡ true

-- an edge from gate k goes to gate t, of which one is in the set and the other is not
pub record Open (b : Block) (m : ℕ) (back : Bool) (flags : List ℕ) (t : ℕ) : Type 0 where
  pub from : ℕ
  pub below : from < m
  pub there : get_or flags from 0 ≡ 1
  pub edge : Edge b back from t
  pub absent : get_or flags t 0 ≡ 1 → ⊥

-- gate i reads gate j, and neither leads to the other out of the set
unfoldable pub Shut : Bool → List ℕ → ℕ → ℕ → Type 0
Shut false flags i j = get_or flags i 0 ≡ 1 → get_or flags j 0 ≡ 1
Shut true flags i j = get_or flags j 0 ≡ 1 → get_or flags i 0 ≡ 1

-- r is `to`, if it can be added
abbrev pub Added : List ℕ → ℕ → ℕ → Option ℕ → Type 0
Added flags from to r =
    MatchOption r (get_or flags from 0 ≡ 1 → get_or flags to 0 ≡ 1)
    (λ t. (t ≡ to) × (get_or flags from 0 ≡ 1) × (get_or flags to 0 ≡ 1 → ⊥))

-- gate t of m can be added
pub record OpenGate (m : ℕ) (graph : List ℕ) (back : Bool) (flags : List ℕ) (t : ℕ) : Type 0 where
  pub below : t < m
  pub adds : Open (network m graph) m back flags t

-- no read by slot s of gate k leads out of the set
pub record SlotShut (graph : List ℕ) (back : Bool) (flags : List ℕ) (k s : ℕ) : Type 0 where
  pub shut : (j : ℕ) → place_at graph k s ≡ first_gate + j → Shut back flags k j

-- no read by gate k does
pub record GateShut (m : ℕ) (graph : List ℕ) (back : Bool) (flags : List ℕ) (k : ℕ) : Type 0 where
  pub shut : (j : ℕ) → reads (network m graph) k j ≡ true → Shut back flags k j

-- r is a gate that a read by slot s of gate k adds, or none does
abbrev pub SlotTarget : ℕ → List ℕ → Bool → List ℕ → ℕ → ℕ → Option ℕ → Type 0
SlotTarget m graph back flags k s r = MatchOption r (SlotShut graph back flags k s) (OpenGate m graph back flags)

-- r is a gate that some read by gate k adds, or none does
abbrev pub GateTarget : ℕ → List ℕ → Bool → List ℕ → ℕ → Option ℕ → Type 0
GateTarget m graph back flags k r = MatchOption r (GateShut m graph back flags k) (OpenGate m graph back flags)

-- r is a gate that some read adds, or none does
abbrev pub Target : ℕ → List ℕ → Bool → List ℕ → Option ℕ → Type 0
Target m graph back flags r =
    MatchOption r ((k : ℕ) → k < m → GateShut m graph back flags k) (OpenGate m graph back flags)

pub record Growing (m : ℕ) (graph : List ℕ) (back : Bool) (start : ℕ) (flags : List ℕ) : Type 0 where
  pub room : length flags ≡ max_gates
  pub first : get_or flags start 0 ≡ 1
  pub sound : (j : ℕ) → j < m → get_or flags j 0 ≡ 1 → Walk (network m graph) back start j

-- how many gates are not in the set
unfoldable pub outside : List ℕ → ℕ → ℕ
outside flags m = count_below (λ k. not (eqb (get_or flags k 0) 1)) m

-- exactly the gates on walks from `start` are in the set
pub record Reached (m : ℕ) (graph : List ℕ) (back : Bool) (start : ℕ) (flags : List ℕ) : Type 0 where
  pub room : length flags ≡ max_gates
  pub sound : (j : ℕ) → j < m → get_or flags j 0 ≡ 1 → Walk (network m graph) back start j
  pub complete : (j : ℕ) → j < m → Walk (network m graph) back start j → get_or flags j 0 ≡ 1

-- gate i is in both sets
abbrev pub in_both : List ℕ → List ℕ → ℕ → Bool
in_both ahead behind i = eqb (get_or ahead i 0) 1 && eqb (get_or behind i 0) 1

-- r is the leader of gate j, and the arrays of the two sets keep their lengths
pub record LeaderFound (m : ℕ) (graph : List ℕ) (j : ℕ) (ahead behind : List ℕ) (r : ℕ) : Type 0 where
  pub ahead_room : length ahead ≡ max_gates
  pub behind_room : length behind ≡ max_gates
  pub below : r < m
  pub answer : r ≡ leader_of (network m graph) j

-- the gates below j have their leaders
pub record LeadingEach (m : ℕ) (graph : List ℕ) (j : ℕ) (ahead behind leaders : List ℕ) : Type 0 where
  pub ahead_room : length ahead ≡ max_gates
  pub behind_room : length behind ≡ max_gates
  pub leader_room : length leaders ≡ max_gates
  pub leads : (k : ℕ) → k < j → get_or leaders k 0 ≡ leader_of (network m graph) k
