-- SPECIFICATION 5: which gates reach each other, the strongly connected groups (components), and their topological
-- order. The order is that of Kahn's algorithm ("Topological sorting of large networks", 1962) with the lowest ready
-- gate first.
use Rattle.std.specs.Prelude.{ℕ, zero, suc, ◌≡◌, Bool, true, false, cond, not, ◌&&◌, ◌||◌, List, [], ◌∷◌, ◌++◌, map, length, get_or, eqb, ltb}
use Rattle.prelude.specs.Lists.{all, any, keep, tab, joined, up_to, member, least}
use Rattle.netlist.specs.Netlist.{Operand, input, gate, constant, Block, gate_count, gate_of}

unfoldable pub gate_operand : Operand → List ℕ
gate_operand (input i) = []
gate_operand (gate j) = j ∷ []
gate_operand (constant b) = []

-- the gates among gate i's operands
unfoldable pub read_by : Block → ℕ → List ℕ
read_by b i = joined (map gate_operand (gate_of b i).operands)

unfoldable pub reads : Block → ℕ → ℕ → Bool
reads b i j = member j (read_by b i)

-- a chain of reads from gate i to gate j, perhaps of no step
pub data OperandPath (b : Block) : ℕ → ℕ → Type 0 where
  stay : {i : ℕ} → OperandPath b i i
  step : {i j k : ℕ} → reads b i j ≡ true → OperandPath b j k → OperandPath b i k

-- Reach as a computation. A set of gates is a Boolean for each; it grows by what its gates read, m times over.
unfoldable pub has : List Bool → ℕ → Bool
has set j = get_or set j false

unfoldable pub grown : Block → List Bool → List Bool
grown b set = tab (λ j. has set j || any (λ i. has set i && reads b i j) (up_to (gate_count b))) (gate_count b)

unfoldable pub grown_times : Block → ℕ → List Bool → List Bool
grown_times b zero set = set
grown_times b (suc t) set = grown b (grown_times b t set)

unfoldable pub reach : Block → ℕ → List Bool
reach b i = grown_times b (gate_count b) (tab (eqb i) (gate_count b))

unfoldable pub reaches : Block → ℕ → ℕ → Bool
reaches b i j = has (reach b i) j

-- gates i and j are in one strongly connected group: each reaches the other, or they are the same
unfoldable pub same_group : Block → ℕ → ℕ → Bool
same_group b i j = reaches b i j && reaches b j i

-- the group of gate j, ascending
unfoldable pub group_of : Block → ℕ → List ℕ
group_of b j = keep (same_group b j) (up_to (gate_count b))

-- a group is ready: what it reads outside itself is in groups that have a number; `done` are the gates of those groups
unfoldable pub is_ready : Block → List ℕ → List ℕ → Bool
is_ready b done group = all (λ i. all (λ k. member k group || member k done) (read_by b i)) group

-- gate j's group can be numbered next
unfoldable pub may_be_next : Block → List ℕ → ℕ → Bool
may_be_next b done j = not (member j done) && is_ready b done (group_of b j)

-- the groups from here on, when those of `done` are numbered: the next is, of all that can be, the one with the lowest
-- gate
unfoldable pub groups_after : Block → ℕ → List ℕ → List (List ℕ)
groups_after b zero done = []
groups_after b (suc more) done =
    let j = least (may_be_next b done) (gate_count b) in
    let rest = groups_after b more (done ++ group_of b j) in
    cond (ltb j (gate_count b)) (group_of b j ∷ rest) []

-- all groups in their order, from none numbered on; there are at most as many as gates
unfoldable pub groups : Block → List (List ℕ)
groups b = groups_after b (gate_count b) []

-- the number of gate j's group
unfoldable pub group_number : Block → ℕ → ℕ
group_number b j = least (λ g. member j (get_or (groups b) g [])) (length (groups b))

unfoldable pub group_numbers : Block → List ℕ
group_numbers b = tab (group_number b) (gate_count b)
