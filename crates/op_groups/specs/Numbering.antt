-- Numbering groups one by one, on arrays, in topological order: a gate's number, or the mark of none, and each gate's
-- leader, the lowest gate of its strongly connected group.
--   NumberReady       a graph and its leaders
--   NumberedUpTo      the numbers when the first g groups have theirs
--   NumbersOf         the numbers of all groups
--   GroupsNumbered    the numbers of all groups in a slice, for a block
use Rattle.std.specs.Prelude.{ℕ, ◌<◌, ◌≡◌, Bool, cond, not, ◌&&◌, List, length, get_or, eqb, ltb}
use Rattle.prelude.specs.Lists.{keep, placed, up_to}
use Rattle.netlist.specs.Limits.{max_gates}
use Rattle.netlist.specs.Netlist.{Block}
use Rattle.netlist.specs.Groups.{may_be_next, groups, group_number, group_numbers}
use Rattle.graph_gates.specs.Graph.{network, Graph}
use Rattle.graph_scc.specs.Leaders.{Leads}

-- the code's words_layout::nodes::NONE
abbrev pub no_number : ℕ
no_number = 65535

unfoldable pub unnumbered : List ℕ → ℕ → Bool
unnumbered numbers k = eqb (get_or numbers k 0) no_number

-- the gates that have a number
unfoldable pub numbered_gates : ℕ → List ℕ → List ℕ
numbered_gates m numbers = keep (λ j. not (unnumbered numbers j)) (up_to m)

-- gate j leads a group that may be next
unfoldable pub leads_next : Block → ℕ → List ℕ → List ℕ → ℕ → Bool
leads_next b m numbers leaders j = eqb (get_or leaders j 0) j && may_be_next b (numbered_gates m numbers) j

-- the numbers when the first g groups have theirs
unfoldable pub number_up_to : Block → ℕ → ℕ → ℕ
number_up_to b g j = cond (ltb (group_number b j) g) (group_number b j) no_number

pub record NumberReady (m : ℕ) (graph leaders : List ℕ) : Type 0 where
  pub legal : Graph m graph
  pub leads : Leads (network m graph) m leaders

pub record NumberedUpTo (m : ℕ) (graph : List ℕ) (g : ℕ) (numbers : List ℕ) : Type 0 where
  pub room : length numbers ≡ max_gates
  pub each : (j : ℕ) → j < m → get_or numbers j 0 ≡ number_up_to (network m graph) g j

-- every gate has the number of its group: the end of numbering
pub record NumbersOf (b : Block) (m : ℕ) (numbers : List ℕ) (count : ℕ) : Type 0 where
  pub each : (j : ℕ) → j < m → get_or numbers j 0 ≡ group_number b j
  pub count_is : count ≡ length (groups b)

-- the number that stands for gate j
abbrev pub number_at : List ℕ → ℕ → ℕ
number_at numbers j = get_or numbers j 0

pub record GroupsNumbered (b : Block) (entry exit : List ℕ) (count : ℕ) : Type 0 where
  pub numbers_are : exit ≡ placed (group_numbers b) entry
  pub count_is : count ≡ length (groups b)
