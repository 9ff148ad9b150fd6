-- Groups numbered one by one: what holds of the gates numbered so far, and the lists of groups that the rule builds.
-- Assumes nothing.
use Rattle.std.specs.Prelude.{ℕ, ◌<◌, ◌≡◌, true, List, [], ◌∷◌, ◌++◌}
use Rattle.prelude.specs.Lists.{member, joined, least}
use Rattle.netlist.specs.Netlist.{Block, gate_count}
use Rattle.netlist.specs.Groups.{reads, same_group, group_of, may_be_next}
use Rattle.theory_reach.specs.Orders.{Once}

-- `done` can be the gates of numbered groups: gates that are there, each once, whole groups, and all that they read
pub record Numbered (b : Block) (done : List ℕ) : Type 0 where
  pub below : (j : ℕ) → member j done ≡ true → j < gate_count b
  pub once : Once done
  pub whole : (i j : ℕ) → member i done ≡ true → same_group b i j ≡ true → member j done ≡ true
  pub closed : (i k : ℕ) → member i done ≡ true → reads b i k ≡ true → member k done ≡ true

-- the lowest gate whose group may be next; as many as there are gates where there is none
abbrev pub next_gate : Block → List ℕ → ℕ
next_gate b done = least (may_be_next b done) (gate_count b)

-- the lists of groups that numbering one by one builds
pub data Built (b : Block) : List (List ℕ) → Type 0 where
  none : Built b []
  next : {gs : List (List ℕ)} → Built b gs → next_gate b (joined gs) < gate_count b
      → Built b (gs ++ (group_of b (next_gate b (joined gs)) ∷ []))
