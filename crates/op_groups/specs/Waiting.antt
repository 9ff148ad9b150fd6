-- The counts of Kahn's algorithm on strongly connected groups: each group counts the slots of its gates that read a
-- gate of another group without a number. A group whose count is 0 may be next.
--   crosses       a slot reads a gate of another group
--   is_open        a slot that its group waits for: the gate that it reads has no number, or the slot is still to be
--                 counted down
--   count_of       the slots that a group waits for
--   Waiting       all counts are right, and the set holds the groups that are ready
-- Assumes nothing.
use Rattle.std.specs.Prelude.{ℕ, ◌+◌, ◌-◌, ◌*◌, ◌/◌, ◌<◌, ◌≡◌, Bool, true, false, cond, not, ◌&&◌, ◌||◌}
use Rattle.std.specs.Prelude.{List, length, get_or, eqb, ltb, leb}
use Rattle.prelude.specs.Lists.{count_below}
use Rattle.netlist.specs.Limits.{max_gates}
use Rattle.op_groups.specs.Links.{FirstFrom}
use Rattle.graph_gates.specs.Places.{first_gate}
use Rattle.graph_gates.specs.Graph.{slots}
use Rattle.graph_gates.specs.Fanout.{slot_place, Fanout, Empty}
use Rattle.op_groups.specs.Numbering.{unnumbered, NumberReady, NumberedUpTo}
use Rattle.op_groups.specs.Ready.{in_set}

-- the code's ready::READY_WORDS
abbrev pub ready_words : ℕ
ready_words = 16

-- the gate that slot e reads, where it reads one
abbrev pub slot_gate : List ℕ → ℕ → ℕ
slot_gate graph e = slot_place graph e - first_gate

unfoldable pub crosses : List ℕ → List ℕ → ℕ → Bool
crosses graph leaders e =
    leb first_gate (slot_place graph e) && not (eqb (get_or leaders (slot_gate graph e) 0) (get_or leaders (e / slots) 0))

-- slot e is waited for, at the moment when gate k has its number and, of the slots that read k, those with numbers
-- below `at` are still to be counted down
unfoldable pub is_open : List ℕ → List ℕ → List ℕ → ℕ → ℕ → ℕ → Bool
is_open graph leaders numbers k at e =
    crosses graph leaders e && (unnumbered numbers (slot_gate graph e) || (eqb (slot_gate graph e) k && ltb e at))

-- slot e is waited for, when no slot is left to be counted down: it reads a gate of another group that has no number
unfoldable pub all_open : List ℕ → List ℕ → List ℕ → ℕ → Bool
all_open graph leaders numbers e = crosses graph leaders e && unnumbered numbers (slot_gate graph e)

-- how many of the first n slots a group waits for
unfoldable pub count_of : List ℕ → (ℕ → Bool) → ℕ → ℕ → ℕ
count_of leaders held l n = count_below (λ e. eqb (get_or leaders (e / slots) 0) l && held e) n

-- l leads a group without a number, and not h's, that waits for nothing
pub record IsReady (m h : ℕ) (leaders numbers counts : List ℕ) (l : ℕ) : Type 0 where
  pub below : l < m
  pub other : l ≡ h → ⊥
  pub leads : get_or leaders l 0 ≡ l
  pub bare : unnumbered numbers l ≡ true
  pub zero : get_or counts l 0 ≡ 0

-- the state between two groups: h's group is taken out of the set of ready ones, and gets its number
pub record Waiting (m : ℕ) (leaders numbers : List ℕ) (h : ℕ) (held : ℕ → Bool) (counts ready : List ℕ) : Type 0 where
  pub count_room : length counts ≡ max_gates
  pub ready_room : length ready ≡ ready_words
  pub counted : (l : ℕ) → l < m → get_or counts l 0 ≡ count_of leaders held l (slots * m)
  pub emptied : (l : ℕ) → l < m → get_or leaders l 0 ≡ l → unnumbered numbers l ≡ false → get_or counts l 0 ≡ 0
  pub taken : h < m → get_or counts h 0 ≡ 0
  pub sound : (l : ℕ) → in_set ready l ≡ true → IsReady m h leaders numbers counts l
  pub complete : (l : ℕ) → IsReady m h leaders numbers counts l → in_set ready l ≡ true

-- ---- the counts at first, when no group has a number

pub record Counting (m : ℕ) (graph leaders : List ℕ) (e : ℕ) (counts : List ℕ) : Type 0 where
  pub prepared : NumberReady m graph leaders
  pub room : length counts ≡ max_gates
  pub each : (l : ℕ) → l < m → get_or counts l 0 ≡ count_of leaders (crosses graph leaders) l e

-- the set holds the leaders below l that wait for nothing
pub record ReadyBelow (l : ℕ) (leaders counts ready : List ℕ) : Type 0 where
  pub room : length ready ≡ ready_words
  pub sound : (i : ℕ) → in_set ready i ≡ true → (i < l) × (get_or leaders i 0 ≡ i) × (get_or counts i 0 ≡ 0)
  pub complete : (i : ℕ) → i < l → get_or leaders i 0 ≡ i → get_or counts i 0 ≡ 0 → in_set ready i ≡ true

-- ---- the fan-out: its slots are counted down when the gate that they read gets its number

-- slot e reads gate k, which has its number; slots above it were counted down
pub record CountDownReady (m : ℕ) (graph : List ℕ) (e k : ℕ) (leaders numbers counts ready : List ℕ) : Type 0 where
  pub prepared : NumberReady m graph leaders
  pub slot : e < slots * m
  pub reads : slot_place graph e ≡ first_gate + k
  pub below : k < m
  pub numbered : unnumbered numbers k ≡ false
  pub waiting : Waiting m leaders numbers (get_or leaders k 0) (is_open graph leaders numbers k (e + 1)) counts ready

pub record CountDownAllReady (m : ℕ) (graph : List ℕ) (k : ℕ)
    (leaders numbers fanout counts ready : List ℕ) : Type 0 where
  pub prepared : NumberReady m graph leaders
  pub linked : Fanout m graph fanout
  pub below : k < m
  pub numbered : unnumbered numbers k ≡ false
  pub waiting : Waiting m leaders numbers (get_or leaders k 0)
      (is_open graph leaders numbers k (get_or fanout k 0)) counts ready

-- ---- the gates of a group

-- word j is the next gate of gate j's group behind it
abbrev pub NextsAre : List ℕ → ℕ → List ℕ → Type 0
NextsAre leaders m nexts = (j : ℕ) → j < m → FirstFrom leaders (get_or leaders j 0) m (j + 1) (get_or nexts j 0)

pub record AllLinked (m : ℕ) (graph leaders nexts fanout : List ℕ) : Type 0 where
  pub prepared : NumberReady m graph leaders
  pub nexts_are : NextsAre leaders m nexts
  pub linked : Fanout m graph fanout

pub record NumberGroupReady (m leader g : ℕ) (graph leaders nexts fanout numbers counts ready : List ℕ) : Type 0 where
  pub linked : AllLinked m graph leaders nexts fanout
  pub below : leader < m
  pub number_fits : g < max_gates
  pub bare : (j : ℕ) → j < m → get_or leaders j 0 ≡ leader → unnumbered numbers j ≡ true
  pub chosen : in_set ready leader ≡ true
  pub waiting : Waiting m leaders numbers m (all_open graph leaders numbers) counts ready

-- every gate of the group that `leader` leads has number g
pub record GroupNumbered (m leader g : ℕ) (graph leaders numbers numbers' counts' ready' : List ℕ) : Type 0 where
  pub room : length numbers' ≡ max_gates
  pub each : (j : ℕ) → j < m → get_or numbers' j 0 ≡ cond (eqb (get_or leaders j 0) leader) g (get_or numbers j 0)
  pub waiting : Waiting m leaders numbers' m (all_open graph leaders numbers') counts' ready'

-- the state in which numbering starts: no group has its number
pub record AllReady (m : ℕ) (graph leaders nexts fanout numbers counts ready : List ℕ) : Type 0 where
  pub linked : AllLinked m graph leaders nexts fanout
  pub numbers_are : NumberedUpTo m graph 0 numbers
  pub waiting : Waiting m leaders numbers m (all_open graph leaders numbers) counts ready

-- empty lists and an empty set
pub record NumberingReady (fanout ready : List ℕ) : Type 0 where
  pub unlinked : Empty fanout
  pub none : (l : ℕ) → in_set ready l ≡ false
