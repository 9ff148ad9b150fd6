-- The pairs of a group's gates in an array of two words a place, gate j's at place first_gate + j.
--   group_of                  the group of a turn
--   Apart                    a place that is none of the group's gates'
--   Put                      the group's pairs taken from a source
--   agree_at, differ_at, Differs, Lacks   two states compared at the group's gates
-- Assumes nothing.
use Rattle.std.specs.Prelude.{ℕ, ◌+◌, ◌<◌, ◌≡◌, Bool, true, false, not, List, eqb, length}
use Rattle.prelude.specs.Lists.{all, member}
use Rattle.netlist.specs.Values.{code}
use Rattle.netlist.specs.Netlist.{Block}
use Rattle.netlist.specs.Rounds.{is_excluded}
use Rattle.graph_gates.specs.Places.{first_gate}
use Rattle.lanes_dual_rail.specs.Pairs.{lane, Proper}
use Rattle.lanes_dual_rail.specs.Batches.{lanes_of}
use Rattle.lanes_dual_rail.specs.LaneWords.{pair_at}
use Rattle.lanes_dual_rail.specs.Words.{Tells}
use Rattle.lanes_batch.specs.Layered.{part}
use Rattle.unroll_depth.specs.declared.passes.Turn.{Turn}

-- the gates at the turn's positions
abbrev pub group_of : List ℕ → Turn → List ℕ
group_of members turn = part false members turn.from turn.end

-- place p is none of the gates' listed
abbrev pub Apart : List ℕ → ℕ → Type 0
Apart group p = (j : ℕ) → member j group ≡ true → p ≡ first_gate + j → ⊥

-- the pairs of the gates listed are those of the source, undefined past its end; the others stay
pub record Put (group source w after : List ℕ) : Type 0 where
  pub long : length after ≡ length w
  pub inside : (j : ℕ) → member j group ≡ true → pair_at after (first_gate + j) ≡ pair_at source (first_gate + j)
  pub outside : (p : ℕ) → Apart group p → pair_at after p ≡ pair_at w p

-- the pairs of the gates listed are proper
abbrev pub ProperAt : ℕ → List ℕ → List ℕ → Type 0
ProperAt lanes group w = (j : ℕ) → member j group ≡ true → Proper lanes (pair_at w (first_gate + j))

-- at lane s each of the gates listed has the same value in both states
unfoldable pub agree_at : List ℕ → List ℕ → List ℕ → ℕ → Bool
agree_at group w other s =
    all (λ j. eqb (code (lane s (pair_at w (first_gate + j)))) (code (lane s (pair_at other (first_gate + j))))) group

-- at lane s one of the gates listed has another value in one state than in the other
unfoldable pub differ_at : List ℕ → List ℕ → List ℕ → ℕ → Bool
differ_at group w other s = not (agree_at group w other s)

-- the word marks the lanes at which one of the gates listed has another value
pub record Differs (group w other : List ℕ) (word : ℕ) : Type 0 where
  pub tells : (lanes : ℕ) → ProperAt lanes group w → ProperAt lanes group other
      → Tells lanes 0 (differ_at group w other) word

-- whether one of the gates listed has another value at the lane of a setting that may come
pub record Lacks (b : Block) (n base : ℕ) (group w other : List ℕ) (r : Bool) : Type 0 where
  pub some : r ≡ true
      → (s : ℕ) × (s < lanes_of n) × (is_excluded b (base + s) ≡ false) × (agree_at group w other s ≡ false)
  pub none : r ≡ false → (s : ℕ) → s < lanes_of n → is_excluded b (base + s) ≡ false → agree_at group w other s ≡ true
