-- A batch of settings on the way to its settled values, on pairs of words: what holds there, and what a sweep over
-- gates leaves.
--   Underway, Swept, room    pairs of the gates on the way, after a list of gates was evaluated, and how much can still
--                            change
--   place_of                  a place of a walk, there or back
-- Assumes nothing.
use Rattle.std.specs.Prelude.{◌≡◌, Bool, true, false, cond, List, [], ◌∷◌, map, ℕ, ◌+◌, ◌-◌, ◌*◌, ◌^◌, ◌≤◌, ◌<◌, length}
use Rattle.netlist.specs.Netlist.{Block, gate_count}
use Rattle.netlist.specs.Rounds.{settled}
use Rattle.theory_fixpoint.specs.Order.{BelowAll, Rising}
use Rattle.netlist.specs.Steps.{run}
use Rattle.lanes_dual_rail.specs.declared.Pair.{Pair}
use Rattle.lanes_dual_rail.specs.Pairs.{lane}
use Rattle.lanes_dual_rail.specs.PairRounds.{AllProper}

-- the pairs of the gates are, at every lane, on the way to the settled values
pub record Underway (b : Block) (lanes : ℕ) (x state : List Pair) : Type 0 where
  pub inputs_proper : AllProper lanes x
  pub proper : AllProper lanes state
  pub long : length state ≡ gate_count b
  pub rising : (s : ℕ) → s < lanes → Rising b (map (lane s) x) (map (lane s) state)
  pub below : (s : ℕ) → s < lanes → BelowAll (map (lane s) state) (settled b (map (lane s) x))

-- how far the words of all gates are from their greatest: it falls whenever a lane becomes 0 or 1
unfoldable pub room : ℕ → List Pair → ℕ
room lanes [] = 0
room lanes (p ∷ ps) = (2 * 2 ^ lanes - (p.zeros + p.ones)) + room lanes ps

-- the gates listed were evaluated one after the other, each pair stored at once, and `changed` tells whether any
-- changed
pub record Swept (b : Block) (lanes : ℕ) (x : List Pair) (js : List ℕ) (state after : List Pair) (changed : Bool) :
    Type 0 where
  pub proper : AllProper lanes after
  pub long : length after ≡ length state
  pub lanewise : (s : ℕ) → s < lanes → map (lane s) after ≡ run b (map (lane s) x) js (map (lane s) state)
  pub still : changed ≡ false → after ≡ state
  pub less : changed ≡ true → room lanes after < room lanes state
  pub most : room lanes after ≤ room lanes state

-- place i of a walk over `count` places, from the first or from the last
unfoldable pub place_of : Bool → ℕ → ℕ → ℕ
place_of back count i = cond back (count - 1 - i) i
