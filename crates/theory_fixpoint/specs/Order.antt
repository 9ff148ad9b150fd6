-- The information order on values and states, in which undefined is below 0 and 1, and the sets of gates that it is
-- asked on. In it gates are monotone, so that rounds rise to a least fixpoint (Kleene's and Tarski's theorem). The laws
-- of this crate, and the crates that cite them, are stated with these. Assumes nothing.
use Rattle.std.specs.Prelude.{ℕ, ◌+◌, ◌<◌, ◌≡◌, ◌⊎◌, Bool, true, cond, List, [], ◌∷◌, get_or}
use Rattle.prelude.specs.Lists.{member}
use Rattle.netlist.specs.Values.{Value, undefined, val, is_defined}
use Rattle.netlist.specs.Netlist.{Block, gate_count, gate_of}
use Rattle.netlist.specs.Rounds.{evaluated}
use Rattle.netlist.specs.Groups.{reads}

-- v says no more than w: it is undefined, or the same
abbrev pub Below : Value → Value → Type 0
Below v w = (b : Bool) → v ≡ val b → w ≡ val b

-- one list of operand values says no more than another, value by value
pub data BelowEach : List Value → List Value → Type 0 where
  none : BelowEach [] []
  more : {v w : Value} {vs ws : List Value} → Below v w → BelowEach vs ws → BelowEach (v ∷ vs) (w ∷ ws)

-- one state says no more than another, on a set of gates
abbrev pub BelowOn : (ℕ → Type 0) → List Value → List Value → Type 0
BelowOn S v w = (j : ℕ) → S j → Below (get_or v j undefined) (get_or w j undefined)

-- one state says no more than another, at every gate
abbrev pub BelowAll : List Value → List Value → Type 0
BelowAll v w = (j : ℕ) → Below (get_or v j undefined) (get_or w j undefined)

-- the set's gates read only inputs, constants and gates of the set
abbrev pub ClosedOrder : Block → (ℕ → Type 0) → Type 0
ClosedOrder b S = (j k : ℕ) → S j → j < gate_count b → reads b j k ≡ true → S k

-- the gates listed, as a set
abbrev pub Listed : List ℕ → ℕ → Type 0
Listed js j = member j js ≡ true

-- `group` reads only itself and the gates `before`, of which none is in the group
pub record Follows (b : Block) (before : ℕ → Type 0) (group : List ℕ) : Type 0 where
  pub inside : (j k : ℕ) → Listed group j → reads b j k ≡ true → before k ⊎ Listed group k
  pub apart : (k : ℕ) → before k → Listed group k → ⊥

-- how many of the gates listed have a value 0 or 1
unfoldable pub defined_among : List ℕ → List Value → ℕ
defined_among [] v = 0
defined_among (j ∷ js) v = cond (is_defined (get_or v j undefined)) 1 0 + defined_among js v

-- the state is below its own round, so that steps only add to it
abbrev pub Rising : Block → List Value → List Value → Type 0
Rising b x v = (j : ℕ) → Below (get_or v j undefined) (evaluated x v (gate_of b j))
