-- SPECIFICATION 3.5, chaotic iteration (Chazan and Miranker, "Chaotic relaxation", 1969): what is claimed of gates that
-- are evaluated one at a time, in whatever order a queue yields. `any_order` in proofs/Shown.antt shows the claim for
-- every block, every setting and every finite sequence. Assumes nothing.
--
--   b        any block: gates of all seven kinds, with loops or without; never lines play no part
--   x        the inputs' values, one each, 0, 1 or undefined
--   gates    gate numbers, in the order in which the gates are evaluated: a gate may stand there often, or not at all,
--            and the list may be empty
--   settled  the settled values of 3.3, which rounds of all gates at once reach from all undefined
use Rattle.std.specs.Prelude.{ℕ, ◌<◌, ◌≡◌, Bool, List, get_or, take, replicate}
use Rattle.netlist.specs.Values.{Value, undefined, val}
use Rattle.netlist.specs.Netlist.{Block, gate_count, gate_of}
use Rattle.netlist.specs.Rounds.{evaluated, settled}
use Rattle.netlist.specs.Steps.{run}

-- what the gates hold after these evaluations, one after the other, from all undefined
abbrev pub held : Block → List Value → List ℕ → List Value
held b x gates = run b x gates (replicate (gate_count b) undefined)

-- the value that gate j holds in a state
abbrev pub held_by : List Value → ℕ → Value
held_by state j = get_or state j undefined

pub record AnyOrder (b : Block) (x : List Value) (gates : List ℕ) : Type 0 where
  -- Whenever a gate holds 0 or 1, after the first t evaluations for any t, that is its settled value.
  pub never_another : (t j : ℕ) (c : Bool) → held_by (held b x (take t gates)) j ≡ val c → held_by (settled b x) j ≡ val c
  -- If at the end no gate's evaluation would change it, all gates hold their settled values.
  pub at_rest : ((j : ℕ) → j < gate_count b → evaluated x (held b x gates) (gate_of b j) ≡ held_by (held b x gates) j)
      → held b x gates ≡ settled b x
