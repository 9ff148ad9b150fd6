-- What Settle leaves in its slice. Assumes nothing.
use Rattle.std.specs.Prelude.{◌≡◌, List, map, ℕ}
use Rattle.prelude.specs.Lists.{placed}
use Rattle.netlist.specs.Values.{code, value_of}
use Rattle.netlist.specs.StoredBlock.{decode}
use Rattle.netlist.specs.Rounds.{rounds, settled}

-- the settled values in the first bytes of a slice, and the number of rounds
pub record Settled (ws setting entry exit : List ℕ) (count : ℕ) : Type 0 where
  pub values : exit ≡ placed (map code (settled (decode ws) (map value_of setting))) entry
  pub reported : count ≡ rounds (decode ws) (map value_of setting)
