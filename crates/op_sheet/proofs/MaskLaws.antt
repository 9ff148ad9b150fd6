-- The setting's bytes that a record's two masks of inputs stand for. Assumes nothing.
use mathlib.Core.Path.{◌≡◌}
use mathlib.Core.Bool.{Bool, true, false, cond}
use Prim.Native.Nat.{ℕ, ◌≤◌}
use native.Mathlib.Omega.{arith}
use lib.ListN.{length}
use lib.Dec.{eqb}
use Rattle.prelude.proofs.Tab.{length-tab}
use Rattle.netlist.specs.Assignments.{bit}
use Rattle.netlist.specs.Sheet.{input_byte, setting_bytes}

-- one for each input
pub length-setting_bytes : (n fixed ones : ℕ) → length (setting_bytes n fixed ones) ≡ n
unfolding setting_bytes
length-setting_bytes n fixed ones = length-tab (input_byte fixed ones) n

-- each 0, 1 or 2
pub byte-most : (fixed ones i : ℕ) → input_byte fixed ones i ≤ 2
unfolding input_byte bit
byte-most fixed ones i = go (eqb (bit fixed i) 1)
  where
    go : (t : Bool) → cond t (bit ones i) 2 ≤ 2
    go true = omega arith
    go false = omega arith
