-- The record whose masks of outputs are gathered. Assumes nothing.
use mathlib.Core.Path.{◌≡◌}
use mathlib.Core.List.{List}
use Prim.Native.Nat.{ℕ, ◌≤◌}
use native.Mathlib.Omega.{arith}
use lib.ListN.{drop}
use Rattle.netlist.specs.Values.{Value}
use Rattle.netlist.specs.Sheet.{showing}
use Rattle.words_layout.proofs.Gathered.{Gathered}

-- the record of the masks of all outputs
pub gathered-record : {vs : List Value} {o d v : ℕ} (fixed ones : ℕ) → Gathered vs o d v → o ≤ 0
    → record { fixed = fixed; ones = ones; number = 0; defined = d; values = v } ≡ showing fixed ones vs
unfolding showing
gathered-record {vs} {o} fixed ones g z =
    let e : o ≡ 0 = omega arith in
    let p : drop o vs ≡ vs = rw e in
    rw (g.defineds, g.ones, p)
