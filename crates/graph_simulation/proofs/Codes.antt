-- Values and their codes. Assumes nothing.
use mathlib.Core.Path.{◌≡◌, refl}
use mathlib.Core.Bool.{true, false}
use Prim.Native.Nat.{ℕ, zero, suc, ◌+◌, ◌*◌, ◌%◌, ◌≤◌, ◌<◌}
use native.Mathlib.Omega.{arith}
use Rattle.netlist.specs.Values.{Value, undefined, val, code, value_of, invert}

-- a code is its own
pub code_same : (v : ℕ) → v ≤ 2 → code (value_of v) ≡ v
unfolding code value_of
code_same zero h = refl
code_same (suc zero) h = refl
code_same (suc (suc zero)) h = refl
code_same (suc (suc (suc v))) h = absurd (omega arith)

-- 0 and 1 are their own codes
pub code-low : (v : ℕ) → v < 2 → code (value_of v) ≡ v
unfolding code value_of
code-low zero h = refl
code-low (suc zero) h = refl
code-low (suc (suc v)) h = absurd (omega arith)

-- a code is at most 2
pub code-most : (v : Value) → code v ≤ 2
unfolding code
code-most undefined = omega arith
code-most (val false) = omega arith
code-most (val true) = omega arith

-- inversion by arithmetic: the remainder of 2 × v + 1 by 3 swaps 0 and 1 and keeps 2
pub remainder-swaps : (v : Value) → (2 * code v + 1) % 3 ≡ code (invert v)
unfolding code invert
remainder-swaps undefined = refl
remainder-swaps (val false) = refl
remainder-swaps (val true) = refl
