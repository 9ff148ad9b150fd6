-- What the limit on inputs gives: powers that fit a machine number. Assumes nothing.
use mathlib.Core.Path.{◌≡◌}
use Prim.Native.Nat.{ℕ, ◌+◌, ◌*◌, ◌%◌, ◌^◌, ◌≤◌}
use native.Mathlib.Nat.{pow-le-pow_right, pow-suc}
use native.Mathlib.Numerals.{add-one}
use native.Mathlib.Omega.{arith}
use lib.Pow.{pow_mono, pow-add}
use Rattle.netlist.specs.Limits.{max_inputs}

pub three-fits : {i n : ℕ} → i ≤ n → n ≤ max_inputs → 3 ^ i ≤ 3 ^ max_inputs
three-fits {i} l h = pow-le-pow_right {n = 3} (omega arith) {i = i} {j = max_inputs} (omega arith)

pub three-grows : {i n : ℕ} → i ≤ n → 3 ^ i ≤ 3 ^ n
three-grows {i} {n} l = pow-le-pow_right {n = 3} (omega arith) {i = i} {j = n} l

pub two_fits : {i n : ℕ} → i ≤ n → n ≤ max_inputs → 2 ^ i ≤ 2 ^ max_inputs
two_fits {i} l h = pow_mono {i = i} {j = max_inputs} (omega arith)

-- a power kept in a variable, one turn later
pub power-next : (b i : ℕ) {x : ℕ} → x ≡ b ^ i → x * b ≡ b ^ (i + 1)
power-next b i e = rw (add-one i, pow-suc b i, e)

-- a shift of 1 by the number of inputs
pub shifted : {n : ℕ} → n ≤ max_inputs → 1 * 2 ^ n % 2 ^ 64 ≡ 2 ^ n
shifted {n} h = let f : 2 ^ n ≤ 2 ^ max_inputs = two_fits {i = n} {n = n} (omega arith) h in omega arith

-- the number of pairs of masks
pub pairs-fit : {n : ℕ} → n ≤ max_inputs → 2 ^ n * 2 ^ n ≤ 2 ^ (2 * max_inputs)
pairs-fit {n} h = rw (← pow-add 2 n n) (pow_mono {i = n + n} {j = 2 * max_inputs} (omega arith))
