-- SPECIFICATION 4.1: masks of inputs or outputs, partial assignments, and the settings that agree with one. Entries of
-- a cover and never lines are such assignments.
use Rattle.std.specs.Prelude.{ℕ, ◌+◌, ◌*◌, ◌/◌, ◌%◌, ◌^◌, Bool, false, cond, not, ◌&&◌, ◌||◌, List, [], ◌∷◌, eqb, leb, ltb}
use Rattle.prelude.specs.Lists.{all, up_to}
use Rattle.netlist.specs.Values.{Value, undefined, val}

-- bit i of a mask, and input i in setting number s
unfoldable pub bit : ℕ → ℕ → ℕ
bit s i = s / 2 ^ i % 2

-- the mask whose bit i is 1 where value i passes the test
unfoldable pub mask_of : (Value → Bool) → List Value → ℕ
mask_of test [] = 0
mask_of test (v ∷ vs) = cond (test v) 1 0 + 2 * mask_of test vs

unfoldable pub is_one : Value → Bool
is_one undefined = false
is_one (val b) = b

-- two masks with weight 2^i for input i: the inputs that are fixed, and those of them that are fixed at 1
pub record Assignment : Type 0 where
  pub fixed : ℕ
  pub ones : ℕ

unfoldable pub fixes : Assignment → ℕ → Bool
fixes a i = eqb (bit a.fixed i) 1

-- the settings that agree with it have its values at the inputs that it fixes
unfoldable pub agrees : ℕ → Assignment → ℕ → Bool
agrees n a s = all (λ i. not (fixes a i) || eqb (bit s i) (bit a.ones i)) (up_to n)

-- an input at 1 is a fixed one
unfoldable pub is_within : ℕ → ℕ → ℕ → Bool
is_within n f o = all (λ i. leb (bit o i) (bit f i)) (up_to n)

-- the two masks of an assignment of n inputs: no bit at or above n, and no input at 1 that is not fixed
unfoldable pub are_masks : ℕ → ℕ → ℕ → Bool
are_masks n f o = ltb f (2 ^ n) && ltb o (2 ^ n) && is_within n f o
