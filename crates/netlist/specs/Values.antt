-- SPECIFICATION 3.1: the values and their codes.
use Rattle.std.specs.Prelude.{ℕ, zero, suc, Bool, true, false, not}

-- `val false` is 0 and `val true` is 1
pub data Value : Type 0 where
  undefined : Value
  val : Bool → Value

-- the number of a value in settings and results
unfoldable pub code : Value → ℕ
code (val false) = 0
code (val true) = 1
code undefined = 2

-- the value of a code; any other number counts as undefined
unfoldable pub value_of : ℕ → Value
value_of zero = val false
value_of (suc zero) = val true
value_of (suc (suc n)) = undefined

-- the value of `not`
unfoldable pub invert : Value → Value
invert undefined = undefined
invert (val b) = val (not b)

unfoldable pub is_defined : Value → Bool
is_defined undefined = false
is_defined (val b) = true
