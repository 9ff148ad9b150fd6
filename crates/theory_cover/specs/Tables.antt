-- The tables that Cover's code keeps: which settings are settled, and which of the 3^n assignments are sound. Assumes
-- nothing.
use Rattle.std.specs.Prelude.{ℕ, ◌+◌, ◌-◌, ◌*◌, ◌^◌, ◌≤◌, ◌<◌, ◌≡◌, Bool, cond, not, ◌||◌, List, length, get_or, eqb}
use Rattle.std.specs.Int.Bits.{bit_and}
use Rattle.prelude.specs.Lists.{all, up_to}
use Rattle.netlist.specs.Limits.{max_inputs}
use Rattle.netlist.specs.Assignments.{bit}
use Rattle.netlist.specs.Assignments.{Assignment, fixes}
use Rattle.theory_cover.specs.Digits.{ternary_digit, numeral}

-- up to this number of inputs the tables are kept small
abbrev pub few_inputs : ℕ
few_inputs = 8

-- the settings at which the table has a 1
unfoldable pub settled_by : List ℕ → ℕ → Bool
settled_by table s = eqb (get_or table s 0) 1

-- digit i of an assignment in base 3: the value of a fixed input, 2 for a free one
unfoldable pub digit_of : Assignment → ℕ → ℕ
digit_of a i = cond (fixes a i) (bit a.ones i) 2

unfoldable pub ternary_number : ℕ → Assignment → ℕ
ternary_number n a = numeral 3 (digit_of a) n

-- the setting has the value of each digit that is not 2
unfoldable pub agrees_digits : ℕ → (ℕ → ℕ) → ℕ → Bool
agrees_digits n d s = all (λ i. eqb (d i) 2 || eqb (bit s i) (d i)) (up_to n)

unfoldable pub sound_digits : (ℕ → Bool) → ℕ → (ℕ → ℕ) → Bool
sound_digits p n d = all (λ s. not (agrees_digits n d s) || p s) (up_to (2 ^ n))

unfoldable pub byte_of : Bool → ℕ
byte_of b = cond b 1 0

-- for each ternary number of n digits, whether the assignment with these digits is sound
unfoldable pub sound_byte : (ℕ → Bool) → ℕ → ℕ → ℕ
sound_byte p n k = byte_of (sound_digits p n (ternary_digit 3 k))

-- the number whose ternary digits are the bits of a mask
unfoldable pub weight_of : ℕ → ℕ → ℕ
weight_of n m = numeral 3 (bit m) n

-- the weights of the masks of n bits
pub record Weighed (weights : List ℕ) (n : ℕ) : Type 0 where
  pub few : n ≤ max_inputs
  pub room : 2 ^ n ≤ length weights
  pub right : (m : ℕ) → m < 2 ^ n → get_or weights m 0 ≡ weight_of n m

-- the table of soundness while it is filled: the bytes below k are right, and the byte of setting s goes to k
pub record Filled (settled sound : List ℕ) (n s k : ℕ) : Type 0 where
  pub few : n ≤ max_inputs
  pub settings : 2 ^ n ≤ length settled
  pub room : 3 ^ n ≤ length sound
  pub number : k ≡ weight_of (n + 1) s
  pub right : (j : ℕ) → j < k → get_or sound j 0 ≡ sound_byte (settled_by settled) n j

-- the first m bytes from k on are 1 where both the byte `power` before and the one twice as far before are
pub record HalvesJoined (entry exit : List ℕ) (k power m : ℕ) : Type 0 where
  pub same_length : length exit ≡ length entry
  pub kept : (j : ℕ) → j < k → get_or exit j 0 ≡ get_or entry j 0
  pub both : (j : ℕ) → j < m
      → get_or exit (k + j) 0 ≡ bit_and (get_or entry (k - power + j) 0) (get_or entry (k - 2 * power + j) 0)
