-- Numbers by their digits in a base, for numbering partial assignments in base 3. Assumes nothing.
use Rattle.std.specs.Prelude.{ℕ, zero, suc, ◌+◌, ◌*◌, ◌/◌, ◌%◌, ◌^◌}

-- digit i of k in base b, the lowest being digit 0
unfoldable pub ternary_digit : ℕ → ℕ → ℕ → ℕ
ternary_digit b k i = k / b ^ i % b

-- the number whose n digits in base b are d 0, d 1, .., d (n - 1)
unfoldable pub numeral : ℕ → (ℕ → ℕ) → ℕ → ℕ
numeral b d zero = 0
numeral b d (suc n) = numeral b d n + d n * b ^ n
