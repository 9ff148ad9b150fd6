-- What a run asks of the values that it reads. Assumes nothing.
use Rattle.std.specs.Prelude.{List, ℕ, ◌≤◌, get_or}

-- a list of bits: no number is above 1; past the end there are zeros
abbrev pub Bits : List ℕ → Type 0
Bits vs = (i : ℕ) → get_or vs i 0 ≤ 1

-- the setting and the values found so far are lists of bits
pub record ReadsBits (setting found : List ℕ) : Type 0 where
  pub of_setting : Bits setting
  pub of_found : Bits found
