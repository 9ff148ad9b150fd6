-- The test of a setting's bytes, for three values (SPECIFICATION 7.5) and for two (7.16). Assumes nothing.
use Rattle.std.specs.Prelude.{ℕ, Bool, not, ◌||◌, List, length, eqb, leb}
use Rattle.prelude.specs.Lists.{all}

abbrev pub at_most : ℕ → ℕ → Bool
at_most most v = leb v most

-- not one byte for each of n inputs, or a byte above `most`
unfoldable pub is_bad_bytes : ℕ → ℕ → List ℕ → Bool
is_bad_bytes n most setting = not (eqb (length setting) n) || not (all (at_most most) setting)
