-- Words with a bit at each lane of a batch whose setting passes a test. Cited by the contracts of the crates above that
-- mask lanes or compare outputs.
--   has_lane       the bit of a lane
--   Tells         a word that has the bits of a test
-- Assumes nothing.
use Rattle.std.specs.Prelude.{◌≡◌, Bool, ℕ, ◌+◌, ◌^◌, ◌<◌, eqb}
use Rattle.netlist.specs.Assignments.{bit}

unfoldable pub has_lane : ℕ → ℕ → Bool
has_lane word s = eqb (bit word s) 1

-- of a batch of so many settings from number `base` on: the word has a bit at lane s exactly where setting base + s
-- passes the test, and no bit past the last lane
pub record Tells (lanes base : ℕ) (test : ℕ → Bool) (word : ℕ) : Type 0 where
  pub within : word < 2 ^ lanes
  pub each : (s : ℕ) → s < lanes → has_lane word s ≡ test (base + s)
