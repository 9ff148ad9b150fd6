-- Numbers that were read from the words of ours. Cited by `settings`.
--   lowest-few          an output's number
--   setting-count       the number of settings
-- Assumes nothing.
use mathlib.Core.Path.{◌≡◌, refl, ◌∙◌}
use mathlib.Core.Bool.{Bool, false}
use mathlib.Core.List.{List}
use Prim.Native.Nat.{ℕ, ◌^◌, ◌<◌}
use native.Mathlib.Omega.{arith}
use lib.ListN.{get_or}
use Rattle.prelude.specs.Lists.{least}
use Rattle.prelude.proofs.Least.{least-le}
use Rattle.netlist.specs.StoredBlock.{decode, is_malformed}
use Rattle.netlist.specs.Rounds.{setting_count}
use Rattle.theory_encoding.proofs.Decoded.{decode-input_count}
use Rattle.theory_encoding.proofs.Readers.{whole_parts}

-- the outputs of a whole block
module _ (ws : List ℕ) (whole : is_malformed ws ≡ false) where
  pub lowest-few : (test : ℕ → Bool) {o : ℕ} → o ≡ least test (get_or ws 2 0) → o < 2 ^ 32
  lowest-few test e = omega (arith, e, least-le test (get_or ws 2 0), (whole_parts ws whole).few_outputs)

-- the number of settings, as read
pub setting-count : (ours : List ℕ) {n count : ℕ} → n ≡ get_or ours 0 0 → count ≡ 2 ^ n
    → count ≡ setting_count (decode ours)
unfolding setting_count
setting-count ours e f = f ∙ rw (e, decode-input_count ours) refl
