-- How many settings there are, and the lowest that may come and is not settled. Assumes nothing.
use mathlib.Core.Path.{◌≡◌, refl, sym}
use mathlib.Core.Bool.{true, false, not}
use Prim.Native.Nat.{ℕ, ◌^◌, ◌≤◌, ◌<◌}
use lib.Pow.{pow_mono}
use Rattle.prelude.proofs.Least.{least-is}
use Rattle.netlist.specs.Limits.{max_inputs}
use Rattle.netlist.specs.Netlist.{Block, input_count}
use Rattle.netlist.specs.Rounds.{setting_count, is_sound_at, lowest_unsettled}

module _ (b : Block) where
  -- there are 2^n settings
  pub setting-count : (n count : ℕ) → n ≡ input_count b → count ≡ 2 ^ n → count ≡ setting_count b
  unfolding setting_count
  setting-count n count e f = rw (f, e) refl

  -- the first that may come and is not settled, with no such below it, is the lowest
  pub lowest-found : (r count : ℕ) → count ≡ setting_count b → r ≤ count → ((i : ℕ) → i < r → is_sound_at b i ≡ true)
      → (r < count → is_sound_at b r ≡ false) → r ≡ lowest_unsettled b
  unfolding lowest_unsettled
  lowest-found r count e l before at =
      sym (least-is (λ s. not (is_sound_at b s)) (setting_count b) r (rw (← e) l) (λ i m. rw (before i m) refl)
      (λ m. rw (at (rw e m)) refl))

-- at most as many settings as the most inputs have
pub few-settings : (n : ℕ) → n ≤ max_inputs → 2 ^ n ≤ 2 ^ max_inputs
few-settings n l = pow_mono l
