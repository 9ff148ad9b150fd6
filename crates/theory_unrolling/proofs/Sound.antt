-- In a sound block every setting that may come is settled. Render's code and the agreement cite it.
--   sound-at                           in a sound block every setting never comes or is settled
--   sound-settled_at                    in a sound block every setting that may come is settled
--   agrees-nothing                     every setting agrees with the assignment that fixes nothing
-- Assumes nothing.
use Prim.Native.Nat.{ℕ, ◌<◌}
use mathlib.Core.Path.{◌≡◌, refl}
use mathlib.Core.Bool.{true, false, not, ◌||◌}
use native.Mathlib.Nat.{zero-div, zero-mod}
use lib.Dec.{eqb}
use Rattle.prelude.proofs.Quantifiers.{all-below, below_all}
use Rattle.netlist.specs.Netlist.{Block, input_count}
use Rattle.netlist.specs.Assignments.{bit, Assignment, fixes, agrees}
use Rattle.netlist.specs.Rounds.{setting_count, is_settled, is_excluded, is_sound_at}
use Rattle.netlist.specs.Cover.{is_sound_under, is_sound}

nothing : Assignment
nothing = record { fixed = 0; ones = 0 }

bit-zero : (i : ℕ) → bit 0 i ≡ 0
unfolding bit
bit-zero i = rw (zero-div, zero-mod) refl

-- Every setting agrees with the assignment that fixes no input.
pub agrees-nothing : (n s : ℕ) → agrees n (record { fixed = 0; ones = 0 }) s ≡ true
unfolding agrees fixes nothing
agrees-nothing n s = below_all (λ i. not (fixes nothing i) || eqb (bit s i) (bit 0 i)) n (λ i l. rw (bit-zero i) refl)

module _ (b : Block) where
  -- In a sound block every setting never comes or is settled.
  pub sound-at : is_sound b ≡ true → (s : ℕ) → s < setting_count b → is_sound_at b s ≡ true
  unfolding is_sound is_sound_under nothing
  sound-at h s l =
      rw (agrees-nothing (input_count b) s) at
      (all-below (λ s. not (agrees (input_count b) nothing s) || is_sound_at b s) (setting_count b) s h l)

  -- One that may come is settled.
  pub sound-settled_at : is_sound b ≡ true → (s : ℕ) → s < setting_count b → is_excluded b s ≡ false → is_settled b s ≡ true
  unfolding is_sound_at
  sound-settled_at h s l e = rw e at (sound-at h s l)
