-- The three tests of a setting, from whether it may come and whether an output is undefined.
--   unsound-tells, counted-tells, sound-tells
--   ends-near        where a block's outputs stand
-- Assumes nothing.
use mathlib.Core.Path.{◌≡◌, refl}
use mathlib.Core.Bool.{Bool, true, false, not, ◌&&◌, ◌||◌}
use Prim.Native.Nat.{ℕ}
use lib.Bits.{bit_and, bit_xor}
use Rattle.netlist.specs.Netlist.{Block}
use Rattle.netlist.specs.Rounds.{is_settled, is_excluded, is_counted, is_sound_at}
use Rattle.lanes_dual_rail.specs.Pairs.{full}
use Rattle.lanes_dual_rail.specs.Words.{Tells}
use Rattle.lanes_settings.specs.Nevers.{may_come}
use Rattle.lanes_settings.specs.Lanes.{is_unsettled, is_unsound}
use Rattle.lanes_dual_rail.proofs.WordLaws.{tells_as, tells-and, tells-not}

module _ {lanes base : ℕ} (b : Block) {v w : ℕ} where
  pub unsound-tells : Tells lanes base (may_come b) v → Tells lanes base (is_unsettled b) w
      → Tells lanes base (is_unsound b) (bit_and v w)
  unfolding may_come is_unsettled is_unsound is_sound_at
  unsound-tells t u = tells_as (λ s. go (is_excluded b s) (is_settled b s)) (tells-and t u)
    where
      go : (e f : Bool) → not e && not f ≡ not (e || f)
      go true f = refl
      go false f = refl

  pub counted-tells : Tells lanes base (may_come b) v → Tells lanes base (is_unsettled b) w
      → Tells lanes base (is_counted b) (bit_and v (bit_xor (full lanes) w))
  unfolding may_come is_unsettled is_counted
  counted-tells t u = tells_as (λ s. go (is_excluded b s) (is_settled b s)) (tells-and t (tells-not u))
    where
      go : (e f : Bool) → not e && not (not f) ≡ not e && f
      go e true = refl
      go e false = refl

pub sound-tells : {lanes base : ℕ} (b : Block) {w : ℕ} → Tells lanes base (is_unsound b) w
    → Tells lanes base (is_sound_at b) (bit_xor (full lanes) w)
unfolding is_unsound
sound-tells b t = tells_as (λ s. go (is_sound_at b s)) (tells-not t)
  where
    go : (e : Bool) → not (not e) ≡ e
    go true = refl
    go false = refl
