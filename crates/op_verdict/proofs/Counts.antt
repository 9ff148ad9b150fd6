-- How many settings are settled, batch by batch.
--   sound-counted, count-le, count-end     of one setting; of all
--   count-coming, reached, count-batch     of one batch
-- Assumes nothing.
use mathlib.Core.Path.{◌≡◌, refl, sym}
use mathlib.Core.Bool.{Bool, true, false, not, cond, ◌&&◌, ◌||◌}
use mathlib.Core.List.{List}
use Prim.Native.Nat.{ℕ, zero, suc, ◌+◌, ◌^◌, ◌≤◌, ◌<◌}
use native.Mathlib.Nat.{add-zero, add-suc, add_assoc}
use native.Mathlib.Omega.{arith}
use lib.ListN.{get_or}
use Rattle.prelude.specs.Lists.{count_below}
use Rattle.prelude.proofs.Counting.{count_below-le, count_below-ext}
use Rattle.netlist.specs.Limits.{max_inputs}
use Rattle.netlist.specs.Netlist.{Block}
use Rattle.netlist.specs.Rounds.{setting_count, is_settled, is_excluded, is_counted, is_sound_at, settled_settings}
use Rattle.lanes_settings.specs.Nevers.{may_come}
use Rattle.lanes_settings.specs.Batches.{FirstBatch}
use Rattle.lanes_settings.proofs.Counting.{few-settings}
use Rattle.lanes_settings.proofs.Batching.{Place}
use Rattle.op_verdict.specs.Counts.{FirstReached, counted_from}

module _ (b : Block) where
  -- of those that are not unsettled, the ones that may come are settled
  pub sound-counted : (s : ℕ) → is_sound_at b s ≡ true → may_come b s ≡ is_counted b s
  unfolding is_sound_at is_counted may_come
  sound-counted s = go (is_excluded b s) (is_settled b s)
    where
      go : (e t : Bool) → e || t ≡ true → not e ≡ not e && t
      go true t h = refl
      go false t h = sym h

  pub count-le : (s : ℕ) → count_below (is_counted b) s ≤ s
  count-le s = count_below-le (is_counted b) s

  -- all settings
  pub count-end : (s count : ℕ) → count ≡ setting_count b → s ≡ count → count_below (is_counted b) s ≡ settled_settings b
  unfolding settled_settings
  count-end s count e f = rw (f, e) refl

count_add : (p : ℕ → Bool) (a k : ℕ) → count_below p (a + k) ≡ count_below p a + count_below (λ s. p (a + s)) k
count_add p a zero = rw (add-zero a) (sym (add-zero (count_below p a)))
count_add p a (suc k) =
    rw (add-suc a k, count_add p a k)
    (add_assoc (count_below p a) (count_below (λ s. p (a + s)) k) (cond (p (a + k)) 1 0))

-- below the first batch with another
pub count-coming : (b : Block) (base lanes : ℕ) {first : ℕ} → ((i : ℕ) → i < first → is_sound_at b i ≡ true)
    → base + lanes ≤ first
    → count_below (λ s. may_come b (base + s)) lanes ≡ count_below (counted_from b base) lanes
unfolding counted_from
count-coming b base lanes before h =
    count_below-ext (λ s. may_come b (base + s)) (counted_from b base) lanes
    (λ s l. sound-counted b (base + s) (before (base + s) (omega arith)))

-- the batch at `base`, when the lanes have not been changed up to the first batch with another
pub reached : {ws : List ℕ} {first base : ℕ} {w after : List ℕ} → FirstBatch ws first w → Place (get_or ws 0 0) base
    → get_or ws 0 0 ≤ max_inputs → base < 2 ^ get_or ws 0 0 → (base ≤ first → after ≡ w) → FirstReached ws first base after
reached {ws} f place few l kept =
    record {
      aligned = place.aligned l;
      near = omega (arith, few-settings (get_or ws 0 0) few);
      before = f.before;
      held = λ e. let k = kept (omega arith) in rw (e, k) (f.judged (rw (← e) l));
    }

pub count-batch : (b : Block) (base : ℕ) {lanes step count more : ℕ} → step ≡ lanes
    → count ≡ count_below (is_counted b) base
    → more ≡ count_below (counted_from b base) lanes → count + more ≡ count_below (is_counted b) (base + step)
unfolding counted_from
count-batch b base {lanes} is e f = rw (is, e, f) (sym (count_add (is_counted b) base lanes))
