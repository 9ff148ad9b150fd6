-- Batches one after the other.
--   Place, place-first, place-next    where a batch starts
--   lanes_of-some                      a batch has a lane
--   passed-sound, found-unsound       what the outputs' words tell of a batch
--   batch-more, lowest-in-batch       one batch more; the lowest setting in the first batch that has one
--   batch-marks                       such a batch has a lane that is marked
-- Assumes nothing.
use mathlib.Core.Path.{◌≡◌, refl, sym, ap}
use mathlib.Core.Logic.{⊎_elim}
use mathlib.Core.Bool.{Bool, true, false, not, ◌||◌}
use mathlib.Core.List.{List}
use Prim.Native.Nat.{ℕ, ◌+◌, ◌-◌, ◌*◌, ◌%◌, ◌^◌, ◌≤◌, ◌<◌, min}
use native.Mathlib.Nat.{min-le_left, min-eq_left, min-eq_right}
use native.Mathlib.Omega.{arith}
use lib.Bits.{bit_and}
use lib.ListN.{get_or}
use lib.Pow.{pow_mono, pow_pos, pow-add}
use Rattle.prelude.specs.Lists.{least}
use Rattle.prelude.proofs.Tests.{bool_cases, lt-or-le, not-both, and_intro, and_left, and_right}
use Rattle.netlist.specs.Netlist.{Block}
use Rattle.netlist.specs.StoredBlock.{outputs_at, decode}
use Rattle.netlist.specs.Rounds.{setting_count, is_settled, is_excluded, is_sound_at, lowest_unsettled}
use Rattle.theory_encoding.proofs.Decoded.{decode-input_count}
use Rattle.lanes_dual_rail.specs.Batches.{lanes_of}
use Rattle.lanes_dual_rail.proofs.InputLaws.{lanes_of-most}
use Rattle.lanes_dual_rail.specs.Words.{has_lane, Tells}
use Rattle.lanes_settings.specs.Nevers.{may_come}
use Rattle.lanes_settings.specs.Lanes.{Judged, is_undefined_at, is_unsettled, is_unsound, undefined_word}
use Rattle.lanes_dual_rail.proofs.WordLaws.{tells-and, tells-no-lane, tells-some, tells-lowest}
use Rattle.lanes_settings.proofs.OutputLaws.{undefined-tells, undefined-some, undefined-unsettled}
use Rattle.lanes_settings.specs.Batches.{FirstBatch}
use Rattle.lanes_settings.proofs.Counting.{lowest-found}

-- ---- where a batch starts

-- the batches of n inputs up to `base` are whole, and so is the one there, unless it is past the last
pub record Place (n base : ℕ) : Type 0 where
  pub within : base ≤ 2 ^ n
  pub aligned : base < 2 ^ n → base % 64 ≡ 0
  pub whole : base < 2 ^ n → base + lanes_of n ≤ 2 ^ n

pub place-first : (n : ℕ) → Place n 0
unfolding lanes_of
place-first n =
    record {
      within = omega arith;
      aligned = λ l. refl;
      whole = λ l. let h : 2 ^ min n 6 ≤ 2 ^ n = pow_mono {i = min n 6} {j = n} (min-le_left n 6) in omega arith;
    }

pub place-next : {n base step count : ℕ} → step ≡ lanes_of n → count ≡ 2 ^ n → Place n base → base < count
    → Place n (base + step)
unfolding lanes_of
place-next {n} {base} {step} {count} is many-are p h = rw is (⊎_elim few many (lt-or-le n 6))
  where
    l : base < 2 ^ n
    l = rw (← many-are) h

    few : n < 6 → Place n (base + lanes_of n)
    few h =
        let e : lanes_of n ≡ 2 ^ n = ap (λ (k : ℕ). 2 ^ k) (min-eq_left {n = n} {m = 6} (omega arith)) in
        let w = p.whole l in
        record { within = w; aligned = λ m. absurd (omega arith); whole = λ m. absurd (omega arith) }

    many : 6 ≤ n → Place n (base + lanes_of n)
    many h =
        let e : lanes_of n ≡ 64 = ap (λ (k : ℕ). 2 ^ k) (min-eq_right {n = 6} {m = n} h) in
        let d : n - 6 + 6 ≡ n = omega arith in
        let f : 2 ^ n ≡ 2 ^ (n - 6) * 64 = rw d at (pow-add 2 (n - 6) 6) in
        let w = p.whole l in
        let a = p.aligned l in
        record { within = w; aligned = λ m. omega arith; whole = λ m. omega arith }

pub lanes_of-some : (n : ℕ) → 0 < lanes_of n
unfolding lanes_of
lanes_of-some n = pow_pos (min n 6)

-- ---- what the outputs' words tell

-- a setting that is not sound may come and is not settled
unsound-both : (b : Block) (s : ℕ) → is_sound_at b s ≡ false → (may_come b s ≡ true) × (is_unsettled b s ≡ true)
unfolding is_sound_at may_come is_unsettled
unsound-both b s = go (is_excluded b s) (is_settled b s)
  where
    go : (e t : Bool) → e || t ≡ false → (not e ≡ true) × (not t ≡ true)
    go true t h = not-both refl h
    go false true h = not-both refl h
    go false false h = (refl, refl)

both-unsound : (b : Block) (s : ℕ) → may_come b s ≡ true → is_unsettled b s ≡ true → is_sound_at b s ≡ false
unfolding is_sound_at may_come is_unsettled
both-unsound b s = go (is_excluded b s) (is_settled b s)
  where
    go : (e t : Bool) → not e ≡ true → not t ≡ true → e || t ≡ false
    go true t h k = not-both h refl
    go false true h k = not-both k refl
    go false false h k = refl

module _ {ws : List ℕ} {n base : ℕ} {w : List ℕ} (j : Judged ws n base w) {at : ℕ}
    (first : at ≡ outputs_at (get_or ws 0 0) (get_or ws 3 0) (get_or ws 1 0)) {coming : ℕ}
    (comes : Tells (lanes_of n) base (may_come (decode ws)) coming) where
  -- no output is undefined at a lane that may come
  pub passed-sound : ((o : ℕ) → o < get_or ws 2 0 → bit_and coming (undefined_word ws at n w o) ≡ 0)
      → (s : ℕ) → s < lanes_of n → is_sound_at (decode ws) (base + s) ≡ true
  passed-sound none s l = ⊎_elim (λ h. h) (λ h. absurd (no-lane h)) (bool_cases (is_sound_at (decode ws) (base + s)))
    where
      no-lane : is_sound_at (decode ws) (base + s) ≡ false → ⊥
      no-lane h =
          let u = unsound-both (decode ws) (base + s) h in
          let f = undefined-some ws (base + s) u.1 in
          not-both
          (and_intro (may_come (decode ws) (base + s)) (is_undefined_at (decode ws) f.0 (base + s)) u.0 f.2)
          (tells-no-lane (tells-and comes (undefined-tells j first f.0 f.1)) (none f.0 f.1) s l)

  -- an output is undefined at one
  pub found-unsound : (o : ℕ) → o < get_or ws 2 0 → (bit_and coming (undefined_word ws at n w o) ≡ 0 → ⊥)
      → (s : ℕ) × (s < lanes_of n) × (is_sound_at (decode ws) (base + s) ≡ false)
  found-unsound o l h =
      let f = tells-some (tells-and comes (undefined-tells j first o l)) h in
      let may = may_come (decode ws) (base + f.0) in
      let lacks = is_undefined_at (decode ws) o (base + f.0) in (
        f.0,
        f.1,
        both-unsound (decode ws) (base + f.0) (and_left may lacks f.2)
            (undefined-unsettled ws (base + f.0) o l (and_right may lacks f.2)),
      )

-- ---- the lowest

-- one batch more
pub batch-more : (P : ℕ → Type 0) {base lanes step : ℕ} → step ≡ lanes → ((i : ℕ) → i < base → P i)
    → ((s : ℕ) → s < lanes → P (base + s))
    → (i : ℕ) → i < base + step → P i
batch-more P {base} {lanes} {step} is before inside i l =
    ⊎_elim (before i) (λ h. let e : base + (i - base) ≡ i = omega arith in rw e at (inside (i - base) (omega arith)))
    (lt-or-le i base)

-- the first batch has a lane that is marked
pub batch-marks : {ws : List ℕ} {r : ℕ} {w : List ℕ} {word : ℕ} → FirstBatch ws r w → r < 2 ^ get_or ws 0 0
    → Tells (lanes_of (get_or ws 0 0)) r (is_unsound (decode ws)) word
    → word ≡ 0 → ⊥
unfolding is_unsound
batch-marks {ws} {r} f l t z =
    let s = f.some l in
    let unsound : not (is_sound_at (decode ws) (r + s.0)) ≡ true = rw s.2 refl in
    not-both unsound (tells-no-lane t z s.0 s.1)

-- the lowest lane of the first batch that has one
pub lowest-in-batch : {ws : List ℕ} {r : ℕ} {w : List ℕ} {word : ℕ} → FirstBatch ws r w → r < 2 ^ get_or ws 0 0
    → Tells (lanes_of (get_or ws 0 0)) r (is_unsound (decode ws)) word
    → r + least (has_lane word) 64 ≡ lowest_unsettled (decode ws)
unfolding is_unsound setting_count
lowest-in-batch {ws} {r} {w} {word} f l t =
    let b = decode ws in
    let room = f.whole l in
    let s = f.some l in
    let lo = tells-lowest t (lanes_of-most (get_or ws 0 0)) s.0 s.1 (rw s.2) in
    let k = least (has_lane word) 64 in
    lowest-found b (r + k) (2 ^ get_or ws 0 0) (ap (λ (i : ℕ). 2 ^ i) (sym (decode-input_count ws))) (omega (arith, lo.0))
    (batch-more (λ i. is_sound_at b i ≡ true) refl f.before (λ i m. not-false-true (is_sound_at b (r + i)) (lo.2 i m)))
    (λ m. not-true-is-false (is_sound_at b (r + k)) lo.1)
  where
    not-false-true : (a : Bool) → not a ≡ false → a ≡ true
    not-false-true true h = refl
    not-false-true false h = sym h

    not-true-is-false : (a : Bool) → not a ≡ true → a ≡ false
    not-true-is-false true h = sym h
    not-true-is-false false h = refl

-- without such a batch
pub lowest-nowhere : {ws : List ℕ} {r : ℕ} {w : List ℕ} → FirstBatch ws r w → 2 ^ get_or ws 0 0 ≤ r
    → r ≡ lowest_unsettled (decode ws)
unfolding setting_count
lowest-nowhere {ws} {r} f l =
    let w = f.within in
    lowest-found (decode ws) r (2 ^ get_or ws 0 0) (ap (λ (i : ℕ). 2 ^ i) (sym (decode-input_count ws))) w f.before
    (λ m. absurd (omega arith))
