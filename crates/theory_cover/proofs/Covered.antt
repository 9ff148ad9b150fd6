-- What the cover over a test of settings covers: exactly the settings that pass; and it is the one assignment that
-- fixes nothing exactly when every setting passes. Assumes nothing.
use mathlib.Core.Path.{◌≡◌, refl, sym, ap, ap₂, ◌∙◌}
use mathlib.Core.Logic.{⊎_elim}
use mathlib.Core.Bool.{Bool, true, not}
use mathlib.Core.List.{[], ◌∷◌}
use Prim.Native.Nat.{ℕ, suc, ◌^◌, ◌≤◌, ◌<◌}
use native.Mathlib.Nat.{zero-div, zero-mod, le_antisymm}
use native.Mathlib.Omega.{arith}
use lib.ListN.{length, get_or}
use lib.Seq.{ext_get_or}
use lib.Pow.{pow_pos}
use borrow.Author.Tests.{not-false}
use Rattle.prelude.specs.Lists.{any, least}
use Rattle.prelude.proofs.Tests.{eq-or-ne, lt-or-le, same_test, not-both}
use Rattle.prelude.proofs.Quantifiers.{any_at, any-from}
use Rattle.prelude.proofs.Least.{least-below, least-is}
use Rattle.netlist.specs.Assignments.{bit}
use Rattle.netlist.specs.Assignments.{Assignment, agrees}
use Rattle.netlist.specs.Cover.{without}
use Rattle.theory_cover.specs.Digits.{ternary_digit, numeral}
use Rattle.theory_cover.specs.Over.{sound_over, cover_over, nothing, Consistent, EntriesListed, Before}
use Rattle.theory_cover.proofs.Digits.{numeral-lt, digit-numeral}
use Rattle.theory_cover.proofs.Agree.{bit-lt, bits-eq, sound-at, sound-from, agrees_at, agrees_from}
use Rattle.theory_cover.proofs.Agree.{within-at, within-from}
use Rattle.theory_cover.proofs.Cover.{minimal-at, Below, descend, entries-listed, listed-entries}
use Rattle.theory_cover.proofs.Cover.{entries-ascend}

pub bit-zero : (i : ℕ) → bit 0 i ≡ 0
unfolding bit
bit-zero i = rw (zero-div, zero-mod)

-- the mask of all n inputs
full : ℕ → ℕ
full n = numeral 2 (λ i. 1) n

full-lt : (n : ℕ) → full n < 2 ^ n
unfolding full
full-lt n = numeral-lt 2 (omega arith) (λ i. 1) n (λ i l. omega arith)

full-bit : (n i : ℕ) → i < n → bit (full n) i ≡ 1
unfolding full bit ternary_digit
full-bit n i l = digit-numeral 2 (omega arith) (λ i. 1) n i (λ j m. omega arith) l

module _ (p : ℕ → Bool) (n : ℕ) where
  -- the assignment that fixes every input as a setting does is sound exactly when that setting passes
  fixed-at : ℕ → Assignment
  fixed-at s = record { fixed = full n; ones = s }

  fixed-legal : (s : ℕ) → s < 2 ^ n → Consistent n (fixed-at s)
  unfolding fixed-at
  fixed-legal s l = record {
    fixed-lt = full-lt n;
    ones_lt = l;
    inside = within-from n (full n) s (λ i m. rw (full-bit n i m) (let b : bit s i < 2 = bit-lt s i in omega arith));
  }

  fixed-sound : (s : ℕ) → s < 2 ^ n → p s ≡ true → sound_over p n (fixed-at s) ≡ true
  unfolding fixed-at
  fixed-sound s l h =
      sound-from p n (fixed-at s)
      (λ t m g. rw (bits-eq n t s m l (λ i b. agrees_at n (fixed-at s) t g i b (full-bit n i b))) h)

  fixed-agrees : (s : ℕ) → agrees n (fixed-at s) s ≡ true
  unfolding fixed-at
  fixed-agrees s = agrees_from n (fixed-at s) s (λ i l e. refl)

  -- a setting passes exactly when it agrees with some entry
  pub covered : (s : ℕ) → s < 2 ^ n → p s ≡ any (λ a. agrees n a s) (cover_over p n)
  covered s l = same_test (p s) (any (λ a. agrees n a s) (cover_over p n)) complete right
    where
      complete : p s ≡ true → any (λ a. agrees n a s) (cover_over p n) ≡ true
      complete h =
          let r : Below p n s = descend p n (suc (fixed-at s).fixed) s (fixed-at s) (omega arith) (fixed-legal s l)
          (fixed-sound s l h) (fixed-agrees s) in
          let e : (i : ℕ) × (i < length (cover_over p n)) × (get_or (cover_over p n) i nothing ≡ r.0) =
          listed-entries p n r.0 nothing r.1 in
          any-from (λ a. agrees n a s) (cover_over p n) e.0 nothing e.1 (rw e.2 r.2)

      right : any (λ a. agrees n a s) (cover_over p n) ≡ true → p s ≡ true
      right h =
          let e : (i : ℕ) × (i < length (cover_over p n)) × (agrees n (get_or (cover_over p n) i nothing) s ≡ true) =
          any_at (λ a. agrees n a s) (cover_over p n) nothing h in
          sound-at p n (get_or (cover_over p n) e.0 nothing) (entries-listed p n e.0 nothing e.1).sound s l
          e.2

  -- fixing nothing is sound exactly when every setting passes
  nothing-agrees : (s : ℕ) → agrees n nothing s ≡ true
  nothing-agrees s = agrees_from n nothing s (λ i l e. let z : bit 0 i ≡ 0 = bit-zero i in absurd (omega arith))

  nothing-legal : Consistent n nothing
  nothing-legal = record { fixed-lt = pow_pos n; ones_lt = pow_pos n; inside = within-from n 0 0 (λ i l. omega arith) }

  pub nothing-sound-at : sound_over p n nothing ≡ true → (s : ℕ) → s < 2 ^ n → p s ≡ true
  nothing-sound-at h s l = sound-at p n nothing h s l (nothing-agrees s)

  pub nothing-sound-from : ((s : ℕ) → s < 2 ^ n → p s ≡ true) → sound_over p n nothing ≡ true
  nothing-sound-from h = sound-from p n nothing (λ s l g. h s l)

  -- .. exactly when the search for a setting that does not pass finds none
  pub nothing-sound-least : sound_over p n nothing ≡ true → least (λ s. not (p s)) (2 ^ n) ≡ 2 ^ n
  nothing-sound-least h =
      least-is (λ s. not (p s)) (2 ^ n) (2 ^ n) (omega arith) (λ s l. ap not (nothing-sound-at h s l))
      (λ l. absurd (omega arith))

  pub least-nothing-sound : least (λ s. not (p s)) (2 ^ n) ≡ 2 ^ n → sound_over p n nothing ≡ true
  least-nothing-sound e = nothing-sound-from (λ s l. not-false (p s) (least-below (λ s. not (p s)) (2 ^ n) s (rw e l)))

  -- where every setting passes, only the assignment that fixes nothing is minimal
  module _ (h : sound_over p n nothing ≡ true) where
    free : (a : Assignment) → EntriesListed p n a → (i : ℕ) → i < n → bit a.fixed i ≡ 0
    free a r i l =
        let b : bit a.fixed i < 2 = bit-lt a.fixed i in
        ⊎_elim
        (λ (e : bit a.fixed i ≡ 1).
        not-both (sound-from p n (without a i) (λ s m g. nothing-sound-at h s m)) (minimal-at p n a r.minimal i l e))
        (λ (ne : bit a.fixed i ≡ 1 → ⊥). omega arith) (eq-or-ne (bit a.fixed i) 1)

    only-nothing : (a : Assignment) → EntriesListed p n a → a ≡ nothing
    only-nothing a r =
        let f : a.fixed ≡ 0 = bits-eq n a.fixed 0 r.legal.fixed-lt (pow_pos n)
        (λ i l. free a r i l ∙ sym (bit-zero i)) in
        let o : a.ones ≡ 0 = bits-eq n a.ones 0 r.legal.ones_lt (pow_pos n) (λ i l.
        let w : bit a.ones i ≤ bit a.fixed i = within-at n a.fixed a.ones r.legal.inside i l in
        let z : bit a.fixed i ≡ 0 = free a r i l in
        let y : bit 0 i ≡ 0 = bit-zero i in omega arith) in
        ap₂ (λ (x y : ℕ). record { fixed = x; ones = y }) f o

    entry-nothing : (i : ℕ) → i < length (cover_over p n) → get_or (cover_over p n) i nothing ≡ nothing
    entry-nothing i l = only-nothing (get_or (cover_over p n) i nothing) (entries-listed p n i nothing l)

    one_entry : length (cover_over p n) ≡ 1
    one_entry = le_antisymm at_most at_least
      where
        at_most : length (cover_over p n) ≤ 1
        at_most =
            ⊎_elim
            (λ l. absurd (twice (rw (
              entry-nothing 0 (omega arith),
              entry-nothing 1 l,
            ) at (entries-ascend p n 0 1 nothing (omega arith) l))))
            (λ g. g) (lt-or-le 1 (length (cover_over p n)))
          where
            twice : Before nothing nothing → ⊥
            twice b = ⊎_elim (λ l. omega arith) (λ l. omega arith) b

        at_least : 1 ≤ length (cover_over p n)
        at_least =
            let r : Below p n 0 = descend p n 1 0 nothing (omega arith) nothing-legal h (nothing-agrees 0) in
            let e : (i : ℕ) × (i < length (cover_over p n)) × (get_or (cover_over p n) i nothing ≡ r.0) =
            listed-entries p n r.0 nothing r.1 in
            let l : e.0 < length (cover_over p n) = e.1 in
            omega arith

  -- .. exactly when it is the cover's one entry
  pub nothing-sound-cover : sound_over p n nothing ≡ true → cover_over p n ≡ nothing ∷ []
  nothing-sound-cover h =
      ext_get_or nothing (cover_over p n) (nothing ∷ []) (one_entry h) (λ i l.
      let m : i < 1 = rw (one_entry h) at l in
      let z : i ≡ 0 = omega arith in
      entry-nothing h i l ∙ rw z)

  pub cover-nothing-sound : cover_over p n ≡ nothing ∷ [] → sound_over p n nothing ≡ true
  cover-nothing-sound e =
      let h : sound_over p n (get_or (cover_over p n) 0 nothing) ≡ true =
      (entries-listed p n 0 nothing (rw e (omega arith))).sound in
      rw e at h
