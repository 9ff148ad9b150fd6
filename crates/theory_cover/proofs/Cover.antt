-- The cover over any test of settings is exactly the sound and minimal assignments, by ascending first mask, then
-- second; and below every sound assignment there is an entry. Cited by the laws of what is covered. Assumes nothing.
use mathlib.Core.Path.{◌≡◌, refl, ap, ◌∙◌}
use mathlib.Core.Logic.{◌⊎◌, inl, inr, ⊎_elim}
use mathlib.Core.Bool.{Bool, true, false, not, ◌&&◌, ◌||◌, true≢false}
use mathlib.Core.List.{List, map}
use Prim.Native.Nat.{ℕ, zero, suc, ◌+◌, ◌*◌, ◌/◌, ◌%◌, ◌^◌, ◌<◌}
use native.Mathlib.Nat.{mod-lt, div-lt_iff_lt-mul, div-add-mod', not-suc-le-zero, le_antisymm}
use native.Mathlib.Omega.{arith}
use lib.ListN.{length, get_or, length-map, get_or-map}
use lib.Arith.{digits_lt, digits_div, digits_mod}
use lib.Pow.{pow_pos}
use Rattle.prelude.proofs.Elements.{get_d-defaults}
use borrow.Author.Tests.{eq-eqb, eqb-true, not-true, not-false}
use Rattle.prelude.specs.Lists.{all, keep, up_to, least}
use Rattle.prelude.proofs.Tests.{lt-or-le, and_left, and_right, and_intro}
use Rattle.prelude.proofs.Quantifiers.{all-below, below_all}
use Rattle.prelude.proofs.Least.{least_at, least-below}
use Rattle.netlist.specs.Assignments.{bit}
use Rattle.netlist.specs.Assignments.{Assignment, fixes, agrees, is_within}
use Rattle.netlist.specs.Cover.{without}
use Rattle.theory_cover.specs.Over.{sound_over, minimal_over, cover_over, Consistent, EntriesListed, Before}
use Rattle.theory_cover.specs.Entries.{mask_pair_at, is_entry, entry_at}
use Rattle.theory_cover.proofs.ListFacts.{implies-use, kept-passes, kept-ascend, kept-has}
use Rattle.theory_cover.proofs.Agree.{without-legal, without-less, without-agrees}
use Rattle.theory_cover.proofs.Flat.{cover-flat}

-- a test holds of all numbers below n, or fails at one of them
all-or-one : (q : ℕ → Bool) (n : ℕ) → (all q (up_to n) ≡ true) ⊎ ((i : ℕ) × (i < n) × (q i ≡ false))
all-or-one q n =
    ⊎_elim (λ l. inr (
      least (λ i. not (q i)) n,
      l,
      not-true (q (least (λ i. not (q i)) n))
          (least_at (λ i. not (q i)) n l),
    ))
    (λ l. inl (below_all q n (λ i m. not-false (q i) (least-below (λ i. not (q i)) n i (omega arith)))))
    (lt-or-le (least (λ i. not (q i)) n) n)

both : (a b : Bool) → not a || not b ≡ false → (a ≡ true) × (b ≡ true)
both true b h = (refl, not-false b h)
both false b h = absurd (true≢false h)

module _ (p : ℕ → Bool) (n : ℕ) where
  -- dropping a fixed input of a minimal assignment gives one that is not sound
  pub minimal-at : (a : Assignment) → minimal_over p n a ≡ true → (i : ℕ) → i < n → bit a.fixed i ≡ 1
      → sound_over p n (without a i) ≡ false
  unfolding minimal_over fixes
  minimal-at a h i l e =
      not-true (sound_over p n (without a i))
      (implies-use (fixes a i) (not (sound_over p n (without a i)))
      (all-below (λ i. not (fixes a i) || not (sound_over p n (without a i))) n i h l) (eq-eqb (bit a.fixed i) 1 e))

  -- an assignment is minimal, or some fixed input can be dropped
  minimal-or : (a : Assignment)
      → (minimal_over p n a ≡ true) ⊎ ((i : ℕ) × (i < n) × (bit a.fixed i ≡ 1) × (sound_over p n (without a i) ≡ true))
  unfolding minimal_over fixes
  minimal-or a = ⊎_elim inl (λ r.
      let e : (fixes a r.0 ≡ true) × (sound_over p n (without a r.0) ≡ true) =
      both (fixes a r.0) (sound_over p n (without a r.0)) r.2 in
      inr (r.0, r.1, eqb-true (bit a.fixed r.0) 1 e.0, e.1)) (all-or-one
      (λ i. not (fixes a i) || not (sound_over p n (without a i))) n)

  -- below every sound assignment there is a sound and minimal one
  abbrev pub Below : ℕ → Type 0
  Below s = (a : Assignment) × EntriesListed p n a × (agrees n a s ≡ true)

  pub descend : (bound s : ℕ) (a : Assignment) → a.fixed < bound → Consistent n a → sound_over p n a ≡ true
      → agrees n a s ≡ true → Below s
  descend zero s a l ok h g = absurd (not-suc-le-zero l)
  descend (suc bound) s a l ok h g =
      ⊎_elim (λ m. (a, record { legal = ok; sound = h; minimal = m }, g))
      (λ r.
      let less : (without a r.0).fixed < a.fixed = without-less n a r.0 ok r.1 r.2 in
      descend bound s (without a r.0) (omega arith) (without-legal n a r.0 ok r.1 r.2) r.3
      (without-agrees n a r.0 ok r.1 r.2 s g))
      (minimal-or a)

  -- an entry's number among the pairs of masks
  listed : List ℕ
  listed = keep (entry_at p n) (up_to (2 ^ n * 2 ^ n))

  length-cover : length (cover_over p n) ≡ length listed
  unfolding listed
  length-cover = rw (cover-flat p n, length-map listed (mask_pair_at n))

  cover-get_d : (i : ℕ) (d : Assignment) → i < length listed → get_or (cover_over p n) i d ≡ mask_pair_at n (get_or listed i 0)
  unfolding listed
  cover-get_d i d l =
      let m : i < length (map (mask_pair_at n) listed) = rw (length-map listed (mask_pair_at n)) l in
      rw (cover-flat p n) (get_d-defaults (map (mask_pair_at n) listed) i d (mask_pair_at n 0) m ∙ get_or-map
      (mask_pair_at n) listed i 0)

  entry_listed : (q : ℕ) → q < 2 ^ n * 2 ^ n → entry_at p n q ≡ true → EntriesListed p n (mask_pair_at n q)
  unfolding entry_at is_entry mask_pair_at
  entry_listed q l h =
      let s : sound_over p n (mask_pair_at n q) && minimal_over p n (mask_pair_at n q) ≡ true =
      and_right (is_within n (q / 2 ^ n) (q % 2 ^ n))
      (sound_over p n (mask_pair_at n q) && minimal_over p n (mask_pair_at n q)) h in
      record {
        legal = record {
          fixed-lt = (div-lt_iff_lt-mul (pow_pos n)).1 l;
          ones_lt = mod-lt q (pow_pos n);
          inside =
              and_left (is_within n (q / 2 ^ n) (q % 2 ^ n))
              (sound_over p n (mask_pair_at n q) && minimal_over p n (mask_pair_at n q)) h;
        };
        sound = and_left (sound_over p n (mask_pair_at n q)) (minimal_over p n (mask_pair_at n q)) s;
        minimal = and_right (sound_over p n (mask_pair_at n q)) (minimal_over p n (mask_pair_at n q)) s;
      }

  -- each entry is a sound and minimal assignment of n inputs
  pub entries-listed : (i : ℕ) (d : Assignment) → i < length (cover_over p n)
      → EntriesListed p n (get_or (cover_over p n) i d)
  unfolding listed
  entries-listed i d l =
      let m : i < length listed = rw length-cover at l in
      let r : (get_or listed i 0 < 2 ^ n * 2 ^ n) × (entry_at p n (get_or listed i 0) ≡ true) =
      kept-passes (entry_at p n) (2 ^ n * 2 ^ n) i m in
      rw (cover-get_d i d m) (entry_listed (get_or listed i 0) r.0 r.1)

  -- the pair of masks that an assignment is
  pair_of : Assignment → ℕ
  pair_of a = a.fixed * 2 ^ n + a.ones

  pair_is : (a : Assignment) → Consistent n a → mask_pair_at n (pair_of a) ≡ a
  unfolding mask_pair_at pair_of
  pair_is a ok = rw (digits_div a.fixed ok.ones_lt, digits_mod a.fixed ok.ones_lt)

  listed-entry : (a : Assignment) → EntriesListed p n a → entry_at p n (pair_of a) ≡ true
  unfolding entry_at is_entry
  listed-entry a h =
      rw (pair_is a h.legal)
      (and_intro (is_within n a.fixed a.ones) (sound_over p n a && minimal_over p n a) h.legal.inside
      (and_intro (sound_over p n a) (minimal_over p n a) h.sound h.minimal))

  -- every sound and minimal assignment is an entry
  pub listed-entries : (a d : Assignment) → EntriesListed p n a
      → (i : ℕ) × (i < length (cover_over p n)) × (get_or (cover_over p n) i d ≡ a)
  unfolding listed pair_of
  listed-entries a d h =
      let r : (i : ℕ) × (i < length listed) × (get_or listed i 0 ≡ pair_of a) =
      kept-has (entry_at p n) (2 ^ n * 2 ^ n) (pair_of a) (digits_lt h.legal.fixed-lt h.legal.ones_lt)
      (listed-entry a h) in
      (r.0, rw length-cover r.1, cover-get_d r.0 d r.1 ∙ ap (mask_pair_at n) r.2 ∙ pair_is a h.legal)

  pairs-ascend : (q r : ℕ) → q < r → Before (mask_pair_at n q) (mask_pair_at n r)
  unfolding mask_pair_at
  pairs-ascend q r h =
      ⊎_elim inl (λ ge. inr (⊎_elim (λ l. absurd (above l)) (λ le. same (le_antisymm le ge))
      (lt-or-le (r / 2 ^ n) (q / 2 ^ n))))
      (lt-or-le (q / 2 ^ n) (r / 2 ^ n))
    where
      parts : (x : ℕ) → x / 2 ^ n * 2 ^ n + x % 2 ^ n ≡ x
      parts x = div-add-mod' x (2 ^ n)

      above : r / 2 ^ n < q / 2 ^ n → ⊥
      above l =
          let e : r / 2 ^ n * 2 ^ n + r % 2 ^ n < q / 2 ^ n * 2 ^ n = digits_lt l (mod-lt r (pow_pos n)) in
          omega (arith, parts q, parts r)

      same : q / 2 ^ n ≡ r / 2 ^ n → (q / 2 ^ n ≡ r / 2 ^ n) × (q % 2 ^ n < r % 2 ^ n)
      same e = (e, let f : q / 2 ^ n * 2 ^ n ≡ r / 2 ^ n * 2 ^ n = rw e in omega (arith, parts q, parts r))

  -- the entries ascend, by first mask and then second, so none stands twice
  pub entries-ascend : (i j : ℕ) (d : Assignment) → i < j → j < length (cover_over p n)
      → Before (get_or (cover_over p n) i d) (get_or (cover_over p n) j d)
  unfolding listed
  entries-ascend i j d h l =
      let m : j < length listed = rw length-cover at l in
      rw (cover-get_d i d (omega arith), cover-get_d j d m)
      (pairs-ascend (get_or listed i 0) (get_or listed j 0) (kept-ascend (entry_at p n) (2 ^ n * 2 ^ n) i j h m))
