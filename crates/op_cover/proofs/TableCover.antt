-- The entries found by the table of soundness are the cover. Cited by the proof of the public function. Assumes
-- nothing.
use mathlib.Core.Path.{◌≡◌, refl, sym, ap, subst, ◌∙◌}
use mathlib.Core.Logic.{⊎_elim}
use mathlib.Core.Bool.{Bool, true, false, not, ◌||◌}
use mathlib.Core.List.{List, [], ◌∷◌, map}
use Prim.Native.Nat.{ℕ, ◌*◌, ◌^◌, ◌<◌}
use native.Mathlib.Nat.{mod-lt, div-lt_iff_lt-mul}
use native.Mathlib.Omega.{arith}
use lib.Dec.{eqb}
use lib.ListN.{get_or}
use lib.Pow.{pow_pos}
use borrow.Author.Tests.{eq-eqb, ne_eqb}
use Rattle.prelude.specs.Lists.{all, up_to}
use Rattle.prelude.proofs.Tests.{eq-or-ne}
use Rattle.prelude.proofs.Quantifiers.{all-below, all-ext}
use Rattle.netlist.specs.Assignments.{Assignment, bit, fixes}
use Rattle.netlist.specs.Cover.{without}
use Rattle.theory_cover.specs.Digits.{ternary_digit}
use Rattle.theory_cover.specs.Over.{sound_over, minimal_over, cover_over, nothing, Consistent}
use Rattle.theory_cover.specs.Tables.{ternary_number, settled_by, sound_byte, byte_of, Filled}
use Rattle.theory_cover.specs.Entries.{mask_pair_at, within_at, is_entry, entry_at, sound_at, needed_at, minimal_at}
use Rattle.theory_cover.specs.Entries.{is_left, OnlyMinimal}
use Rattle.theory_cover.specs.Entries.{entry_by, entries_below, entries_by, EntriesWritten}
use Rattle.theory_cover.proofs.Agree.{bit-lt}
use Rattle.theory_cover.proofs.ListFacts.{keep-below}
use Rattle.theory_cover.proofs.Numbers.{digit-fixed, digit-free, number_lt, number-digit, number-without}
use Rattle.theory_cover.proofs.SoundTable.{byte-number}
use Rattle.op_cover.proofs.Joining.{filled-all}
use Rattle.theory_cover.proofs.Covered.{nothing-sound-from, nothing-sound-cover}
use Rattle.theory_cover.proofs.Flat.{cover-flat}

-- the byte at an assignment's number says whether it is sound, and whether an input can be dropped
module _ (p : ℕ → Bool) (n : ℕ) (sound : List ℕ) (right : (j : ℕ) → j < 3 ^ n → get_or sound j 0 ≡ sound_byte p n j) where
  sound-by : (a : Assignment) → sound_at sound (ternary_number n a) ≡ sound_over p n a
  unfolding sound_at byte_of
  sound-by a =
      ap (λ (x : ℕ). eqb x 1) (right (ternary_number n a) (number_lt n a) ∙ byte-number p n a)
      ∙ is_one (sound_over p n a)
    where
      is_one : (b : Bool) → eqb (byte_of b) 1 ≡ b
      is_one true = refl
      is_one false = refl

  needed-by : (a : Assignment) → Consistent n a → (i : ℕ) → i < n
      → needed_at sound (ternary_number n a) i ≡ not (fixes a i) || not (sound_over p n (without a i))
  unfolding needed_at fixes
  needed-by a ok i l =
      ⊎_elim
      (λ (e : bit a.fixed i ≡ 1).
      let d : ternary_digit 3 (ternary_number n a) i ≡ bit a.ones i = number-digit n a i l ∙ digit-fixed a i e in
      let b : bit a.ones i < 2 = bit-lt a.ones i in
      rw (
        d,
        ne_eqb (bit a.ones i) 2 (λ q. omega arith),
        ← number-without n a i ok l e,
        eq-eqb
            (bit a.fixed i) 1 e,
        sound-by (without a i),
      ))
      (λ (ne : bit a.fixed i ≡ 1 → ⊥).
      let d : ternary_digit 3 (ternary_number n a) i ≡ 2 = number-digit n a i l ∙ digit-free a i ne in
      rw (eq-eqb (ternary_digit 3 (ternary_number n a) i) 2 d, ne_eqb (bit a.fixed i) 1 ne))
      (eq-or-ne (bit a.fixed i) 1)

  minimal-by : (a : Assignment) → Consistent n a → minimal_at sound n (ternary_number n a) ≡ minimal_over p n a
  unfolding minimal_at minimal_over
  minimal-by a ok =
      all-ext (needed_at sound (ternary_number n a)) (λ i. not (fixes a i) || not (sound_over p n (without a i))) n
      (needed-by a ok)

  module _ (marks : List ℕ) {total : ℕ} (w : OnlyMinimal sound marks n (3 ^ n) total) where
    entry-by : (q : ℕ) → q < 2 ^ n * 2 ^ n → entry_by marks n q ≡ entry_at p n q
    unfolding entry_by within_at entry_at is_entry mask_pair_at is_left
    entry-by q l = go (within_at n q) refl
      where
        go : (b : Bool) → within_at n q ≡ b
            → entry_by marks n q ≡ entry_at p n q
        go false e = rw e
        go true e =
            rw (
              e,
              w.left (ternary_number n (mask_pair_at n q)) (number_lt n (mask_pair_at n q)),
              sound-by
                  (mask_pair_at n q),
              minimal-by (mask_pair_at n q) (legal e),
            )
          where
            legal : within_at n q ≡ true → Consistent n (mask_pair_at n q)
            legal h =
                record {
                  fixed-lt = (div-lt_iff_lt-mul (pow_pos n)).1 l;
                  ones_lt = mod-lt q (pow_pos n);
                  inside = h;
                }

    entries-cover : entries_by marks n ≡ cover_over p n
    unfolding entries_by entries_below
    entries-cover =
        ap (map (mask_pair_at n)) (keep-below (entry_by marks n) (entry_at p n) (2 ^ n * 2 ^ n) entry-by)
        ∙ sym (cover-flat p n)

-- what is written by the table that `fill_sound` and `keep_minimal` leave is the cover
pub cover-written : {settled sound marks : List ℕ} {n k : ℕ} {before after : List ℕ} {count : ℕ}
    → Filled settled sound n (2 ^ n) k
    → OnlyMinimal sound marks n (3 ^ n) count → EntriesWritten (entries_by marks n) before after count
    → EntriesWritten (cover_over (settled_by settled) n) before after count
cover-written {settled} {sound} {marks} {n} {k} {before} {after} {count} f m w =
    subst (λ (xs : List Assignment). EntriesWritten xs before after count)
    (entries-cover (settled_by settled) n sound (λ j l. f.right j (rw (filled-all f) l)) marks m) w

-- where every setting is settled, it is the assignment that fixes nothing
pub everywhere-written : (settled : List ℕ) (n : ℕ) {before after : List ℕ} {count : ℕ}
    → all (settled_by settled) (up_to (2 ^ n)) ≡ true
    → EntriesWritten (nothing ∷ []) before after count
    → EntriesWritten (cover_over (settled_by settled) n) before after count
everywhere-written settled n e w =
    let h : sound_over (settled_by settled) n nothing ≡ true =
    nothing-sound-from (settled_by settled) n (λ s l. all-below (settled_by settled) (2 ^ n) s e l) in
    rw (nothing-sound-cover (settled_by settled) n h) w
