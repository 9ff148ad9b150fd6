-- The assignments, and so the cover, as one list over the pairs of masks, in the order in which the code goes through
-- them.
-- Assumes nothing.
use mathlib.Core.Path.{◌≡◌, sym, ap, ◌∙◌}
use mathlib.Core.Bool.{Bool, ◌&&◌}
use mathlib.Core.List.{[], ◌∷◌, map, append-nil, map-append}
use Prim.Native.Nat.{ℕ, zero, suc, ◌+◌, ◌*◌, ◌^◌, ◌<◌}
use native.Mathlib.Nat.{zero-mul, suc-mul}
use lib.Arith.{digits_div, digits_mod}
use Rattle.prelude.specs.Lists.{keep, tab, up_to, joined}
use Rattle.prelude.proofs.Tab.{tab-ext, map-tab, tab-add}
use Rattle.prelude.proofs.Lists.{joined-append, keep_append}
use Rattle.netlist.specs.Assignments.{Assignment, is_within}
use Rattle.netlist.specs.Cover.{assignments, assignments_at}
use Rattle.theory_cover.specs.Over.{sound_over, minimal_over, cover_over, masks}
use Rattle.theory_cover.specs.Entries.{mask_pair_at, is_entry, entry_at}
use Rattle.theory_cover.proofs.ListFacts.{keep-keep, keep-map}

inside : ℕ → Assignment → Bool
inside n a = is_within n a.fixed a.ones

-- one first mask's assignments are a run of the pairs
run : (n f : ℕ) → assignments_at n f ≡ keep (inside n) (tab (λ j. mask_pair_at n (f * 2 ^ n + j)) (2 ^ n))
unfolding assignments_at mask_pair_at inside
run n f =
    sym (keep-map (inside n) (masks f) (up_to (2 ^ n)))
    ∙ ap (keep (inside n))
    (map-tab (masks f) (λ k. k) (2 ^ n) ∙ tab-ext (masks f) (λ j. mask_pair_at n (f * 2 ^ n + j)) (2 ^ n) same-pair)
  where
    same-pair : (j : ℕ) → j < 2 ^ n → masks f j ≡ mask_pair_at n (f * 2 ^ n + j)
    same-pair j l = rw (digits_div f l, digits_mod f l)

rows : (n m : ℕ) → joined (map (assignments_at n) (up_to m)) ≡ keep (inside n) (tab (mask_pair_at n) (m * 2 ^ n))
rows n zero = rw zero-mul
rows n (suc m) =
    ap joined (map-append (assignments_at n) (up_to m) (m ∷ []))
    ∙ joined-append (map (assignments_at n) (up_to m)) (assignments_at n m ∷ [])
    ∙ rw (
      append-nil (assignments_at n m),
      rows n m,
      run n m,
      suc-mul m (2 ^ n),
      tab-add (mask_pair_at n) (m * 2 ^ n)
          (2 ^ n),
    )
    (sym (keep_append (inside n) (tab (mask_pair_at n) (m * 2 ^ n)) (tab (λ j. mask_pair_at n (m * 2 ^ n + j)) (2 ^ n))))

flat : (n : ℕ) → assignments n ≡ keep (inside n) (tab (mask_pair_at n) (2 ^ n * 2 ^ n))
unfolding assignments
flat n = rows n (2 ^ n)

-- the cover is the pairs of masks that pass, in order
pub cover-flat : (p : ℕ → Bool) (n : ℕ) → cover_over p n ≡ map (mask_pair_at n) (keep (entry_at p n) (up_to (2 ^ n * 2 ^ n)))
unfolding cover_over entry_at is_entry inside
cover-flat p n =
    ap (keep (λ a. sound_over p n a && minimal_over p n a)) (flat n)
    ∙ keep-keep (λ a. sound_over p n a && minimal_over p n a) (inside n) (tab (mask_pair_at n) (2 ^ n * 2 ^ n))
    ∙ ap (keep (is_entry p n)) (sym (map-tab (mask_pair_at n) (λ k. k) (2 ^ n * 2 ^ n)))
    ∙ keep-map (is_entry p n) (mask_pair_at n) (up_to (2 ^ n * 2 ^ n))
