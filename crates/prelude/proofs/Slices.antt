-- A list placed over the front of a slice: what stands there and behind it, and one element more.
--   length-placed, placed-room            its length
--   take-placed, get_d_past                the front, and what is behind
--   set-placed, sets-placed               one element more, and a list at once
-- Assumes nothing.
use mathlib.Core.Path.{◌≡◌, ap, ◌∙◌}
use mathlib.Core.List.{List, [], ◌∷◌, ◌++◌, append_assoc}
use Prim.Native.Nat.{ℕ, suc, ◌+◌, ◌-◌, ◌≤◌, ◌<◌}
use native.Mathlib.Nat.{zero-add}
use native.Mathlib.Numerals.{add-one}
use native.Mathlib.Omega.{arith}
use lib.ListN.{length, get_or, take, drop, set, length-append, length-drop}
use lib.Seq.{take_at, set_at, drop-cons, get_or-append-add, get_or-drop, sets, sets-eq}
use Rattle.prelude.specs.Lists.{placed}

module _ {A : Type 0} where
  -- a list that fits leaves the slice as long as it was
  pub length-placed : (xs entry : List A) → length xs ≤ length entry → length (placed xs entry) ≡ length entry
  length-placed xs entry h = simp (length-append, length-drop) (omega arith)

  -- in any case there is room for the list
  pub placed-room : (xs entry : List A) {n : ℕ} → length xs ≡ n → n ≤ length (placed xs entry)
  placed-room xs entry e = omega (arith, e, length-append xs (drop (length xs) entry))

  -- the front is the list,
  pub take-placed : (xs entry : List A) (n : ℕ) → length xs ≡ n → take n (placed xs entry) ≡ xs
  take-placed xs entry n e = take_at xs (drop (length xs) entry) n e

  -- element by element
  pub get_d_past : (xs entry : List A) (n k : ℕ) (d : A) → length xs ≡ n → n ≤ k
      → get_or (xs ++ drop n entry) k d ≡ get_or entry k d
  get_d_past xs entry n k d e h =
      let place : n + (k - n) ≡ k = omega arith in
      (rw (e, place) at (get_or-append-add xs (drop n entry) (k - n) d)) ∙ get_or-drop n entry (k - n) d
      ∙ ap (λ (i : ℕ). get_or entry i d) place

  -- one element more
  pub set-placed : (xs entry : List A) (n : ℕ) (a : A) → length xs ≡ n → n < length entry
      → set (placed xs entry) n a ≡ placed (xs ++ (a ∷ [])) entry
  set-placed xs entry n a e h =
      rw (e, drop-cons entry n a h, length-append, e)
      (set_at xs (get_or entry n a) (drop (suc n) entry) a n e ∙ rw (append_assoc, add-one))

  -- a list stored from the front on
  pub sets-placed : (xs entry : List A) → length xs ≤ length entry → sets entry 0 xs ≡ placed xs entry
  sets-placed xs entry h = rw (zero-add (length xs)) at (sets-eq xs entry 0 (omega arith))
